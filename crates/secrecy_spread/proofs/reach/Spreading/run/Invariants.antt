use Rattle.std.proofs.Common.{◌≡◌, ◌<◌, ℕ, List, IsTrue, length}
use Rattle.std.specs.List.{AllByRecursion}
use Rattle.logic_graph.specs.Settled.{bit_of}
use Rattle.secrecy_spread.specs.Reach.{state, weight, IsSpreading}
use Rattle.secrecy_spread.proofs.reach.Spreading.run.Given as goal

abbrev pub invariant-loop-self : goal.invariant-loop-self
invariant-loop-self l = record {
  as_many : length l.self.marked.items ≡ length l.fn.self.marked.items;
  kept : (w : ℕ) → IsTrue (bit_of l.fn.self.marked.items w) → IsTrue (bit_of l.self.marked.items w);
  within : AllByRecursion (λ w. w < length l.self.marked.items) l.self.waiting.items;
  spreads : (starts : List ℕ) → IsSpreading l.edges starts (state l.fn.self) 0 0 → IsSpreading l.edges starts (state l.self) 0 0;
}

abbrev pub decreases-loop-self : goal.decreases-loop-self
decreases-loop-self l = weight (state l.self)
