use Rattle.std.proofs.Common.{◌≡◌, ◌<◌, ℕ, List, IsTrue, length, get_or}
use Rattle.std.specs.List.{AllByRecursion}
use Rattle.logic_graph.specs.Settled.{bit_of}
use Rattle.secrecy_spread.specs.declared.reach.Edge.{Edge}
use Rattle.secrecy_spread.specs.Reach.{state, IsSpreading}
use Rattle.secrecy_spread.proofs.reach.started.Given as goal

abbrev pub invariant-loop-vertex : goal.invariant-loop-vertex
invariant-loop-vertex l = record {
  as_many : length l.spreading.marked.items ≡ l.n;
  within : AllByRecursion (λ w. w < l.n) l.spreading.waiting.items;
  kept : (j : ℕ) → j < l.vertex-index → IsTrue (bit_of l.spreading.marked.items (get_or l.starts j 0));
  spreads : (edges : List Edge) → IsSpreading edges l.starts (state l.spreading) 0 0;
}
