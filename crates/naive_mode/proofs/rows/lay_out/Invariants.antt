use Rattle.std.proofs.Common.{◌≡◌, ◌<◌, ◌++◌, ℕ, length, drop}
use Rattle.logic_graph.specs.Settled.{bit_of}
use Rattle.naive_mode.specs.Rows.{place_at, laid, ArePlaced}
use Rattle.naive_mode.proofs.rows.lay_out.Given as goal

abbrev pub invariant-loop-k : goal.invariant-loop-k
invariant-loop-k l = record {
  count : length l.places ≡ l.k;
  laid : (p : ℕ → ℕ) → ((j : ℕ) → j < l.k → p j ≡ place_at l.places j) → l.rows ++ laid (bit_of l.live) p (length l.rows) l.k (drop l.k l.nodes) ≡ laid (bit_of l.live) p 0 0 l.nodes;
  placed : (p : ℕ → ℕ) → ((j : ℕ) → j < l.k → p j ≡ place_at l.places j) → ArePlaced (bit_of l.live) p (length l.rows) l.k (drop l.k l.nodes) → ArePlaced (bit_of l.live) p 0 0 l.nodes;
}
