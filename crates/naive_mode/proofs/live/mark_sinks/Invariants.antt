use Rattle.std.proofs.Common.{◌≡◌, ◌==◌, ◌||◌, ℕ, drop}
use Rattle.std.specs.List.{list_any}
use Rattle.logic_graph.specs.Settled.{bit_of}
use Rattle.naive_mode.proofs.live.mark_sinks.Given as goal

abbrev pub invariant-loop-sink : goal.invariant-loop-sink
invariant-loop-sink l = (j : ℕ) → (bit_of l.live j || list_any (λ s. s == j) (drop l.sink-index l.sinks)) ≡ (bit_of l.initial.live j || list_any (λ s. s == j) l.sinks)
