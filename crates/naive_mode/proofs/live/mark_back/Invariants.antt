use Rattle.logic_graph.specs.Settled.{bit_of}
use Rattle.naive_mode.specs.Rows.{AreReachedFrom}
use Rattle.naive_mode.proofs.live.mark_back.Given as goal

abbrev pub invariant-loop-k : goal.invariant-loop-k
invariant-loop-k l = AreReachedFrom l.k l.nodes (bit_of l.initial.live) (bit_of l.live)
