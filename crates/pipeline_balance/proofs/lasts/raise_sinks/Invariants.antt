use Rattle.std.proofs.Common.{◌≡◌, ℕ, Bool, List, length}
use Rattle.logic_graph.specs.declared.nodes.XanNode.{XanNode}
use Rattle.pipeline_balance.specs.Reaching.{AreRaised}
use Rattle.pipeline_balance.proofs.lasts.raise_sinks.Given as goal

abbrev pub invariant-loop-j : goal.invariant-loop-j
invariant-loop-j l =
    (length l.lasts.items ≡ length l.initial.lasts.items)
    × ((nodes : List XanNode) (secret : List Bool) (levels : List ℕ) (late_first : List Bool) (k : ℕ) → AreRaised nodes l.sinks secret levels late_first l.depth k 0 l.initial.lasts.items
    → AreRaised nodes l.sinks secret levels late_first l.depth k l.j l.lasts.items)
