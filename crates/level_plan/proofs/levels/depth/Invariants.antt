use Rattle.std.proofs.Common.{◌≡◌, max, drop}
use Rattle.logic_graph.specs.Settled.{bit_of}
use Rattle.secrecy_spread.specs.Levels.{depth_of}
use Rattle.level_plan.specs.PlanOf.{level_at}
use Rattle.level_plan.proofs.levels.depth.Given as goal

abbrev pub invariant-loop-sink : goal.invariant-loop-sink
invariant-loop-sink l =
    max l.depth (depth_of (bit_of l.secret) (level_at l.levels) (drop l.sink-index l.sinks)) ≡ depth_of (bit_of l.secret) (level_at l.levels) l.sinks
