use Rattle.pipeline_balance.proofs.Merging.{IsMerging}
use Rattle.pipeline_balance.proofs.initial_ports.merge.Given as goal

abbrev pub invariant-loop-r : goal.invariant-loop-r
invariant-loop-r g l = IsMerging l.secrets l.publics l.shared l.r l.shared_left l.values
