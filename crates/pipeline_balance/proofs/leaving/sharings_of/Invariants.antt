use Rattle.std.proofs.Common.{take}
use Rattle.pipeline_balance.specs.Leaving.{AreSpread}
use Rattle.pipeline_balance.proofs.leaving.sharings_of.Given as goal

abbrev pub invariant-loop-j : goal.invariant-loop-j
invariant-loop-j g l = AreSpread g.row.S l.initial.builder l.builder (take l.j l.values) l.sharings
