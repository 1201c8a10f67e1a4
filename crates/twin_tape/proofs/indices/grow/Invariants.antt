use Rattle.std.proofs.Common.{◌≡◌, drop}
use Rattle.twin_tape.specs.Permitted.{grown}
use Rattle.twin_tape.proofs.indices.grow.Given as goal

abbrev pub invariant-loop-sight : goal.invariant-loop-sight
invariant-loop-sight l = grown (drop l.sight-index l.sights) l.stage l.indices.items ≡ grown l.sights l.stage l.fn.indices.items
