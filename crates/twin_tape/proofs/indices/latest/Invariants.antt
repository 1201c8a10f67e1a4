use Rattle.std.proofs.Common.{◌≡◌, drop, max}
use Rattle.twin_tape.specs.Allowed.{latest}
use Rattle.twin_tape.proofs.indices.latest.Given as goal

abbrev pub invariant-loop-sight : goal.invariant-loop-sight
invariant-loop-sight l = max l.most (latest l.bound (drop l.sight-index l.sights)) ≡ latest l.bound l.sights
