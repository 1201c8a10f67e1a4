use Rattle.std.proofs.Common.{◌≡◌, ◌-◌, drop, length}
use Rattle.twin_tape.specs.Permitted.{begun}
use Rattle.twin_tape.proofs.indices.begin.Given as goal

abbrev pub invariant-loop-k : goal.invariant-loop-k
invariant-loop-k l = l.indices.items ≡ begun (drop (length l.sights - l.k) l.sights) l.fn.indices.items
