use Rattle.std.proofs.Common.{◌≡◌, ◌++◌, drop, map}
use Rattle.twin_tape.specs.Allowed.{label_at}
use Rattle.twin_tape.specs.Pairs.{pair_for}
use Rattle.twin_tape.proofs.pairs.pairs_among.Given as goal

abbrev pub invariant-loop-wire : goal.invariant-loop-wire
invariant-loop-wire l =
    l.pairs ++ map (λ w. pair_for l.names (label_at l.labels w)) (drop l.wire-index l.bits) ≡ map (λ w. pair_for l.names (label_at l.labels w)) l.bits
