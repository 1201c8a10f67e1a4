use Rattle.std.proofs.Common.{◌≡◌}
use Rattle.share_wiring.specs.Recombine.{xor_below}
use Rattle.shared_tape.specs.Sharing.{drawn}
use Rattle.shared_tape.proofs.sharing.drawn_sum.Given as goal

abbrev pub invariant-loop-j : goal.invariant-loop-j
invariant-loop-j l = l.sum ≡ xor_below l.j (drawn l.draws l.order l.b)
