use Rattle.std.proofs.Common.{◌≡◌, ◌++◌, reverse}
use Rattle.std.specs.List.{flat_map, range_with_len}
use Rattle.shared_tape.specs.Sharing.{share_row}
use Rattle.shared_tape.proofs.sharing.push_falling.Given as goal

abbrev pub invariant-loop-i : goal.invariant-loop-i
invariant-loop-i l = l.row ≡ l.initial.row ++ flat_map (λ i. reverse (share_row l.draws l.order 0 l.values i)) (range_with_len 0 l.i)
