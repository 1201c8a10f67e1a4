use Rattle.std.proofs.Common.{◌≡◌, ◌+◌, false, map, slice_index_or}
use Rattle.std.specs.List.{range_with_len}
use Rattle.shared_tape.specs.Sharing.{share_bit}
use Rattle.shared_tape.proofs.sharing.share_row.Given as goal

abbrev pub invariant-loop-b : goal.invariant-loop-b
invariant-loop-b l = l.shares ≡ map (λ b. share_bit l.draws l.order (l.first + b) (slice_index_or l.values b false) l.i) (range_with_len 0 l.b)
