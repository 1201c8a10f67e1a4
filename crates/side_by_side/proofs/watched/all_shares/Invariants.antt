use Rattle.std.proofs.Common.{◌≡◌, map}
use Rattle.std.specs.List.{range_with_len}
use Rattle.agm_net.specs.Role.{share_name}
use Rattle.agm_net.specs.View.{plain_of}
use Rattle.side_by_side.specs.Pairs.{wires_named}
use Rattle.side_by_side.proofs.watched.all_shares.Given as goal

abbrev pub invariant-loop-i : goal.invariant-loop-i
invariant-loop-i l = l.shares ≡ map (λ i. wires_named (plain_of l.net) (share_name i l.name)) (range_with_len 0 l.i)
