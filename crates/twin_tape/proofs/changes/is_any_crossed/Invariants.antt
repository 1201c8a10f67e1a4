use Rattle.std.proofs.Common.{◌≡◌, drop}
use Rattle.std.specs.List.{list_any}
use Rattle.twin_tape.specs.Changes.{is_crossed}
use Rattle.twin_tape.proofs.changes.is_any_crossed.Given as goal

abbrev pub invariant-loop-mark : goal.invariant-loop-mark
invariant-loop-mark l =
    list_any (is_crossed l.cycle l.gadget l.home l.away) (drop l.mark-index l.marks) ≡ list_any (is_crossed l.cycle l.gadget l.home l.away) l.marks
