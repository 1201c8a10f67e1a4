use Rattle.std.proofs.Common.{Some, ap, sym, ◌∙◌}
use Rattle.agema_core.proofs.Ends.{err_map, library_wrong}
use Rattle.agema_core.proofs.inputs.take_library.Goals as goal

pub returns-in-Ok-clause-err : goal.returns-in-Ok-clause-err
returns-in-Ok-clause-err g c =
    err_map c.library_of.result c.library_of.ensures.err
    (library_wrong c.args.name.now (g.H.Shelf.tells c.args.shelf.now) (g.H.Shelf.sound c.args.shelf.now) (g.H.Shelf.holds c.args.shelf.now c.args.name.now) (g.H.Shelf.read_faults c.args.shelf.now) (g.H.Shelf.read_faults c.read_file.new.shelf) c.as_slice.result.now
    (λ t. c.in-Ok.ensures.ok t ∙ ap (λ x. Some x) (sym c.as_slice.ensures.value)))
