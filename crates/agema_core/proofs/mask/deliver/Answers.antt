use Rattle.std.proofs.Common.{List, ℕ, string_bytes, subst}
use Rattle.agema_core.specs.Left.{Leaves}
use Rattle.agema_core.proofs.Left.{printed}
use Rattle.agema_core.proofs.mask.deliver.Goals as goal

pub returns-in-Ok-clause-left : goal.returns-in-Ok-clause-left
returns-in-Ok-clause-left g c =
    let L : List ℕ → Type 0 = λ line. Leaves c.args.out.now c.args.texts.now.net (string_bytes c.args.texts.now.report) line (g.H.Shelf.tells c.args.shelf.now) (g.H.Shelf.holds c.args.shelf.now) (g.H.Shelf.holds c.write_files.new.shelf) (g.K.Sink.tells c.args.sink.now) (g.K.Sink.taken c.args.sink.now) (g.K.Sink.taken c.print_text.new.sink) c.print_text.result in
    subst L c.as_bytes.ensures.value
    (printed c.args.out.now c.args.texts.now.net (string_bytes c.args.texts.now.report) c.as_bytes.result.now (g.H.Shelf.tells c.args.shelf.now) (g.H.Shelf.holds c.args.shelf.now) (g.H.Shelf.holds c.write_files.new.shelf) (g.K.Sink.tells c.args.sink.now) (g.K.Sink.taken c.args.sink.now) (g.K.Sink.taken c.print_text.new.sink) (g.K.Sink.sound c.args.sink.now) (g.K.Sink.faults c.args.sink.now) (g.K.Sink.faults c.print_text.new.sink) c.print_text.result
    c.print_text.ensures.end c.in-Ok.ensures.whole c.print_text.ensures.done c.print_text.ensures.front)
