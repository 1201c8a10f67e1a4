use Rattle.agema_core.proofs.Compared.{sent}
use Rattle.agema_core.proofs.both.send.Goals as goal

pub returns-in-Ok-clause-left : goal.returns-in-Ok-clause-left
returns-in-Ok-clause-left g c =
    sent c.args.out.now c.args.net.now c.args.lines.now (g.H.Shelf.tells c.args.shelf.now) (g.H.Shelf.holds c.args.shelf.now) (g.H.Shelf.holds c.write_file.new.shelf) (g.K.Sink.tells c.args.sink.now) (g.K.Sink.taken c.args.sink.now) (g.K.Sink.taken c.print_text.new.sink) (g.K.Sink.sound c.args.sink.now) (g.K.Sink.faults c.args.sink.now) (g.K.Sink.faults c.print_text.new.sink) c.print_text.result
    c.print_text.ensures.end c.in-Ok.ensures.ok c.print_text.ensures.done c.print_text.ensures.front
