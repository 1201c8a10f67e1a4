use Rattle.std.proofs.Common.{◌≡◌, ℕ, List, IsTrue, Some, ap, sym, subst, ◌∙◌}
use Rattle.agema_texts.specs.Auditing.{Audits}
use Rattle.agema_core.specs.Command.{auditing_of}
use Rattle.agema_core.specs.Found.{counts, found}
use Rattle.agema_core.proofs.Left.{audit_left}
use Rattle.agema_core.proofs.Ends.{unread_audit, refused_audit, audit_end}
use Rattle.agema_core.proofs.audit.run_audit.Goals as goal

pub returns-in-Err-clause-cause : goal.returns-in-Err-clause-cause
returns-in-Err-clause-cause g c =
    let a = auditing_of c.args.words.now in
    let before = counts (g.H.Shelf.read_faults c.args.shelf.now) (g.H.Shelf.write_faults c.args.shelf.now) (g.K.Sink.faults c.args.sink.now) in
    let now = counts (g.H.Shelf.read_faults c.read_file.new.shelf) (g.H.Shelf.write_faults c.read_file.new.shelf) (g.K.Sink.faults c.args.sink.now) in
    let f = found (g.H.Shelf.tells c.args.shelf.now) (g.H.Shelf.sound c.args.shelf.now) (g.K.Sink.sound c.args.sink.now) (g.H.Shelf.holds c.args.shelf.now) in
    unread_audit a f before now c.in-Err.ended c.in-Err.ensures.err

pub returns-in-Ok-audited-clause-left : goal.returns-in-Ok-audited-clause-left
returns-in-Ok-audited-clause-left g c =
    let a = auditing_of c.args.words.now in
    let before = counts (g.H.Shelf.read_faults c.args.shelf.now) (g.H.Shelf.write_faults c.args.shelf.now) (g.K.Sink.faults c.args.sink.now) in
    let now = counts (g.H.Shelf.read_faults c.read_file.new.shelf) (g.H.Shelf.write_faults c.read_file.new.shelf) (g.K.Sink.faults c.print_text.new.sink) in
    let f = found (g.H.Shelf.tells c.args.shelf.now) (g.H.Shelf.sound c.args.shelf.now) (g.K.Sink.sound c.args.sink.now) (g.H.Shelf.holds c.args.shelf.now) in
    let text = c.as_slice.result.now in
    let read : IsTrue f.tells → f.holds a.out ≡ Some text = λ t. c.in-Ok.ensures.ok t ∙ ap (λ x. Some x) (sym c.as_slice.ensures.value) in
    let printed = c.as_bytes.result.now in
    let A : List ℕ → Type 0 = λ p. Audits text a.order p in
    let audits = subst A (sym c.as_bytes.ensures.value) c.in-Ok-audited.ensures.ok in
    audit_left a printed f.tells f.holds (g.H.Shelf.holds c.read_file.new.shelf) (g.K.Sink.tells c.args.sink.now) (g.K.Sink.taken c.args.sink.now) (g.K.Sink.taken c.print_text.new.sink) (g.K.Sink.sound c.args.sink.now) (g.K.Sink.faults c.args.sink.now) (g.K.Sink.faults c.print_text.new.sink) c.print_text.result
    c.print_text.ensures.end (λ t. (text, read t, audits)) c.in-Ok.ensures.same c.print_text.ensures.done c.print_text.ensures.front

pub returns-in-Ok-audited-clause-cause : goal.returns-in-Ok-audited-clause-cause
returns-in-Ok-audited-clause-cause g c =
    let a = auditing_of c.args.words.now in
    let before = counts (g.H.Shelf.read_faults c.args.shelf.now) (g.H.Shelf.write_faults c.args.shelf.now) (g.K.Sink.faults c.args.sink.now) in
    let now = counts (g.H.Shelf.read_faults c.read_file.new.shelf) (g.H.Shelf.write_faults c.read_file.new.shelf) (g.K.Sink.faults c.print_text.new.sink) in
    let f = found (g.H.Shelf.tells c.args.shelf.now) (g.H.Shelf.sound c.args.shelf.now) (g.K.Sink.sound c.args.sink.now) (g.H.Shelf.holds c.args.shelf.now) in
    let text = c.as_slice.result.now in
    let read : IsTrue f.tells → f.holds a.out ≡ Some text = λ t. c.in-Ok.ensures.ok t ∙ ap (λ x. Some x) (sym c.as_slice.ensures.value) in
    let told = c.in-Ok-audited.ensures.ok in
    audit_end a f before now (λ t. (text, read t, (told.net, told.given, told.network))) c.print_text.result c.print_text.ensures.end

pub returns-clause-cause : goal.returns-clause-cause
returns-clause-cause g c =
    let a = auditing_of c.args.words.now in
    let before = counts (g.H.Shelf.read_faults c.args.shelf.now) (g.H.Shelf.write_faults c.args.shelf.now) (g.K.Sink.faults c.args.sink.now) in
    let now = counts (g.H.Shelf.read_faults c.read_file.new.shelf) (g.H.Shelf.write_faults c.read_file.new.shelf) (g.K.Sink.faults c.args.sink.now) in
    let f = found (g.H.Shelf.tells c.args.shelf.now) (g.H.Shelf.sound c.args.shelf.now) (g.K.Sink.sound c.args.sink.now) (g.H.Shelf.holds c.args.shelf.now) in
    let text = c.as_slice.result.now in
    let read : IsTrue f.tells → f.holds a.out ≡ Some text = λ t. c.in-Ok.ensures.ok t ∙ ap (λ x. Some x) (sym c.as_slice.ensures.value) in
    refused_audit a f before now text read c.in-Err-audited.ended c.in-Err-audited.ensures.err
