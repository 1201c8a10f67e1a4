use Rattle.std.proofs.Common.{◌≡◌, ℕ, List, IsTrue, Some, ap, sym, subst, ◌∙◌}
use Rattle.agema_texts.specs.Reported.{Reports}
use Rattle.agema_core.specs.Command.{reporting_of}
use Rattle.agema_core.specs.Found.{IsReadEnd, counts, found}
use Rattle.agema_core.specs.Answer.{report_name}
use Rattle.agema_core.proofs.Left.{line_left}
use Rattle.agema_core.proofs.Ends.{unread_report, refused_report, line_end}
use Rattle.agema_core.proofs.report.run_report.Goals as goal

pub returns-in-Err-read_file-clause-cause : goal.returns-in-Err-read_file-clause-cause
returns-in-Err-read_file-clause-cause g c =
    let r = reporting_of c.args.words.now in
    let before = counts (g.H.Shelf.read_faults c.args.shelf.now) (g.H.Shelf.write_faults c.args.shelf.now) (g.K.Sink.faults c.args.sink.now) in
    let now = counts (g.H.Shelf.read_faults c.read_file.new.shelf) (g.H.Shelf.write_faults c.read_file.new.shelf) (g.K.Sink.faults c.args.sink.now) in
    let f = found (g.H.Shelf.tells c.args.shelf.now) (g.H.Shelf.sound c.args.shelf.now) (g.K.Sink.sound c.args.sink.now) (g.H.Shelf.holds c.args.shelf.now) in
    let at : c.as_str.result.now ≡ report_name r.out = c.as_str.ensures.value ∙ c.in-Ok.ensures in
    let E : List ℕ → Type 0 = λ n. IsReadEnd n f.tells f.sound (f.holds n) before.reads now.reads c.in-Err-read_file.ended in
    unread_report r f before now c.in-Err-read_file.ended (subst E at c.in-Err-read_file.ensures.err)

pub returns-in-Ok-reported-clause-left : goal.returns-in-Ok-reported-clause-left
returns-in-Ok-reported-clause-left g c =
    let r = reporting_of c.args.words.now in
    let before = counts (g.H.Shelf.read_faults c.args.shelf.now) (g.H.Shelf.write_faults c.args.shelf.now) (g.K.Sink.faults c.args.sink.now) in
    let now = counts (g.H.Shelf.read_faults c.read_file.new.shelf) (g.H.Shelf.write_faults c.read_file.new.shelf) (g.K.Sink.faults c.print_text.new.sink) in
    let f = found (g.H.Shelf.tells c.args.shelf.now) (g.H.Shelf.sound c.args.shelf.now) (g.K.Sink.sound c.args.sink.now) (g.H.Shelf.holds c.args.shelf.now) in
    let at : c.as_str.result.now ≡ report_name r.out = c.as_str.ensures.value ∙ c.in-Ok.ensures in
    let text = c.as_slice.result.now in
    let H : List ℕ → Type 0 = λ n. f.holds n ≡ Some text in
    let read : IsTrue f.tells → f.holds (report_name r.out) ≡ Some text = λ t. subst H at (c.in-Ok-read_file.ensures.ok t ∙ ap (λ x. Some x) (sym c.as_slice.ensures.value)) in
    let printed = c.as_bytes.result.now in
    let R : List ℕ → Type 0 = λ p. Reports text p in
    let reports = subst R (sym c.as_bytes.ensures.value) c.in-Ok-reported.ensures.ok in
    line_left r printed f.tells f.holds (g.H.Shelf.holds c.read_file.new.shelf) (g.K.Sink.tells c.args.sink.now) (g.K.Sink.taken c.args.sink.now) (g.K.Sink.taken c.print_text.new.sink) (g.K.Sink.sound c.args.sink.now) (g.K.Sink.faults c.args.sink.now) (g.K.Sink.faults c.print_text.new.sink) c.print_text.result
    c.print_text.ensures.end (λ t. (text, read t, reports)) c.in-Ok-read_file.ensures.same c.print_text.ensures.done c.print_text.ensures.front

pub returns-in-Ok-reported-clause-cause : goal.returns-in-Ok-reported-clause-cause
returns-in-Ok-reported-clause-cause g c =
    let r = reporting_of c.args.words.now in
    let before = counts (g.H.Shelf.read_faults c.args.shelf.now) (g.H.Shelf.write_faults c.args.shelf.now) (g.K.Sink.faults c.args.sink.now) in
    let now = counts (g.H.Shelf.read_faults c.read_file.new.shelf) (g.H.Shelf.write_faults c.read_file.new.shelf) (g.K.Sink.faults c.print_text.new.sink) in
    let f = found (g.H.Shelf.tells c.args.shelf.now) (g.H.Shelf.sound c.args.shelf.now) (g.K.Sink.sound c.args.sink.now) (g.H.Shelf.holds c.args.shelf.now) in
    let at : c.as_str.result.now ≡ report_name r.out = c.as_str.ensures.value ∙ c.in-Ok.ensures in
    let text = c.as_slice.result.now in
    let H : List ℕ → Type 0 = λ n. f.holds n ≡ Some text in
    let read : IsTrue f.tells → f.holds (report_name r.out) ≡ Some text = λ t. subst H at (c.in-Ok-read_file.ensures.ok t ∙ ap (λ x. Some x) (sym c.as_slice.ensures.value)) in
    line_end r f before now (λ t. (text, read t, (c.in-Ok-reported.ensures.ok.0, c.in-Ok-reported.ensures.ok.1))) c.print_text.result c.print_text.ensures.end

pub returns-clause-cause : goal.returns-clause-cause
returns-clause-cause g c =
    let r = reporting_of c.args.words.now in
    let before = counts (g.H.Shelf.read_faults c.args.shelf.now) (g.H.Shelf.write_faults c.args.shelf.now) (g.K.Sink.faults c.args.sink.now) in
    let now = counts (g.H.Shelf.read_faults c.read_file.new.shelf) (g.H.Shelf.write_faults c.read_file.new.shelf) (g.K.Sink.faults c.args.sink.now) in
    let f = found (g.H.Shelf.tells c.args.shelf.now) (g.H.Shelf.sound c.args.shelf.now) (g.K.Sink.sound c.args.sink.now) (g.H.Shelf.holds c.args.shelf.now) in
    let at : c.as_str.result.now ≡ report_name r.out = c.as_str.ensures.value ∙ c.in-Ok.ensures in
    let text = c.as_slice.result.now in
    let H : List ℕ → Type 0 = λ n. f.holds n ≡ Some text in
    let read : IsTrue f.tells → f.holds (report_name r.out) ≡ Some text = λ t. subst H at (c.in-Ok-read_file.ensures.ok t ∙ ap (λ x. Some x) (sym c.as_slice.ensures.value)) in
    refused_report r f before now text read c.in-Err-reported.ended c.in-Err-reported.ensures.err
