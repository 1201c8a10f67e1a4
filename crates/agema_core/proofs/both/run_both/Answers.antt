use Rattle.std.proofs.Common.{◌≡◌, Bool, IsTrue, List, ℕ, Some, map, ap, sym, subst, subst₂, inr, arith, ◌∙◌}
use Rattle.agm_net.specs.View.{plain_of}
use Rattle.cell_library.specs.Spelled.{cell_of}
use Rattle.agema_texts.specs.Comparing.{Compares}
use Rattle.agema_texts.proofs.Comparings.{made_comparable, made_compares, made_within}
use Rattle.agema_core.specs.Command.{comparing_of}
use Rattle.agema_core.specs.Compared.{IsDriven, IsMaskable, IsSending, Sends, ToldNet}
use Rattle.agema_core.specs.Found.{counts, found}
use Rattle.agema_core.proofs.Compared.{input_end, refused_masking, refused_stimulus, sent_end, sent_left, unread_stimulus}
use Rattle.agema_core.proofs.Ends.{read_end_over, told_both}
use Rattle.agema_core.proofs.both.run_both.Goals as goal

pub returns-in-Err-clause-cause : goal.returns-in-Err-clause-cause
returns-in-Err-clause-cause g c =
    let b = comparing_of c.args.words.now in
    let before = counts (g.H.Shelf.read_faults c.args.shelf.now) (g.H.Shelf.write_faults c.args.shelf.now) (g.K.Sink.faults c.args.sink.now) in
    let now = counts (g.H.Shelf.read_faults c.read_inputs.new.shelf) (g.H.Shelf.write_faults c.read_inputs.new.shelf) (g.K.Sink.faults c.args.sink.now) in
    let f = found (g.H.Shelf.tells c.args.shelf.now) (g.H.Shelf.sound c.args.shelf.now) (g.K.Sink.sound c.args.sink.now) (g.H.Shelf.holds c.args.shelf.now) in
    inr (c.is_built.ensures.0 c.if-not-is_built.false, input_end b f before now c.in-Err.ended (c.in-Err.ensures.err (g.K.Sink.sound c.args.sink.now)))

pub returns-in-Err-masked_original-clause-cause : goal.returns-in-Err-masked_original-clause-cause
returns-in-Err-masked_original-clause-cause g c =
    let b = comparing_of c.args.words.now in
    let before = counts (g.H.Shelf.read_faults c.args.shelf.now) (g.H.Shelf.write_faults c.args.shelf.now) (g.K.Sink.faults c.args.sink.now) in
    let now = counts (g.H.Shelf.read_faults c.read_inputs.new.shelf) (g.H.Shelf.write_faults c.read_inputs.new.shelf) (g.K.Sink.faults c.args.sink.now) in
    let f = found (g.H.Shelf.tells c.args.shelf.now) (g.H.Shelf.sound c.args.shelf.now) (g.K.Sink.sound c.args.sink.now) (g.H.Shelf.holds c.args.shelf.now) in
    let cells = map cell_of c.in-Ok.inputs.library.cells in
    let text = c.as_slice.result.now in
    let read : IsTrue f.tells → f.holds b.masking.net ≡ Some text = λ t. c.in-Ok.ensures.bytes t ∙ ap (λ x. Some x) (sym c.as_slice.ensures.value) in
    inr (c.is_built.ensures.0 c.if-not-is_built.false, inr ((λ t. (cells, c.in-Ok.ensures.cells t)), refused_masking b f before now cells text c.in-Ok.ensures.cells read c.in-Err-masked_original.ended c.in-Err-masked_original.ensures.err))

pub returns-in-Err-read_file-clause-cause : goal.returns-in-Err-read_file-clause-cause
returns-in-Err-read_file-clause-cause g c =
    let b = comparing_of c.args.words.now in
    let before = counts (g.H.Shelf.read_faults c.args.shelf.now) (g.H.Shelf.write_faults c.args.shelf.now) (g.K.Sink.faults c.args.sink.now) in
    let now = counts (g.H.Shelf.read_faults c.read_file.new.shelf) (g.H.Shelf.write_faults c.read_file.new.shelf) (g.K.Sink.faults c.args.sink.now) in
    let f = found (g.H.Shelf.tells c.args.shelf.now) (g.H.Shelf.sound c.args.shelf.now) (g.K.Sink.sound c.args.sink.now) (g.H.Shelf.holds c.args.shelf.now) in
    let mid = c.read_inputs.new.shelf in
    let cells = map cell_of c.in-Ok.inputs.library.cells in
    let text = c.as_slice.result.now in
    let read : IsTrue f.tells → f.holds b.masking.net ≡ Some text = λ t. c.in-Ok.ensures.bytes t ∙ ap (λ x. Some x) (sym c.as_slice.ensures.value) in
    let made = c.in-Ok-masked_original.made in
    let is = c.in-Ok-masked_original.ensures.ok in
    let masks : ToldNet b f (IsMaskable b) = told_both b.masking.library b.masking.net f (IsMaskable b) cells text c.in-Ok.ensures.cells read (made_within cells text b.masking.order (plain_of made.original) (plain_of made.masked.net) made.masked.report made.out is) in
    let end = read_end_over b.stimulus (g.H.Shelf.tells mid) f.tells (g.H.Shelf.sound mid) f.sound (g.H.Shelf.holds mid b.stimulus) (f.holds b.stimulus) (g.H.Shelf.read_faults mid) now.reads c.in-Err-read_file.ended
    c.in-Ok.ensures.goes_on.same_telling c.in-Ok.ensures.goes_on.same_sound (c.in-Ok.ensures.same b.stimulus) c.in-Err-read_file.ensures.err in
    inr (c.is_built.ensures.0 c.if-not-is_built.false, inr ((λ t. (cells, c.in-Ok.ensures.cells t)), unread_stimulus b f before now (g.H.Shelf.read_faults mid) c.in-Ok.ensures.goes_on.reads_later masks c.in-Err-read_file.ended end))

pub compared-requires-clause-runs : goal.compared-requires-clause-runs
compared-requires-clause-runs g c = c.in-Ok-masked_original.ensures.ok.runs

pub returns-in-Ok-compared-clause-left : goal.returns-in-Ok-compared-clause-left
returns-in-Ok-compared-clause-left g c =
    let b = comparing_of c.args.words.now in
    let before = counts (g.H.Shelf.read_faults c.args.shelf.now) (g.H.Shelf.write_faults c.args.shelf.now) (g.K.Sink.faults c.args.sink.now) in
    let now = counts (g.H.Shelf.read_faults c.send.new.shelf) (g.H.Shelf.write_faults c.send.new.shelf) (g.K.Sink.faults c.send.new.sink) in
    let f = found (g.H.Shelf.tells c.args.shelf.now) (g.H.Shelf.sound c.args.shelf.now) (g.K.Sink.sound c.args.sink.now) (g.H.Shelf.holds c.args.shelf.now) in
    let cells = map cell_of c.in-Ok.inputs.library.cells in
    let text = c.as_slice.result.now in
    let read : IsTrue f.tells → f.holds b.masking.net ≡ Some text = λ t. c.in-Ok.ensures.bytes t ∙ ap (λ x. Some x) (sym c.as_slice.ensures.value) in
    let drive = c.as_slice-2.result.now in
    let drives : IsTrue f.tells → f.holds b.stimulus ≡ Some drive = λ t. sym (c.in-Ok.ensures.same b.stimulus) ∙ c.in-Ok-read_file.ensures.ok (c.in-Ok.ensures.goes_on.same_telling ∙ t) ∙ ap (λ x. Some x) (sym c.as_slice-2.ensures.value) in
    let made = c.in-Ok-masked_original.made in
    let is = c.in-Ok-masked_original.ensures.ok in
    let net = c.as_slice-in-Ok-compared.result.now in
    let lines = c.as_slice-in-Ok-compared-2.result.now in
    let mid = g.H.Shelf.holds c.read_file.new.shelf in
    let new = g.H.Shelf.holds c.send.new.shelf in
    let heard = g.K.Sink.tells c.args.sink.now in
    let taken = g.K.Sink.taken c.args.sink.now in
    let takes = g.K.Sink.taken c.send.new.sink in
    let whole = made_compares cells text b.masking.order (plain_of made.original) (plain_of made.masked.net) made.masked.report made.out drive b.seed c.in-Ok-compared.lines is c.in-Ok-compared.ensures.ok in
    let C : List ℕ → List ℕ → Type 0 = λ n l. Compares cells text b.masking.order drive b.seed n l in
    let compares = subst₂ C (sym c.as_slice-in-Ok-compared.ensures) (sym c.as_slice-in-Ok-compared-2.ensures) whole in
    let telling = c.in-Ok-read_file.ensures.goes_on.same_telling ∙ c.in-Ok.ensures.goes_on.same_telling in
    let S : Bool → Type 0 = λ t. Sends b.masking.out net lines t mid new heard taken takes c.send.result in
    sent_left b net lines text drive cells f.tells f.holds mid new heard taken takes
    (g.H.Shelf.sound c.read_file.new.shelf) f.prints (g.H.Shelf.write_faults c.read_file.new.shelf) now.writes before.prints now.prints c.send.result
    (λ name. c.in-Ok-read_file.ensures.same name ∙ c.in-Ok.ensures.same name) c.in-Ok.ensures.cells read drives compares c.send.ensures.end (subst S telling c.send.ensures.left)

pub returns-in-Ok-compared-clause-cause : goal.returns-in-Ok-compared-clause-cause
returns-in-Ok-compared-clause-cause g c =
    let b = comparing_of c.args.words.now in
    let before = counts (g.H.Shelf.read_faults c.args.shelf.now) (g.H.Shelf.write_faults c.args.shelf.now) (g.K.Sink.faults c.args.sink.now) in
    let now = counts (g.H.Shelf.read_faults c.send.new.shelf) (g.H.Shelf.write_faults c.send.new.shelf) (g.K.Sink.faults c.send.new.sink) in
    let f = found (g.H.Shelf.tells c.args.shelf.now) (g.H.Shelf.sound c.args.shelf.now) (g.K.Sink.sound c.args.sink.now) (g.H.Shelf.holds c.args.shelf.now) in
    let cells = map cell_of c.in-Ok.inputs.library.cells in
    let text = c.as_slice.result.now in
    let read : IsTrue f.tells → f.holds b.masking.net ≡ Some text = λ t. c.in-Ok.ensures.bytes t ∙ ap (λ x. Some x) (sym c.as_slice.ensures.value) in
    let drive = c.as_slice-2.result.now in
    let drives : IsTrue f.tells → f.holds b.stimulus ≡ Some drive = λ t. sym (c.in-Ok.ensures.same b.stimulus) ∙ c.in-Ok-read_file.ensures.ok (c.in-Ok.ensures.goes_on.same_telling ∙ t) ∙ ap (λ x. Some x) (sym c.as_slice-2.ensures.value) in
    let made = c.in-Ok-masked_original.made in
    let is = c.in-Ok-masked_original.ensures.ok in
    let compared = c.in-Ok-compared.ensures.ok in
    let fit : ToldNet b f (IsDriven b f) = λ t. (cells, c.in-Ok.ensures.cells t, (text, read t, (drive, drives t, made_comparable cells text b.masking.order (plain_of made.original) (plain_of made.masked.net) made.masked.report made.out drive compared.streams is compared.has_streams))) in
    let sounding = c.in-Ok-read_file.ensures.goes_on.same_sound ∙ c.in-Ok.ensures.goes_on.same_sound in
    let first = c.in-Ok.ensures.goes_on.writes_later in
    let second = c.in-Ok-read_file.ensures.goes_on.writes_later in
    let D : Bool → Type 0 = λ s. IsSending b.masking.out s f.prints (g.H.Shelf.write_faults c.read_file.new.shelf) now.writes before.prints now.prints c.send.result in
    let end = sent_end b f before now (g.H.Shelf.write_faults c.read_file.new.shelf) (omega (arith, first, second)) fit c.send.result (subst D sounding c.send.ensures.end) in
    inr (c.is_built.ensures.0 c.if-not-is_built.false, inr ((λ t. (cells, c.in-Ok.ensures.cells t)), end))

pub returns-in-Ok-compared-clause-others : goal.returns-in-Ok-compared-clause-others
returns-in-Ok-compared-clause-others g c = λ name other. c.send.ensures.others name other ∙ (c.in-Ok-read_file.ensures.same name ∙ c.in-Ok.ensures.same name)

pub returns-clause-others : goal.returns-clause-others
returns-clause-others g c = λ name other. c.in-Ok-read_file.ensures.same name ∙ c.in-Ok.ensures.same name

pub returns-clause-cause : goal.returns-clause-cause
returns-clause-cause g c =
    let b = comparing_of c.args.words.now in
    let before = counts (g.H.Shelf.read_faults c.args.shelf.now) (g.H.Shelf.write_faults c.args.shelf.now) (g.K.Sink.faults c.args.sink.now) in
    let now = counts (g.H.Shelf.read_faults c.read_file.new.shelf) (g.H.Shelf.write_faults c.read_file.new.shelf) (g.K.Sink.faults c.args.sink.now) in
    let f = found (g.H.Shelf.tells c.args.shelf.now) (g.H.Shelf.sound c.args.shelf.now) (g.K.Sink.sound c.args.sink.now) (g.H.Shelf.holds c.args.shelf.now) in
    let cells = map cell_of c.in-Ok.inputs.library.cells in
    let text = c.as_slice.result.now in
    let read : IsTrue f.tells → f.holds b.masking.net ≡ Some text = λ t. c.in-Ok.ensures.bytes t ∙ ap (λ x. Some x) (sym c.as_slice.ensures.value) in
    let drive = c.as_slice-2.result.now in
    let drives : IsTrue f.tells → f.holds b.stimulus ≡ Some drive = λ t. sym (c.in-Ok.ensures.same b.stimulus) ∙ c.in-Ok-read_file.ensures.ok (c.in-Ok.ensures.goes_on.same_telling ∙ t) ∙ ap (λ x. Some x) (sym c.as_slice-2.ensures.value) in
    let made = c.in-Ok-masked_original.made in
    let is = c.in-Ok-masked_original.ensures.ok in
    let end = refused_stimulus b f before now cells text drive (plain_of made.original) (plain_of made.masked.net) made.masked.report made.out c.in-Ok.ensures.cells read drives is c.in-Err-compared.ended c.in-Err-compared.ensures.err in
    inr (c.is_built.ensures.0 c.if-not-is_built.false, inr ((λ t. (cells, c.in-Ok.ensures.cells t)), end))
