use Rattle.std.proofs.Common.{◌≡◌, Bool, IsTrue, Some, map, string_bytes, ap, sym, subst, inr, ◌∙◌}
use Rattle.cell_library.specs.Spelled.{cell_of}
use Rattle.agema_core.specs.Command.{mask_of}
use Rattle.agema_core.specs.Found.{ToldBoth, counts, found}
use Rattle.agema_core.specs.Answer.{IsMasked}
use Rattle.agema_core.specs.Left.{Leaves, IsDelivery}
use Rattle.agema_core.proofs.Left.{delivered}
use Rattle.agema_core.proofs.Ends.{input_end_mask, told_both, is_within, delivered_end, refused_mask}
use Rattle.agema_core.proofs.mask.run_mask.Goals as goal

pub returns-in-Err-clause-cause : goal.returns-in-Err-clause-cause
returns-in-Err-clause-cause g c =
    let m = mask_of c.args.words.now in
    let before = counts (g.H.Shelf.read_faults c.args.shelf.now) (g.H.Shelf.write_faults c.args.shelf.now) (g.K.Sink.faults c.args.sink.now) in
    let now = counts (g.H.Shelf.read_faults c.read_inputs.new.shelf) (g.H.Shelf.write_faults c.read_inputs.new.shelf) (g.K.Sink.faults c.args.sink.now) in
    let f = found (g.H.Shelf.tells c.args.shelf.now) (g.H.Shelf.sound c.args.shelf.now) (g.K.Sink.sound c.args.sink.now) (g.H.Shelf.holds c.args.shelf.now) in
    inr (c.is_built.ensures.0 c.if-not-is_built.false, input_end_mask m f before now c.in-Err.ended (c.in-Err.ensures.err (g.K.Sink.sound c.args.sink.now)))

pub returns-in-Ok-masked_texts-clause-left : goal.returns-in-Ok-masked_texts-clause-left
returns-in-Ok-masked_texts-clause-left g c =
    let m = mask_of c.args.words.now in
    let texts = c.in-Ok-masked_texts.texts in
    let old = g.H.Shelf.holds c.args.shelf.now in
    let mid = g.H.Shelf.holds c.read_inputs.new.shelf in
    let new = g.H.Shelf.holds c.deliver.new.shelf in
    let told = g.H.Shelf.tells c.args.shelf.now in
    let heard = g.K.Sink.tells c.args.sink.now in
    let before = g.K.Sink.taken c.args.sink.now in
    let now = g.K.Sink.taken c.deliver.new.sink in
    let text = c.as_slice.result.now in
    let L : Bool → Type 0 = λ b. Leaves m.out texts.net (string_bytes texts.report) (string_bytes texts.line) b mid new heard before now c.deliver.result in
    let leaves = subst L c.in-Ok.ensures.goes_on.same_telling c.deliver.ensures.left in
    let read : IsTrue told → old m.net ≡ Some text = λ t. c.in-Ok.ensures.bytes t ∙ ap (λ x. Some x) (sym c.as_slice.ensures.value) in
    delivered m texts.net (string_bytes texts.report) (string_bytes texts.line) text (map cell_of c.in-Ok.inputs.library.cells) told old mid new heard before now
    (g.H.Shelf.sound c.read_inputs.new.shelf) (g.K.Sink.sound c.args.sink.now) (g.H.Shelf.write_faults c.read_inputs.new.shelf) (g.H.Shelf.write_faults c.deliver.new.shelf) (g.K.Sink.faults c.args.sink.now) (g.K.Sink.faults c.deliver.new.sink) c.deliver.result
    c.in-Ok.ensures.same c.in-Ok.ensures.cells read c.in-Ok-masked_texts.ensures.ok c.deliver.ensures.end leaves

pub returns-in-Ok-masked_texts-clause-cause : goal.returns-in-Ok-masked_texts-clause-cause
returns-in-Ok-masked_texts-clause-cause g c =
    let m = mask_of c.args.words.now in
    let texts = c.in-Ok-masked_texts.texts in
    let before = counts (g.H.Shelf.read_faults c.args.shelf.now) (g.H.Shelf.write_faults c.args.shelf.now) (g.K.Sink.faults c.args.sink.now) in
    let now = counts (g.H.Shelf.read_faults c.deliver.new.shelf) (g.H.Shelf.write_faults c.deliver.new.shelf) (g.K.Sink.faults c.deliver.new.sink) in
    let f = found (g.H.Shelf.tells c.args.shelf.now) (g.H.Shelf.sound c.args.shelf.now) (g.K.Sink.sound c.args.sink.now) (g.H.Shelf.holds c.args.shelf.now) in
    let cells = map cell_of c.in-Ok.inputs.library.cells in
    let text = c.as_slice.result.now in
    let read : IsTrue f.tells → f.holds m.net ≡ Some text = λ t. c.in-Ok.ensures.bytes t ∙ ap (λ x. Some x) (sym c.as_slice.ensures.value) in
    let can = is_within cells text m.order texts.net (string_bytes texts.report) (string_bytes texts.line) c.in-Ok-masked_texts.ensures.ok in
    let fit : ToldBoth m.library m.net f (IsMasked m) = told_both m.library m.net f (IsMasked m) cells text c.in-Ok.ensures.cells read can in
    let D : Bool → Type 0 = λ b. IsDelivery m.out b f.prints (g.H.Shelf.write_faults c.read_inputs.new.shelf) now.writes before.prints now.prints c.deliver.result in
    let end = delivered_end m f before now (g.H.Shelf.write_faults c.read_inputs.new.shelf) c.in-Ok.ensures.goes_on.writes_later fit c.deliver.result (subst D c.in-Ok.ensures.goes_on.same_sound c.deliver.ensures.end) in
    inr (c.is_built.ensures.0 c.if-not-is_built.false, inr ((λ t. (cells, c.in-Ok.ensures.cells t)), end))

pub returns-in-Ok-masked_texts-clause-others : goal.returns-in-Ok-masked_texts-clause-others
returns-in-Ok-masked_texts-clause-others g c = λ name a b. c.deliver.ensures.others name a b ∙ c.in-Ok.ensures.same name

pub returns-clause-cause : goal.returns-clause-cause
returns-clause-cause g c =
    let m = mask_of c.args.words.now in
    let before = counts (g.H.Shelf.read_faults c.args.shelf.now) (g.H.Shelf.write_faults c.args.shelf.now) (g.K.Sink.faults c.args.sink.now) in
    let now = counts (g.H.Shelf.read_faults c.read_inputs.new.shelf) (g.H.Shelf.write_faults c.read_inputs.new.shelf) (g.K.Sink.faults c.args.sink.now) in
    let f = found (g.H.Shelf.tells c.args.shelf.now) (g.H.Shelf.sound c.args.shelf.now) (g.K.Sink.sound c.args.sink.now) (g.H.Shelf.holds c.args.shelf.now) in
    let cells = map cell_of c.in-Ok.inputs.library.cells in
    let text = c.as_slice.result.now in
    let read : IsTrue f.tells → f.holds m.net ≡ Some text = λ t. c.in-Ok.ensures.bytes t ∙ ap (λ x. Some x) (sym c.as_slice.ensures.value) in
    let end = refused_mask m f before now cells text c.in-Ok.ensures.cells read c.in-Err-masked_texts.ended c.in-Err-masked_texts.ensures.err in
    inr (c.is_built.ensures.0 c.if-not-is_built.false, inr ((λ t. (cells, c.in-Ok.ensures.cells t)), end))
