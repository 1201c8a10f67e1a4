use Rattle.std.proofs.Common.{◌≡◌, None, Some, IfOk, map, ap, ◌∙◌, subst}
use Rattle.cell_library.specs.Judged.{PlainCell, first_cause, known_cell, states_of}
use Rattle.cell_library.specs.Known.{look_in, raw_causes, raw_unknown}
use Rattle.cell_library.specs.Spelled.{cell_of}
use Rattle.cell_library.specs.View.{raw_pin, raw_flip}
use Rattle.cell_library.proofs.Causes.{pin_bars, names_bar}
use Rattle.cell_library.proofs.build.with_table.Goals as goal

pub returns-in-Some : goal.returns-in-Some
returns-in-Some c =
    let first : Some c.in-Some.bar ≡ first_cause (raw_causes c.args.raw.now.pins c.args.raw.now.flips) =
    c.in-Some.ensures ∙ (ap (λ ps. first_cause (raw_causes ps c.as_slice-flips.result.now)) c.as_slice-pins.ensures ∙ ap (λ fs. first_cause (raw_causes c.args.raw.now.pins fs)) c.as_slice-flips.ensures) in
    c.barred.ensures ∙ pin_bars c.args.name c.args.raw.now c.in-Some.bar c.requires.groups c.requires.differ first

pub returns-in-None : goal.returns-in-None
returns-in-None c =
    let first : None ≡ first_cause (raw_causes c.args.raw.now.pins c.args.raw.now.flips) =
    c.in-None.ensures ∙ (ap (λ ps. first_cause (raw_causes ps c.as_slice-flips.result.now)) c.as_slice-pins.ensures ∙ ap (λ fs. first_cause (raw_causes c.args.raw.now.pins fs)) c.as_slice-flips.ensures) in
    let states = c.states-states.ensures ∙ ap (λ fs. states_of (map raw_flip fs)) c.as_slice-flips.ensures in
    let look = ap (λ ps. look_in ps c.states-states.result.now) c.as_slice-pins.ensures ∙ ap (λ ns. look_in c.args.raw.now.pins ns) states in
    let whole = ap (λ l. known_cell c.args.name l (map raw_pin c.args.raw.now.pins) (map raw_flip c.args.raw.now.flips) (raw_unknown l c.args.raw.now.pins c.args.raw.now.flips)) look ∙ names_bar c.args.name c.args.raw.now c.requires.groups c.requires.differ first in
    let P : PlainCell → Type 0 = λ x. IfOk c.known.result (λ k. cell_of k ≡ x) in
    subst P whole c.known.ensures
