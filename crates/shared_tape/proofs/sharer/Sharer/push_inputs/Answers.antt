use Rattle.std.proofs.Common.{◌≡◌, ◌<◌, ◌+◌, ◌*◌, ◌++◌, OnOk, subst, sym, length, ap, ap₂, ◌∙◌}
use Rattle.agm_net.specs.Trace.{row_at}
use Rattle.share_wiring.specs.Schedule.{stream_at}
use Rattle.shared_tape.specs.Filled.{filled}
use Rattle.shared_tape.specs.Inputs.{inputs_row, sharings}
use Rattle.shared_tape.specs.Rows.{secret_count, turn_in}
use Rattle.shared_tape.proofs.Parts.{inputs_are}
use Rattle.shared_tape.proofs.Turns.{stream_below, step_below}
use Rattle.shared_tape.proofs.sharer.Sharer.push_inputs.Goals as goal

pub returns-in_ok-draws : goal.returns-in_ok-draws
returns-in_ok-draws c =
    let a = c.args in
    let it = a.self.now in
    let r = a.report.now in
    let draws = c.as_slice.result.now in
    let values = c.as_slice-then-has_inputs-2.result.now in
    let streams = filled (length it.secrets) a.width r.streams it.steps a.streams.now in
    let row = a.row.now ++ inputs_row draws it.order 0 c.as_slice-then-has_inputs.result.now values in
    let on = sym c.has_inputs.ensures ∙ c.if-has_inputs.true in
    let stream = stream_below r.balance r.period a.cycle r.streams c.requires.period c.requires.turns in
    let step = step_below r.period it.steps a.cycle on in
    let place = r.streams * secret_count it.secrets + turn_in r a.cycle * sharings it.inputs in
    subst (λ xs. OnOk c.push_inputs.result (c.push_inputs.new.row ≡ xs))
    (inputs_are a.seed.now r it.secrets it.inputs streams it.steps a.cycle it.order it.sharings draws values a.row.now row c.requires.order on it.shared
    (c.as_slice.ensures ∙ c.in_ok-draws.ensures.draws place c.place-first.ensures)
    (c.as_slice-then-has_inputs-2.ensures
    ∙ (c.in_ok-values.ensures.row (length it.secrets) r.streams it.steps (subst (λ s. s < r.streams) (sym c.stream_in-stream.ensures) stream) (subst (λ k. k < it.steps) (sym c.step_in-step.ensures) step)
    ∙ ap₂ (λ s k. row_at (stream_at streams s).steps k) c.stream_in-stream.ensures c.step_in-step.ensures))
    (ap (λ inputs. a.row.now ++ inputs_row draws it.order 0 inputs values) c.as_slice-then-has_inputs.ensures))
    c.push_inputs.ensures
