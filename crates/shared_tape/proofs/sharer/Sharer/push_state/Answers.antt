use Rattle.std.proofs.Common.{◌≡◌, ◌++◌, OnOk, subst, length, ap, ◌∙◌}
use Rattle.std.proofs.lemmas.Bool.{lt-ltb}
use Rattle.share_wiring.specs.Schedule.{stream_at}
use Rattle.shared_tape.specs.Filled.{filled}
use Rattle.shared_tape.specs.Rows.{state_row}
use Rattle.shared_tape.proofs.Parts.{state_is}
use Rattle.shared_tape.proofs.sharer.Sharer.push_state.Goals as goal

pub returns-in_ok-initial : goal.returns-in_ok-initial
returns-in_ok-initial c = λ width. (
    let a = c.args in
    let it = a.self.now in
    let initial = c.as_slice-then-cycle-report.result.now in
    let streams = filled (length it.secrets) width a.report.now.streams it.steps a.streams.now in
    let row = a.row.now ++ state_row a.seed.now it.order c.as_slice.result.now initial a.cycle in
    subst (λ xs. OnOk c.push_state.result (c.push_state.new.row ≡ xs))
    (state_is a.seed.now a.report.now it.secrets streams a.cycle it.order initial a.row.now row c.requires.order (lt-ltb a.cycle a.report.now.streams c.if-cycle-report.true)
    (c.as_slice-then-cycle-report.ensures ∙ c.in_ok-initial.ensures.state width a.report.now.streams it.steps c.if-cycle-report.true
    ∙ ap (λ n. (stream_at (filled n width a.report.now.streams it.steps a.streams.now) a.cycle).initial) c.len.ensures)
    (ap (λ secrets. a.row.now ++ state_row a.seed.now it.order secrets initial a.cycle) c.as_slice.ensures))
    c.push_state.ensures)
