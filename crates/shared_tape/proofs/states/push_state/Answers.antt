use Rattle.std.proofs.Common.{◌≡◌, ◌*◌, ◌++◌, OnOk, subst, refl, length, ◌∙◌}
use Rattle.shared_tape.specs.Sharing.{falling_rows, draws_of}
use Rattle.shared_tape.proofs.Chosen.{state_are}
use Rattle.shared_tape.proofs.states.push_state.Goals as goal

pub returns : goal.returns
returns c =
    let a = c.args in
    let shared = c.as_slice-2.result.now in
    let tail = falling_rows (draws_of a.seed.now a.order (a.stream * length shared) (length shared)) a.order 0 shared in
    subst (λ xs. OnOk c.push_secrets.result (c.push_secrets.new.row ≡ xs))
    (state_are a.seed.now a.order a.secrets.now a.initial.now a.stream c.as_slice.result.now shared a.row.now c.push_bits.new.row (c.push_bits.new.row ++ tail) c.requires.wide (c.as_slice.ensures ∙ c.in_ok-publics.ensures)
    (c.as_slice-2.ensures ∙ c.in_ok-shared.ensures) c.in_ok-push_bits.ensures refl)
    c.push_secrets.ensures
