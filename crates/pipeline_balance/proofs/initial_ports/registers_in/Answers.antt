use Rattle.std.proofs.Common.{false, codes, map, length, replicate, sym, ap, ap₂, subst, ◌∙◌}
use Rattle.std.specs.Prelude.{reverse}
use Rattle.share_wiring.specs.Shape.{header_of, input_of_width}
use Rattle.pipeline_balance.specs.Masked.{initial_values}
use Rattle.pipeline_balance.specs.Entering.{FitInOrder, Enters, state_headers, public_row, register_headers, merged_values}
use Rattle.pipeline_balance.proofs.Sizes.{value_fits}
use Rattle.pipeline_balance.proofs.EnteringSteps.{fit_parts, entered_all}
use Rattle.pipeline_balance.proofs.EnteringRegisters.{register_parts, count_publics, count_states, registers_enter}
use Rattle.pipeline_balance.proofs.initial_ports.registers_in.Goals as goal

pub publics_in-requires : goal.publics_in-requires
publics_in-requires g c =
    let n = g.row.S in
    let report = c.args.report.now in
    let olds = map header_of c.args.builder.now.ports in
    let fit = subst (FitInOrder olds) (sym (register_parts n report c.requires.order c.args.secrets.now)) c.requires.fit in
    (value_fits n c.requires.size.1, (c.requires.size, (c.requires.publics.0, (fit_parts olds (input_of_width (codes "agm_q_p") report.public_registers) (state_headers n report.secret_registers) fit).0)))

pub states_in-requires : goal.states_in-requires
states_in-requires g c =
    let n = g.row.S in
    let report = c.args.report.now in
    let old = c.args.builder.now in
    let olds = map header_of old.ports in
    let fit = subst (FitInOrder olds) (sym (register_parts n report c.requires.order c.args.secrets.now)) c.requires.fit in
    let publics = input_of_width (codes "agm_q_p") report.public_registers in
    let states = state_headers n report.secret_registers in
    let now = entered_all n old c.publics_in.new.builder publics (replicate report.public_registers false) (public_row report.public_registers) c.in_ok-publics.publics c.in_ok-publics.ensures in
    (value_fits n c.requires.size.1, (c.requires.size, (c.requires.shared.0, subst (λ hs. FitInOrder hs states) (sym now) (fit_parts olds publics states fit).1)))

pub merge-requires : goal.merge-requires
merge-requires g c =
    let n = g.row.S in
    let report = c.args.report.now in
    let ks = c.args.secrets.now in
    let old = c.args.builder.now in
    let mid = c.publics_in.new.builder in
    let now = c.states_in.new.builder in
    let first = c.in_ok-publics.ensures in
    let second = c.in_ok-shared.ensures in (
      value_fits n c.requires.size.1,
      (
        c.requires.size.1,
        (
          ap length c.as_slice.ensures ∙ count_publics n report c.requires.order ks old mid now c.requires.publics.1 c.requires.shared.1 c.in_ok-publics.publics c.in_ok-shared.shared first second,
          ap length c.as_slice-2.ensures ∙ count_states n report c.requires.order ks old mid now c.requires.publics.1 c.requires.shared.1 c.in_ok-publics.publics c.in_ok-shared.shared first second,
        ),
      ),
    )

pub returns : goal.returns
returns g c =
    let n = g.row.S in
    let report = c.args.report.now in
    let ks = c.args.secrets.now in
    let old = c.args.builder.now in
    let mid = c.publics_in.new.builder in
    let now = c.states_in.new.builder in
    let first = c.in_ok-publics.ensures in
    let second = c.in_ok-shared.ensures in
    subst (Enters n old now (register_headers report) ks (initial_values ks report))
    (sym (c.in_ok-values.ensures ∙ ap₂ (λ xs ys. merged_values ks (reverse xs) (reverse ys)) c.as_slice.ensures c.as_slice-2.ensures))
    (registers_enter n report c.requires.order ks old mid now c.requires.publics.1 c.requires.shared.1 c.in_ok-publics.publics c.in_ok-shared.shared first second)
