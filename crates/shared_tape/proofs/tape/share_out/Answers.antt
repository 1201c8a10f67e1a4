use Rattle.std.proofs.Common.{length, sym, subst, ap, ◌∙◌}
use Rattle.agm_net.specs.View.{plain_of}
use Rattle.share_wiring.specs.Same.{TellsSecrets}
use Rattle.shared_tape.proofs.Shared.{are_streams, rectangular, shared_tape}
use Rattle.shared_tape.proofs.Wide.{inputs_wide}
use Rattle.shared_tape.specs.Inputs.{width_of}
use Rattle.shared_tape.specs.Rows.{tape_width}
use Rattle.shared_tape.specs.SharedTape.{SharedTape, named_marks}
use Rattle.shared_tape.proofs.tape.share_out.Goals as goal

pub rows_of-requires-clause-wide : goal.rows_of-requires-clause-wide
rows_of-requires-clause-wide c =
    c.len-width.ensures
    ∙ (ap length c.in_ok-input_bits.ensures ∙ (sym (inputs_wide (plain_of c.args.net.now) c.args.masked.now.report) ∙ ap width_of (sym (c.in_ok-sharer.ensures.1 ∙ c.in_ok-inputs.ensures))))

pub rows_of-requires-clause-streams : goal.rows_of-requires-clause-streams
rows_of-requires-clause-streams c =
    let net = plain_of c.args.net.now in
    let r = c.args.masked.now.report in
    let it = c.in_ok-sharer.sharer in
    let width = c.len-width.result in
    let tells = subst (TellsSecrets net (named_marks net r)) (sym c.in_ok-sharer.ensures.0) c.in_ok-secrets.ensures in
    let wide = c.len-width.ensures ∙ ap length c.in_ok-input_bits.ensures in
    let fits = c.requires.fits in
    are_streams net r.streams c.args.stimulus.now.streams c.as_slice-streams.result.now fits (length it.secrets) width it.steps c.as_slice-streams.ensures tells.one_each wide (λ are. c.in_ok-sharer.ensures.2 ∙ c.steps_of.ensures (length it.secrets) width fits.steps are)

pub invariant_of-result : goal.invariant_of-result
invariant_of-result c =
    let net = plain_of c.args.net.now in
    let r = c.args.masked.now.report in
    let it = c.in_ok-sharer.sharer in
    let width = c.len-width.result in
    let tells = subst (TellsSecrets net (named_marks net r)) (sym c.in_ok-sharer.ensures.0) c.in_ok-secrets.ensures in
    let wide = c.len-width.ensures ∙ ap length c.in_ok-input_bits.ensures in
    let fits = c.requires.fits in
    let are = are_streams net r.streams c.args.stimulus.now.streams c.as_slice-streams.result.now fits (length it.secrets) width it.steps c.as_slice-streams.ensures tells.one_each wide (λ are. c.in_ok-sharer.ensures.2 ∙ c.steps_of.ensures (length it.secrets) width fits.steps are) in
    record {
      rectangular = λ k d lt.
          rectangular net r c.args.seed.now c.as_slice-streams.result.now it.secrets it.inputs width it.steps c.requires.period c.requires.turns tells (c.in_ok-sharer.ensures.1 ∙ c.in_ok-inputs.ensures) wide are c.in_ok-rows.rows c.in_ok-rows.ensures k d lt
          ∙ (ap (λ n. tape_width n it.secrets it.inputs) (sym c.in_ok-sharer.ensures.3) ∙ sym it.rows_wide);
    }

pub returns : goal.returns
returns c =
    let net = plain_of c.args.net.now in
    let r = c.args.masked.now.report in
    let it = c.in_ok-sharer.sharer in
    let width = c.len-width.result in
    let tells = subst (TellsSecrets net (named_marks net r)) (sym c.in_ok-sharer.ensures.0) c.in_ok-secrets.ensures in
    let wide = c.len-width.ensures ∙ ap length c.in_ok-input_bits.ensures in
    let fits = c.requires.fits in
    let are = are_streams net r.streams c.args.stimulus.now.streams c.as_slice-streams.result.now fits (length it.secrets) width it.steps c.as_slice-streams.ensures tells.one_each wide (λ are. c.in_ok-sharer.ensures.2 ∙ c.steps_of.ensures (length it.secrets) width fits.steps are) in
    subst (λ ss. SharedTape net r ss c.args.seed.now c.in_ok-rows.rows) c.as_slice-streams.ensures
    (shared_tape net r c.args.seed.now c.as_slice-streams.result.now it.secrets it.inputs width it.steps c.requires.period c.requires.turns tells (c.in_ok-sharer.ensures.1 ∙ c.in_ok-inputs.ensures) wide are c.in_ok-rows.rows c.in_ok-rows.ensures)
