use Rattle.std.proofs.Common.{◌≡◌, ℕ, List, None, length, map, sym, ap, subst, ◌∙◌, Err}
use Rattle.std.proofs.lemmas.List.{length-map}
use Rattle.std.proofs.lemmas.Result.{err_from_is_err_and}
use Rattle.agm_net.specs.Plain.{stored_of}
use Rattle.agm_net.specs.View.{plain_of}
use Rattle.stimulus.proofs.Causes.{handed_on}
use Rattle.stimulus.proofs.Fitting.{fits_of}
use Rattle.stimulus.specs.Answer.{Passes, stream_of}
use Rattle.stimulus.specs.Asked.{all_asked, first_fault, inputs_of}
use Rattle.stimulus.specs.Fits.{Fits}
use Rattle.stimulus.specs.declared.inputs.Input.{Input}
use Rattle.stimulus.specs.declared.stimuli.Stimulus.{Stimulus}
use Rattle.stimulus.proofs.reading.stimulus_of.Goals as goal

pub returns-in_err-check_texts-clause-passes : goal.returns-in_err-check_texts-clause-passes
returns-in_err-check_texts-clause-passes c =
    let net = c.args.net.now in let texts = c.args.texts.now in let f = c.in_err-check_texts.field-0.0 in
    let right = λ (x : Stimulus). x.streams ≡ map (stream_of (inputs_of (plain_of net))) texts in
    let none = λ (u : Unit {0}). Unit {0} in
    handed_on (Passes (all_asked (length net.registers) (inputs_of (plain_of net)) c.args.streams texts) right) c.from_residual-in_err-check_texts.result f (err_from_is_err_and c.from_residual-in_err-check_texts.result c.from_residual-in_err-check_texts.ensures.1)
    (subst (λ (n : ℕ). Passes (all_asked n (inputs_of (plain_of net)) c.args.streams texts) none (Err f)) c.in_ok-wanted.ensures.registers
    (subst (λ (is : List Input). Passes (all_asked c.in_ok-wanted.wanted.registers is c.args.streams texts) none (Err f)) c.in_ok-wanted.ensures.inputs c.in_err-check_texts.ensures))

pub returns-clause-passes : goal.returns-clause-passes
returns-clause-passes c =
    let net = c.args.net.now in let texts = c.args.texts.now in (
      subst (λ (n : ℕ). first_fault (all_asked n (inputs_of (plain_of net)) c.args.streams texts) ≡ None) c.in_ok-wanted.ensures.registers
          (subst (λ (is : List Input). first_fault (all_asked c.in_ok-wanted.wanted.registers is c.args.streams texts) ≡ None) c.in_ok-wanted.ensures.inputs c.in_ok-check_texts.ensures.0),
      c.in_ok-streams_of.ensures ∙ ap (λ (is : List Input). map (stream_of is) texts) c.in_ok-wanted.ensures.inputs,
    )

pub returns-clause-fits : goal.returns-clause-fits
returns-clause-fits c =
    let net = c.args.net.now in let texts = c.args.texts.now in
    let none : first_fault (all_asked (length net.registers) (inputs_of (plain_of net)) c.args.streams texts) ≡ None =
    subst (λ (n : ℕ). first_fault (all_asked n (inputs_of (plain_of net)) c.args.streams texts) ≡ None) c.in_ok-wanted.ensures.registers
    (subst (λ (is : List Input). first_fault (all_asked c.in_ok-wanted.wanted.registers is c.args.streams texts) ≡ None) c.in_ok-wanted.ensures.inputs c.in_ok-check_texts.ensures.0) in
    let are : c.in_ok-streams_of.field-0 ≡ map (stream_of (inputs_of (plain_of net))) texts = c.in_ok-streams_of.ensures ∙ ap (λ (is : List Input). map (stream_of is) texts) c.in_ok-wanted.ensures.inputs in
    subst (Fits (plain_of net) c.args.streams) (sym are)
    (fits_of (plain_of net) c.args.streams texts (subst (λ (n : ℕ). first_fault (all_asked n (inputs_of (plain_of net)) c.args.streams texts) ≡ None) (sym (length-map net.registers stored_of)) none))
