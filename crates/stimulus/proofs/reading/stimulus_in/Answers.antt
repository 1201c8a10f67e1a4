use Rattle.std.proofs.Common.{◌≡◌, ℕ, List, length, map, sym, subst, inr}
use Rattle.std.proofs.lemmas.List.{length-map}
use Rattle.agm_net.specs.Plain.{stored_of}
use Rattle.agm_net.specs.View.{plain_of}
use Rattle.serde_json.specs.View.{view}
use Rattle.json_values.specs.Finds.{Finds}
use Rattle.stimulus.specs.Answer.{Passes, stream_of}
use Rattle.stimulus.specs.Asked.{all_asked, inputs_of}
use Rattle.stimulus.specs.Written.{stimulus_data}
use Rattle.stimulus.specs.declared.stimuli.Stimulus.{Stimulus}
use Rattle.stimulus.specs.declared.texts.StreamText.{StreamText}
use Rattle.stimulus.proofs.reading.stimulus_in.Goals as goal

pub returns-in-Some-clause-answers : goal.returns-in-Some-clause-answers
returns-in-Some-clause-answers c =
    let net = c.args.net.now in let inputs = inputs_of (plain_of net) in
    let texts = c.in-Some.texts in let v = c.args.value.now in
    let right = λ (ts : List StreamText) (s : Stimulus). s.streams ≡ map (stream_of inputs) ts in
    let written : view v ≡ stimulus_data texts = subst (Finds stimulus_data (view v)) c.in-Some.is c.in_ok-read.ensures in
    let passes = subst (λ (n : ℕ). Passes (all_asked n inputs c.args.streams texts) (right texts) c.stimulus_of.result) (sym (length-map net.registers stored_of))
    (subst (λ (ts : List StreamText). Passes (all_asked (length net.registers) inputs c.args.streams ts) (right ts) c.stimulus_of.result) c.as_slice.ensures c.stimulus_of.ensures.passes) in
    inr (texts, written, passes)
