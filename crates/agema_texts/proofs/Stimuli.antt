-- A text has one stimulus for a net.
use Rattle.std.proofs.Common.{◌≡◌, ℕ, List, Option, Some, None, Ok, Err, ap, sym, inl, inr, length, ◌∙◌}
use Rattle.agm_net.specs.Plain.{PlainNet}
use Rattle.serde_json.specs.Data.{Data}
use Rattle.stimulus.specs.Answer.{Answers}
use Rattle.stimulus.specs.Asked.{inputs_of, all_asked, first_fault}
use Rattle.json_values.specs.Json.{json_of}
use Rattle.stimulus.specs.Written.{stimulus_data}
use Rattle.stimulus.specs.declared.fault.StimulusCause.{StimulusCause}
use Rattle.stimulus.specs.declared.fault.StimulusFault.{StimulusFault}
use Rattle.stimulus.specs.declared.fault.StimulusFault.TheVariants.{Bad}
use Rattle.stimulus.specs.declared.stimuli.Stream.{Stream}
use Rattle.stimulus.specs.declared.texts.StreamText.{StreamText}
use Rattle.agema_answers.specs.declared.refusal.Refusal.{Refusal}
use Rattle.agema_answers.specs.declared.refusal.Refusal.TheVariants.{BadStimulus}
use Rattle.agema_texts.specs.Sims.{HasStreams, IsBadStimulus}

-- by the law that a value is that of one stimulus at most
abbrev pub WritesOnce : Type 0
WritesOnce = (a b : List StreamText) → stimulus_data a ≡ stimulus_data b → a ≡ b

abbrev Clash : PlainNet → Option ℕ → Option Data → List Stream → StimulusCause → ℕ → ℕ → Type 0
Clash net limit json streams cause stream step = Answers net limit json (Ok (record { streams = streams })) → Answers net limit json (Err (Bad cause stream step)) → Prim.⊥

-- streams and a cause
both_ways : WritesOnce → (net : PlainNet) (limit : Option ℕ) (json : Option Data) (streams : List Stream) (cause : StimulusCause) (stream step : ℕ) → Clash net limit json streams cause stream step
both_ways once net limit None streams cause stream step (inl a) bad = cc
both_ways once net limit None streams cause stream step (inr a) bad = cc
both_ways once net limit (Some d) streams cause stream step (inl (inl a)) bad = cc
both_ways once net limit (Some d) streams cause stream step (inl (inr a)) bad = let e = a.0 in cc
both_ways once net limit (Some d) streams cause stream step (inr (texts, is, passes)) (inl (inl b)) = cc
both_ways once net limit (Some d) streams cause stream step (inr (texts, is, passes)) (inl (inr b)) = absurd (b.1 texts is)
both_ways once net limit (Some d) streams cause stream step (inr (texts, is, passes)) (inr (others, are, inl b)) = cc
both_ways once net limit (Some d) streams cause stream step (inr (texts, is, passes)) (inr (others, are, inr b)) =
    let same : texts ≡ others = once texts others (sym is ∙ are) in
    let F : List StreamText → Option StimulusFault = λ ts. first_fault (all_asked (length net.registers) (inputs_of net) limit ts) in
    let none = passes.0 in
    let moved : F texts ≡ F others = ap F same in
    cc

pub one_stimulus : WritesOnce → (net : PlainNet) (limit : Option ℕ) (text : List ℕ) (streams : List Stream) (refusal : Refusal) → HasStreams net limit text streams → IsBadStimulus net limit text refusal → Prim.⊥
one_stimulus once net limit text streams (BadStimulus cause stream step) (short, read) (brief, bad) = both_ways once net limit (json_of text) streams cause stream step read bad
one_stimulus once net limit text streams _ read bad = bad
