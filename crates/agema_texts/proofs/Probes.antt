-- What bytes and a text determine of what is printed of probes.
use Rattle.std.proofs.Common.{◌≡◌, ◌<◌, ◌∙◌, ◌^◌, ℕ, List, Option, Ok, Err, length, sym, subst, subst₂}
use Rattle.std.specs.List.{All}
use Rattle.std.proofs.lemmas.List.{same_lists, get_or_default}
use Rattle.serde_json.specs.Data.{Data}
use Rattle.agm_net.specs.Label.{HasLabel}
use Rattle.agm_net.specs.Plain.{PlainNet}
use Rattle.agm_net.specs.declared.label.Label.{Label}
use Rattle.agm_net.specs.declared.label.Label.TheVariants.{Clock}
use Rattle.hpc2_audit.specs.Audited.{AreLabels}
use Rattle.json_values.specs.Json.{json_of}
use Rattle.probe_cones.specs.declared.probe.Probes.{Probes}
use Rattle.probe_lists.specs.Answer.{Answers}
use Rattle.probe_lists.specs.Fit.{AreFit}
use Rattle.probe_lists.specs.declared.fault.ProbeCause.{ProbeCause}
use Rattle.probe_lists.specs.declared.fault.ProbeFault.TheVariants.{Bad}
use Rattle.probe_text.specs.Text.{IsConesText}
use Rattle.twin_tape.specs.Allowed.{label_at}
use Rattle.agema_answers.specs.declared.refusal.Refusal.{Refusal}
use Rattle.agema_answers.specs.declared.refusal.Refusal.TheVariants.{BadProbe}
use Rattle.agema_texts.specs.Probing.{CanProbe, Cones, IsBadList, IsProbed, IsUnprobed}
use Rattle.agema_texts.proofs.Audits.{one_given}
use Rattle.agema_texts.proofs.Same.{SpellsOnce}

-- by the laws that a wire has one label, that a text has one list of probes, that what is read is not refused, and that it fits
abbrev pub LabelsOnce : Type 0
LabelsOnce = (net : PlainNet) (order wire : ℕ) (a b : Label) → HasLabel net order wire a → HasLabel net order wire b → a ≡ b

abbrev pub ReadsOnce : Type 0
ReadsOnce = (wires : List (List ℕ)) (order : ℕ) (value : Option Data) (a b : Probes) → Answers wires order value (Ok a) → Answers wires order value (Ok b) → a ≡ b

abbrev pub NotRefused : Type 0
NotRefused = (wires : List (List ℕ)) (order : ℕ) (value : Option Data) (a : Probes) (cause : ProbeCause) (index : ℕ)
    → Answers wires order value (Ok a) → Answers wires order value (Err (Bad cause index)) → Prim.⊥

abbrev pub AllFit : Type 0
AllFit = (wires : List (List ℕ)) (order : ℕ) (value : Option Data) (asked : Probes) → Answers wires order value (Ok asked) → AreFit (length wires) order asked

-- a net has one list of labels
same_labels : LabelsOnce → (net : PlainNet) (d : ℕ) (xs ys : List Label) → AreLabels net d xs → AreLabels net d ys → xs ≡ ys
same_labels once net d xs ys first second =
    same_lists xs ys (first.as_many ∙ sym second.as_many)
    (λ k e below.
    let small : k < length net.wires = rw (sym first.as_many) below in
    let there : k < length ys = rw second.as_many small in
    get_or_default xs k e Clock below
    ∙ once net d k (label_at xs k) (label_at ys k) (first.told k small) (second.told k small)
    ∙ sym (get_or_default ys k e Clock there))

-- two texts of the same probes
same_text : (net : PlainNet) (order : ℕ) (label : ℕ → Label) (asked : Probes) (T : ℕ) → All (λ p. p.cycle < T) asked.probes
    → (p q : List ℕ) → IsConesText net order label asked p → IsConesText net order label asked q → p ≡ q
same_text net order label asked T early p q first second = first T early ∙ sym (second T early)

one_text : LabelsOnce → ReadsOnce → AllFit → (net : PlainNet) (order : ℕ) (text p q : List ℕ) → IsProbed net order text p → IsProbed net order text q → p ≡ q
one_text labelled reads fits net order text p q first second =
    let asked : first.asked ≡ second.asked = reads net.wires order (json_of text) first.asked second.asked first.has_probes.1 second.has_probes.1 in
    let labels : first.labels ≡ second.labels = same_labels labelled net order first.labels second.labels first.labelled second.labelled in
    let T : Probes → List Label → Type 0 = λ a l. IsConesText net order (label_at l) a p in
    let fit = fits net.wires order (json_of text) second.asked second.has_probes.1 in
    same_text net order (label_at second.labels) second.asked (2 ^ 20) fit.cycles p q (subst₂ T asked labels first.text_is) second.text_is

pub probes_once : SpellsOnce → LabelsOnce → ReadsOnce → AllFit → (bytes : List ℕ) (order : ℕ) (text p q : List ℕ) → Cones bytes order text p → Cones bytes order text q → p ≡ q
probes_once once labelled reads fits bytes order text p q first second =
    let nets : first.net ≡ second.net = one_given once bytes first.net second.net first.network.0.1 second.network.0.1 in
    let P : PlainNet → Type 0 = λ n. IsProbed n order text p in
    one_text labelled reads fits second.net order text p q (subst P nets first.probed) second.probed

-- what can be printed is not refused
pub probed_not_refused : SpellsOnce → NotRefused → (bytes : List ℕ) (order : ℕ) (text : List ℕ) (r : Refusal) → CanProbe bytes order text → IsUnprobed bytes order text r → Prim.⊥
probed_not_refused once never bytes order text (BadProbe cause index) (net, asked, network, has) (other, given, bad) =
    let same : other ≡ net = one_given once bytes other net given.0.1 network.0.1 in
    let B : PlainNet → Type 0 = λ n. IsBadList n order text (BadProbe cause index) in
    let moved = subst B same bad in
    never net.wires order (json_of text) asked cause index has.1 moved.1
probed_not_refused once never bytes order text _ can (other, given, bad) = absurd bad
