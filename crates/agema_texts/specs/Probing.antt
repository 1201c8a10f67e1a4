-- What `cones` prints for a netlist, an order and a text of probes, and when it is refused.
use Rattle.std.specs.Prelude.{◌≤◌, ℕ, List, length, Ok, Err}
use Rattle.agm_net.specs.Network.{Hpc2}
use Rattle.agm_net.specs.Plain.{PlainNet}
use Rattle.agm_net.specs.declared.label.Label.{Label}
use Rattle.hpc2_audit.specs.Audited.{AreLabels}
use Rattle.json_values.specs.Json.{json_of}
use Rattle.probe_cones.specs.declared.probe.Probes.{Probes}
use Rattle.probe_lists.specs.Answer.{Answers}
use Rattle.probe_lists.specs.declared.fault.ProbeFault.TheVariants.{Bad}
use Rattle.probe_text.specs.Text.{IsConesText}
use Rattle.twin_tape.specs.Allowed.{label_at}
use Rattle.agema_texts.specs.Auditing.{IsGiven}
use Rattle.agema_texts.specs.Original.{length_limit}
use Rattle.agema_answers.specs.declared.refusal.Refusal.{Refusal}
use Rattle.agema_answers.specs.declared.refusal.Refusal.TheVariants.{BadProbe}

-- the bytes give this HPC2 network of an order
abbrev pub IsNetwork : List ℕ → (order : ℕ) → PlainNet → Type 0
IsNetwork bytes order net = IsGiven bytes net × Hpc2 net order

-- the text asks for these probes of a net
abbrev pub HasProbes : PlainNet → (order : ℕ) → (text : List ℕ) → Probes → Type 0
HasProbes net order text asked = (length text ≤ length_limit) × Answers net.wires order (json_of text) (Ok asked)

-- the text of the cones of the probes that a text asks for, and of what they permit by the labels of the net's wires
pub record IsProbed (net : PlainNet) (order : ℕ) (text printed : List ℕ) : Type 0 where
  pub asked : Probes
  pub has_probes : HasProbes net order text asked
  pub labels : List Label
  pub labelled : AreLabels net order labels
  pub text_is : IsConesText net order (label_at labels) asked printed

-- What is printed: the text of the probes of the HPC2 network that the bytes give.
pub record Cones (bytes : List ℕ) (order : ℕ) (text printed : List ℕ) : Type 0 where
  pub net : PlainNet
  pub network : IsNetwork bytes order net
  pub probed : IsProbed net order text printed

abbrev pub CanProbe : List ℕ → (order : ℕ) → (text : List ℕ) → Type 0
CanProbe bytes order text = (net : PlainNet) × (asked : Probes) × IsNetwork bytes order net × HasProbes net order text asked

-- why a text asks for no probes of a net
abbrev pub IsBadList : PlainNet → (order : ℕ) → (text : List ℕ) → Refusal → Type 0
IsBadList net order text (BadProbe cause index) = (length text ≤ length_limit) × Answers net.wires order (json_of text) (Err (Bad cause index))
IsBadList net order text _ = Prim.⊥

-- the same of the network that bytes give
abbrev pub IsUnprobed : List ℕ → (order : ℕ) → (text : List ℕ) → Refusal → Type 0
IsUnprobed bytes order text refusal = (net : PlainNet) × IsNetwork bytes order net × IsBadList net order text refusal
