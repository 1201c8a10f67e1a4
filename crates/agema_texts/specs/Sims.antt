-- What `sim` prints for a netlist and a stimulus, and when it is refused.
use Rattle.std.specs.Prelude.{◌≤◌, ℕ, List, length, Option, None, Ok, Err}
use Rattle.agm_net.specs.Plain.{PlainNet}
use Rattle.annotations.specs.Rules.{clock_rules}
use Rattle.cell_library.specs.Judged.{PlainCell}
use Rattle.verilog_reader.specs.Plain.{PlainDesign}
use Rattle.stimulus.specs.Answer.{Answers}
use Rattle.json_values.specs.Json.{json_of}
use Rattle.stimulus.specs.declared.stimuli.Stream.{Stream}
use Rattle.stimulus.specs.declared.fault.StimulusFault.TheVariants.{Bad}
use Rattle.sim_text.specs.Text.{IsSimText}
use Rattle.agema_texts.specs.Original.{IsRead, Keeps, IsUnread, BreaksRead, length_limit}
use Rattle.agema_answers.specs.declared.refusal.Refusal.{Refusal}
use Rattle.agema_answers.specs.declared.refusal.Refusal.TheVariants.{BadAnnotation, BadStimulus}

-- the bytes give a net without a loop, whose clock keeps its rules
abbrev pub IsClocked : List PlainCell → List ℕ → PlainNet → Type 0
IsClocked cells bytes net = (design : PlainDesign) × IsRead cells bytes design net × Keeps clock_rules design net

-- the text has this stimulus for a net, of so many streams at the most
abbrev pub HasStreams : PlainNet → Option ℕ → List ℕ → List Stream → Type 0
HasStreams net limit text streams = (length text ≤ length_limit) × Answers net limit (json_of text) (Ok (record { streams = streams }))

-- the text of the simulation of a net with a text's stimulus
abbrev pub IsSimulated : PlainNet → (stimulus printed : List ℕ) → Type 0
IsSimulated net stimulus printed = (streams : List Stream) × HasStreams net None stimulus streams × IsSimText net streams printed

-- What is printed: the text of the simulation of the net that the bytes give.
pub record Sims (cells : List PlainCell) (bytes stimulus : List ℕ) (printed : List ℕ) : Type 0 where
  pub net : PlainNet
  pub is_clocked : IsClocked cells bytes net
  pub simulated : IsSimulated net stimulus printed

abbrev pub CanSim : List PlainCell → (bytes stimulus : List ℕ) → Type 0
CanSim cells bytes stimulus = (net : PlainNet) × (streams : List Stream) × IsClocked cells bytes net × HasStreams net None stimulus streams

-- why bytes give no net that can be run
abbrev pub IsUnclocked : List PlainCell → List ℕ → Refusal → Type 0
IsUnclocked cells bytes (BadAnnotation fault) = BreaksRead clock_rules cells bytes fault
IsUnclocked cells bytes refusal = IsUnread cells bytes refusal

-- why a text is no stimulus of a net, of so many streams at the most
abbrev pub IsBadStimulus : PlainNet → Option ℕ → List ℕ → Refusal → Type 0
IsBadStimulus net limit text (BadStimulus cause stream step) = (length text ≤ length_limit) × Answers net limit (json_of text) (Err (Bad cause stream step))
IsBadStimulus net limit text _ = Prim.⊥

-- the same of the net that bytes give
abbrev pub IsUndriven : List PlainCell → (bytes stimulus : List ℕ) → Refusal → Type 0
IsUndriven cells bytes stimulus refusal = (net : PlainNet) × IsClocked cells bytes net × IsBadStimulus net None stimulus refusal
