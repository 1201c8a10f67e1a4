-- Which answer is right for bytes.
use Rattle.std.specs.Prelude.{◌≡◌, ◌≢◌, ◌==◌, ◌⊎◌, ℕ, Bool, List, length, map, Option, Some, None, Result, Ok, Err}
use Rattle.std.specs.List.{flat_map}
use Rattle.serde_json.specs.Data.{Data}
use Rattle.agm_bits.specs.declared.tape.Tape.{Tape}
use Rattle.agm_net.specs.Plain.{PlainNet}
use Rattle.stimulus.specs.Asked.{inputs_of, tape_inputs, tape_ports, text_at, all_asked, tape_asked, first_fault, Asked}
use Rattle.stimulus.specs.Written.{stimulus_data, tape_data}
use Rattle.stimulus.specs.declared.fault.StimulusCause.TheVariants.{Json, Shape}
use Rattle.stimulus.specs.declared.fault.StimulusFault.{StimulusFault}
use Rattle.stimulus.specs.declared.fault.StimulusFault.TheVariants.{Bad, Memory}
use Rattle.stimulus.specs.declared.inputs.Input.{Input}
use Rattle.stimulus.specs.declared.stimuli.Stimulus.{Stimulus}
use Rattle.stimulus.specs.declared.stimuli.Stream.{Stream}
use Rattle.stimulus.specs.declared.texts.Member.{Member}
use Rattle.stimulus.specs.declared.texts.StreamText.{StreamText}

-- the bits of a text: those of `1` are true
abbrev pub bits_in : List ℕ → List Bool
bits_in text = map (λ c. c == 49) text

-- the row of a step: the bits of the inputs in order
abbrev pub row_of : List Input → List Member → List Bool
row_of inputs step = flat_map (λ i. bits_in (text_at step i.name)) inputs

abbrev pub stream_of : List Input → StreamText → Stream
stream_of inputs text = record { initial = bits_in text.initial; steps = map (row_of inputs) text.steps }

-- nothing that is asked holds, or the fault is the first that does; want of memory may come at any time
abbrev pub Passes : {X : Type 0} → List Asked → (X → Type 0) → Result X StimulusFault → Type 0
Passes asked right (Ok x) = (first_fault asked ≡ None) × right x
Passes asked right (Err f) = (f ≡ Memory) ⊎ (first_fault asked ≡ Some f)

-- The answer for a JSON value, of bytes that may have none, over a net with so many streams at the most.
abbrev pub Answers : PlainNet → Option ℕ → Option Data → Result Stimulus StimulusFault → Type 0
Answers net limit None result = (result ≡ Err Memory) ⊎ (result ≡ Err (Bad Json 0 0))
Answers net limit (Some d) result =
    ((result ≡ Err Memory) ⊎ ((result ≡ Err (Bad Shape 0 0)) × ((texts : List StreamText) → d ≢ stimulus_data texts)))
    ⊎ ((texts : List StreamText) × (d ≡ stimulus_data texts)
    × Passes (all_asked (length net.registers) (inputs_of net) limit texts) (λ stimulus. stimulus.streams ≡ map (stream_of (inputs_of net)) texts) result)

-- the rows of cycles, over the input bits without the clock's and those of `agm_r`
pub record IsTapeOf (net : PlainNet) (cycles : List (List Member)) (tape : Tape) : Type 0 where
  pub width : tape.width ≡ length (flat_map (λ p. p.bits) (tape_ports net))
  pub rows : tape.rows ≡ map (row_of (tape_inputs net)) cycles

-- The answer for a JSON value that is to be a tape, of so many rows where a number is given.
abbrev pub TapeAnswers : PlainNet → Option ℕ → Option Data → Result Tape StimulusFault → Type 0
TapeAnswers net rows None result = (result ≡ Err Memory) ⊎ (result ≡ Err (Bad Json 0 0))
TapeAnswers net rows (Some d) result =
    ((result ≡ Err Memory) ⊎ ((result ≡ Err (Bad Shape 0 0)) × ((cycles : List (List Member)) → d ≢ tape_data cycles)))
    ⊎ ((cycles : List (List Member)) × (d ≡ tape_data cycles) × Passes (tape_asked (tape_inputs net) rows cycles) (IsTapeOf net cycles) result)
