-- What is asked of a stimulus and of a tape, in order.
use Rattle.std.specs.Prelude.{◌==◌, ◌&&◌, ◌||◌, ◌∷◌, ◌++◌, ℕ, Bool, false, not, nat_lt, List, [], length, map, filter, Option, Some, None, is_some, if◌then◌else◌, unwrap_or, codes}
use Rattle.std.specs.List.{list_all, list_any, flat_map, enumerate_from}
use Rattle.std.specs.Option.{option_map_or}
use Rattle.std.specs.Str.{bytes_eq}
use Rattle.agm_net.specs.Plain.{PlainNet, is_input, data_ports}
use Rattle.agm_net.specs.declared.port.Port.{Port}
use Rattle.stimulus.specs.declared.fault.StimulusCause.{StimulusCause}
use Rattle.stimulus.specs.declared.fault.StimulusCause.TheVariants.{Streams, Steps, Initial, Inputs, Bits, Cycles}
use Rattle.stimulus.specs.declared.fault.StimulusFault.{StimulusFault}
use Rattle.stimulus.specs.declared.fault.StimulusFault.TheVariants.{Bad}
use Rattle.stimulus.specs.declared.inputs.Input.{Input}
use Rattle.stimulus.specs.declared.texts.Member.{Member}
use Rattle.stimulus.specs.declared.texts.StreamText.{StreamText}

-- the input ports but the clock's, in port order: their bits are the input bits of a net
abbrev pub input_ports : PlainNet → List Port
input_ports net = filter is_input (data_ports net)

abbrev pub input_of : Port → Input
input_of p = record { name = p.name; width = length p.bits }

abbrev pub inputs_of : PlainNet → List Input
inputs_of net = map input_of (input_ports net)

-- the input ports of a masked net whose bits a tape has: all but the clock's and `agm_r`
abbrev pub tape_ports : PlainNet → List Port
tape_ports net = filter (λ p. not (bytes_eq p.name (codes "agm_r"))) (input_ports net)

abbrev pub tape_inputs : PlainNet → List Input
tape_inputs net = map input_of (tape_ports net)

abbrev pub names_of : List Input → List (List ℕ)
names_of inputs = map (λ i. i.name) inputs

-- a `0` or a `1`
abbrev pub is_bit : ℕ → Bool
is_bit c = (c == 48) || (c == 49)

-- whether a text is so many bits
abbrev pub are_bits : ℕ → List ℕ → Bool
are_bits n text = (length text == n) && list_all is_bit text

-- the text of the last member that has a key
abbrev pub text_of : List Member → List ℕ → Option (List ℕ)
text_of [] key = None
text_of (m ∷ ms) key = if is_some (text_of ms key) then text_of ms key else (if bytes_eq key m.key then Some m.text else None)

-- the text of an input, where there is one
abbrev pub text_at : List Member → List ℕ → List ℕ
text_at step name = unwrap_or (text_of step name) []

abbrev pub is_among : List (List ℕ) → List ℕ → Bool
is_among names key = list_any (λ n. bytes_eq n key) names

-- whether the keys of a step are exactly these names
abbrev pub has_keys : List (List ℕ) → List Member → Bool
has_keys names step = list_all (λ m. is_among names m.key) step && list_all (λ n. is_some (text_of step n)) names

-- whether each input has one `0` or `1` for each of its bits
abbrev pub has_bits : List Input → List Member → Bool
has_bits inputs step = list_all (λ i. are_bits i.width (text_at step i.name)) inputs

-- A cause that is asked for at a place, and whether it holds there.
pub record Asked : Type 0 where
  pub cause : StimulusCause
  pub stream : ℕ
  pub step : ℕ
  pub holds : Bool

-- none, or more than are allowed
abbrev pub streams_asked : Option ℕ → List StreamText → Asked
streams_asked limit texts = record { cause = Streams; stream = 0; step = 0; holds = (length texts == 0) || option_map_or (λ n. nat_lt n (length texts)) limit false }

-- how many steps stream 0 has
abbrev pub first_steps : List StreamText → ℕ
first_steps [] = 0
first_steps (text ∷ texts) = length text.steps

-- whether a cause that is asked for in a stream holds there, for a number of registers and the number of steps of stream 0
abbrev pub stream_holds : ℕ → ℕ → StimulusCause → StreamText → Bool
stream_holds registers first Steps text = (length text.steps == 0) || not (length text.steps == first)
stream_holds registers first Initial text = not (are_bits registers text.initial)
stream_holds registers first _ text = false

-- whether a cause that is asked for in a step holds there
abbrev pub step_holds : List Input → StimulusCause → List Member → Bool
step_holds inputs Inputs step = not (has_keys (names_of inputs) step)
step_holds inputs Bits step = not (has_bits inputs step)
step_holds inputs _ step = false

abbrev pub asked_step : List Input → StimulusCause → ℕ → ℕ × List Member → Asked
asked_step inputs cause stream t = record { cause = cause; stream = stream; step = t.0; holds = step_holds inputs cause t.1 }

abbrev pub asked_whole : ℕ → ℕ → StimulusCause → ℕ × StreamText → Asked
asked_whole registers first cause s = record { cause = cause; stream = s.0; step = 0; holds = stream_holds registers first cause s.1 }

-- What is asked for a cause in a stream.
abbrev pub asked_in : ℕ → List Input → ℕ → StimulusCause → ℕ × StreamText → List Asked
asked_in registers inputs first Inputs s = map (asked_step inputs Inputs s.0) (enumerate_from 0 s.1.steps)
asked_in registers inputs first Bits s = map (asked_step inputs Bits s.0) (enumerate_from 0 s.1.steps)
asked_in registers inputs first cause s = asked_whole registers first cause s ∷ []

-- a cause in all streams and steps
abbrev pub asked_of : ℕ → List Input → List StreamText → StimulusCause → List Asked
asked_of registers inputs texts cause = flat_map (asked_in registers inputs (first_steps texts) cause) (enumerate_from 0 texts)

-- all that is asked, each cause of all streams and steps before the next cause
abbrev pub all_asked : ℕ → List Input → Option ℕ → List StreamText → List Asked
all_asked registers inputs limit texts = streams_asked limit texts ∷ flat_map (asked_of registers inputs texts) (Steps ∷ Initial ∷ Inputs ∷ Bits ∷ [])

-- no cycle, or another number of them than is wanted
abbrev pub cycles_asked : Option ℕ → List (List Member) → Asked
cycles_asked rows cycles = record { cause = Cycles; stream = 0; step = 0; holds = (length cycles == 0) || option_map_or (λ n. not (length cycles == n)) rows false }

-- a cause in all cycles
abbrev pub asked_cycles : List Input → List (List Member) → StimulusCause → List Asked
asked_cycles inputs cycles cause = map (asked_step inputs cause 0) (enumerate_from 0 cycles)

-- all that is asked of a tape, each cause of all cycles before the next
abbrev pub tape_asked : List Input → Option ℕ → List (List Member) → List Asked
tape_asked inputs rows cycles = cycles_asked rows cycles ∷ (asked_cycles inputs cycles Inputs ++ asked_cycles inputs cycles Bits)

-- the first that holds
abbrev pub first_fault : List Asked → Option StimulusFault
first_fault [] = None
first_fault (a ∷ rest) = if a.holds then Some (Bad a.cause a.stream a.step) else first_fault rest
