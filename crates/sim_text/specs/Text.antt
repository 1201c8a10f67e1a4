-- What a simulation prints.
use Rattle.std.specs.Prelude.{◌≡◌, ◌++◌, ℕ, Bool, true, false, not, List, [], ◌∷◌, map, filter, codes}
use Rattle.std.specs.List.{flat_map, enumerate_from}
use Rattle.std.specs.Fmt.{decimal}
use Rattle.agm_net.specs.Plain.{PlainNet, is_input}
use Rattle.agm_net.specs.Trace.{Row, IsTrace}
use Rattle.agm_net.specs.declared.port.Port.{Port}
use Rattle.stimulus.specs.declared.stimuli.Stream.{Stream}
use Rattle.std.specs.Prelude.{slice_index_or}

-- the byte `1` or `0`
abbrev pub digit : Bool → ℕ
digit true = 49
digit false = 48

-- the bit of a wire in a row
abbrev pub bit_in : Row → ℕ → Bool
bit_in row w = slice_index_or row w false

-- ` name=bits` for a port, most significant bit first
abbrev pub port_text : Row → Port → List ℕ
port_text row p = 32 ∷ (p.name ++ 61 ∷ map (λ w. digit (bit_in row w)) p.bits)

abbrev pub outputs : PlainNet → List Port
outputs net = filter (λ p. not (is_input p)) net.ports

-- `stream s step k`
abbrev pub step_head : (stream step : ℕ) → List ℕ
step_head s k = codes "stream " ++ (decimal s ++ (codes " step " ++ decimal k))

-- the line of a step, by its row: the step, each output port with its bits, and a line feed
abbrev pub step_line : PlainNet → (stream : ℕ) → ℕ × Row → List ℕ
step_line net s row = step_head s row.0 ++ (flat_map (port_text row.1) (outputs net) ++ 10 ∷ [])

-- the lines of a stream, by its table
abbrev pub stream_text : PlainNet → ℕ × List Row → List ℕ
stream_text net table = flat_map (step_line net table.0) (enumerate_from 0 table.1)

-- each table is the trace of its stream: from the stream's initial state, with the stream's steps as input bits
abbrev pub AreTraces : PlainNet → List Stream → List (List Row) → Type 0
AreTraces net [] [] = Unit {0}
AreTraces net (s ∷ ss) (t ∷ ts) = IsTrace net s.initial s.steps t × AreTraces net ss ts
AreTraces net [] (t ∷ ts) = Prim.⊥
AreTraces net (s ∷ ss) [] = Prim.⊥

-- The text of a simulation: for each stream and step in order, the output bits in that row of the stream's trace.
pub record IsSimText (net : PlainNet) (streams : List Stream) (text : List ℕ) : Type 0 where
  pub tables : List (List Row)
  pub traces : AreTraces net streams tables
  pub text_is : text ≡ flat_map (stream_text net) (enumerate_from 0 tables)
