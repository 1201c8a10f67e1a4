-- A stimulus of texts in which nothing that is asked holds fits its net.
use Rattle.std.proofs.Common.{◌≡◌, ℕ, zero, suc, ◌+◌, ◌<◌, ◌≤◌, ◌++◌, ◌==◌, Bool, true, false, not, ◌||◌, List, [], ◌∷◌, length, get_or, map, flat_map, Option, Some, None, IfSome, nat_lt, refl, sym, ap, ap₂, subst, ◌∙◌, arith}
use Rattle.std.specs.List.{AllByRecursion, enumerate_from, list_all}
use Rattle.std.specs.Option.{option_map_or}
use Rattle.std.proofs.lemmas.Bool.{both_ways, cases_lt, eqb-true, lt-ltb}
use Rattle.std.proofs.lemmas.List.{length-map, length-append}
use mathlib.Core.Logic.{⊎_elim}
use Rattle.agm_net.specs.Plain.{PlainNet}
use Rattle.agm_net.specs.declared.port.Port.{Port}
use Rattle.stimulus.proofs.Causes.{none_parts, not_alone}
use Rattle.stimulus.proofs.Lists.{all_from, both_true}
use Rattle.stimulus.specs.Answer.{bits_in, row_of, stream_of}
use Rattle.stimulus.specs.Asked.{Asked, all_asked, asked_of, asked_in, asked_step, asked_whole, asked_cycles, cycles_asked, tape_asked, tape_inputs, tape_ports, are_bits, first_fault, first_steps, has_bits, input_of, input_ports, inputs_of, is_bit, streams_asked, text_at}
use Rattle.stimulus.specs.Fits.{Fits, StreamFits}
use Rattle.stimulus.specs.declared.fault.StimulusCause.{StimulusCause}
use Rattle.stimulus.specs.declared.fault.StimulusCause.TheVariants.{Steps, Initial, Inputs, Bits}
use Rattle.stimulus.specs.declared.inputs.Input.{Input}
use Rattle.stimulus.specs.declared.texts.Member.{Member}
use Rattle.stimulus.specs.declared.texts.StreamText.{StreamText}

from_not : (b : Bool) → not b ≡ false → b ≡ true
from_not true h = refl
from_not false h = absurd (cc)

either_false : (a b : Bool) → (a || b) ≡ false → (a ≡ false) × (b ≡ false)
either_false true b h = absurd (cc)
either_false false b h = (refl, h)

not_zero : (n : ℕ) → (n == 0) ≡ false → 0 < n
not_zero zero h = absurd (cc)
not_zero (suc n) h = omega arith

not_above : (limit : Option ℕ) (n : ℕ) → option_map_or (λ most. nat_lt most n) limit false ≡ false → IfSome limit (λ most. n ≤ most)
not_above None n h = tt
not_above (Some most) n h = ⊎_elim (λ lt. absurd (both_ways (nat_lt most n) h (lt-ltb most n lt))) (λ le. le) (cases_lt most n)

as_many : (n : ℕ) (text : List ℕ) → are_bits n text ≡ true → length text ≡ n
as_many n text h = eqb-true (length text) n (both_true (length text == n) (list_all is_bit text) h).0

-- a row has as many bits as the ports
row_long : (ports : List Port) (step : List Member) → has_bits (map input_of ports) step ≡ true → length (row_of (map input_of ports) step) ≡ length (flat_map (λ p. p.bits) ports)
row_long [] step h = refl
row_long (p ∷ ps) step h =
    let parts = both_true (are_bits (length p.bits) (text_at step p.name)) (has_bits (map input_of ps) step) h in
    let own : length (bits_in (text_at step p.name)) ≡ length p.bits = length-map (text_at step p.name) (λ c. c == 49) ∙ as_many (length p.bits) (text_at step p.name) parts.0 in
    length-append (bits_in (text_at step p.name)) (row_of (map input_of ps) step) ∙ ap₂ (λ (m n : ℕ). m + n) own (row_long ps step parts.1) ∙ sym (length-append p.bits (flat_map (λ (q : Port). q.bits) ps))

-- the rows of steps
pub rows_fit : (ports : List Port) (stream k : ℕ) (steps : List (List Member)) → first_fault (map (asked_step (map input_of ports) Bits stream) (enumerate_from k steps)) ≡ None → AllByRecursion (λ row. length row ≡ length (flat_map (λ p. p.bits) ports)) (map (row_of (map input_of ports)) steps)
rows_fit ports stream k [] h = tt
rows_fit ports stream k (s ∷ ss) h =
    let own = asked_step (map input_of ports) Bits stream (k, s) in
    let parts = none_parts (own ∷ []) (map (asked_step (map input_of ports) Bits stream) (enumerate_from (k + 1) ss)) h in
    (row_long ports s (from_not (has_bits (map input_of ports) s) (not_alone own parts.0)), rows_fit ports stream (k + 1) ss parts.1)

module _ (net : PlainNet) (first : ℕ) where
  abbrev asked : StimulusCause → ℕ → List StreamText → List Asked
  asked cause k texts = flat_map (asked_in (length net.registers) (inputs_of net) first cause) (enumerate_from k texts)

  stream_fits : (k : ℕ) (text : StreamText) → first_fault (asked_in (length net.registers) (inputs_of net) first Steps (k, text)) ≡ None → first_fault (asked_in (length net.registers) (inputs_of net) first Initial (k, text)) ≡ None
      → first_fault (asked_in (length net.registers) (inputs_of net) first Bits (k, text)) ≡ None → StreamFits net first (stream_of (inputs_of net) text)
  stream_fits k text steps initial bits =
      let regs = length net.registers in
      let own = either_false (length text.steps == 0) (not (length text.steps == first)) (not_alone (asked_whole regs first Steps (k, text)) steps) in
      let right = from_not (are_bits regs text.initial) (not_alone (asked_whole regs first Initial (k, text)) initial) in
      record {
        initial = length-map text.initial (λ c. c == 49) ∙ as_many regs text.initial right;
        count = length-map text.steps (row_of (inputs_of net)) ∙ eqb-true (length text.steps) first (from_not _ own.1);
        rows = all_from _ _ (rows_fit (input_ports net) k 0 text.steps bits);
      }

  streams_fit : (k : ℕ) (texts : List StreamText) → first_fault (asked Steps k texts) ≡ None → first_fault (asked Initial k texts) ≡ None → first_fault (asked Bits k texts) ≡ None → AllByRecursion (StreamFits net first) (map (stream_of (inputs_of net)) texts)
  streams_fit k [] steps initial bits = tt
  streams_fit k (text ∷ texts) steps initial bits =
      let s = none_parts (asked_in (length net.registers) (inputs_of net) first Steps (k, text)) (asked Steps (k + 1) texts) steps in
      let i = none_parts (asked_in (length net.registers) (inputs_of net) first Initial (k, text)) (asked Initial (k + 1) texts) initial in
      let b = none_parts (asked_in (length net.registers) (inputs_of net) first Bits (k, text)) (asked Bits (k + 1) texts) bits in
      (stream_fits k text s.0 i.0 b.0, streams_fit (k + 1) texts s.1 i.1 b.1)

some_step : (registers : ℕ) (inputs : List Input) (texts : List StreamText) → 0 < length texts → first_fault (asked_of registers inputs texts Steps) ≡ None → 0 < first_steps texts
some_step registers inputs [] some h = absurd (omega arith)
some_step registers inputs (text ∷ texts) some h =
    let first = length text.steps in
    let parts = none_parts (asked_in registers inputs first Steps (0, text)) (flat_map (asked_in registers inputs first Steps) (enumerate_from 1 texts)) h in
    not_zero first (either_false (first == 0) (not (first == first)) (not_alone (asked_whole registers first Steps (0, text)) parts.0)).0

-- where nothing that is asked holds, the streams fit
pub fits_of : (net : PlainNet) (limit : Option ℕ) (texts : List StreamText) → first_fault (all_asked (length net.registers) (inputs_of net) limit texts) ≡ None → Fits net limit (map (stream_of (inputs_of net)) texts)
fits_of net limit texts none =
    let of = asked_of (length net.registers) (inputs_of net) texts in
    let count = none_parts (streams_asked limit texts ∷ []) (of Steps ++ (of Initial ++ (of Inputs ++ (of Bits ++ [])))) none in
    let steps = none_parts (of Steps) (of Initial ++ (of Inputs ++ (of Bits ++ []))) count.1 in
    let initial = none_parts (of Initial) (of Inputs ++ (of Bits ++ [])) steps.1 in
    let inputs = none_parts (of Inputs) (of Bits ++ []) initial.1 in
    let bits = none_parts (of Bits) [] inputs.1 in
    let asked = either_false (length texts == 0) (option_map_or (λ n. nat_lt n (length texts)) limit false) (not_alone (streams_asked limit texts) count.0) in
    let some = not_zero (length texts) asked.0 in
    let long : length (map (stream_of (inputs_of net)) texts) ≡ length texts = length-map texts (stream_of (inputs_of net)) in
    record {
      some_stream = subst (λ (n : ℕ). 0 < n) (sym long) some;
      within = subst (λ (n : ℕ). IfSome limit (λ most. n ≤ most)) (sym long) (not_above limit (length texts) asked.1);
      steps = first_steps texts;
      some_step = some_step (length net.registers) (inputs_of net) texts some steps.0;
      each = all_from _ _ (streams_fit net (first_steps texts) 0 texts steps.0 initial.0 bits.0);
    }

-- a tape in which nothing that is asked holds has a cycle, and each row has as many bits as the ports
module _ (net : PlainNet) (rows : Option ℕ) (cycles : List (List Member)) (none : first_fault (tape_asked (tape_inputs net) rows cycles) ≡ None) where
  abbrev of : StimulusCause → List Asked
  of cause = asked_cycles (tape_inputs net) cycles cause

  some_cycle : 0 < length cycles
  some_cycle =
      let count = none_parts (cycles_asked rows cycles ∷ []) (of Inputs ++ of Bits) none in
      not_zero (length cycles) (either_false (length cycles == 0) (option_map_or (λ n. not (length cycles == n)) rows false) (not_alone (cycles_asked rows cycles) count.0)).0

  pub rows_wide : (table : List (List Bool)) → table ≡ map (row_of (tape_inputs net)) cycles → (k : ℕ) (d : List Bool) → k < length table → length (get_or table k d) ≡ length (flat_map (λ p. p.bits) (tape_ports net))
  rows_wide table is =
      let count = none_parts (cycles_asked rows cycles ∷ []) (of Inputs ++ of Bits) none in
      let inputs = none_parts (of Inputs) (of Bits) count.1 in
      let wide = λ (table : List (List Bool)). (k : ℕ) (d : List Bool) → k < length table → length (get_or table k d) ≡ length (flat_map (λ p. p.bits) (tape_ports net)) in
      subst wide (sym is) (all_from (λ row. length row ≡ length (flat_map (λ p. p.bits) (tape_ports net))) (map (row_of (tape_inputs net)) cycles) (rows_fit (tape_ports net) 0 0 cycles inputs.1))

  pub first_wide : (table shown : List (List Bool)) → table ≡ map (row_of (tape_inputs net)) cycles → shown ≡ table → (first : List Bool) → first ≡ get_or shown 0 first → length first ≡ length (flat_map (λ p. p.bits) (tape_ports net))
  first_wide table shown is same first here =
      let long : length table ≡ length cycles = ap length is ∙ length-map cycles (row_of (tape_inputs net)) in
      let some : 0 < length cycles = some_cycle in
      ap length (here ∙ ap (λ (t : List (List Bool)). get_or t 0 first) same) ∙ rows_wide table is 0 first (omega arith)
