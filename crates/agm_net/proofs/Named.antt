-- The names of ports and of their bits, place by place.
use Rattle.std.proofs.Common.{◌≡◌, ◌≢◌, ℕ, ◌+◌, ◌-◌, ◌<◌, ◌≤◌, true, false, List, [], ◌∷◌, Some, length, get_or, drop, refl, ap, sym, ◌∙◌, add-one, arith}
use Rattle.std.specs.Prelude.{◌&&◌, nat_le}
use Rattle.std.specs.Int.{abs_diff}
use Rattle.std.proofs.Math.Seq.{drop-cons}
use Rattle.std.proofs.lemmas.List.{length-map, get_or-map, drop_all}
use Rattle.std.proofs.lemmas.List.FromFn.{get_or-range_with_len, get_or-map-range_with_len, length-map-range_with_len, length-range_with_len}
use Rattle.std.proofs.lemmas.Bool.{cases_Bool, leb-true, leb-false}
use Rattle.std.proofs.Math.Bool.{and-true}
use mathlib.Core.Logic.{⊎_elim}
use Rattle.agm_net.specs.Checks.{Texts, has_name, are_named, number_at}
use Rattle.agm_net.specs.Plain.{bit_names, select_name, range_numbers}
use Rattle.agm_net.specs.declared.port.Range.{Range}

-- bits that are named are as many as the names
pub named-length : (wires : Texts) (bits : List ℕ) (names : Texts) → are_named wires bits names ≡ true → length bits ≡ length names
named-length wires [] [] h = refl
named-length wires [] (n ∷ ns) h = absurd (cc)
named-length wires (b ∷ bs) [] h = absurd (cc)
named-length wires (b ∷ bs) (n ∷ ns) h =
    ⊎_elim
    (λ yes. let rest = rw yes at h in let more = named-length wires bs ns rest in cc)
    (λ no. absurd (let none = rw no at h in cc))
    (cases_Bool (has_name wires b n))

pub named-other_length : (wires : Texts) (bits : List ℕ) (names : Texts) → length bits ≢ length names → false ≡ are_named wires bits names
named-other_length wires bits names other =
    ⊎_elim
    (λ yes. absurd (other (named-length wires bits names yes)))
    (λ no. sym no)
    (cases_Bool (are_named wires bits names))

-- the bit at place i, and those behind it
pub named-step : (wires : Texts) (bits : List ℕ) (names : Texts) (i : ℕ) → i < length bits → i < length names
    → are_named wires (drop i bits) (drop i names) ≡ (has_name wires (get_or bits i 0) (get_or names i []) && are_named wires (drop (i + 1) bits) (drop (i + 1) names))
named-step wires bits names i in_bits in_names = rw (add-one, drop-cons bits i 0, drop-cons names i []) refl

-- one name
pub named-one : (wires : Texts) (bits : List ℕ) (name : List ℕ) → length bits ≡ 1 → are_named wires bits (name ∷ []) ≡ has_name wires (get_or bits 0 0) name
named-one wires [] name one = absurd (cc)
named-one wires (b ∷ []) name one = and-true _
named-one wires (b ∷ c ∷ bs) name one = absurd (omega arith)

pub named-end : (wires : Texts) (bits : List ℕ) (names : Texts) (i : ℕ) → length bits ≤ i → length names ≤ i → are_named wires (drop i bits) (drop i names) ≡ true
named-end wires bits names i past_bits past_names = rw (drop_all i bits past_bits, drop_all i names past_names) refl

-- the numbers of a range
length-numbers : (msb lsb : ℕ) → length (range_numbers msb lsb) ≡ abs_diff msb lsb + 1
length-numbers msb lsb =
    ⊎_elim
    (λ yes. let down = leb-true lsb msb yes in rw (yes, length-map-range_with_len) (omega arith))
    (λ no. let up = leb-false lsb msb no in rw (no, length-range_with_len) (omega arith))
    (cases_Bool (nat_le lsb msb))

number-at : (msb lsb i : ℕ) → i ≤ abs_diff msb lsb → get_or (range_numbers msb lsb) i 0 ≡ number_at msb lsb i
number-at msb lsb i within =
    ⊎_elim
    (λ yes. let down = leb-true lsb msb yes in rw yes (get_or-map-range_with_len (λ k. msb - k) 0 (msb - lsb + 1) i i 0 (omega arith) (omega arith)))
    (λ no. let up = leb-false lsb msb no in rw no (get_or-range_with_len msb (lsb - msb + 1) i 0 (omega arith)))
    (cases_Bool (nat_le lsb msb))

-- the names of a port's bits by its range
pub length-names : (name : List ℕ) (range : Range) → length (bit_names name (Some range)) ≡ abs_diff range.msb range.lsb + 1
length-names name range = length-map (range_numbers range.msb range.lsb) (select_name name) ∙ length-numbers range.msb range.lsb

pub name-at : (name : List ℕ) (range : Range) (i : ℕ) → i ≤ abs_diff range.msb range.lsb → get_or (bit_names name (Some range)) i [] ≡ select_name name (number_at range.msb range.lsb i)
name-at name range i within =
    get_or-map (select_name name) (range_numbers range.msb range.lsb) i 0 [] (omega (arith, length-numbers range.msb range.lsb))
    ∙ ap (select_name name) (number-at range.msb range.lsb i within)
