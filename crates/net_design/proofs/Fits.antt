-- The bits of a net's ports are those of their ranges.
use Rattle.std.proofs.Common.{◌≡◌, ◌<◌, ◌+◌, ℕ, suc, List, [], ◌∷◌, length, map, Option, Some, None, slice_get, refl, sym, ap, ◌∙◌, inl, inr, arith}
use Rattle.std.specs.Prelude.{nat_le}
use Rattle.std.specs.Int.{abs_diff}
use Rattle.std.specs.List.{AllByRecursion}
use Rattle.std.proofs.lemmas.Bool.{cases_Bool, leb-true, leb-false}
use Rattle.std.proofs.lemmas.List.{length-map}
use Rattle.std.proofs.lemmas.List.FromFn.{length-map-range_with_len, length-range_with_len}
use Rattle.agm_net.specs.Plain.{PlainNet, bit_names, range_numbers, select_name}
use Rattle.agm_net.specs.WellFormed.{WellFormed}
use Rattle.agm_net.specs.declared.port.Range.{Range}
use Rattle.net_design.specs.Sites.{IsWithin, BitsFit}

all_by_place : {X : Type 0} (P : X → Type 0) (xs : List X) → ((k : ℕ) (x : X) → slice_get xs k ≡ Some x → P x) → AllByRecursion P xs
all_by_place P [] f = tt
all_by_place P (x ∷ xs) f = (f 0 x refl, all_by_place P xs (λ k y e. f (suc k) y e))

-- a range has as many numbers as it says
pub numbers_long : (msb lsb : ℕ) → length (range_numbers msb lsb) ≡ abs_diff msb lsb + 1
numbers_long msb lsb =
    elim (cases_Bool (nat_le lsb msb)) [
      | inl le ↦ let down = leb-true lsb msb le in rw (le, length-map-range_with_len) (omega arith)
      | inr gt ↦ let up = leb-false lsb msb gt in rw (gt, length-range_with_len) (omega arith)
    ]

-- as many bits as names are those of the range
within : (range : Option Range) (name : List ℕ) (i n : ℕ) → n ≡ length (bit_names name range) → i < n → IsWithin range i
within None name i n e lt = tt
within (Some r) name i n e lt =
    let long = numbers_long r.msb r.lsb in
    let same = length-map (range_numbers r.msb r.lsb) (select_name name) in omega arith

-- the bits of each port of a net are those of its range
pub bits_fit : (net : PlainNet) → WellFormed net → AllByRecursion BitsFit net.ports
bits_fit net formed =
    all_by_place BitsFit net.ports (λ k p at i lt.
    let named = ap length (formed.ports_right.bits_named k p at) in
    let bits : length (map (slice_get net.wires) p.bits) ≡ length p.bits = length-map p.bits (slice_get net.wires) in
    let names : length (map (λ name. Some name) (bit_names p.name p.range)) ≡ length (bit_names p.name p.range) = length-map (bit_names p.name p.range) (λ name. Some name) in
    within p.range p.name i (length p.bits) (sym bits ∙ (named ∙ names)) lt)
