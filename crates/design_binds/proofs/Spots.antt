-- The bits of declared names stand at their places.
use Rattle.std.proofs.Common.{◌≡◌, ◌≤◌, ◌<◌, ◌+◌, ◌-◌, ◌||◌, ℕ, zero, suc, Bool, true, false, List, [], ◌∷◌, ◌++◌, length, map, Option, Some, None, refl, sym, ap, ◌∙◌, subst, inl, inr, arith, zero-add}
use Rattle.std.specs.Prelude.{nat_le, position}
use Rattle.std.specs.List.{AllByRecursion, flat_map, range_with_len, position_or_len}
use Rattle.std.specs.Str.{bytes_eq}
use Rattle.std.proofs.lemmas.Bool.{cases_Bool, leb-true, leb-false, le-leb, or_parts, and_parts, eqb-true}
use Rattle.std.proofs.lemmas.List.{length-map}
use Rattle.std.proofs.lemmas.List.FromFn.{length-map-range_with_len, length-range_with_len}
use Rattle.agm_net.specs.Plain.{range_numbers}
use Rattle.agm_net.specs.declared.port.Range.{Range}
use Rattle.net_design.specs.Bits.{Bit}
use Rattle.module_rules.specs.Items.{is_among}
use Rattle.net_design.specs.Bits.{bits_of, same_index, same_bit}
use Rattle.design_binds.proofs.Among.{Apart, same_names, name_itself, swapped_test}
use Rattle.form_bits.specs.Forms.{Look, spot_at, look_in, range_width, lies_between, has_bit, distance, form_fault, form_width, form_bits, whole_fault, bit_fault, spot_width, whole_bits, part_bits}
use Rattle.form_bits.specs.declared.types.Bit.TheVariants as formed
use Rattle.form_bits.specs.declared.types.Spot.{Spot}
use Rattle.verilog_reader.specs.Plain.{PlainForm}
use Rattle.module_outlines.specs.Outlines.{Wide, wide_name, spots_from}
use Rattle.net_design.specs.Bits.{form_at}
use Rattle.design_binds.proofs.Places.{shift, position_yes, position_no, next_yes, next_no}

-- a bit of a name with this spot is wire k
abbrev pub Located : Option Spot → Option ℕ → ℕ → Type 0
Located None i k = Prim.⊥
Located (Some s) None k = (s.range ≡ None) × (s.first ≡ k)
Located (Some s) (Some j) k = (has_bit s.range j ≡ true) × (s.first + distance s.range j ≡ k)

abbrev pub IsAt : Look → ℕ → Bit → Type 0
IsAt look k b = Located (look b.name) b.index k

-- each of these bits is the wire of its place, from place k on
abbrev pub AllAt : (ℕ → Bit → Type 0) → ℕ → List Bit → Type 0
AllAt P k [] = Unit {0}
AllAt P k (b ∷ bs) = P k b × AllAt P (k + 1) bs

joined : (P : ℕ → Bit → Type 0) (k : ℕ) (xs ys : List Bit) → AllAt P k xs → AllAt P (k + length xs) ys → AllAt P k (xs ++ ys)
joined P k [] ys h g = let e : k + 0 ≡ k = omega arith in subst (λ j. AllAt P j ys) e g
joined P k (x ∷ xs) ys h g =
    let e : k + suc (length xs) ≡ (k + 1) + length xs = omega arith in
    (h.0, joined P (k + 1) xs ys h.1 (subst (λ j. AllAt P j ys) e g))

moved : (P Q : ℕ → Bit → Type 0) (R : Bit → Type 0) → ((k : ℕ) (b : Bit) → R b → P k b → Q k b) → (k : ℕ) (xs : List Bit) → AllByRecursion R xs → AllAt P k xs → AllAt Q k xs
moved P Q R f k [] r h = tt
moved P Q R f k (x ∷ xs) r h = (f k x r.0 h.0, moved P Q R f (k + 1) xs r.1 h.1)

index_same : (i j : Option ℕ) → same_index i j ≡ true → i ≡ j
index_same None None h = refl
index_same None (Some k) h = absurd (cc)
index_same (Some j) None h = absurd (cc)
index_same (Some j) (Some k) h = ap (λ n. Some n) (eqb-true j k h)

-- bits that the test finds equal are equal
pub bit_same : (b c : Bit) → same_bit b c ≡ true → b ≡ c
bit_same b c h =
    let p = and_parts (bytes_eq b.name c.name) (same_index b.index c.index) h in
    let name = same_names b.name c.name p.0 in
    let index = index_same b.index c.index p.1 in
    ap (λ n. record { name = n; index = b.index }) name ∙ ap (λ i. record { name = c.name; index = i }) index

-- the bit that is found among them is at the place of its first
pub found_at : (P : ℕ → Bit → Type 0) (k : ℕ) (xs : List Bit) (b : Bit) → AllAt P k xs → position_or_len (same_bit b) xs < length xs → P (k + position_or_len (same_bit b) xs) b
found_at P k [] b h lt = absurd (omega arith)
found_at P k (c ∷ cs) b h lt =
    elim (cases_Bool (same_bit b c)) [
      | inl e ↦
          let here = next_yes (same_bit b) c cs e in
          let place : k ≡ k + position_or_len (same_bit b) (c ∷ cs) = omega arith in
          subst (λ j. P j b) place (subst (P k) (sym (bit_same b c e)) h.0)
      | inr e ↦
          let later = next_no (same_bit b) c cs e in
          let place : (k + 1) + position_or_len (same_bit b) cs ≡ k + position_or_len (same_bit b) (c ∷ cs) = omega arith in
          subst (λ j. P j b) place (found_at P (k + 1) cs b h.1 (omega arith))
    ]

-- the bits of one name

abbrev select : List ℕ → ℕ → Bit
select name k = record { name = name; index = Some k }

run_at : (P : ℕ → Bit → Type 0) (name : List ℕ) (f : ℕ → ℕ) (k a n : ℕ) → ((i : ℕ) → a ≤ i → i < a + n → P (k + i) (select name (f i))) → AllAt P (k + a) (map (λ j. select name j) (map f (range_with_len a n)))
run_at P name f k a zero h = tt
run_at P name f k a (suc n) h =
    let e : k + (a + 1) ≡ k + a + 1 = omega arith in
    (h a (omega arith) (omega arith), subst (λ j. AllAt P j (map (λ i. select name i) (map f (range_with_len (a + 1) n)))) e (run_at P name f k (a + 1) n (λ i le lt. h i (omega arith) (omega arith))))

-- numbers that go up, as those of their places
upward : (a b n : ℕ) → map (λ i. a + i) (range_with_len b n) ≡ range_with_len (a + b) n
upward a b zero = refl
upward a b (suc n) = let e : a + (b + 1) ≡ a + b + 1 = omega arith in ap (λ xs. (a + b) ∷ xs) (upward a (b + 1) n ∙ ap (λ k. range_with_len k n) e)

from_start : (a n : ℕ) → map (λ i. a + i) (range_with_len 0 n) ≡ range_with_len a n
from_start a n = let e : a + 0 ≡ a = omega arith in upward a 0 n ∙ ap (λ k. range_with_len k n) e

between_down : (msb lsb i : ℕ) → lsb ≤ msb → i < msb - lsb + 1 → (lies_between msb lsb (msb - i) || lies_between lsb msb (msb - i)) ≡ true
between_down msb lsb i le lt = rw (le-leb lsb (msb - i) (omega arith), le-leb (msb - i) msb (omega arith)) refl

or_second : (a b : Bool) → b ≡ true → (a || b) ≡ true
or_second true b h = refl
or_second false b h = h

between_up : (msb lsb i : ℕ) → i < lsb - msb + 1 → msb < lsb → (lies_between msb lsb (msb + i) || lies_between lsb msb (msb + i)) ≡ true
between_up msb lsb i lt up =
    or_second (lies_between msb lsb (msb + i)) (lies_between lsb msb (msb + i)) (rw (le-leb msb (msb + i) (omega arith), le-leb (msb + i) lsb (omega arith)) refl)

abbrev selects : List ℕ → List ℕ → List Bit
selects name ks = map (λ k. select name k) ks

range_at : (name : List ℕ) (r : Range) (first : ℕ) → AllAt (λ k b. Located (Some (record { first = first; range = Some r })) b.index k) first (selects name (range_numbers r.msb r.lsb))
range_at name r first =
    let P = λ (k : ℕ) (b : Bit). Located (Some (record { first = first; range = Some r })) b.index k in
    let start : first + 0 ≡ first = omega arith in
    elim (cases_Bool (nat_le r.lsb r.msb)) [
      | inl e ↦
          let down = leb-true r.lsb r.msb e in
          rw e (subst (λ j. AllAt P j (selects name (map (λ k. r.msb - k) (range_with_len 0 (r.msb - r.lsb + 1))))) start
          (run_at P name (λ k. r.msb - k) first 0 (r.msb - r.lsb + 1) (λ i le lt. (between_down r.msb r.lsb i down (omega arith), omega arith))))
      | inr e ↦
          let up = leb-false r.lsb r.msb e in
          rw e (subst (λ ks. AllAt P first (selects name ks)) (from_start r.msb (r.lsb - r.msb + 1))
          (subst (λ j. AllAt P j (selects name (map (λ i. r.msb + i) (range_with_len 0 (r.lsb - r.msb + 1))))) start
          (run_at P name (λ i. r.msb + i) first 0 (r.lsb - r.msb + 1) (λ i le lt. (between_up r.msb r.lsb i (omega arith) up, omega arith)))))
    ]

name_at : (name : List ℕ) (range : Option Range) (first : ℕ) → AllAt (λ k b. Located (Some (record { first = first; range = range })) b.index k) first (bits_of name range)
name_at name None first = ((refl, refl), tt)
name_at name (Some r) first = range_at name r first

-- as many bits as the range is wide
pub bits_long : (name : List ℕ) (range : Option Range) → length (bits_of name range) ≡ range_width range
bits_long name None = refl
bits_long name (Some r) =
    length-map (range_numbers r.msb r.lsb) (λ k. select name k)
    ∙ elim (cases_Bool (nat_le r.lsb r.msb)) [
      | inl le ↦ let down = leb-true r.lsb r.msb le in rw (le, length-map-range_with_len) (omega arith)
      | inr gt ↦ let up = leb-false r.lsb r.msb gt in rw (gt, length-range_with_len) (omega arith)
    ]

-- the bits of names

abbrev pub wide_scope : Wide → List Bit
wide_scope w = bits_of w.name w.range

abbrev pub names_of : List Wide → List (List ℕ)
names_of ws = map wide_name ws

abbrev pub look_from : ℕ → List Wide → Look
look_from first ws = look_in (names_of ws) (spots_from first ws)

spot_next : (s : Spot) (ss : List Spot) (o : Option ℕ) → spot_at (s ∷ ss) (shift o) ≡ spot_at ss o
spot_next s ss None = refl
spot_next s ss (Some k) = refl

look_here : (first : ℕ) (w : Wide) (ws : List Wide) (n : List ℕ) → bytes_eq w.name n ≡ true → look_from first (w ∷ ws) n ≡ Some (record { first = first; range = w.range })
look_here first w ws n e = ap (spot_at (spots_from first (w ∷ ws))) (position_yes (λ m. bytes_eq m n) w.name (names_of ws) e)

look_on : (first : ℕ) (w : Wide) (ws : List Wide) (n : List ℕ) → bytes_eq w.name n ≡ false → look_from first (w ∷ ws) n ≡ look_from (first + range_width w.range) ws n
look_on first w ws n e =
    ap (spot_at (spots_from first (w ∷ ws))) (position_no (λ m. bytes_eq m n) w.name (names_of ws) e)
    ∙ spot_next (record { first = first; range = w.range }) (spots_from (first + range_width w.range) ws) (position (λ m. bytes_eq m n) (names_of ws))

all_selects : (Q : List ℕ → Type 0) (name : List ℕ) (ks : List ℕ) → Q name → AllByRecursion (λ b. Q b.name) (selects name ks)
all_selects Q name [] h = tt
all_selects Q name (k ∷ ks) h = (h, all_selects Q name ks h)

all_named : (Q : List ℕ → Type 0) (name : List ℕ) (range : Option Range) → Q name → AllByRecursion (λ b. Q b.name) (bits_of name range)
all_named Q name None h = (h, tt)
all_named Q name (Some r) h = all_selects Q name (range_numbers r.msb r.lsb) h

all_joined : (Q : Bit → Type 0) (xs ys : List Bit) → AllByRecursion Q xs → AllByRecursion Q ys → AllByRecursion Q (xs ++ ys)
all_joined Q [] ys h g = g
all_joined Q (x ∷ xs) ys h g = (h.0, all_joined Q xs ys h.1 g)

-- no bit of these names has another name
others_named : (n : List ℕ) (ws : List Wide) → is_among (names_of ws) n ≡ false → AllByRecursion (λ b. bytes_eq n b.name ≡ false) (flat_map wide_scope ws)
others_named n [] h = tt
others_named n (w ∷ ws) h =
    let parts = or_parts (bytes_eq w.name n) (is_among (names_of ws) n) h in
    all_joined (λ b. bytes_eq n b.name ≡ false) (wide_scope w) (flat_map wide_scope ws)
    (all_named (λ m. bytes_eq n m ≡ false) w.name w.range (swapped_test n w.name ∙ parts.0)) (others_named n ws parts.1)

-- each bit of names that differ is at its place
pub scope_at : (ws : List Wide) (first : ℕ) → Apart (names_of ws) → AllAt (IsAt (look_from first ws)) first (flat_map wide_scope ws)
scope_at [] first a = tt
scope_at (w ∷ ws) first a =
    let spot : Spot = record { first = first; range = w.range } in
    let rest = flat_map wide_scope ws in
    let next = first + range_width w.range in
    joined (IsAt (look_from first (w ∷ ws))) first (wide_scope w) rest
    (moved (λ k b. Located (Some spot) b.index k) (IsAt (look_from first (w ∷ ws))) (λ b. bytes_eq w.name b.name ≡ true)
    (λ k b e h. subst (λ o. Located o b.index k) (sym (look_here first w ws b.name e)) h) first (wide_scope w)
    (all_named (λ m. bytes_eq w.name m ≡ true) w.name w.range (name_itself w.name)) (name_at w.name w.range first))
    (subst (λ j. AllAt (IsAt (look_from first (w ∷ ws))) j rest) (sym (ap (λ n. first + n) (bits_long w.name w.range)))
    (moved (IsAt (look_from next ws)) (IsAt (look_from first (w ∷ ws))) (λ b. bytes_eq w.name b.name ≡ false)
    (λ k b e h. subst (λ o. Located o b.index k) (sym (look_on first w ws b.name e)) h) next rest (others_named w.name ws a.0) (scope_at ws next a.1)))

-- what a form of one bit is where it is wire k
pub record IsBound (look : Look) (f : PlainForm) (k : ℕ) : Type 0 where
  pub known : form_fault look f ≡ None
  pub single : form_width look f ≡ 1
  pub wire : form_bits look 0 f ≡ formed.Wire k ∷ []

abbrev Whole : List ℕ → Option Spot → ℕ → Type 0
Whole n o k = (whole_fault n o ≡ None) × (spot_width o ≡ 1) × (whole_bits 0 o ≡ formed.Wire k ∷ [])

whole_bound : (n : List ℕ) (o : Option Spot) (k : ℕ) → Located o None k → Whole n o k
whole_bound n None k h = absurd h
whole_bound n (Some s) k h =
    let width : range_width s.range ≡ 1 = ap range_width h.0 in
    let place : 0 + s.first ≡ k = zero-add s.first ∙ h.1 in
    (refl, width, ap (λ w. map (λ j. formed.Wire j) (range_with_len (0 + s.first) w)) width ∙ ap (λ j. formed.Wire j ∷ []) place)

abbrev Single : List ℕ → ℕ → Option Spot → ℕ → Type 0
Single n j o k = (bit_fault n j o ≡ None) × (part_bits 0 j 1 o ≡ formed.Wire k ∷ [])

single_bound : (n : List ℕ) (j : ℕ) (o : Option Spot) (k : ℕ) → Located o (Some j) k → Single n j o k
single_bound n j None k h = absurd h
single_bound n j (Some s) k h =
    let place : 0 + s.first + distance s.range j ≡ k = omega (arith, h.1) in
    (rw (h.0) refl, ap (λ w. formed.Wire w ∷ []) place)

pub bound_at : (look : Look) (name : List ℕ) (index : Option ℕ) (k : ℕ) → Located (look name) index k → IsBound look (form_at name index) k
bound_at look name None k h = let w = whole_bound name (look name) k h in record { known = w.0; single = w.1; wire = w.2 }
bound_at look name (Some j) k h = let w = single_bound name j (look name) k h in record { known = w.0; single = refl; wire = w.1 }
