-- Rows that are given to the ports of a masked net, each as long as it is to be.
use Rattle.std.proofs.Common.{◌≡◌, ◌<◌, ◌≤◌, ◌+◌, ◌++◌, ℕ, zero, suc, Bool, true, false, not, cond, List, [], ◌∷◌, Some, map, length, count_by, flat_map, refl, sym, ap, ap₂, ◌∙◌, inl, inr, subst, arith}
use Rattle.std.specs.List.{AllByRecursion, range_with_len}
use Rattle.std.proofs.lemmas.Bool.{cases_eq}
use Rattle.std.proofs.lemmas.List.{length-map, length-append, map-append}
use Rattle.agm_net.specs.Formula.{xor}
use Rattle.agm_net.specs.Role.{share_name}
use Rattle.agm_net.specs.Trace.{Row}
use Rattle.agm_net.specs.declared.port.Port.{Port}
use Rattle.agm_net.specs.declared.port.Way.TheVariants.{Input}
use Rattle.agm_net.proofs.Lists.{all_joined, count_yes, count_no}
use Rattle.agm_net.proofs.Named.{length-names}
use Rattle.share_wiring.specs.Recombine.{xor_rows, recombined_rows, is_shared}
use Rattle.share_wiring.specs.Schedule.{chosen}
use Rattle.share_wiring.specs.Shape.{Header, header_of, input_of_width, indices, masked_headers}
use Rattle.share_wiring.specs.declared.report.Report.{Report}
use Rattle.share_wiring.proofs.Lists.{all_front, all_back}
use Rattle.share_wiring.proofs.ShapePorts.{width}

abbrev pub resize : ℕ → Row → Row
resize zero xs = []
resize (suc n) [] = false ∷ resize n []
resize (suc n) (x ∷ xs) = x ∷ resize n xs

pub resize_count : (n : ℕ) (xs : Row) → length (resize n xs) ≡ n
resize_count zero xs = refl
resize_count (suc n) [] = ap suc (resize_count n [])
resize_count (suc n) (x ∷ xs) = ap suc (resize_count n xs)

pub resize_same : (n : ℕ) (xs : Row) → length xs ≡ n → resize n xs ≡ xs
resize_same zero [] e = refl
resize_same zero (x ∷ xs) e = absurd (omega arith)
resize_same (suc n) [] e = absurd (omega arith)
resize_same (suc n) (x ∷ xs) e = ap (λ ys. x ∷ ys) (resize_same n xs (omega arith))

xor_false : (x : Bool) → xor x false ≡ x
xor_false false = refl
xor_false true = refl

xor_nothing : (n : ℕ) (xs : Row) → length xs ≡ n → xor_rows xs (resize n []) ≡ xs
xor_nothing zero [] e = refl
xor_nothing zero (x ∷ xs) e = absurd (omega arith)
xor_nothing (suc n) [] e = absurd (omega arith)
xor_nothing (suc n) (x ∷ xs) e = ap₂ (λ y ys. y ∷ ys) (xor_false x) (xor_nothing n xs (omega arith))

-- share i of a row of n bits: all of it in share 0, and nothing in the others
abbrev pub first_alone : ℕ → ℕ → Row → Row
first_alone n zero xs = xs
first_alone n (suc i) xs = resize n []

pub first_count : (n i : ℕ) (xs : Row) → length xs ≡ n → length (first_alone n i xs) ≡ n
first_count n zero xs long = long
first_count n (suc i) xs long = resize_count n []

pub first_recombines : (d n : ℕ) (row : ℕ → Row) (xs : Row) → length xs ≡ n → ((i : ℕ) → i ≤ d → row i ≡ first_alone n i xs) → recombined_rows d row ≡ xs
first_recombines zero n row xs long is = is 0 (omega arith)
first_recombines (suc d) n row xs long is = ap₂ xor_rows (first_recombines d n row xs long (λ i le. is i (omega arith))) (is (suc d) (omega arith)) ∙ xor_nothing n xs long

-- ---- how many values are chosen

pub chosen_secret : (ss : List Bool) (vs : Row) → length vs ≡ length ss → length (chosen true ss vs) ≡ count_by (λ s. s) ss
chosen_secret [] [] e = refl
chosen_secret [] (v ∷ vs) e = absurd (omega arith)
chosen_secret (s ∷ ss) [] e = absurd (omega arith)
chosen_secret (true ∷ ss) (v ∷ vs) e = let rest = chosen_secret ss vs (omega arith) in let one = count_yes (λ s. s) true ss refl in omega (arith, rest, one)
chosen_secret (false ∷ ss) (v ∷ vs) e = let rest = chosen_secret ss vs (omega arith) in let none = count_no (λ s. s) false ss refl in omega (arith, rest, none)

pub chosen_public : (ss : List Bool) (vs : Row) → length vs ≡ length ss → length (chosen false ss vs) ≡ count_by not ss
chosen_public [] [] e = refl
chosen_public [] (v ∷ vs) e = absurd (omega arith)
chosen_public (s ∷ ss) [] e = absurd (omega arith)
chosen_public (true ∷ ss) (v ∷ vs) e = let rest = chosen_public ss vs (omega arith) in let none = count_no not true ss refl in omega (arith, rest, none)
chosen_public (false ∷ ss) (v ∷ vs) e = let rest = chosen_public ss vs (omega arith) in let one = count_yes not false ss refl in omega (arith, rest, one)

-- ---- lists of lists

-- what holds of each item of each list holds of each of their items
pub all_flat : {X Y : Type 0} (P : Y → Type 0) (f : X → List Y) (xs : List X) → AllByRecursion (λ x. AllByRecursion P (f x)) xs → AllByRecursion P (flat_map f xs)
all_flat P f [] h = tt
all_flat P f (x ∷ xs) h = all_joined P (f x) (flat_map f xs) h.0 (all_flat P f xs h.1)

-- what holds of all holds of some
pub always : {X : Type 0} (P : X → Type 0) → ((x : X) → P x) → (xs : List X) → AllByRecursion P xs
always P h [] = tt
always P h (x ∷ xs) = (h x, always P h xs)

-- and the other way round
pub one_of_flat : {X Y : Type 0} (P : Y → Type 0) (f : X → List Y) (xs : List X) → AllByRecursion P (flat_map f xs) → AllByRecursion (λ x. AllByRecursion P (f x)) xs
one_of_flat P f [] h = tt
one_of_flat P f (x ∷ xs) h = (all_front P (f x) (flat_map f xs) h, one_of_flat P f xs (all_back P (f x) (flat_map f xs) h))

pub one_number : (P : ℕ → Type 0) (i a n : ℕ) → a ≤ i → i < a + n → AllByRecursion P (range_with_len a n) → P i
one_number P i a zero le lt h = absurd (omega arith)
one_number P i a (suc n) le lt h =
    elim (cases_eq a i) [
      | inl here ↦ subst P here h.0
      | inr other ↦ one_number P i (a + 1) n (omega (arith, le, other)) (omega arith) h.1
    ]

pub flat_map_same : {X Y : Type 0} (f g : X → List Y) (xs : List X) → ((x : X) → f x ≡ g x) → flat_map f xs ≡ flat_map g xs
flat_map_same f g [] h = refl
flat_map_same f g (x ∷ xs) h = ap₂ (λ ys zs. ys ++ zs) (h x) (flat_map_same f g xs h)

-- ---- ports with their rows

abbrev pub Entry : Type 0
Entry = Header × Row

abbrev pub header_in : Entry → Header
header_in e = e.0

-- an input port of n bits, no port where n is 0
abbrev pub wide_entries : List ℕ → ℕ → Row → List Entry
wide_entries name zero row = []
wide_entries name (suc n) row = (record { name = name; way = Input; range = Some (record { msb = n; lsb = 0 }) }, row) ∷ []

pub wide_headers : (name : List ℕ) (n : ℕ) (row : Row) → map header_in (wide_entries name n row) ≡ input_of_width name n
wide_headers name zero row = refl
wide_headers name (suc n) row = refl

pub wide_count : (n : ℕ) → width (Some (record { msb = n; lsb = 0 })) ≡ suc n
wide_count n = let long = length-names [] (record { msb = n; lsb = 0 }) in omega (arith, long)

-- the ports of a port of the original
abbrev pub share_entry : (ℕ → Bool) → Port → ℕ → Entry
share_entry bit p i = (record { name = share_name i p.name; way = p.way; range = p.range }, first_alone (length p.bits) i (map bit p.bits))

abbrev pub masked_entries : Report → (ℕ → Bool) → Port → List Entry
masked_entries report bit p = cond (is_shared report p.name) (map (share_entry bit p) (indices report.order)) ((header_of p, map bit p.bits) ∷ [])

share_headers : (bit : ℕ → Bool) (p : Port) (is : List ℕ) → map header_in (map (share_entry bit p) is) ≡ map (λ i. record { name = share_name i p.name; way = p.way; range = p.range }) is
share_headers bit p [] = refl
share_headers bit p (i ∷ is) = ap (λ hs. record { name = share_name i p.name; way = p.way; range = p.range } ∷ hs) (share_headers bit p is)

pub masked_entry_headers : (report : Report) (bit : ℕ → Bool) (p : Port) → map header_in (masked_entries report bit p) ≡ masked_headers report p
masked_entry_headers report bit p = by (is_shared report p.name)
  where
    by : (b : Bool) → map header_in (cond b (map (share_entry bit p) (indices report.order)) ((header_of p, map bit p.bits) ∷ []))
        ≡ cond b (map (λ i. record { name = share_name i p.name; way = p.way; range = p.range }) (indices report.order)) (header_of p ∷ [])
    by true = share_headers bit p (indices report.order)
    by false = refl

-- ---- bits for the wires of ports

abbrev pub all_bits : List Port → List ℕ
all_bits ports = flat_map (λ q. q.bits) ports

abbrev pub wanted : List Port → List Entry → Row
wanted [] es = []
wanted (q ∷ qs) [] = resize (length q.bits) [] ++ wanted qs []
wanted (q ∷ qs) (e ∷ es) = resize (length q.bits) e.1 ++ wanted qs es

wanted_more : (q : Port) (qs : List Port) (row rest : Row) → length rest ≡ length (all_bits qs) → length (resize (length q.bits) row ++ rest) ≡ length (all_bits (q ∷ qs))
wanted_more q qs row rest long =
    length-append (resize (length q.bits) row) rest ∙ (ap₂ (λ m n. m + n) (resize_count (length q.bits) row) long ∙ sym (length-append q.bits (all_bits qs)))

pub wanted_count : (ports : List Port) (es : List Entry) → length (wanted ports es) ≡ length (all_bits ports)
wanted_count [] es = refl
wanted_count (q ∷ qs) [] = wanted_more q qs [] (wanted qs []) (wanted_count qs [])
wanted_count (q ∷ qs) (e ∷ es) = wanted_more q qs e.1 (wanted qs es) (wanted_count qs es)

cut_rows : (xs us ys vs : Row) → length xs ≡ length us → xs ++ ys ≡ us ++ vs → (xs ≡ us) × (ys ≡ vs)
cut_rows [] [] ys vs long e = (refl, e)
cut_rows [] (u ∷ us) ys vs long e = absurd (omega arith)
cut_rows (x ∷ xs) [] ys vs long e = absurd (omega arith)
cut_rows (x ∷ xs) (u ∷ us) ys vs long e =
    let head : x ≡ u = cc in
    let tail : xs ++ ys ≡ us ++ vs = cc in
    let rest = cut_rows xs us ys vs (omega arith) tail in
    (ap₂ (λ z zs. z ∷ zs) head rest.0, rest.1)

pub cut_first : (f : ℕ → Bool) (q : Port) (qs : List Port) (e : Entry) (es : List Entry) → map f (all_bits (q ∷ qs)) ≡ wanted (q ∷ qs) (e ∷ es)
    → (map f q.bits ≡ resize (length q.bits) e.1) × (map f (all_bits qs) ≡ wanted qs es)
cut_first f q qs e es is =
    cut_rows (map f q.bits) (resize (length q.bits) e.1) (map f (all_bits qs)) (wanted qs es) (length-map q.bits f ∙ sym (resize_count (length q.bits) e.1)) (sym (map-append f q.bits (all_bits qs)) ∙ is)
