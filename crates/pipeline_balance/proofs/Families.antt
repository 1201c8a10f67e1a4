-- Families of names: where those of two ports' names and bits differ, the ports stand apart.
use Rattle.std.proofs.Common.{◌≡◌, ◌≢◌, ◌<◌, ◌≤◌, ◌+◌, ◌^◌, ◌==◌, ◌&&◌, ◌++◌, ℕ, zero, suc, Bool, true, false, cond, List, [], ◌∷◌, Option, Some, None, map, flat_map, get_or, codes, refl, sym, ap, subst, inl, ◌∙◌, arith, append_assoc, append-nil}
use Rattle.std.specs.Prelude.{nat_eq}
use Rattle.std.specs.List.{AllByRecursion, starts_with, range_with_len}
use Rattle.std.specs.Fmt.{decimal}
use Rattle.agm_net.specs.Plain.{bit_names, select_name, range_numbers}
use Rattle.agm_net.specs.Role.{share_name, state_name}
use Rattle.agm_net.specs.declared.port.Range.{Range}
use Rattle.agm_net.specs.declared.port.Way.{Way}
use Rattle.agm_net.specs.declared.port.Way.TheVariants.{Input}
use Rattle.agm_net.proofs.Lists.{all_from, all_joined}
use Rattle.agm_net.proofs.NameCuts.{EndsNumber, cut_number, bracket_ends}
use Rattle.share_wiring.specs.Built.{IsNew}
use Rattle.share_wiring.specs.Shape.{Header, input_of_width}
use Rattle.share_wiring.proofs.DrivenRows.{all_flat}
use Rattle.share_wiring.proofs.Names.{names_apart}
use Rattle.pipeline_balance.specs.Apart.{Apart, AreApart}
use Rattle.pipeline_balance.specs.Ports.{header_bits}

-- ---- lists

-- what holds of each image
pub all_images : {X Y : Type 0} (P : Y → Type 0) (f : X → Y) (xs : List X) → AllByRecursion (λ x. P (f x)) xs → AllByRecursion P (map f xs)
all_images P f [] h = tt
all_images P f (x ∷ xs) h = (h.0, all_images P f xs h.1)

-- what holds of numbers in a row
pub all_numbers : (P : ℕ → Type 0) (a n : ℕ) → ((i : ℕ) → a ≤ i → i < a + n → P i) → AllByRecursion P (range_with_len a n)
all_numbers P a zero h = tt
all_numbers P a (suc n) h = (h a (omega arith) (omega arith), all_numbers P (a + 1) n (λ i le lt. h i (omega arith) (omega arith)))

-- what holds of each item of whichever list is chosen
pub all_chosen : {X : Type 0} (P : X → Type 0) (b : Bool) (xs ys : List X) → (b ≡ true → AllByRecursion P xs) → (b ≡ false → AllByRecursion P ys) → AllByRecursion P (cond b xs ys)
all_chosen P true xs ys first second = first refl
all_chosen P false xs ys first second = second refl

-- ---- families

-- a port whose name and whose bits' names are in a family
abbrev pub IsOf : (List ℕ → Type 0) → Header → Type 0
IsOf F h = F h.name × AllByRecursion F (header_bits h)

pub of_wider : (F G : List ℕ → Type 0) → ((name : List ℕ) → F name → G name) → (h : Header) → IsOf F h → IsOf G h
of_wider F G wider h of = (wider h.name of.0, all_from F G wider (header_bits h) of.1)

-- names of two families that have nothing in common
pub none_common : (F G : List ℕ → Type 0) → ((a b : List ℕ) → F a → G b → a ≢ b) → (xs ys : List (List ℕ)) → AllByRecursion F xs → AllByRecursion G ys → AllByRecursion (IsNew xs) ys
none_common F G differ xs ys fs gs = all_from G (IsNew xs) (λ b in_g. all_from F (λ a. a ≢ b) (λ a in_f. differ a b in_f in_g) xs fs) ys gs

pub apart_families : (F G : List ℕ → Type 0) → ((a b : List ℕ) → F a → G b → a ≢ b) → (g h : Header) → IsOf F g → IsOf G h → Apart g h
apart_families F G differ g h f i = record { names = differ g.name h.name f.0 i.0; bits = none_common F G differ (header_bits g) (header_bits h) f.1 i.1 }

-- what holds of the names of bits by that of their port
pub each_select : (F : List ℕ → Type 0) (name : List ℕ) (range : Option Range) → F name → ((k : ℕ) → F (select_name name k)) → AllByRecursion F (bit_names name range)
each_select F name None own selects = (own, tt)
each_select F name (Some r) own selects = all_selects (range_numbers r.msb r.lsb)
  where
    all_selects : (numbers : List ℕ) → AllByRecursion F (map (select_name name) numbers)
    all_selects [] = tt
    all_selects (k ∷ ks) = (selects k, all_selects ks)

pub is_of : (F : List ℕ → Type 0) (h : Header) → F h.name → ((k : ℕ) → F (select_name h.name k)) → IsOf F h
is_of F h own selects = (own, each_select F h.name h.range own selects)

-- ---- the classes of names: 6 the clock, 5 the load signal, 4 random bits, 3 public and 2 secret initial values, 1 shares, 0 the original's

abbrev by_byte : ℕ → ℕ → ℕ
by_byte c e = cond (c == 99) 6 (cond (c == 108) 5 (cond (c == 114) 4 (cond (c == 113) (cond (e == 112) 3 2) 1)))

abbrev pub class : List ℕ → ℕ
class name = cond (starts_with nat_eq name (codes "agm_")) (by_byte (get_or name 4 0) (get_or name 6 0)) 0

abbrev pub IsAt : ℕ → List ℕ → Type 0
IsAt c name = class name ≡ c

abbrev pub IsUnder : ℕ → List ℕ → Type 0
IsUnder c name = class name < c

pub under_at : (c d : ℕ) → c < d → (name : List ℕ) → IsAt c name → IsUnder d name
under_at c d lt name at = omega (arith, at, lt)

pub other_class : (c : ℕ) (a b : List ℕ) → IsAt c a → IsUnder c b → a ≢ b
other_class c a b at under e = let same = ap class e in omega (arith, at, under, same)

-- names that do not begin with `agm_`
no_more : (b : Bool) → (b && false) ≡ false
no_more true = refl
no_more false = refl

pub free_select : (name tail : List ℕ) → starts_with nat_eq name (codes "agm_") ≡ false → starts_with nat_eq (name ++ 91 ∷ tail) (codes "agm_") ≡ false
free_select [] tail free = refl
free_select (a ∷ []) tail free = no_more (nat_eq 97 a)
free_select (a ∷ b ∷ []) tail free = ap (λ x. nat_eq 97 a && x) (no_more (nat_eq 103 b)) ∙ no_more (nat_eq 97 a)
free_select (a ∷ b ∷ c ∷ []) tail free =
    ap (λ x. nat_eq 97 a && (nat_eq 103 b && x)) (no_more (nat_eq 109 c)) ∙ (ap (λ x. nat_eq 97 a && x) (no_more (nat_eq 103 b)) ∙ no_more (nat_eq 97 a))
free_select (a ∷ b ∷ c ∷ d ∷ name) tail free = free

free_class : (name : List ℕ) → starts_with nat_eq name (codes "agm_") ≡ false → IsAt 0 name
free_class name free = ap (λ b. cond b (by_byte (get_or name 4 0) (get_or name 6 0)) 0) free

pub free_of : (h : Header) → starts_with nat_eq h.name (codes "agm_") ≡ false → IsOf (IsAt 0) h
free_of h free = is_of (IsAt 0) h (free_class h.name free) (λ k. free_class (select_name h.name k) (free_select h.name (decimal k ++ 93 ∷ []) free))

-- ---- names of initial values of a share

abbrev pub IsState : ℕ → List ℕ → Type 0
IsState i name = (tail : List ℕ) × EndsNumber tail × (name ≡ codes "agm_q_s" ++ (decimal i ++ tail))

pub other_state : (i j : ℕ) → i < 2 ^ 64 → j < 2 ^ 64 → i ≢ j → (a b : List ℕ) → IsState i a → IsState j b → a ≢ b
other_state i j hi hj other a b (s, ends, e) (t, finishes, f) same =
    let rest : decimal i ++ s ≡ decimal j ++ t = (let both = sym e ∙ (same ∙ f) in cc) in
    other (cut_number i j s t hi hj ends finishes rest).0

pub state_of : (i : ℕ) (h : Header) → h.name ≡ state_name i → IsOf (IsState i) h
state_of i h is =
    is_of (IsState i) h ([], inl refl, is ∙ ap (λ r. codes "agm_q_s" ++ r) (sym (append-nil (decimal i))))
    (λ k. (91 ∷ (decimal k ++ 93 ∷ []), bracket_ends (decimal k ++ 93 ∷ []), ap (λ n. select_name n k) is))

-- ---- names of shares

select_share : (i : ℕ) (x : List ℕ) (numbers : List ℕ) → map (select_name (share_name i x)) numbers ≡ map (share_name i) (map (select_name x) numbers)
select_share i x [] = refl
select_share i x (k ∷ ks) =
    let head : select_name (share_name i x) k ≡ share_name i (select_name x k) = ap (λ r. codes "agm_s" ++ r) (append_assoc (decimal i) (95 ∷ x) (91 ∷ (decimal k ++ 93 ∷ []))) in
    let tail = select_share i x ks in
    cc

-- the bits of a share's port are shares of the port's bits
pub share_bits : (i : ℕ) (x : List ℕ) (range : Option Range) → bit_names (share_name i x) range ≡ map (share_name i) (bit_names x range)
share_bits i x None = refl
share_bits i x (Some r) = select_share i x (range_numbers r.msb r.lsb)

-- shares of different names differ
pub shares_new : (i j : ℕ) → i < 2 ^ 64 → j < 2 ^ 64 → (xs ys : List (List ℕ)) → AllByRecursion (IsNew xs) ys → AllByRecursion (IsNew (map (share_name i) xs)) (map (share_name j) ys)
shares_new i j hi hj xs ys new =
    all_images (IsNew (map (share_name i) xs)) (share_name j) ys
    (all_from (IsNew xs) (λ y. IsNew (map (share_name i) xs) (share_name j y))
    (λ y other. all_images (λ old. old ≢ share_name j y) (share_name i) xs
    (all_from (λ x. x ≢ y) (λ x. share_name i x ≢ share_name j y) (λ x apart e. apart (names_apart i j x y hi hj e).1) xs other))
    ys new)

abbrev pub IsShare : ℕ → List ℕ → Type 0
IsShare i name = (x : List ℕ) × (name ≡ share_name i x)

pub other_share : (i j : ℕ) → i < 2 ^ 64 → j < 2 ^ 64 → i ≢ j → (a b : List ℕ) → IsShare i a → IsShare j b → a ≢ b
other_share i j hi hj other a b (x, e) (y, f) same = other (names_apart i j x y hi hj (sym e ∙ (same ∙ f))).0

pub share_of : (i : ℕ) (x : List ℕ) (way : Way) (range : Option Range) → IsOf (IsShare i) (record { name = share_name i x; way = way; range = range })
share_of i x way range = ((x, refl), subst (AllByRecursion (IsShare i)) (sym (share_bits i x range)) (all_images (IsShare i) (share_name i) (bit_names x range) (each (bit_names x range))))
  where
    each : (xs : List (List ℕ)) → AllByRecursion (λ y. IsShare i (share_name i y)) xs
    each [] = tt
    each (y ∷ ys) = ((y, refl), each ys)

-- ---- lists of ports

pub joined_apart : (gs hs : List Header) → AreApart gs → AreApart hs → AllByRecursion (λ g. AllByRecursion (Apart g) hs) gs → AreApart (gs ++ hs)
joined_apart [] hs p q cross = q
joined_apart (g ∷ gs) hs p q cross = (all_joined (Apart g) gs hs p.0 cross.0, joined_apart gs hs p.1 q cross.1)

-- ports of one class before ports of lower ones
pub lower_behind : (c : ℕ) (gs hs : List Header) → AllByRecursion (IsOf (IsAt c)) gs → AllByRecursion (IsOf (IsUnder c)) hs → AreApart gs → AreApart hs
    → AreApart (gs ++ hs) × AllByRecursion (IsOf (IsUnder (c + 1))) (gs ++ hs)
lower_behind c gs hs at under p q = (
  joined_apart gs hs p q
      (all_from (IsOf (IsAt c)) (λ g. AllByRecursion (Apart g) hs) (λ g in_c. all_from (IsOf (IsUnder c)) (Apart g) (λ h low. apart_families (IsAt c) (IsUnder c) (other_class c) g h in_c low) hs under) gs at),
  all_joined (IsOf (IsUnder (c + 1))) gs hs
      (all_from (IsOf (IsAt c)) (IsOf (IsUnder (c + 1))) (of_wider (IsAt c) (IsUnder (c + 1)) (under_at c (c + 1) (omega arith))) gs at)
      (all_from (IsOf (IsUnder c)) (IsOf (IsUnder (c + 1))) (of_wider (IsUnder c) (IsUnder (c + 1)) (λ name low. omega (arith, low))) hs under),
)

abbrev pub wide_header : List ℕ → ℕ → Header
wide_header name m = record { name = name; way = Input; range = Some (record { msb = m; lsb = 0 }) }

-- what holds of a port of so many bits
pub all_width : (P : Header → Type 0) (name : List ℕ) (n : ℕ) → ((m : ℕ) → m < n → P (wide_header name m)) → AllByRecursion P (input_of_width name n)
all_width P name zero h = tt
all_width P name (suc m) h = (h m (omega arith), tt)

pub width_apart : (name : List ℕ) (n : ℕ) → AreApart (input_of_width name n)
width_apart name zero = tt
width_apart name (suc m) = (tt, tt)

pub states_apart : (width a n : ℕ) → a + n < 2 ^ 64 → AreApart (flat_map (λ i. input_of_width (state_name i) width) (range_with_len a n))
states_apart width a zero small = tt
states_apart width a (suc n) small =
    let rest = flat_map (λ i. input_of_width (state_name i) width) (range_with_len (a + 1) n) in
    joined_apart (input_of_width (state_name a) width) rest (width_apart (state_name a) width) (states_apart width (a + 1) n (omega arith))
    (all_width (λ g. AllByRecursion (Apart g) rest) (state_name a) width
    (λ m lt. all_flat (Apart (wide_header (state_name a) m)) (λ i. input_of_width (state_name i) width) (range_with_len (a + 1) n)
    (all_numbers (λ i. AllByRecursion (Apart (wide_header (state_name a) m)) (input_of_width (state_name i) width)) (a + 1) n
    (λ i le under. all_width (Apart (wide_header (state_name a) m)) (state_name i) width
    (λ k below. apart_families (IsState a) (IsState i) (other_state a i (omega arith) (omega arith) (λ e. (let same = e in omega arith))) (wide_header (state_name a) m) (wide_header (state_name i) k)
    (state_of a (wide_header (state_name a) m) refl) (state_of i (wide_header (state_name i) k) refl))))))
