-- The names of a new port's bits: they differ, and are none of a builder's own wires or of a gadget.
use Rattle.std.proofs.Common.{◌≡◌, ◌≢◌, ◌<◌, ◌≤◌, ◌+◌, ◌-◌, ◌^◌, ◌==◌, ◌++◌, ◌⊎◌, ℕ, zero, suc, Bool, true, false, cond, List, [], ◌∷◌, Option, Some, None, codes, length, get_or, IsTrue, refl, sym, ap, subst, inl, inr, ◌∙◌, arith, length-append}
use Rattle.std.specs.Prelude.{nat_le}
use Rattle.std.specs.Int.{abs_diff}
use Rattle.std.specs.List.{AllByRecursion}
use Rattle.std.specs.Fmt.{decimal}
use Rattle.std.proofs.lemmas.Bool.{cases_Bool, leb-true, leb-false}
use Rattle.agm_net.specs.Plain.{bit_names, select_name}
use Rattle.agm_net.specs.Checks.{number_at}
use Rattle.agm_net.specs.Role.{IsOfShare}
use Rattle.agm_net.specs.Writable.{is_graphic, IsWritable}
use Rattle.agm_net.specs.Label.{IsUserName, public_name, inner_share_name}
use Rattle.agm_net.specs.declared.port.Range.{Range}
use Rattle.agm_net.proofs.Named.{length-names, name-at}
use Rattle.agm_net.proofs.Lists.{all_joined}
use Rattle.share_wiring.specs.Own.{upto}
use Rattle.share_wiring.specs.Built.{AreDistinct, LeavesFree, IsBegun, IsPortName, IsSmallRange}
use Rattle.share_wiring.proofs.Digits.{decimal_graphic, cut_number_above}
use Rattle.share_wiring.proofs.OwnWires.{distinct_upto, all_upto}

-- a row by its items
pub upto_cons : {X : Type 0} (n : ℕ) (f : ℕ → X) → upto (suc n) f ≡ f 0 ∷ upto n (λ i. f (suc i))
upto_cons zero f = refl
upto_cons (suc n) f = ap (λ xs. xs ++ f (suc n) ∷ []) (upto_cons n f)

pub upto_items : (xs : List (List ℕ)) → upto (length xs) (λ i. get_or xs i []) ≡ xs
upto_items [] = refl
upto_items (x ∷ xs) = upto_cons (length xs) (λ i. get_or (x ∷ xs) i []) ∙ ap (λ ys. x ∷ ys) (upto_items xs)

drop_front : (xs a b : List ℕ) → xs ++ a ≡ xs ++ b → a ≡ b
drop_front [] a b e = e
drop_front (x ∷ xs) a b e = let r : xs ++ a ≡ xs ++ b = cc in drop_front xs a b r

-- a select tells its number
select_apart : (name : List ℕ) (k m : ℕ) → k < 2 ^ 64 → m < 2 ^ 64 → select_name name k ≡ select_name name m → k ≡ m
select_apart name k m hk hm e =
    let ends : 91 ∷ (decimal k ++ 93 ∷ []) ≡ 91 ∷ (decimal m ++ 93 ∷ []) = drop_front name (91 ∷ (decimal k ++ 93 ∷ [])) (91 ∷ (decimal m ++ 93 ∷ [])) e in
    let rest : decimal k ++ 93 ∷ [] ≡ decimal m ++ 93 ∷ [] = cc in
    (cut_number_above 93 k m [] [] (omega arith) hk hm rest).0

number_small : (msb lsb i : ℕ) → msb ≤ 65535 → lsb ≤ 65535 → i ≤ abs_diff msb lsb → number_at msb lsb i < 2 ^ 32
number_small msb lsb i hm hl le =
    elim (cases_Bool (nat_le lsb msb)) [ inl down ↦ rw down (omega arith) | inr up ↦ (let more = leb-false lsb msb up in rw up (omega arith)) ]

number_apart : (msb lsb i j : ℕ) → i ≤ abs_diff msb lsb → j ≤ abs_diff msb lsb → number_at msb lsb i ≡ number_at msb lsb j → i ≡ j
number_apart msb lsb i j hi hj e =
    elim (cases_Bool (nat_le lsb msb)) [
      | inl down ↦ (let le = leb-true lsb msb down in let same : msb - i ≡ msb - j = rw down at e in omega arith)
      | inr up ↦ (let more = leb-false lsb msb up in let same : msb + i ≡ msb + j = rw up at e in omega arith)
    ]

-- the names of a port's bits differ
pub bits_distinct : (name : List ℕ) (range : Option Range) → IsSmallRange range → AreDistinct (bit_names name range)
bits_distinct name None small = (tt, tt)
bits_distinct name (Some r) small =
    let ns = bit_names name (Some r) in
    let many = length-names name r in
    let hm = small.0 in
    let hl = small.1 in
    subst AreDistinct (upto_items ns)
    (distinct_upto (length ns) (λ i. get_or ns i [])
    (λ i j hi hj e.
    let li : i ≤ abs_diff r.msb r.lsb = omega (arith, many) in
    let lj : j ≤ abs_diff r.msb r.lsb = omega (arith, many) in
    let shown = sym (name-at name r i li) ∙ (e ∙ name-at name r j lj) in
    let si = number_small r.msb r.lsb i hm hl li in
    let sj = number_small r.msb r.lsb j hm hl lj in
    let numbers = select_apart name (number_at r.msb r.lsb i) (number_at r.msb r.lsb j) (omega (arith, si)) (omega (arith, sj)) shown in
    number_apart r.msb r.lsb i j li lj numbers))

-- a name that does not begin as those of inner wires or of instances do
abbrev pub IsOuter : List ℕ → Type 0
IsOuter name = IsUserName name ⊎ ((c : ℕ) × (rest : List ℕ) × ((c ≢ 112) × (c ≢ 100) × (c ≢ 103) × (c ≢ 117)) × (name ≡ codes "agm_" ++ c ∷ rest))

other_than : (c d : ℕ) → (c < d) ⊎ (d < c) → c ≢ d
other_than c d (inl lt) e = let same = e in omega arith
other_than c d (inr lt) e = let same = e in omega arith

with_byte : (c : ℕ) (rest name : List ℕ) → 103 < c → (c < 112) ⊎ (112 < c) → c < 117 → name ≡ codes "agm_" ++ c ∷ rest → IsOuter name
with_byte c rest name high apart low e = inr (c, rest, (other_than c 112 apart, other_than c 100 (inr (omega arith)), other_than c 103 (inr (omega arith)), other_than c 117 (inl low)), e)

outer_share : (i : ℕ) (name : List ℕ) → IsOfShare i name → IsOuter name
outer_share i name (small, inl named) = with_byte 115 (decimal i ++ 95 ∷ named.0) name (omega arith) (inr (omega arith)) (omega arith) named.2
outer_share i name (small, inr is) = with_byte 113 (95 ∷ 115 ∷ decimal i) name (omega arith) (inr (omega arith)) (omega arith) is

pub outer : (name : List ℕ) → IsPortName name → IsOuter name
outer name (inl user) = inl user
outer name (inr (inl is)) = with_byte 108 (codes "oad") name (omega arith) (inl (omega arith)) (omega arith) is
outer name (inr (inr (inl is))) = with_byte 114 [] name (omega arith) (inr (omega arith)) (omega arith) is
outer name (inr (inr (inr (inl is)))) = with_byte 113 (codes "_p") name (omega arith) (inr (omega arith)) (omega arith) is
outer name (inr (inr (inr (inr shared)))) = outer_share shared.0 name shared.1

-- so is a bit's
pub user_select : (name tail : List ℕ) → IsUserName name → IsUserName (name ++ 91 ∷ tail)
user_select [] tail h rest e = let r : ◌≡◌ {A = ℕ} 91 97 = cc in absurd (omega (arith, r))
user_select (a ∷ []) tail h rest e = let r : ◌≡◌ {A = ℕ} 91 103 = cc in absurd (omega (arith, r))
user_select (a ∷ b ∷ []) tail h rest e = let r : ◌≡◌ {A = ℕ} 91 109 = cc in absurd (omega (arith, r))
user_select (a ∷ b ∷ c ∷ []) tail h rest e = let r : ◌≡◌ {A = ℕ} 91 95 = cc in absurd (omega (arith, r))
user_select (a ∷ b ∷ c ∷ d ∷ name) tail h rest e =
    let p : a ≡ 97 = cc in
    let q : b ≡ 103 = cc in
    let r : c ≡ 109 = cc in
    let s : d ≡ 95 = cc in
    h name cc

pub outer_select : (name tail : List ℕ) → IsOuter name → IsOuter (name ++ 91 ∷ tail)
outer_select name tail (inl user) = inl (user_select name tail user)
outer_select name tail (inr (c, rest, other, e)) = inr (c, rest ++ 91 ∷ tail, other, ap (λ n. n ++ 91 ∷ tail) e)

outer_free_by : (one : Bool) (name : List ℕ) (i k : ℕ) → IsOuter name → name ≢ cond one (public_name (decimal k)) (inner_share_name i (decimal k))
outer_free_by true name i k (inl user) e = user (112 ∷ 46 ∷ decimal k) e
outer_free_by false name i k (inl user) e = user (100 ∷ (decimal i ++ 46 ∷ decimal k)) e
outer_free_by true name i k (inr (c, rest, other, is)) e = let r : c ≡ 112 = cc in other.0 r
outer_free_by false name i k (inr (c, rest, other, is)) e = let r : c ≡ 100 = cc in other.1 r

outer_free : (n : ℕ) (name : List ℕ) → IsOuter name → LeavesFree n name
outer_free n name h shares i k le small index e = outer_free_by (shares == 1) name i k h e

outer_begun : (g : ℕ) (name : List ℕ) → IsOuter name → IsBegun g name
outer_begun g name (inl user) k text small e = absurd (user (103 ∷ (decimal k ++ 46 ∷ text)) e)
outer_begun g name (inr (c, rest, other, is)) k text small e = absurd (let r : c ≡ 103 = cc in other.2 r)

select_writable : (name : List ℕ) (k : ℕ) → k < 2 ^ 64 → IsWritable name → IsWritable (select_name name k)
select_writable name k small h =
    let len = length-append name (91 ∷ (decimal k ++ 93 ∷ [])) in
    let some = h.0 in (
      omega arith,
      all_joined (λ b. IsTrue (is_graphic b)) name (91 ∷ (decimal k ++ 93 ∷ [])) h.1 (refl, all_joined (λ b. IsTrue (is_graphic b)) (decimal k) (93 ∷ []) (decimal_graphic k small) (refl, tt)),
    )

-- what holds of a port's name and of selects on it holds of its bits' names
pub each_select : (P : List ℕ → Type 0) (name : List ℕ) (range : Option Range) → IsSmallRange range → P name → ((k : ℕ) → k < 2 ^ 32 → P (select_name name k)) → AllByRecursion P (bit_names name range)
each_select P name None small h g = (h, tt)
each_select P name (Some r) small h g =
    let ns = bit_names name (Some r) in
    let many = length-names name r in
    let hm = small.0 in
    let hl = small.1 in
    subst (AllByRecursion P) (upto_items ns)
    (all_upto P (length ns) (λ i. get_or ns i [])
    (λ i lt. let le : i ≤ abs_diff r.msb r.lsb = omega (arith, many) in subst P (sym (name-at name r i le)) (g (number_at r.msb r.lsb i) (number_small r.msb r.lsb i hm hl le))))

pub each_bit : (P : List ℕ → Type 0) (name : List ℕ) (range : Option Range) → IsSmallRange range → P name → ((k : ℕ) → k < 2 ^ 64 → P (select_name name k)) → AllByRecursion P (bit_names name range)
each_bit P name range small h g = each_select P name range small h (λ k lt. g k (omega (arith, lt)))

module _ (name : List ℕ) (range : Option Range) (small : IsSmallRange range) (port : IsPortName name) where
  pub bits_free : (n : ℕ) → AllByRecursion (LeavesFree n) (bit_names name range)
  bits_free n = each_bit (LeavesFree n) name range small (outer_free n name (outer name port)) (λ k lt. outer_free n (select_name name k) (outer_select name (decimal k ++ 93 ∷ []) (outer name port)))

  pub bits_begun : (g : ℕ) → AllByRecursion (IsBegun g) (bit_names name range)
  bits_begun g = each_bit (IsBegun g) name range small (outer_begun g name (outer name port)) (λ k lt. outer_begun g (select_name name k) (outer_select name (decimal k ++ 93 ∷ []) (outer name port)))

  pub bits_writable : IsWritable name → AllByRecursion IsWritable (bit_names name range)
  bits_writable h = each_bit IsWritable name range small h (λ k lt. select_writable name k lt h)
