-- Values of registers in their order, of the public and of the secret ones.
use Rattle.std.proofs.Common.{◌≡◌, ◌<◌, ◌≤◌, ◌+◌, ◌-◌, ◌++◌, ℕ, zero, suc, Bool, true, false, not, cond, List, [], ◌∷◌, length, map, take, drop, get_or, refl, sym, ap, ap₂, subst, ◌∙◌, arith, append_assoc, append-nil}
use Rattle.std.specs.Prelude.{reverse, count_by, replicate}
use Rattle.std.specs.List.{AllByRecursion}
use Rattle.std.proofs.Math.Seq.{drop-cons, drop-length, take-length}
use Rattle.std.proofs.lemmas.List.{map-append, take_more, take-append-drop, reverse-append, length-drop}
use Rattle.agm_net.specs.Trace.{Row}
use Rattle.agm_net.proofs.Lists.{all_joined, count_yes, count_no, count_append}
use Rattle.pipeline_balance.specs.declared.values.Value.{Value}
use Rattle.pipeline_balance.specs.declared.values.Value.TheVariants.{Public}
use Rattle.pipeline_balance.specs.Chained.{value_at}
use Rattle.pipeline_balance.specs.Masked.{merged}
use Rattle.pipeline_balance.specs.Ports.{value_row}
use Rattle.pipeline_balance.specs.Valued.{is_secret, signal}
use Rattle.pipeline_balance.specs.Entering.{merged_values, where_any}

-- ---- lists from their end

-- the last item first
reverse_cons : {X : Type 0} (x : X) (xs : List X) → reverse (x ∷ xs) ≡ reverse xs ++ x ∷ []
reverse_cons x xs = reverse-append (x ∷ []) xs

last_first : {X : Type 0} (xs : List X) (s : ℕ) (d : X) → 1 ≤ s → s ≤ length xs → reverse (take s xs) ≡ get_or xs (s - 1) d ∷ reverse (take (s - 1) xs)
last_first xs s d some le =
    let one : s ≡ (s - 1) + 1 = omega (arith, some) in
    ap (λ k. reverse (take k xs)) one
    ∙ (ap reverse (take_more xs (s - 1) d (omega (arith, some, le)))
    ∙ reverse-append (take (s - 1) xs) (get_or xs (s - 1) d ∷ []))

pub map_reverse : {X Y : Type 0} (f : X → Y) (xs : List X) → map f (reverse xs) ≡ reverse (map f xs)
map_reverse f [] = refl
map_reverse f (x ∷ xs) =
    ap (map f) (reverse_cons x xs) ∙ (map-append f (reverse xs) (x ∷ []) ∙ (ap (λ ys. ys ++ f x ∷ []) (map_reverse f xs) ∙ sym (reverse_cons (f x) (map f xs))))

pub all_reverse : {X : Type 0} (P : X → Type 0) (xs : List X) → AllByRecursion P xs → AllByRecursion P (reverse xs)
all_reverse P [] h = tt
all_reverse P (x ∷ xs) h = subst (AllByRecursion P) (sym (reverse_cons x xs)) (all_joined P (reverse xs) (x ∷ []) (all_reverse P xs h.1) (h.0, tt))

-- ---- counts of flags

abbrev pub secret_count : List Bool → ℕ
secret_count ks = count_by (λ s. s) ks

abbrev pub public_count : List Bool → ℕ
public_count ks = count_by not ks

both_counts : (ks : List Bool) → secret_count ks + public_count ks ≡ length ks
both_counts [] = refl
both_counts (true ∷ ks) =
    let one = count_yes (λ s. s) true ks refl in
    let none = count_no not true ks refl in
    let rest = both_counts ks in
    omega (arith, one, none, rest)
both_counts (false ∷ ks) =
    let none = count_no (λ s. s) false ks refl in
    let one = count_yes not false ks refl in
    let rest = both_counts ks in
    omega (arith, one, none, rest)

-- ---- the loop

-- Values of the first r registers were taken; so many secret ones are left.
pub record IsMerging {n : ℕ} (ks : List Bool) (ps ss : List (Value n)) (r left : ℕ) (values : List (Value n)) : Type 0 where
  pub left_is : left ≡ secret_count (drop r ks)
  pub so_far : values ++ merged_values (drop r ks) (reverse (take (length ks - r - left) ps)) (reverse (take left ss)) ≡ merged_values ks (reverse ps) (reverse ss)

pub merging_begins : (n : ℕ) (ks : List Bool) (ps ss : List (Value n)) → length ps ≡ public_count ks → length ss ≡ secret_count ks → IsMerging ks ps ss 0 (length ss) []
merging_begins n ks ps ss publics secrets =
    let both = both_counts ks in
    let rest : length ks - 0 - length ss ≡ length ps = omega (arith, both, publics, secrets) in
    record {
      left_is = secrets;
      so_far = ap₂ (λ xs ys. merged_values ks (reverse xs) (reverse ys)) (ap (λ k. take k ps) rest ∙ take-length ps) (take-length ss);
    }

-- the next of the values
next_value : (n : ℕ) (k : Bool) (ks : List Bool) (ps ss : List (Value n)) (p s : ℕ) → (k ≡ false → (1 ≤ p) × (p ≤ length ps)) → (k ≡ true → (1 ≤ s) × (s ≤ length ss))
    → merged_values (k ∷ ks) (reverse (take p ps)) (reverse (take s ss))
    ≡ cond k (value_at ss (s - 1)) (value_at ps (p - 1)) ∷ merged_values ks (reverse (take (cond k p (p - 1)) ps)) (reverse (take (cond k (s - 1) s) ss))
next_value n true ks ps ss p s public secret =
    let fits = secret refl in
    ap (merged_values (true ∷ ks) (reverse (take p ps))) (last_first ss s (Public (record { shares = [] })) fits.0 fits.1)
next_value n false ks ps ss p s public secret =
    let fits = public refl in
    ap (λ xs. merged_values (false ∷ ks) xs (reverse (take s ss))) (last_first ps p (Public (record { shares = [] })) fits.0 fits.1)

module _ (n : ℕ) (ks : List Bool) (ps ss : List (Value n)) (publics : length ps ≡ public_count ks) (secrets : length ss ≡ secret_count ks) (r left : ℕ) (values : List (Value n)) (before : IsMerging ks ps ss r left values) (lt : r < length ks) where
  abbrev kind : Bool
  kind = get_or ks r false

  abbrev rest : List Bool
  rest = drop (r + 1) ks

  split : drop r ks ≡ kind ∷ rest
  split = let next : suc r ≡ r + 1 = omega arith in drop-cons ks r false lt ∙ ap (λ k. kind ∷ drop k ks) next

  left_now : left ≡ secret_count (kind ∷ rest)
  left_now = before.left_is ∙ ap secret_count split

  -- how many are left of both kinds
  sum_now : secret_count (kind ∷ rest) + public_count (kind ∷ rest) ≡ length ks - r
  sum_now = ap (λ xs. secret_count xs + public_count xs) (sym split) ∙ (both_counts (drop r ks) ∙ length-drop r ks)

  all_public : length ps ≡ public_count (take r ks) + public_count (kind ∷ rest)
  all_public = publics ∙ (ap public_count (sym (take-append-drop r ks)) ∙ (count_append not (take r ks) (drop r ks) ∙ ap (λ xs. public_count (take r ks) + public_count xs) split))

  all_secret : length ss ≡ secret_count (take r ks) + secret_count (kind ∷ rest)
  all_secret = secrets ∙ (ap secret_count (sym (take-append-drop r ks)) ∙ (count_append (λ s. s) (take r ks) (drop r ks) ∙ ap (λ xs. secret_count (take r ks) + secret_count xs) split))

  pub public_left : kind ≡ false → (1 ≤ length ks - r - left) × (length ks - r - left ≤ length ps)
  public_left is =
      let one = ap (λ b. public_count (b ∷ rest)) is ∙ count_yes not false rest refl in
      let sum = sum_now in
      let now = left_now in
      let all = all_public in
      (omega (arith, one, sum, now), omega (arith, sum, now, all))

  pub secret_left : kind ≡ true → (1 ≤ left) × (left ≤ length ss)
  secret_left is =
      let one = ap (λ b. secret_count (b ∷ rest)) is ∙ count_yes (λ s. s) true rest refl in
      let now = left_now in
      let all = all_secret in
      (omega (arith, one, now), omega (arith, now, all))

  pub left_fits : left ≤ length ks - r
  left_fits =
      let sum = sum_now in
      let now = left_now in
      omega (arith, sum, now)

  count_behind : (b : Bool) → left ≡ secret_count (b ∷ rest) → cond b (left - 1) left ≡ secret_count rest
  count_behind true now = let one = count_yes (λ s. s) true rest refl in omega (arith, one, now)
  count_behind false now = now ∙ count_no (λ s. s) false rest refl

  place_behind : (b : Bool) → (b ≡ true → 1 ≤ left) → length ks - (r + 1) - cond b (left - 1) left ≡ cond b (length ks - r - left) (length ks - r - left - 1)
  place_behind true some = let one = some refl in omega (arith, one)
  place_behind false some = omega arith

  pub merging_more : (value : Value n) → value ≡ cond kind (value_at ss (left - 1)) (value_at ps (length ks - r - left - 1)) → IsMerging ks ps ss (r + 1) (cond kind (left - 1) left) (values ++ value ∷ [])
  merging_more value is =
      let p = length ks - r - left in
      record {
        left_is = count_behind kind left_now;
        so_far =
            append_assoc values (value ∷ []) _
            ∙ (ap (λ xs. values ++ xs)
            (ap₂ (λ v k. v ∷ merged_values rest (reverse (take k ps)) (reverse (take (cond kind (left - 1) left) ss))) is (place_behind kind (λ same. (secret_left same).0))
            ∙ (sym (next_value n kind rest ps ss p left public_left secret_left) ∙ ap (λ xs. merged_values xs (reverse (take p ps)) (reverse (take left ss))) (sym split)))
            ∙ before.so_far);
      }

pub merging_ends : (n : ℕ) (ks : List Bool) (ps ss : List (Value n)) (r left : ℕ) (values : List (Value n)) → IsMerging ks ps ss r left values → r ≡ length ks → values ≡ merged_values ks (reverse ps) (reverse ss)
merging_ends n ks ps ss r left values merging whole =
    sym (ap (λ xs. values ++ merged_values xs (reverse (take (length ks - r - left) ps)) (reverse (take left ss))) (ap (λ k. drop k ks) whole ∙ drop-length ks) ∙ append-nil values) ∙ merging.so_far

-- ---- what merged values are

pub merged_all : (n : ℕ) (P : Value n → Type 0) (ks : List Bool) (ps ss : List (Value n)) → AllByRecursion P ps → AllByRecursion P ss → AllByRecursion P (merged_values ks ps ss)
merged_all n P [] ps ss h g = tt
merged_all n P (true ∷ ks) ps [] h g = tt
merged_all n P (true ∷ ks) ps (x ∷ ss) h g = (g.0, merged_all n P ks ps ss h g.1)
merged_all n P (false ∷ ks) [] ss h g = tt
merged_all n P (false ∷ ks) (x ∷ ps) ss h g = (h.0, merged_all n P ks ps ss h.1 g)

-- so many of each kind as are wanted
abbrev pub Suffice : {n : ℕ} → List Bool → (ps ss : List (Value n)) → Type 0
Suffice ks ps ss = (public_count ks ≡ length ps) × (secret_count ks ≡ length ss)

suffice_secret : (n : ℕ) (ks : List Bool) (ps ss : List (Value n)) (x : Value n) → Suffice (true ∷ ks) ps (x ∷ ss) → Suffice ks ps ss
suffice_secret n ks ps ss x h =
    let one = count_yes (λ s. s) true ks refl in
    let none = count_no not true ks refl in
    let publics = h.0 in
    let secrets = h.1 in
    (omega (arith, none, publics), omega (arith, one, secrets))

suffice_public : (n : ℕ) (ks : List Bool) (ps ss : List (Value n)) (x : Value n) → Suffice (false ∷ ks) (x ∷ ps) ss → Suffice ks ps ss
suffice_public n ks ps ss x h =
    let none = count_no (λ s. s) false ks refl in
    let one = count_yes not false ks refl in
    let publics = h.0 in
    let secrets = h.1 in
    (omega (arith, one, publics), omega (arith, none, secrets))

no_secret_left : (n : ℕ) (ks : List Bool) (ps : List (Value n)) → Suffice (true ∷ ks) ps [] → ⊥
no_secret_left n ks ps h = let one = count_yes (λ s. s) true ks refl in let secrets = h.1 in omega (arith, one, secrets)

no_public_left : (n : ℕ) (ks : List Bool) (ss : List (Value n)) → Suffice (false ∷ ks) [] ss → ⊥
no_public_left n ks ss h = let one = count_yes not false ks refl in let publics = h.0 in omega (arith, one, publics)

pub merged_told : (n : ℕ) (bits : ℕ → ℕ → Bool) (t : ℕ) (ks : List Bool) (ps ss : List (Value n)) → Suffice ks ps ss
    → merged ks (value_row n bits t ps) (value_row n bits t ss) ≡ value_row n bits t (merged_values ks ps ss)
merged_told n bits t [] ps ss h = refl
merged_told n bits t (true ∷ ks) ps [] h = absurd (no_secret_left n ks ps h)
merged_told n bits t (true ∷ ks) ps (x ∷ ss) h = ap (λ row. signal n bits x t ∷ row) (merged_told n bits t ks ps ss (suffice_secret n ks ps ss x h))
merged_told n bits t (false ∷ ks) [] ss h = absurd (no_public_left n ks ss h)
merged_told n bits t (false ∷ ks) (x ∷ ps) ss h = ap (λ row. signal n bits x t ∷ row) (merged_told n bits t ks ps ss (suffice_public n ks ps ss x h))

pub merged_kinds : (n : ℕ) (ks : List Bool) (ps ss : List (Value n)) → Suffice ks ps ss → AllByRecursion (λ v. is_secret v ≡ false) ps → AllByRecursion (λ v. is_secret v ≡ true) ss
    → map is_secret (merged_values ks ps ss) ≡ ks
merged_kinds n [] ps ss h publics secrets = refl
merged_kinds n (true ∷ ks) ps [] h publics secrets = absurd (no_secret_left n ks ps h)
merged_kinds n (true ∷ ks) ps (x ∷ ss) h publics secrets = ap₂ (λ b bs. b ∷ bs) secrets.0 (merged_kinds n ks ps ss (suffice_secret n ks ps ss x h) publics secrets.1)
merged_kinds n (false ∷ ks) [] ss h publics secrets = absurd (no_public_left n ks ss h)
merged_kinds n (false ∷ ks) (x ∷ ps) ss h publics secrets = ap₂ (λ b bs. b ∷ bs) publics.0 (merged_kinds n ks ps ss (suffice_public n ks ps ss x h) publics.1 secrets)

-- values of one kind
pub all_kinds : (n : ℕ) (kind : Bool) (vs : List (Value n)) (count : ℕ) → map is_secret vs ≡ replicate count kind → AllByRecursion (λ v. is_secret v ≡ kind) vs
all_kinds n kind [] count h = tt
all_kinds n kind (v ∷ vs) zero h = absurd (cc)
all_kinds n kind (v ∷ vs) (suc count) h = let here : is_secret v ≡ kind = cc in let later : map is_secret vs ≡ replicate count kind = cc in (here, all_kinds n kind vs count later)

-- ---- rows of which no value is taken

no_public_taken : (ks : List Bool) (A B : Row) → public_count ks ≡ 0 → merged ks A B ≡ merged ks [] B
no_public_taken [] A B none = refl
no_public_taken (true ∷ ks) A [] none = let less = count_no not true ks refl in ap (λ row. false ∷ row) (no_public_taken ks A [] (omega (arith, less, none)))
no_public_taken (true ∷ ks) A (x ∷ B) none = let less = count_no not true ks refl in ap (λ row. x ∷ row) (no_public_taken ks A B (omega (arith, less, none)))
no_public_taken (false ∷ ks) A B none = let more = count_yes not false ks refl in absurd (omega (arith, more, none))

no_secret_taken : (ks : List Bool) (A B : Row) → secret_count ks ≡ 0 → merged ks A B ≡ merged ks A []
no_secret_taken [] A B none = refl
no_secret_taken (false ∷ ks) [] B none = let less = count_no (λ s. s) false ks refl in ap (λ row. false ∷ row) (no_secret_taken ks [] B (omega (arith, less, none)))
no_secret_taken (false ∷ ks) (x ∷ A) B none = let less = count_no (λ s. s) false ks refl in ap (λ row. x ∷ row) (no_secret_taken ks A B (omega (arith, less, none)))
no_secret_taken (true ∷ ks) A B none = let more = count_yes (λ s. s) true ks refl in absurd (omega (arith, more, none))

pub public_taken : (ks : List Bool) (count : ℕ) (A C B : Row) → count ≡ public_count ks → where_any count A ≡ C → merged ks (reverse A) B ≡ merged ks (reverse C) B
public_taken ks zero A C B many is = no_public_taken ks (reverse A) B (sym many) ∙ sym (no_public_taken ks (reverse C) B (sym many))
public_taken ks (suc count) A C B many is = ap (λ row. merged ks (reverse row) B) is

pub secret_taken : (ks : List Bool) (count : ℕ) (A B C : Row) → count ≡ secret_count ks → where_any count B ≡ C → merged ks A (reverse B) ≡ merged ks A (reverse C)
secret_taken ks zero A B C many is = no_secret_taken ks A (reverse B) (sym many) ∙ sym (no_secret_taken ks A (reverse C) (sym many))
secret_taken ks (suc count) A B C many is = ap (λ row. merged ks A (reverse row)) is
