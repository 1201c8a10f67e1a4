-- What stands at the place of a name in a table of different names.
use Rattle.std.proofs.Common.{◌≡◌, ◌≢◌, ℕ, zero, suc, ◌<◌, ◌+◌, Bool, true, false, not, cond, Some, None, List, [], ◌∷◌, length, get_or, set, map, position, refl, sym, ap, ap₂, ◌∙◌, arith}
use Rattle.std.specs.Prelude.{slice_get}
use Rattle.std.specs.Str.{bytes_eq}
use Rattle.std.specs.Cmp.Lexicographic.{bytes_decides}
use Rattle.std.proofs.lemmas.Bool.{cases_Bool, cases_order, both_ways}
use Rattle.std.proofs.lemmas.List.{get_or-map, length-map}
use Rattle.std.proofs.lemmas.List.Quantifiers.{position-Some}
use Rattle.std.proofs.lemmas.Option.{slice_get-get_or, slice_get_within}
use Rattle.std.specs.List.{prefix_len}
use Rattle.agm_net.proofs.Finds.{not_any}
use mathlib.Core.Logic.{⊎_elim}
use Rattle.top_module.specs.Marks.{is_among}

abbrev Texts : Type 0
Texts = List (List ℕ)

module _ {X : Type 0} (f g : List ℕ → X) where
  pub map_same : (names : Texts) → ((j : ℕ) (n : List ℕ) → slice_get names j ≡ Some n → f n ≡ g n) → map f names ≡ map g names
  map_same [] h = refl
  map_same (n ∷ ns) h = ap₂ (λ (x : X) (xs : List X). x ∷ xs) (h zero n refl) (map_same ns (λ j m at. h (suc j) m at))

  -- one value in another's place
  pub set_map : (names : Texts) (k : ℕ) (y : X) → ((j : ℕ) (n : List ℕ) → slice_get names j ≡ Some n → j ≢ k → f n ≡ g n) → ((n : List ℕ) → slice_get names k ≡ Some n → y ≡ g n) → set (map f names) k y ≡ map g names
  set_map [] k y other own = refl
  set_map (n ∷ ns) zero y other own = ap₂ (λ (x : X) (xs : List X). x ∷ xs) (own n refl) (map_same ns (λ j m at. other (suc j) m at (λ e. absurd (omega arith))))
  set_map (n ∷ ns) (suc k) y other own =
      ap₂ (λ (x : X) (xs : List X). x ∷ xs) (other zero n refl (λ e. absurd (omega arith))) (set_map ns k y (λ j m at differs. other (suc j) m at (λ e. differs (omega arith))) own)

-- the name at a place of a list is among them
pub among_at : (names : Texts) (k : ℕ) (n : List ℕ) → slice_get names k ≡ Some n → is_among n names ≡ true
among_at [] k n at = absurd (cc)
among_at (m ∷ ms) zero n at = rw ((bytes_decides m n).1 (cc)) refl
among_at (m ∷ ms) (suc k) n at = ⊎_elim (λ yes. rw yes refl) (λ no. rw no (among_at ms k n at)) (cases_Bool (bytes_eq m n))

module _ {X : Type 0} (f : List ℕ → X) (table : Texts) (facts : List X) (own name : List ℕ) (k : ℕ) where
  -- what stands at the place of a name
  pub found_at : (d : X) → facts ≡ map f table → own ≡ name → position (λ n. bytes_eq n own) table ≡ Some k → get_or facts k d ≡ f name
  found_at d all same at =
      let place = position-Some (λ n. bytes_eq n own) table k [] at in
      ap (λ (xs : List X). get_or xs k d) all ∙ (get_or-map f table k [] d place.0 ∙ ap f ((bytes_decides (get_or table k []) own).0 place.1 ∙ same))

-- one more name's value
pub set_at : {X : Type 0} (names : Texts) (own name : List ℕ) (k : ℕ) (f g : List ℕ → X) (facts : List X) (y d : X)
    → ((v w : ℕ) → v < w → w < length names → slice_get names v ≢ slice_get names w) → facts ≡ map f names → own ≡ name → Some k ≡ position (λ n. bytes_eq n own) names
    → ((n : List ℕ) → bytes_eq name n ≡ false → f n ≡ g n) → y ≡ g name → set facts k y ≡ map g names
set_at {X} names own name k f g facts y d differ all same at other here =
    let place = position-Some (λ n. bytes_eq n own) names k [] (sym at) in
    let own_is : get_or names k [] ≡ name = (bytes_decides (get_or names k []) own).0 place.1 ∙ same in
    let name_at : slice_get names k ≡ Some name = slice_get-get_or names k [] place.0 ∙ ap Some own_is in
    ap (λ (xs : List X). set xs k y) all
    ∙ set_map f g names k y
    (λ j n found apart. other n (differs j n found apart name_at place.0))
    (λ n found. here ∙ ap g (some_same (sym name_at ∙ found)))
  where
    some_same : {m n : List ℕ} → Some m ≡ Some n → m ≡ n
    some_same e = cc

    apart_of : (j : ℕ) (n : List ℕ) → slice_get names j ≡ Some n → j ≢ k → slice_get names k ≡ Some name → k < length names → name ≡ n → ⊥
    apart_of j n found apart there within e =
        ⊎_elim (λ h. apart h)
        (λ h. ⊎_elim
        (λ before. differ j k before within (found ∙ (ap Some (sym e) ∙ sym there)))
        (λ behind. differ k j behind (slice_get_within names j n found) (there ∙ (ap Some e ∙ sym found))) h)
        (cases_order j k)

    differs : (j : ℕ) (n : List ℕ) → slice_get names j ≡ Some n → j ≢ k → slice_get names k ≡ Some name → k < length names → bytes_eq name n ≡ false
    differs j n found apart there within = ⊎_elim (λ yes. absurd (apart_of j n found apart there within ((bytes_decides name n).0 yes))) (λ no. no) (cases_Bool (bytes_eq name n))

-- a name that is not there changes nothing
pub none_at : {X : Type 0} (names : Texts) (own name : List ℕ) (f g : List ℕ → X) → own ≡ name → None ≡ position (λ n. bytes_eq n own) names → ((n : List ℕ) → bytes_eq name n ≡ false → f n ≡ g n) → map f names ≡ map g names
none_at names own name f g same none other =
    map_same f g names
    (λ j n found. other n (⊎_elim
    (λ yes. absurd (let there = among_at names j n found in
    let gone : is_among n names ≡ false = ap (λ (m : List ℕ). is_among m names) (sym ((bytes_decides name n).0 yes) ∙ sym same) ∙ not_any (λ m. bytes_eq m own) names (sym none) in both_ways (is_among n names) gone there))
    (λ no. no) (cases_Bool (bytes_eq name n))))

-- where p first passes in the values of a list
prefix_map : {X Y : Type 0} (p : Y → Bool) (f : X → Y) (xs : List X) → prefix_len p (map f xs) ≡ prefix_len (λ x. p (f x)) xs
prefix_map p f [] = refl
prefix_map p f (x ∷ xs) = ap (λ (n : ℕ). cond (p (f x)) (1 + n) 0) (prefix_map p f xs)

pub position_map : {X Y : Type 0} (p : Y → Bool) (f : X → Y) (xs : List X) → position p (map f xs) ≡ position (λ x. p (f x)) xs
position_map p f xs = rw (prefix_map (λ y. not (p y)) f xs, length-map xs f) refl
