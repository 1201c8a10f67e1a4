-- Names among the names of wires.
use Rattle.std.proofs.Common.{◌≡◌, ◌<◌, ◌+◌, ◌++◌, ◌↔◌, ℕ, Bool, true, false, not, cond, take, List, [], ◌∷◌, Some, length, get_or, slice_get, IsTrue, refl, sym, ap, subst, ◌∙◌}
use Rattle.std.specs.Prelude.{◌||◌, is_some, position}
use Rattle.std.proofs.lemmas.List.{take_more}
use Rattle.std.specs.List.{list_any}
use Rattle.std.specs.Str.{bytes_eq}
use Rattle.std.proofs.lemmas.Option.{get_or_from_slice_get, slice_get-get_or, slice_get_within}
use Rattle.std.proofs.lemmas.Slice.Eq.{bytes_eq-Decides}
use Rattle.agm_net.proofs.Finds.{found_is_any}
use Rattle.agm_net.proofs.Lists.{any_at, place_of_any}
use Rattle.hpc2_audit.specs.Sheet.{AreNamesOf}

abbrev IsNamed : List (List ℕ) → List ℕ → Type 0
IsNamed wires name = (w : ℕ) × (w < length wires) × (get_or wires w [] ≡ name)

of_any : (wires : List (List ℕ)) (name : List ℕ) → IsTrue (list_any (λ n. bytes_eq n name) wires) → IsNamed wires name
of_any wires name some =
    let found = place_of_any (λ n. bytes_eq n name) wires some in
    let at = get_or_from_slice_get wires found.0 found.1 [] found.2 in
    let lt = found_within wires found.0 found.1 found.2 in
    (found.0, lt, at ∙ (bytes_eq-Decides found.1 name).0 found.3)
  where
    found_within : (xs : List (List ℕ)) (n : ℕ) (x : List ℕ) → slice_get xs n ≡ Some x → n < length xs
    found_within xs n x at = slice_get_within xs n x at

to_any : (wires : List (List ℕ)) (name : List ℕ) → IsNamed wires name → IsTrue (list_any (λ n. bytes_eq n name) wires)
to_any wires name (w, lt, e) = any_at (λ n. bytes_eq n name) wires w (get_or wires w []) (slice_get-get_or wires w [] lt) ((bytes_eq-Decides (get_or wires w []) name).1 e)

-- a name is found exactly where a wire has it
pub names_tell : (wires names : List (List ℕ)) (name : List ℕ) → AreNamesOf wires names → IsTrue (is_some (position (λ n. bytes_eq n name) names)) ↔ ((w : ℕ) × (w < length wires) × (get_or wires w [] ≡ name))
names_tell wires names name are =
    let any = found_is_any (λ n. bytes_eq n name) names in (
      λ h. of_any wires name (sym (are name) ∙ (sym any ∙ h)),
      λ h. any ∙ (are name ∙ to_any wires name h),
    )

-- whether an item passes, with one item more
pub any_more : {X : Type 0} (p : X → Bool) (xs : List X) (x : X) → list_any p (xs ++ x ∷ []) ≡ (list_any p xs || p x)
any_more p [] x = or_false (p x)
  where
    or_false : (b : Bool) → (b || false) ≡ b
    or_false true = refl
    or_false false = refl
any_more p (y ∷ ys) x = ap (λ b. p y || b) (any_more p ys x) ∙ or_more (p y) (list_any p ys) (p x)
  where
    or_more : (a b c : Bool) → (a || (b || c)) ≡ ((a || b) || c)
    or_more true b c = refl
    or_more false b c = refl

pub or_known : (a b : Bool) → (IsTrue b → IsTrue a) → a ≡ (a || b)
or_known true b h = refl
or_known false true h = h refl
or_known false false h = refl

-- the names with one more
pub names_more : (names wires after : List (List ℕ)) (i : ℕ) (own : List ℕ) (fresh : Bool) → i < length wires → own ≡ get_or wires i own → fresh ≡ not (list_any (λ n. bytes_eq n own) names)
    → after ≡ cond fresh (names ++ own ∷ []) names → AreNamesOf (take i wires) names → AreNamesOf (take (i + 1) wires) after
names_more names wires after i own fresh lt is new grown are = λ name.
    let test = λ (n : List ℕ). bytes_eq n name in
    let here : list_any test after ≡ (list_any test names || bytes_eq own name) = step name (list_any (λ n. bytes_eq n own) names) refl in
    let last : take (i + 1) wires ≡ take i wires ++ own ∷ [] = take_more wires i own lt ∙ ap (λ x. take i wires ++ x ∷ []) (sym is) in
    here ∙ (ap (λ b. b || bytes_eq own name) (are name) ∙ (sym (any_more test (take i wires) own) ∙ ap (λ xs. list_any test xs) (sym last)))
  where
    step : (name : List ℕ) (b : Bool) → list_any (λ n. bytes_eq n own) names ≡ b → list_any (λ n. bytes_eq n name) after ≡ (list_any (λ n. bytes_eq n name) names || bytes_eq own name)
    step name true e =
        let kept : after ≡ names = grown ∙ ap (λ f. cond f (names ++ own ∷ []) names) (new ∙ ap not e) in
        ap (λ xs. list_any (λ n. bytes_eq n name) xs) kept
        ∙ or_known (list_any (λ n. bytes_eq n name) names) (bytes_eq own name) (λ same. subst (λ x. IsTrue (list_any (λ n. bytes_eq n x) names)) ((bytes_eq-Decides own name).0 same) e)
    step name false e =
        let more : after ≡ names ++ own ∷ [] = grown ∙ ap (λ f. cond f (names ++ own ∷ []) names) (new ∙ ap not e) in
        ap (λ xs. list_any (λ n. bytes_eq n name) xs) more ∙ any_more (λ n. bytes_eq n name) names own
