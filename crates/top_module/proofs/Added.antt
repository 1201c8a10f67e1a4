-- Whether a name is in a table to which names are added.
use Rattle.std.proofs.Common.{◌≡◌, ℕ, ◌+◌, ◌<◌, Bool, true, false, not, ◌||◌, cond, List, [], ◌∷◌, ◌++◌, length, get_or, take, position, refl, sym, ap, subst, ◌∙◌}
use Rattle.std.specs.List.{list_any}
use Rattle.std.specs.Str.{bytes_eq}
use Rattle.std.specs.Cmp.Lexicographic.{bytes_decides}
use Rattle.std.proofs.lemmas.List.Folds.{list_any-append, list_any_more}
use Rattle.std.proofs.Math.Bool.{or-false}
use Rattle.std.specs.Option.{is_some}
use Rattle.agm_net.proofs.Finds.{found_is_any}
use Rattle.top_module.specs.Marks.{is_among}

not_false : (b : Bool) → not b ≡ false → b ≡ true
not_false true h = refl
not_false false h = absurd (cc)

not_twice : (b : Bool) → not (not b) ≡ b
not_twice true = refl
not_twice false = refl

known_or : (known same : Bool) → (same ≡ true → known ≡ true) → known ≡ (known || same)
known_or true same h = refl
known_or false true h = h refl
known_or false false h = refl

-- a table after one name was added, where it is new
pub one_added : (names : List (List ℕ)) (own : List ℕ) (after : List (List ℕ)) (fresh : Bool) → fresh ≡ not (is_among own names) → after ≡ cond fresh (names ++ own ∷ []) names
    → (name : List ℕ) → is_among name after ≡ (is_among name names || bytes_eq own name)
one_added names own after true told added name =
    ap (is_among name) added ∙ (list_any-append (λ n. bytes_eq n name) names (own ∷ []) ∙ ap (λ (t : Bool). is_among name names || t) (or-false (bytes_eq own name)))
one_added names own after false told added name =
    ap (is_among name) added
    ∙ known_or (is_among name names) (bytes_eq own name)
    (λ same. subst (λ (n : List ℕ). is_among n names ≡ true) ((bytes_decides own name).0 same) (not_false _ (sym told)))

-- a table that misses a name
pub missed : (names : List (List ℕ)) (own name : List ℕ) (none : Bool) → own ≡ name → is_some (position (λ n. bytes_eq n own) names) ≡ not none → none ≡ not (is_among name names)
missed names own name none same told =
    sym (not_twice none) ∙ ap not (sym told ∙ (found_is_any (λ n. bytes_eq n own) names ∙ ap (λ (m : List ℕ). is_among m names) same))

-- whether some item passes, in the items before place i and in the one there
pub any_more : {X : Type 0} (p : X → Bool) (xs : List X) (i : ℕ) (x : X) (start before after : Bool) → i < length xs → x ≡ get_or xs i x
    → before ≡ (start || list_any p (take i xs)) → after ≡ (before || p x) → after ≡ (start || list_any p (take (i + 1) xs))
any_more {X} p xs i x start before after within here told added =
    added ∙ (ap (λ (t : Bool). t || p x) told
    ∙ (or_again start (list_any p (take i xs)) (p x)
    ∙ (ap (λ (y : X). start || (list_any p (take i xs) || p y)) here ∙ ap (λ (t : Bool). start || t) (sym (list_any_more p xs i x within)))))
  where
    or_again : (a b c : Bool) → ((a || b) || c) ≡ (a || (b || c))
    or_again true b c = refl
    or_again false b c = refl
