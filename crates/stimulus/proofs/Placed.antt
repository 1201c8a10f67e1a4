-- The texts of a step by names.
use Rattle.std.proofs.Common.{◌≡◌, ◌≢◌, ℕ, ◌<◌, ◌||◌, Bool, true, false, cond, List, [], ◌∷◌, ◌++◌, length, get_or, set, map, Option, Some, None, is_some, refl, sym, ap, ap₂, subst, ◌∙◌, arith}
use Rattle.std.specs.List.{list_any, position}
use Rattle.std.specs.Str.{bytes_eq}
use Rattle.std.specs.Cmp.Lexicographic.{bytes_decides}
use Rattle.std.proofs.lemmas.Bool.{cases_eq, cases_lt, false_from_ne_true}
use Rattle.std.proofs.lemmas.List.{ext_get_or, length-map, length-set, get_or-map, get_or-set_other}
use Rattle.std.proofs.lemmas.Grind.{get_or-set_at}
use Rattle.std.proofs.lemmas.List.Quantifiers.{position-Some}
use Rattle.std.proofs.lemmas.Option.{slice_get-get_or}
use mathlib.Core.Logic.{⊎_elim}
use Rattle.agm_net.specs.WellFormed.{Differ}
use Rattle.stimulus.specs.Asked.{text_of}
use Rattle.stimulus.specs.declared.texts.Member.{Member}

later : (b : Bool) (t : List ℕ) (rest x : Option (List ℕ)) → cond (is_some (cond b (Some t) rest)) (cond b (Some t) rest) x ≡ cond b (Some t) (cond (is_some rest) rest x)
later true t rest x = refl
later false t rest x = refl

-- with one more member behind
pub one_more : (ms : List Member) (m : Member) (key : List ℕ) → text_of (ms ++ m ∷ []) key ≡ cond (bytes_eq key m.key) (Some m.text) (text_of ms key)
one_more [] m key = refl
one_more (x ∷ ms) m key = rw (one_more ms m key) (later (bytes_eq key m.key) m.text (text_of ms key) (cond (bytes_eq key x.key) (Some x.text) None))

both_false : (a b : Bool) → (a || b) ≡ false → (a ≡ false) × (b ≡ false)
both_false true b h = absurd (cc)
both_false false b h = (refl, h)

-- a member that has no name changes nothing
pub not_placed : (ms : List Member) (m : Member) (names : List (List ℕ)) → list_any (λ n. bytes_eq n m.key) names ≡ false → map (text_of ms) names ≡ map (text_of (ms ++ m ∷ [])) names
not_placed ms m [] none = refl
not_placed ms m (n ∷ ns) none =
    let parts = both_false (bytes_eq n m.key) (list_any (λ n. bytes_eq n m.key) ns) none in
    ap₂ (λ (t : Option (List ℕ)) (ts : List (Option (List ℕ))). t ∷ ts)
    (sym (one_more ms m n ∙ ap (λ b. cond b (Some m.text) (text_of ms n)) parts.0))
    (not_placed ms m ns parts.1)

-- the names at two places differ
apart : (names : List (List ℕ)) (v w : ℕ) → Differ names → v < length names → w < length names → v ≢ w → get_or names v [] ≢ get_or names w []
apart names v w differ in_v in_w other same =
    let both = slice_get-get_or names v [] in_v ∙ ap Some same ∙ sym (slice_get-get_or names w [] in_w) in
    ⊎_elim (λ lt. differ v w lt in_w both) (λ ge. differ w v (omega arith) in_v (sym both)) (cases_lt v w)

-- one that has a name is its text
pub placed : (ms : List Member) (m : Member) (names : List (List ℕ)) (k : ℕ) → Differ names → position (λ n. bytes_eq n m.key) names ≡ Some k → set (map (text_of ms) names) k (Some m.text) ≡ map (text_of (ms ++ m ∷ [])) names
placed ms m names k differ found =
    let at = position-Some (λ n. bytes_eq n m.key) names k [] found in
    let long : length (map (text_of ms) names) ≡ length names = length-map names (text_of ms) in
    let long_set : length (set (map (text_of ms) names) k (Some m.text)) ≡ length names = length-set (map (text_of ms) names) k (Some m.text) ∙ long in
    let key : get_or names k [] ≡ m.key = (bytes_decides (get_or names k []) m.key).0 at.1 in
    ext_get_or None _ _ (long_set ∙ sym (length-map names (text_of (ms ++ m ∷ []))))
    (λ v inside.
    let within : v < length names = omega arith in
    let right = get_or-map (text_of (ms ++ m ∷ [])) names v [] None within ∙ one_more ms m (get_or names v []) in
    ⊎_elim
    (λ same.
    let left = get_or-set_at (map (text_of ms) names) k v (Some m.text) None same (omega arith) in
    let is : bytes_eq (get_or names v []) m.key ≡ true = subst (λ (j : ℕ). bytes_eq (get_or names j []) m.key ≡ true) (sym same) at.1 in
    left ∙ sym (right ∙ ap (λ b. cond b (Some m.text) (text_of ms (get_or names v []))) is))
    (λ other.
    let left = get_or-set_other (map (text_of ms) names) k v (Some m.text) None other ∙ get_or-map (text_of ms) names v [] None within in
    let is : bytes_eq (get_or names v []) m.key ≡ false = false_from_ne_true _ (λ same. apart names v k differ within at.0 other ((bytes_decides (get_or names v []) m.key).0 same ∙ sym key)) in
    left ∙ sym (right ∙ ap (λ b. cond b (Some m.text) (text_of ms (get_or names v []))) is))
    (cases_eq v k))
