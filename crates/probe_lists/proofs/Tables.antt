-- A table of different names.
use Rattle.std.proofs.Common.{◌≡◌, ℕ, ◌+◌, ◌<◌, ◌++◌, Bool, true, not, cond, List, [], ◌∷◌, Some, length, get_or, take, sym, ◌∙◌}
use Rattle.std.specs.List.{list_any}
use Rattle.std.specs.Str.{bytes_eq}
use Rattle.std.proofs.lemmas.List.{take_more}
use Rattle.std.proofs.lemmas.Option.{slice_get-get_or}
use Rattle.agm_net.proofs.Repeats.{test-from_new}
use Rattle.agm_net.specs.Checks.{is_new}
use Rattle.agm_net.specs.WellFormed.{Differ}

-- the table with one more name
pub one_added : (names : List (List ℕ)) (i : ℕ) (x : List ℕ) → i < length names → Differ names → x ≡ get_or names i x → (name : List ℕ) → name ≡ x → (table : List (List ℕ)) → table ≡ take i names
    → (fresh : Bool) → fresh ≡ not (list_any (λ n. bytes_eq n name) table) → (after : List (List ℕ)) → after ≡ cond fresh (table ++ name ∷ []) table → after ≡ take (i + 1) names
one_added names i x within differ here name named table seen fresh told after added =
    let some : Some (get_or names i []) ≡ Some (get_or names i x) = sym (slice_get-get_or names i [] within) ∙ slice_get-get_or names i x within in
    let own : get_or names i [] ≡ x = cc in
    let more = take_more names i [] within in
    let new = test-from_new names i within (λ v before. differ v i before within) in
    let same : is_new names i ≡ fresh = rw own (rw (← named, ← seen) (sym told)) in
    let is_fresh : fresh ≡ true = sym same ∙ new in
    added ∙ rw (is_fresh, named, seen) (rw (← own) (sym more))
