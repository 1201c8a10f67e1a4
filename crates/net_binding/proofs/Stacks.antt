-- Frames as they are kept, the innermost last.
use Rattle.std.proofs.Common.{◌≡◌, ◌==◌, ◌||◌, ◌++◌, ◌∷◌, ℕ, List, [], map, reverse, refl, ap, sym, ◌∙◌}
use Rattle.std.specs.List.{list_any}
use Rattle.std.proofs.lemmas.List.{reverse-append}
use Rattle.std.proofs.lemmas.List.Sorted.{IsPermutation-reverse, list_any-IsPermutation}
use Rattle.net_binding.specs.Rest.{frame_number, path_of}
use Rattle.net_binding.specs.declared.frame.Frame.{Frame}

pub on_top : {X : Type 0} (xs : List X) (x : X) → reverse (xs ++ x ∷ []) ≡ x ∷ reverse xs
on_top xs x = reverse-append xs (x ∷ [])

among_numbers : (fs : List Frame) (k : ℕ) → list_any (λ f. f.number == k) fs ≡ list_any (λ j. j == k) (path_of fs)
among_numbers [] k = refl
among_numbers (f ∷ fs) k = ap (λ b. (f.number == k) || b) (among_numbers fs k)

pub among_path : (fs : List Frame) (k : ℕ) → list_any (λ f. f.number == k) fs ≡ list_any (λ j. j == k) (path_of (reverse fs))
among_path fs k = list_any-IsPermutation (λ f. f.number == k) fs (reverse fs) (IsPermutation-reverse fs) ∙ among_numbers (reverse fs) k
