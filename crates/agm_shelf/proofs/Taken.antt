-- What a reader with a limit has read, where it has read less.
use Rattle.std.proofs.Common.{◌≡◌, ◌<◌, ◌++◌, ℕ, option_map, List, [], length, take, min, Option, Some, None, IfSome, ap, subst, ◌∙◌, arith}
use Rattle.std.specs.Io.Take.{take_limit, take_inner, take_remaining}
use Rattle.std.specs.declared.io.traits.Take.{Take}
use Rattle.std.proofs.lemmas.List.{length-take, take_all}

-- less than so many first items of a list are the whole list
all_taken : (most : ℕ) (items ys : List ℕ) → length items < most → items ≡ take most ys → items ≡ ys
all_taken most items ys less same =
    let long : length items ≡ length (take most ys) = ap length same in
    let front : length (take most ys) ≡ min most (length ys) = length-take most ys in
    same ∙ take_all most ys (omega arith)

-- a reader that was limited and gave less has given all
pub all_read : {R : Type 0} (remaining : R → Option (List ℕ)) (t : Take R) (file : R) (most : ℕ) (items before : List ℕ) → take_limit t ≡ most → take_inner t ≡ file → before ≡ [] → length items < most
    → IfSome (take_remaining remaining t) (λ xs. items ≡ before ++ xs) → IfSome (remaining file) (λ xs. items ≡ xs)
all_read remaining t file most items before limit inner empty less h =
    subst (λ f. IfSome (remaining f) (λ xs. items ≡ xs)) inner (go (remaining t.inner) h)
  where
    go : (known : Option (List ℕ)) → IfSome (option_map (take t.limit) known) (λ xs. items ≡ before ++ xs) → IfSome known (λ xs. items ≡ xs)
    go None g = tt
    go (Some ys) g = all_taken t.limit items ys (omega arith) (g ∙ ap (λ front. front ++ take t.limit ys) empty)
