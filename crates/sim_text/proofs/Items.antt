-- The item that a loop has come to.
use Rattle.std.proofs.Common.{◌≡◌, ◌<◌, ◌+◌, ◌++◌, ◌∷◌, [], ℕ, All, List, length, take, get_or, sym, ap, ◌∙◌, subst}
use Rattle.std.proofs.lemmas.List.{take_more}
use Rattle.std.proofs.lemmas.List.Elements.{All-get_or}

pub all_item : {X : Type 0} (P : X → Type 0) (xs ys : List X) (k : ℕ) (x : X) → ys ≡ xs → k < length ys → x ≡ get_or ys k x → All P xs → P x
all_item P xs ys k x e lt is h = subst P (sym is) (All-get_or P ys k x lt (subst (All P) (sym e) h))

pub take_item : {X : Type 0} (xs ys : List X) (k : ℕ) (x : X) → ys ≡ xs → k < length ys → x ≡ get_or ys k x → take (k + 1) xs ≡ take k xs ++ x ∷ []
take_item {X} xs ys k x e lt is = subst (λ (zs : List X). take (k + 1) zs ≡ take k zs ++ x ∷ []) e (take_more ys k x lt ∙ ap (λ y. take k ys ++ y ∷ []) (sym is))
