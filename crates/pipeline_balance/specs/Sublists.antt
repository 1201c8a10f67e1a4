-- Lists with some items left out.
use Rattle.std.specs.Prelude.{List, [], ◌∷◌}

-- The first list is the second one without some of its items.
pub data IsSublist {X : Type 0} : List X → List X → Type 0 where
  none : IsSublist [] []
  kept : {x : X} {xs ys : List X} → IsSublist xs ys → IsSublist (x ∷ xs) (x ∷ ys)
  left : {x : X} {xs ys : List X} → IsSublist xs ys → IsSublist xs (x ∷ ys)
