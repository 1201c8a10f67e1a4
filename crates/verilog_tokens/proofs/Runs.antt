-- Runs of bytes of one kind.
use Rattle.std.proofs.Common.{◌≡◌, ◌++◌, ℕ, Bool, List, [], ◌∷◌, refl, ap, ◌∙◌}
use Rattle.std.specs.List.{take_while}
use Rattle.small_text.proofs.Runs.{AllOf, run_first}

-- a run goes on behind bytes of its kind
pub run_over : (kind : ℕ → Bool) (front behind : List ℕ) → AllOf kind front → take_while kind (front ++ behind) ≡ front ++ take_while kind behind
run_over kind [] behind h = refl
run_over kind (b ∷ bs) behind h = run_first kind b (bs ++ behind) h.0 ∙ ap (λ w. b ∷ w) (run_over kind bs behind h.1)
