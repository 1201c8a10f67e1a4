-- Numbers at the front of a text.
use Rattle.std.proofs.Common.{◌≡◌, ◌<◌, ◌≤◌, ◌+◌, ◌^◌, ◌++◌, ◌⊎◌, ℕ, zero, suc, List, [], ◌∷◌, length, take, drop, get_or, refl, sym, subst, inl, inr, ◌∙◌, arith}
use Rattle.std.specs.Fmt.{decimal}
use Rattle.std.proofs.Math.Seq.{drop-cons}
use Rattle.std.proofs.lemmas.List.{take_more}
use Rattle.agm_net.proofs.NameCuts.{cut_run, decimal_digits}
use Rattle.hpc2_audit.specs.Cuts.{AreBetween, EndsRun}

between_more : (lo hi : ℕ) (xs : List ℕ) (c : ℕ) → AreBetween lo hi xs → lo ≤ c → c ≤ hi → AreBetween lo hi (xs ++ c ∷ [])
between_more lo hi [] c h low high = ((low, high), tt)
between_more lo hi (x ∷ xs) c h low high = (h.0, between_more lo hi xs c h.1 low high)

-- a run with one byte more
pub run_more : (lo hi : ℕ) (bytes : List ℕ) (i : ℕ) → i < length bytes → AreBetween lo hi (take i bytes) → lo ≤ get_or bytes i 0 → get_or bytes i 0 ≤ hi → AreBetween lo hi (take (i + 1) bytes)
run_more lo hi bytes i lt h low high = subst (AreBetween lo hi) (sym (take_more bytes i 0 lt)) (between_more lo hi (take i bytes) (get_or bytes i 0) h low high)

-- a run ends before a byte that is none of it, and at the end
pub run_ends : (lo hi : ℕ) (bytes : List ℕ) (i : ℕ) → i < length bytes → (get_or bytes i 0 < lo) ⊎ (hi < get_or bytes i 0) → EndsRun lo hi (drop i bytes)
run_ends lo hi bytes i lt other = inr (get_or bytes i 0, drop (suc i) bytes, other, drop-cons bytes i 0 lt)

nothing_left : (n : ℕ) (xs : List ℕ) → length xs ≤ n → drop n xs ≡ []
nothing_left zero [] h = refl
nothing_left (suc n) [] h = refl
nothing_left zero (x ∷ xs) h = absurd (omega arith)
nothing_left (suc n) (x ∷ xs) h = nothing_left n xs (omega arith)

pub run_over : (lo hi : ℕ) (bytes : List ℕ) (n : ℕ) → length bytes ≤ n → EndsRun lo hi (drop n bytes)
run_over lo hi bytes n h = inl (nothing_left n bytes h)

-- no number stands in front where none is the run of digits
pub split_none : (bytes front rest : List ℕ) → front ++ rest ≡ bytes → AreBetween 48 57 front → EndsRun 48 57 rest → ((i : ℕ) → i < 2 ^ 32 → front ≡ decimal i → Prim.⊥)
    → (i : ℕ) (t : List ℕ) → i < 2 ^ 32 → EndsRun 48 57 t → bytes ≡ decimal i ++ t → Prim.⊥
split_none bytes front rest cut digits ends none i t small other e =
    let both = cut_run 48 57 front (decimal i) rest t digits (decimal_digits i (omega arith)) ends other (cut ∙ e) in
    none i small both.0
