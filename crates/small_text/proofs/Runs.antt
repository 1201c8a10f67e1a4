-- Runs of bytes of one kind.
use Rattle.std.proofs.Common.{◌≡◌, ◌≤◌, ◌++◌, ℕ, Bool, true, false, cond, length, take, drop, List, [], ◌∷◌, refl, sym, ap, ◌∙◌, subst, IsTrue, arith, append-nil, length-append}
use Rattle.std.specs.List.{take_while, AllByRecursion}
use Rattle.std.proofs.lemmas.List.Sums.{take_while-cons}
use Rattle.std.proofs.Math.Seq.{take-append_seam, drop-append-add}
use Rattle.small_text.specs.First.{run}

-- each byte is of the kind
abbrev pub AllOf : (ℕ → Bool) → List ℕ → Type 0
AllOf kind bytes = AllByRecursion (λ b. IsTrue (kind b)) bytes

-- a byte of the kind goes on a run
run_on : (kind : ℕ → Bool) (b : ℕ) (bs : List ℕ) → kind b ≡ true → take_while kind (b ∷ bs) ≡ b ∷ take_while kind bs
run_on kind b bs h = take_while-cons kind b bs ∙ ap (λ q. cond q (b ∷ take_while kind bs) []) h

-- another byte ends it
run_off : (kind : ℕ → Bool) (b : ℕ) (bs : List ℕ) → kind b ≡ false → take_while kind (b ∷ bs) ≡ []
run_off kind b bs h = take_while-cons kind b bs ∙ ap (λ q. cond q (b ∷ take_while kind bs) []) h

-- a byte of the kind begins a run
pub run_first : (kind : ℕ → Bool) (b : ℕ) (bs : List ℕ) → kind b ≡ true → take_while kind (b ∷ bs) ≡ b ∷ take_while kind bs
run_first = run_on

-- no run begins with another byte
pub run_none : (kind : ℕ → Bool) (b : ℕ) (bs : List ℕ) → kind b ≡ false → run kind (b ∷ bs) ≡ 0
run_none kind b bs h = ap length (run_off kind b bs h)

-- a run goes on behind bytes of its kind
run_over : (kind : ℕ → Bool) (front behind : List ℕ) → AllOf kind front → take_while kind (front ++ behind) ≡ front ++ take_while kind behind
run_over kind [] behind h = refl
run_over kind (b ∷ bs) behind h = run_on kind b (bs ++ behind) h.0 ∙ ap (λ w. b ∷ w) (run_over kind bs behind h.1)

-- one step of `all_of_run`
all_of_case : (kind : ℕ → Bool) (b : ℕ) (w : List ℕ) → AllOf kind w → (q : Bool) → kind b ≡ q → AllOf kind (cond q (b ∷ w) [])
all_of_case kind b w h true e = (e, h)
all_of_case kind b w h false e = tt

-- the bytes of a run are of its kind
pub all_of_run : (kind : ℕ → Bool) (bytes : List ℕ) → AllOf kind (take_while kind bytes)
all_of_run kind [] = tt
all_of_run kind (b ∷ bs) = subst (AllOf kind) (sym (take_while-cons kind b bs)) (all_of_case kind b (take_while kind bs) (all_of_run kind bs) (kind b) refl)

-- one step of `split_run`
split_case : (b : ℕ) (bs w : List ℕ) → w ++ drop (length w) bs ≡ bs → (q : Bool) → cond q (b ∷ w) [] ++ drop (length (cond q (b ∷ w) [])) (b ∷ bs) ≡ b ∷ bs
split_case b bs w h true = ap (λ v. b ∷ v) h
split_case b bs w h false = refl

-- a run and what stands behind it are the bytes
pub split_run : (kind : ℕ → Bool) (bytes : List ℕ) → take_while kind bytes ++ drop (run kind bytes) bytes ≡ bytes
split_run kind [] = refl
split_run kind (b ∷ bs) = ap (λ w. w ++ drop (length w) (b ∷ bs)) (take_while-cons kind b bs) ∙ split_case b bs (take_while kind bs) (split_run kind bs) (kind b)

-- the bytes that are taken for a run are the run
pub taken_run : (kind : ℕ → Bool) (bytes : List ℕ) → take (run kind bytes) bytes ≡ take_while kind bytes
taken_run kind bytes = ap (take (run kind bytes)) (sym (split_run kind bytes)) ∙ take-append_seam (take_while kind bytes) (drop (run kind bytes) bytes)

-- a run is no longer than the bytes
pub run_le : (kind : ℕ → Bool) (bytes : List ℕ) → run kind bytes ≤ length bytes
run_le kind bytes = omega (arith, ap length (split_run kind bytes), length-append (take_while kind bytes) (drop (run kind bytes) bytes))

-- behind bytes of the kind, what the run leaves is what the run behind them leaves
pub run_seam : (kind : ℕ → Bool) (front behind : List ℕ) → AllOf kind front → drop (run kind (front ++ behind)) (front ++ behind) ≡ drop (run kind behind) behind
run_seam kind front behind h =
    ap (λ w. drop (length w) (front ++ behind)) (run_over kind front behind h)
    ∙ (ap (λ n. drop n (front ++ behind)) (length-append front (take_while kind behind)) ∙ drop-append-add front behind (run kind behind))

-- a list of length 0 is empty
no_bytes : (w : List ℕ) → length w ≡ 0 → w ≡ []
no_bytes [] h = refl
no_bytes (x ∷ xs) h = absurd (omega arith)

-- where the run ends behind bytes of its kind, those bytes are the run
pub run_front : (kind : ℕ → Bool) (front behind : List ℕ) → AllOf kind front → run kind behind ≡ 0 → take (run kind (front ++ behind)) (front ++ behind) ≡ front
run_front kind front behind h e =
    taken_run kind (front ++ behind) ∙ (run_over kind front behind h ∙ (ap (λ w. front ++ w) (no_bytes (take_while kind behind) e) ∙ append-nil front))

-- and the rest is what stands behind them
pub run_rest : (kind : ℕ → Bool) (front behind : List ℕ) → AllOf kind front → run kind behind ≡ 0 → drop (run kind (front ++ behind)) (front ++ behind) ≡ behind
run_rest kind front behind h e = run_seam kind front behind h ∙ ap (λ n. drop n behind) e
