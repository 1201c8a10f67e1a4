-- Runs of bytes of one kind.
use Rattle.std.proofs.Common.{◌≡◌, ◌++◌, ◌⊎◌, ℕ, Bool, true, false, cond, length, take, drop, List, [], ◌∷◌, refl, sym, ap, ◌∙◌, subst, inl, inr, IsTrue}
use Rattle.std.specs.List.{take_while, AllByRecursion}
use Rattle.std.proofs.lemmas.List.Sums.{take_while-cons}
use Rattle.std.proofs.Math.Seq.{take-append_seam}
use Rattle.liberty_text.specs.First.{run}

pub chosen : {X : Type 0} (b : Bool) (x y z : X) → cond b x y ≡ z → ((b ≡ true) × (x ≡ z)) ⊎ ((b ≡ false) × (y ≡ z))
chosen true x y z h = inl (refl, h)
chosen false x y z h = inr (refl, h)

-- one step of a run
run_on : (p : ℕ → Bool) (b : ℕ) (bs : List ℕ) → p b ≡ true → take_while p (b ∷ bs) ≡ b ∷ take_while p bs
run_on p b bs h = take_while-cons p b bs ∙ ap (λ q. cond q (b ∷ take_while p bs) []) h

run_off : (p : ℕ → Bool) (b : ℕ) (bs : List ℕ) → p b ≡ false → take_while p (b ∷ bs) ≡ []
run_off p b bs h = take_while-cons p b bs ∙ ap (λ q. cond q (b ∷ take_while p bs) []) h

pub run_none : (p : ℕ → Bool) (b : ℕ) (bs : List ℕ) → p b ≡ false → run p (b ∷ bs) ≡ 0
run_none p b bs h = ap length (run_off p b bs h)

pub run_first : (p : ℕ → Bool) (b : ℕ) (bs : List ℕ) → p b ≡ true → take_while p (b ∷ bs) ≡ b ∷ take_while p bs
run_first = run_on

-- a run of a kind goes on behind bytes of that kind
pub run_over : (p : ℕ → Bool) (v more : List ℕ) → AllByRecursion (λ b. IsTrue (p b)) v → take_while p (v ++ more) ≡ v ++ take_while p more
run_over p [] more h = refl
run_over p (b ∷ bs) more h = run_on p b (bs ++ more) h.0 ∙ ap (λ w. b ∷ w) (run_over p bs more h.1)

all_of_case : (p : ℕ → Bool) (b : ℕ) (w : List ℕ) → AllByRecursion (λ c. IsTrue (p c)) w → (q : Bool) → p b ≡ q → AllByRecursion (λ c. IsTrue (p c)) (cond q (b ∷ w) [])
all_of_case p b w h true e = (e, h)
all_of_case p b w h false e = tt

pub all_of_run : (p : ℕ → Bool) (bytes : List ℕ) → AllByRecursion (λ b. IsTrue (p b)) (take_while p bytes)
all_of_run p [] = tt
all_of_run p (b ∷ bs) = subst (AllByRecursion (λ c. IsTrue (p c))) (sym (take_while-cons p b bs)) (all_of_case p b (take_while p bs) (all_of_run p bs) (p b) refl)

split_case : (b : ℕ) (bs w : List ℕ) → w ++ drop (length w) bs ≡ bs → (q : Bool) → cond q (b ∷ w) [] ++ drop (length (cond q (b ∷ w) [])) (b ∷ bs) ≡ b ∷ bs
split_case b bs w h true = ap (λ v. b ∷ v) h
split_case b bs w h false = refl

-- a run, and what stands behind it
pub split_run : (p : ℕ → Bool) (bytes : List ℕ) → take_while p bytes ++ drop (run p bytes) bytes ≡ bytes
split_run p [] = refl
split_run p (b ∷ bs) = ap (λ w. w ++ drop (length w) (b ∷ bs)) (take_while-cons p b bs) ∙ split_case b bs (take_while p bs) (split_run p bs) (p b)

pub taken_run : (p : ℕ → Bool) (bytes : List ℕ) → take (run p bytes) bytes ≡ take_while p bytes
taken_run p bytes = ap (take (run p bytes)) (sym (split_run p bytes)) ∙ take-append_seam (take_while p bytes) (drop (run p bytes) bytes)
