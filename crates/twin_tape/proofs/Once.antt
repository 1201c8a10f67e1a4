-- `tapes` has each tape once.
use Rattle.std.proofs.Common.{not, subst, true≢false, Decides, ◌≡◌, ℕ, zero, suc, ◌+◌, Bool, true, false, ◌&&◌, cond, List, [], ◌∷◌, length, refl, sym, ap, ap₂, ◌∙◌, arith, count_by, sum_by}
use Rattle.std.proofs.lemmas.Bool.{and_parts}
use Rattle.agm_net.specs.Formula.{xor}
use Rattle.std.proofs.lemmas.List.Sums.{sum_by-cons}
use Rattle.twin_tape.proofs.Counting.{sum_by-ext, sum_rows, sum_tapes}
use Rattle.agm_net.specs.Trace.{Row}
use Rattle.twin_tape.specs.Tapes.{IsTape, rows, same_row, same_tape, tapes}

bits_same : (a b : Bool) → not (xor a b) ≡ true → a ≡ b
bits_same a b e = grind arith

bit_same : (a : Bool) → not (xor a a) ≡ true
bit_same a = grind arith

rows_same : (a b : Row) → Decides (same_row a b) (a ≡ b)
rows_same [] [] = (λ e. refl, λ e. refl)
rows_same [] (y ∷ b) = (λ e. absurd (true≢false (sym e)), λ e. absurd (let no = e in cc))
rows_same (x ∷ a) [] = (λ e. absurd (true≢false (sym e)), λ e. absurd (let no = e in cc))
rows_same (x ∷ a) (y ∷ b) =
    let rest = rows_same a b in (
      λ e. let both = and_parts (not (xor x y)) (same_row a b) e in ap₂ (λ h t. h ∷ t) (bits_same x y both.0) (rest.0 both.1),
      λ e. let head : x ≡ y = cc in let tail : a ≡ b = cc in ap₂ (λ p q. p && q) (subst (λ b. not (xor x b) ≡ true) head (bit_same x)) (rest.1 tail),
    )

pub tapes_same : (a b : List Row) → Decides (same_tape a b) (a ≡ b)
tapes_same [] [] = (λ e. refl, λ e. refl)
tapes_same [] (y ∷ b) = (λ e. absurd (true≢false (sym e)), λ e. absurd (let no = e in cc))
tapes_same (x ∷ a) [] = (λ e. absurd (true≢false (sym e)), λ e. absurd (let no = e in cc))
tapes_same (x ∷ a) (y ∷ b) =
    let row = rows_same x y in let rest = tapes_same a b in (
      λ e. let both = and_parts (same_row x y) (same_tape a b) e in ap₂ (λ h t. h ∷ t) (row.0 both.0) (rest.0 both.1),
      λ e. let head : x ≡ y = cc in let tail : a ≡ b = cc in ap₂ (λ p q. p && q) (row.1 head) (rest.1 tail),
    )

pub none : {X : Type 0} (xs : List X) → sum_by (λ x. 0) xs ≡ 0
none [] = refl
none (x ∷ xs) = sum_by-cons (λ x. 0) x xs ∙ ap (λ n. 0 + n) (none xs)

rows_once : (R : ℕ) (row : List Bool) → length row ≡ R → (weight : ℕ) → sum_by (λ x. cond (same_row row x) weight 0) (rows R) ≡ weight
rows_once zero [] e weight = omega arith
rows_once zero (b ∷ row) e weight = absurd (omega arith)
rows_once (suc R) [] e weight = absurd (omega arith)
rows_once (suc R) (false ∷ row) e weight =
    let one = rows_once R row (omega arith) weight in let no_more = none (rows R) in
    sum_rows R (λ x. cond (same_row (false ∷ row) x) weight 0) ∙ ap₂ (λ a b. a + b) one no_more ∙ (omega arith)
rows_once (suc R) (true ∷ row) e weight =
    let one = rows_once R row (omega arith) weight in let no_more = none (rows R) in
    sum_rows R (λ x. cond (same_row (true ∷ row) x) weight 0) ∙ ap₂ (λ a b. a + b) no_more one ∙ (omega arith)

pub tapes_weigh : (R T : ℕ) (tape : List Row) → IsTape R T tape → (weight : ℕ) → sum_by (λ x. cond (same_tape tape x) weight 0) (tapes R T) ≡ weight
tapes_weigh R zero [] is weight = omega arith
tapes_weigh R zero (row ∷ tape) is weight = absurd is
tapes_weigh R (suc T) [] is weight = absurd is
tapes_weigh R (suc T) (row ∷ tape) is weight =
    sum_tapes R T (λ x. cond (same_tape (row ∷ tape) x) weight 0) ∙
    sum_by-ext (λ x. sum_by (λ y. cond (same_row row x && same_tape tape y) weight 0) (tapes R T)) (λ x. cond (same_row row x) weight 0) (λ x. go (same_row row x) (tapes_weigh R T tape is.1 weight)) (rows R) ∙
    rows_once R row is.0 weight
  where
    go : (b : Bool) → sum_by (λ y. cond (same_tape tape y) weight 0) (tapes R T) ≡ weight → sum_by (λ y. cond (b && same_tape tape y) weight 0) (tapes R T) ≡ cond b weight 0
    go true e = e
    go false e = none (tapes R T)

pub tapes_once : (R T : ℕ) (tape : List Row) → IsTape R T tape → count_by (same_tape tape) (tapes R T) ≡ 1
tapes_once R T tape is = tapes_weigh R T tape is 1
