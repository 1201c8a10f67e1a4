use Rattle.std.proofs.Common.{◌≡◌, ℕ, zero, suc, ◌+◌, Bool, true, false, List, [], ◌∷◌, ◌++◌, map, refl, sym, ap, ap₂, ◌∙◌, arith, add_comm}
use Rattle.std.specs.List.{sum_by, flat_map}
use Rattle.std.proofs.lemmas.List.Sums.{sum_by-append, sum_by-cons}
use Rattle.std.proofs.Common.{◌<◌, length, slice_index_or, take, subst, append_assoc, append-nil}
use Rattle.agm_net.specs.Trace.{Row}
use Rattle.twin_tape.specs.Laws.{IsCausal, xor_row}
use Rattle.twin_tape.specs.Tapes.{IsTape, rows, tapes}

-- A change of tapes, row by row: each row is the argument's, exclusive or a row that the rows before it give,
-- those of the argument (`past`) and those of the result (`made`), the earliest first.
abbrev pub twisted : (List Row → List Row → Row) → List Row → List Row → List Row → List Row
twisted mask past made [] = []
twisted mask past made (row ∷ tape) =
    xor_row row (mask past made) ∷ twisted mask (past ++ row ∷ []) (made ++ xor_row row (mask past made) ∷ []) tape

-- a sum sees its function's values alone
pub sum_by-ext : {X : Type 0} (f g : X → ℕ) → ((x : X) → f x ≡ g x) → (xs : List X) → sum_by f xs ≡ sum_by g xs
sum_by-ext f g same [] = refl
sum_by-ext f g same (x ∷ xs) = sum_by-cons f x xs ∙ ap₂ (λ a b. a + b) (same x) (sum_by-ext f g same xs) ∙ sym (sum_by-cons g x xs)

pub sum_by-map : {X Y : Type 0} (f : Y → ℕ) (g : X → Y) (xs : List X) → sum_by f (map g xs) ≡ sum_by (λ x. f (g x)) xs
sum_by-map f g [] = refl
sum_by-map f g (x ∷ xs) = sum_by-cons f (g x) (map g xs) ∙ ap (λ n. f (g x) + n) (sum_by-map f g xs) ∙ sym (sum_by-cons (λ y. f (g y)) x xs)

pub sum_by-flat_map : {X Y : Type 0} (f : Y → ℕ) (g : X → List Y) (xs : List X) → sum_by f (flat_map g xs) ≡ sum_by (λ x. sum_by f (g x)) xs
sum_by-flat_map f g [] = refl
sum_by-flat_map f g (x ∷ xs) =
    sum_by-append f (g x) (flat_map g xs) ∙ ap (λ n. sum_by f (g x) + n) (sum_by-flat_map f g xs) ∙ sym (sum_by-cons (λ y. sum_by f (g y)) x xs)

-- a sum over all rows that begin with each bit
pub sum_rows : (R : ℕ) (f : List Bool → ℕ) → sum_by f (rows (suc R)) ≡ sum_by (λ row. f (false ∷ row)) (rows R) + sum_by (λ row. f (true ∷ row)) (rows R)
sum_rows R f = sum_by-append f (map (λ row. false ∷ row) (rows R)) (map (λ row. true ∷ row) (rows R)) ∙ ap₂ (λ a b. a + b) (sum_by-map f (λ row. false ∷ row) (rows R)) (sum_by-map f (λ row. true ∷ row) (rows R))

-- a sum over all rows stays where each row is changed by one mask
pub sum_masked : (R : ℕ) (mask : List Bool) (f : List Bool → ℕ) → sum_by (λ row. f (xor_row row mask)) (rows R) ≡ sum_by f (rows R)
sum_masked zero mask f = refl
sum_masked (suc R) [] f = sum_rows R (λ row. f (xor_row row [])) ∙ sym (sum_rows R f)
sum_masked (suc R) (false ∷ mask) f =
    sum_rows R (λ row. f (xor_row row (false ∷ mask))) ∙ ap₂ (λ a b. a + b) (sum_masked R mask (λ row. f (false ∷ row))) (sum_masked R mask (λ row. f (true ∷ row))) ∙ sym (sum_rows R f)
sum_masked (suc R) (true ∷ mask) f =
    sum_rows R (λ row. f (xor_row row (true ∷ mask))) ∙ ap₂ (λ a b. a + b) (sum_masked R mask (λ row. f (true ∷ row))) (sum_masked R mask (λ row. f (false ∷ row))) ∙ add_comm _ _ ∙ sym (sum_rows R f)

-- a sum over all tables, first row by first row
pub sum_tapes : (R T : ℕ) (f : List Row → ℕ) → sum_by f (tapes R (suc T)) ≡ sum_by (λ row. sum_by (λ tape. f (row ∷ tape)) (tapes R T)) (rows R)
sum_tapes R T f =
    sum_by-flat_map f (λ row. map (λ tape. row ∷ tape) (tapes R T)) (rows R) ∙
    sum_by-ext (λ row. sum_by f (map (λ tape. row ∷ tape) (tapes R T))) (λ row. sum_by (λ tape. f (row ∷ tape)) (tapes R T)) (λ row. sum_by-map f (λ tape. row ∷ tape) (tapes R T)) (rows R)

-- sums over rows and tapes see their function at rows and tapes of that size alone
pub sum_rows-ext : (R : ℕ) (f g : List Bool → ℕ) → ((row : List Bool) → length row ≡ R → f row ≡ g row) → sum_by f (rows R) ≡ sum_by g (rows R)
sum_rows-ext zero f g same = ap (λ n. 0 + n) (same [] refl)
sum_rows-ext (suc R) f g same =
    sum_rows R f ∙
    ap₂ (λ a b. a + b) (sum_rows-ext R (λ row. f (false ∷ row)) (λ row. g (false ∷ row)) (λ row e. same (false ∷ row) (ap suc e)))
    (sum_rows-ext R (λ row. f (true ∷ row)) (λ row. g (true ∷ row)) (λ row e. same (true ∷ row) (ap suc e))) ∙
    sym (sum_rows R g)

pub sum_tapes-ext : (R T : ℕ) (f g : List Row → ℕ) → ((tape : List Row) → IsTape R T tape → f tape ≡ g tape) → sum_by f (tapes R T) ≡ sum_by g (tapes R T)
sum_tapes-ext R zero f g same = ap (λ n. 0 + n) (same [] tt)
sum_tapes-ext R (suc T) f g same =
    sum_tapes R T f ∙
    sum_rows-ext R (λ row. sum_by (λ tape. f (row ∷ tape)) (tapes R T)) (λ row. sum_by (λ tape. g (row ∷ tape)) (tapes R T))
    (λ row e. sum_tapes-ext R T (λ tape. f (row ∷ tape)) (λ tape. g (row ∷ tape)) (λ tape is. same (row ∷ tape) (e, is))) ∙
    sym (sum_tapes R T g)

-- a sum over all tapes stays where each row is changed by what the rows before it give
pub sum_twisted : (mask : List Row → List Row → List Bool) (R T : ℕ) (past made : List Row) (f : List Row → ℕ) →
    sum_by (λ tape. f (twisted mask past made tape)) (tapes R T) ≡ sum_by f (tapes R T)
sum_twisted mask R zero past made f = refl
sum_twisted mask R (suc T) past made f =
    let m = mask past made in
    sum_tapes R T (λ tape. f (twisted mask past made tape)) ∙
    sum_by-ext (λ row. sum_by (λ tape. f (xor_row row m ∷ twisted mask (past ++ row ∷ []) (made ++ xor_row row m ∷ []) tape)) (tapes R T))
    (λ row. sum_by (λ tape. f (xor_row row m ∷ tape)) (tapes R T))
    (λ row. sum_twisted mask R T (past ++ row ∷ []) (made ++ xor_row row m ∷ []) (λ tape. f (xor_row row m ∷ tape))) (rows R) ∙
    sum_masked R m (λ row. sum_by (λ tape. f (row ∷ tape)) (tapes R T)) ∙ sym (sum_tapes R T f)

-- what the rows of a twisted tape are
pub length-twisted : (mask : List Row → List Row → List Bool) (past made tape : List Row) → length (twisted mask past made tape) ≡ length tape
length-twisted mask past made [] = refl
length-twisted mask past made (row ∷ tape) = ap suc (length-twisted mask (past ++ row ∷ []) (made ++ xor_row row (mask past made) ∷ []) tape)

-- a tape whose rows are those of the twisted one is the twisted one
pub is_twisted : (mask : List Row → List Row → List Bool) (past made tape new : List Row) → length new ≡ length tape →
    ((t : ℕ) → t < length tape → slice_index_or new t [] ≡ xor_row (slice_index_or tape t []) (mask (past ++ take t tape) (made ++ take t new))) →
    new ≡ twisted mask past made tape
is_twisted mask past made [] [] e rows_are = refl
is_twisted mask past made [] (new ∷ news) e rows_are = absurd (omega arith)
is_twisted mask past made (row ∷ tape) [] e rows_are = absurd (omega arith)
is_twisted mask past made (row ∷ tape) (new ∷ news) e rows_are =
    let head : new ≡ xor_row row (mask past made) = simp append-nil at (rows_are 0 (omega arith)) in
    let tail : news ≡ twisted mask (past ++ row ∷ []) (made ++ new ∷ []) tape =
    is_twisted mask (past ++ row ∷ []) (made ++ new ∷ []) tape news (omega arith) (λ t h. simp append_assoc (rows_are (suc t) (omega arith))) in
    ap₂ (λ x xs. x ∷ xs) head (subst (λ x. news ≡ twisted mask (past ++ row ∷ []) (made ++ x ∷ []) tape) head tail)

pub length-IsTape : (R T : ℕ) (tape : List Row) → IsTape R T tape → length tape ≡ T
length-IsTape R zero [] is = refl
length-IsTape R zero (row ∷ tape) is = absurd is
length-IsTape R (suc T) [] is = absurd is
length-IsTape R (suc T) (row ∷ tape) is = ap suc (length-IsTape R T tape is.1)

pub sum_causal : (R T : ℕ) (F : List Row → List Row) → IsCausal R T F → (f : List Row → ℕ) → sum_by (λ tape. f (F tape)) (tapes R T) ≡ sum_by f (tapes R T)
sum_causal R T F causal f =
    sum_tapes-ext R T (λ tape. f (F tape)) (λ tape. f (twisted causal.change [] [] tape))
    (λ tape is. ap f (is_twisted causal.change [] [] tape (F tape) (causal.as_long tape is ∙ sym (length-IsTape R T tape is))
    (λ t h. causal.rows tape is t (subst (λ n. t < n) (length-IsTape R T tape is) h)))) ∙
    sum_twisted causal.change R T [] [] f
