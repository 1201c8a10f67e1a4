-- Sharings of rows: their draws, and how long they are.
use Rattle.std.proofs.Common.{◌≡◌, ◌<◌, ◌≤◌, ◌+◌, ◌*◌, ◌++◌, ℕ, suc, zero, List, [], ◌∷◌, reverse, length, flat_map, sym, ap, ◌∙◌, arith, mul-le-mul_right, append-nil, zero-add}
use Rattle.std.specs.List.{range_with_len}
use Rattle.std.proofs.lemmas.List.{length-append, length-reverse, append_assoc}
use Rattle.std.proofs.lemmas.List.FromFn.{length-map-range_with_len, length-range_with_len}
use Rattle.std.proofs.Math.Nat.{add-mul}
use Rattle.agm_net.specs.Trace.{Row}
use Rattle.share_wiring.specs.Shape.{indices}
use Rattle.shared_tape.specs.Sharing.{share_row, share_rows, falling_rows}

pub one_more : (b d : ℕ) → (b + 1) * d ≡ b * d + d
one_more b d = add-mul b 1 d ∙ omega arith

-- the draws of a sharing are among those of all
pub sharing_within : (n d b long : ℕ) → b < n → n * d ≤ long → b * d + d ≤ long
sharing_within n d b long lt le =
    let step = one_more b d in
    let less : b + 1 ≤ n = omega (arith, lt) in
    let more : (b + 1) * d ≤ n * d = mul-le-mul_right d less in
    omega (arith, step, more, le)

-- joined rows of one length
pub joined_long : (f : ℕ → Row) (n : ℕ) → ((i : ℕ) → length (f i) ≡ n) → (xs : List ℕ) → length (flat_map f xs) ≡ length xs * n
joined_long f n each [] = let none : 0 ≡ 0 * n = omega arith in none
joined_long f n each (x ∷ xs) =
    let rest = joined_long f n each xs in
    let here = each x in
    let all = one_more (length xs) n in
    let count : suc (length xs) * n ≡ (length xs + 1) * n = ap (λ m. m * n) (omega arith) in
    length-append (f x) (flat_map f xs) ∙ omega (arith, rest, here, all, count)

range_long : (n : ℕ) → length (range_with_len 0 n) ≡ n
range_long n = length-range_with_len 0 n

joined_next : (f : ℕ → Row) (a n : ℕ) → flat_map f (range_with_len a (suc n)) ≡ flat_map f (range_with_len a n) ++ f (a + n)
joined_next f a zero = append-nil (f a) ∙ ap f (omega arith)
joined_next f a (suc n) =
    let same : a + 1 + n ≡ a + suc n = omega arith in
    ap (λ xs. f a ++ xs) (joined_next f (a + 1) n)
    ∙ (sym (append_assoc (f a) (flat_map f (range_with_len (a + 1) n)) (f (a + 1 + n)))
    ∙ ap (λ k. (f a ++ flat_map f (range_with_len (a + 1) n)) ++ f k) same)

-- the row behind joined rows
pub joined_more : (f : ℕ → Row) (n : ℕ) → flat_map f (range_with_len 0 (n + 1)) ≡ flat_map f (range_with_len 0 n) ++ f n
joined_more f n = let next : n + 1 ≡ suc n = omega arith in ap (λ k. flat_map f (range_with_len 0 k)) next ∙ (joined_next f 0 n ∙ ap (λ k. flat_map f (range_with_len 0 n) ++ f k) (zero-add n))

pub row_grown : (f : ℕ → Row) (start now row : Row) (n : ℕ) → now ≡ start ++ flat_map f (range_with_len 0 n) → row ≡ now ++ f n → row ≡ start ++ flat_map f (range_with_len 0 (n + 1))
row_grown f start now row n before more =
    more ∙ (ap (λ xs. xs ++ f n) before ∙ (append_assoc start (flat_map f (range_with_len 0 n)) (f n) ∙ ap (λ xs. start ++ xs) (sym (joined_more f n))))

pub row_long : (draws : Row) (d first : ℕ) (values : Row) (i : ℕ) → length (share_row draws d first values i) ≡ length values
row_long draws d first values i = length-map-range_with_len _ 0 (length values)

pub rows_long : (draws : Row) (d first : ℕ) (values : Row) → length (share_rows draws d first values) ≡ (d + 1) * length values
rows_long draws d first values =
    joined_long (share_row draws d first values) (length values) (row_long draws d first values) (indices d) ∙ ap (λ n. n * length values) (range_long (d + 1))

pub falling_long : (draws : Row) (d first : ℕ) (values : Row) → length (falling_rows draws d first values) ≡ (d + 1) * length values
falling_long draws d first values =
    joined_long (λ i. reverse (share_row draws d first values i)) (length values) (λ i. length-reverse (share_row draws d first values i) ∙ row_long draws d first values i) (indices d)
    ∙ ap (λ n. n * length values) (range_long (d + 1))
