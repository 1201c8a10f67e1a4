-- Rows with random bits, one at a time.
use Rattle.std.proofs.Common.{◌≡◌, ◌<◌, ◌+◌, ◌*◌, ◌++◌, ℕ, zero, suc, List, [], ◌∷◌, length, take, get_or, refl, ap, ap₂, ◌∙◌, arith, zero-add}
use Rattle.std.proofs.lemmas.List.{take_more}
use Rattle.std.proofs.lemmas.List.FromFn.{get_or-map-range_with_len, length-map-range_with_len}
use Rattle.agm_net.specs.Trace.{Row, row_at}
use Rattle.rand_chacha.specs.ChaCha.{key_of}
use Rattle.random_draws.specs.Draws.{random_bits, random_rows}
use Rattle.shared_tape.specs.Driven.{with_random, whole_rows}
use Rattle.side_by_side.proofs.More.{item_at}

whole_at : (randoms rows : List Row) (t : ℕ) → length randoms ≡ length rows → t < length rows → row_at (whole_rows randoms rows) t ≡ with_random (row_at randoms t) (row_at rows t)
whole_at [] [] t same lt = absurd (omega (arith, lt))
whole_at [] (x ∷ xs) t same lt = absurd (omega (arith, same))
whole_at (r ∷ rs) [] t same lt = absurd (omega (arith, lt))
whole_at (r ∷ rs) (x ∷ xs) zero same lt = refl
whole_at (r ∷ rs) (x ∷ xs) (suc t) same lt = whole_at rs xs t (omega (arith, same)) (omega (arith, lt))

whole_long : (randoms rows : List Row) → length randoms ≡ length rows → length (whole_rows randoms rows) ≡ length rows
whole_long [] [] same = refl
whole_long [] (x ∷ xs) same = absurd (omega (arith, same))
whole_long (r ∷ rs) [] same = absurd (omega (arith, same))
whole_long (r ∷ rs) (x ∷ xs) same = ap suc (whole_long rs xs (omega (arith, same)))

abbrev pub tape_of : List ℕ → ℕ → List Row → List Row
tape_of seed random rows = whole_rows (random_rows seed (length rows) random) rows

many : (seed : List ℕ) (random : ℕ) (rows : List Row) → length (random_rows seed (length rows) random) ≡ length rows
many seed random rows = length-map-range_with_len (λ t. random_bits (key_of seed) 0 (t * random) random) 0 (length rows)

pub tape_long : (seed : List ℕ) (random : ℕ) (rows : List Row) → length (tape_of seed random rows) ≡ length rows
tape_long seed random rows = whole_long (random_rows seed (length rows) random) rows (many seed random rows)

-- one row more
pub tape_more : (seed : List ℕ) (random : ℕ) (rows : List Row) (k : ℕ) (row : Row) → k < length rows → row ≡ get_or rows k row
    → take (k + 1) (tape_of seed random rows) ≡ take k (tape_of seed random rows) ++ with_random (random_bits (key_of seed) 0 (k * random) random) row ∷ []
tape_more seed random rows k row lt is =
    let long = tape_long seed random rows in
    let drawn = get_or-map-range_with_len (λ t. random_bits (key_of seed) 0 (t * random) random) 0 (length rows) k k [] lt (zero-add k) in
    take_more (tape_of seed random rows) k [] (omega (arith, lt, long))
    ∙ ap (λ r. take k (tape_of seed random rows) ++ r ∷ []) (whole_at (random_rows seed (length rows) random) rows k (many seed random rows) lt ∙ ap₂ with_random drawn (item_at rows k row [] lt is))
