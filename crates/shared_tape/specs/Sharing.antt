-- Values cut into shares 0 to d, of which all but the last are drawn.
use Rattle.std.specs.Prelude.{ℕ, ◌+◌, ◌*◌, Bool, false, cond, nat_lt, map, length, reverse, slice_index_or, List}
use Rattle.std.specs.List.{flat_map, range_with_len}
use Rattle.agm_net.specs.Formula.{xor}
use Rattle.agm_net.specs.Trace.{Row}
use Rattle.rand_chacha.specs.ChaCha.{key_of}
use Rattle.random_draws.specs.Draws.{random_bits}
use Rattle.share_wiring.specs.Recombine.{xor_below}
use Rattle.share_wiring.specs.Shape.{indices}

-- draw j of sharing b, where each sharing takes d draws in turn
abbrev pub drawn : Row → (d b : ℕ) → ℕ → Bool
drawn draws d b j = slice_index_or draws (b * d + j) false

-- share i of a value by sharing b: shares 0 to d-1 are drawn, and share d makes the sum right
abbrev pub share_bit : Row → (d b : ℕ) → Bool → ℕ → Bool
share_bit draws d b value i = cond (nat_lt i d) (drawn draws d b i) (xor value (xor_below d (drawn draws d b)))

-- share i of each of some values, by the sharings from one on
abbrev pub share_row : Row → (d first : ℕ) → Row → ℕ → Row
share_row draws d first values i = map (λ b. share_bit draws d (first + b) (slice_index_or values b false) i) (range_with_len 0 (length values))

-- all shares of some values: share 0 of each of them, then share 1 of each, up to share d
abbrev pub share_rows : Row → (d first : ℕ) → Row → Row
share_rows draws d first values = flat_map (share_row draws d first values) (indices d)

-- the same where each share has the values in falling order, so that value 0 is the least significant
abbrev pub falling_rows : Row → (d first : ℕ) → Row → Row
falling_rows draws d first values = flat_map (λ i. reverse (share_row draws d first values i)) (indices d)

-- The draws of some sharings, the first of which has number `first` among all of a tape's: all sharings take the bits of stream 1 in turn.
abbrev pub draws_of : List ℕ → (d first count : ℕ) → Row
draws_of seed d first count = random_bits (key_of seed) 1 (first * d) (count * d)
