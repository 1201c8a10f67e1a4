-- Bits that are drawn from a seed of 32 bytes: those of ChaCha20 (RFC 8439), whose state ends here in a counter and a
-- stream's number of 64 bits each.
use Rattle.std.specs.Prelude.{ℕ, ◌+◌, ◌*◌, ◌/◌, ◌%◌, ◌^◌, ◌==◌, Bool, List, map}
use Rattle.std.specs.List.{range_with_len}
use Rattle.rand_chacha.specs.ChaCha.{key_of, word_at}

-- bit n of a stream: bit n mod 32, the lowest first, of word n / 32; words are placed modulo 2^68
unfoldable pub random_bit : List ℕ → ℕ → ℕ → Bool
random_bit key stream n = word_at 10 key stream (n / 32 % 2 ^ 68) / 2 ^ (n % 32) % 2 == 1

-- so many bits from bit n on
abbrev pub random_bits : List ℕ → ℕ → ℕ → ℕ → List Bool
random_bits key stream n count = map (λ m. random_bit key stream (n + m)) (range_with_len 0 count)

-- the rows of a random tape: place m of row t is bit t * width + m of stream 0
abbrev pub random_rows : List ℕ → ℕ → ℕ → List (List Bool)
random_rows seed rows width = map (λ t. random_bits (key_of seed) 0 (t * width) width) (range_with_len 0 rows)

-- which bit comes next: of a key, a stream, and by its number, which is counted in 128 bits
pub record Turn : Type 0 where
  pub key : List ℕ
  pub stream : ℕ
  pub next : ℕ
