-- The draws of sharings.
use Rattle.std.proofs.Common.{◌≡◌, ◌*◌, ◌%◌, ◌^◌, ℕ, List, ap, ◌∙◌, length}
use Rattle.std.proofs.lemmas.List.FromFn.{length-map-range_with_len}
use Rattle.std.proofs.lemmas.Nat.{mul-mod_first}
use Rattle.rand_chacha.specs.ChaCha.{key_of}
use Rattle.random_draws.specs.Draws.{random_bits}
use Rattle.random_draws.proofs.Repeats.{same_bits}
use Rattle.shared_tape.specs.Sharing.{draws_of}

pub draws_are : (seed : List ℕ) (first n order count width : ℕ) → first ≡ n % 2 ^ 128 → width ≡ count * order → random_bits (key_of seed) 1 (first * order % 2 ^ 128) width ≡ draws_of seed order n count
draws_are seed first n order count width is wide =
    ap (λ k. random_bits (key_of seed) 1 (k * order % 2 ^ 128) width) is
    ∙ (ap (λ k. random_bits (key_of seed) 1 k width) (mul-mod_first n order (2 ^ 128)) ∙ (same_bits (key_of seed) 1 (n * order) width ∙ ap (random_bits (key_of seed) 1 (n * order)) wide))

pub bits_long : (key : List ℕ) (stream n count : ℕ) → length (random_bits key stream n count) ≡ count
bits_long key stream n count = length-map-range_with_len _ 0 count
