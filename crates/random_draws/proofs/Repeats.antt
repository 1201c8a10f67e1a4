-- Bits by their numbers.
use Rattle.std.proofs.Common.{◌≡◌, ℕ, ◌+◌, ◌*◌, ◌/◌, ◌%◌, ◌^◌, ◌<◌, ◌==◌, List, [], ◌∷◌, ◌++◌, Bool, map, length, get_or, refl, ap, ap₂, sym, ◌∙◌, arith}
use Rattle.std.specs.List.{range_with_len}
use Rattle.std.proofs.lemmas.List.FromFn.{map-range_with_len_more, length-map-range_with_len, get_or-map-range_with_len}
use Rattle.std.proofs.Math.Nat.{add-mul}
use Rattle.rand_chacha.specs.ChaCha.{key_of, word_at}
use Rattle.random_draws.specs.Draws.{random_bit, random_bits, random_rows}

same_place : (n : ℕ) → n % 2 ^ 128 % 32 ≡ n % 32
same_place n = omega arith

same_word : (n : ℕ) → n % 2 ^ 128 / 32 % 2 ^ 68 ≡ n / 32 % 2 ^ 68
same_word n = omega arith

-- bits repeat, so that it is the same in how many bits they are counted
pub same_bit : (key : List ℕ) (stream n : ℕ) → random_bit key stream (n % 2 ^ 128) ≡ random_bit key stream n
unfolding random_bit
same_bit key stream n = ap₂ (λ (w p : ℕ). word_at 10 key stream w / 2 ^ p % 2 == 1) (same_word n) (same_place n)

-- a bit of the word in which it stands
pub bit_of_word : (key : List ℕ) (stream n word : ℕ) → word ≡ word_at 10 key stream (n / 32 % 2 ^ 68) → (word / 2 ^ (n % 32) % 2 == 1) ≡ random_bit key stream n
unfolding random_bit
bit_of_word key stream n word is = ap (λ (w : ℕ). w / 2 ^ (n % 32) % 2 == 1) is

pub one_further : (n c : ℕ) → ((n + c) % 2 ^ 128 + 1) % 2 ^ 128 ≡ (n + (c + 1)) % 2 ^ 128
one_further n c = omega arith

-- at the end of a word the next one stands
pub next_word_at : (n : ℕ) → n % 32 ≡ 0 → (n + 31) / 32 % 2 ^ 68 ≡ n / 32 % 2 ^ 68
next_word_at n h = let e : (n + 31) / 32 ≡ n / 32 = omega arith in ap (λ (w : ℕ). w % 2 ^ 68) e

pub one_bit_more : (key : List ℕ) (stream n count : ℕ) → random_bits key stream n (count + 1) ≡ random_bits key stream n count ++ random_bit key stream (n + count) ∷ []
one_bit_more key stream n count = map-range_with_len_more (λ m. random_bit key stream (n + m)) 0 count count (omega arith)

agree : (f g : ℕ → Bool) → ((n : ℕ) → f n ≡ g n) → (ns : List ℕ) → map f ns ≡ map g ns
agree f g h [] = refl
agree f g h (n ∷ ns) = ap₂ (λ (b : Bool) (bs : List Bool). b ∷ bs) (h n) (agree f g h ns)

still_same : (n m : ℕ) → (n % 2 ^ 128 + m) % 2 ^ 128 ≡ (n + m) % 2 ^ 128
still_same n m = omega arith

pub same_bits : (key : List ℕ) (stream n count : ℕ) → random_bits key stream (n % 2 ^ 128) count ≡ random_bits key stream n count
same_bits key stream n count =
    agree _ _ (λ m. sym (same_bit key stream (n % 2 ^ 128 + m)) ∙ (ap (random_bit key stream) (still_same n m) ∙ same_bit key stream (n + m))) (range_with_len 0 count)

pub row_further : (t width : ℕ) → (t * width % 2 ^ 128 + width) % 2 ^ 128 ≡ (t + 1) * width % 2 ^ 128
row_further t width = let e : (t + 1) * width ≡ t * width + width = add-mul t 1 width ∙ omega arith in still_same (t * width) width ∙ ap (λ (n : ℕ). n % 2 ^ 128) (sym e)

pub one_row_more : (seed : List ℕ) (t width : ℕ) → random_rows seed (t + 1) width ≡ random_rows seed t width ++ random_bits (key_of seed) 0 (t * width) width ∷ []
one_row_more seed t width = map-range_with_len_more (λ k. random_bits (key_of seed) 0 (k * width) width) 0 t t (omega arith)

-- each row has its bits
pub each_wide : (seed : List ℕ) (rows width k : ℕ) (d : List Bool) → k < length (random_rows seed rows width) → length (get_or (random_rows seed rows width) k d) ≡ width
each_wide seed rows width k d within =
    let row = λ (t : ℕ). random_bits (key_of seed) 0 (t * width) width in
    let long : length (random_rows seed rows width) ≡ rows = length-map-range_with_len row 0 rows in
    ap length (get_or-map-range_with_len row 0 rows k k d (omega arith) (omega arith)) ∙ length-map-range_with_len (λ m. random_bit (key_of seed) 0 (k * width + m)) 0 width
