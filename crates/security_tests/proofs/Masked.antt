-- A net that adds both shares and a random bit, step by step, isolates one probe.
use Rattle.std.proofs.Common.{◌≡◌, ◌≤◌, ◌<◌, ℕ, zero, suc, Bool, true, false, List, [], ◌∷◌, map, max, drop, length, length-take-le, refl, sym, ap, ap₂, ◌∙◌, arith, subst, slice_index_or}
use Rattle.std.specs.List.{range_with_len}
use Rattle.std.proofs.lemmas.List.FromFn.{get_or-map-range_with_len, length-map-range_with_len}
use Rattle.agm_net.specs.Formula.{xor}
use Rattle.agm_net.specs.Run.{bit_in}
use Rattle.agm_net.specs.Trace.{Row, bit_at, row_at}
use Rattle.probe_cones.specs.Cone.{observed}
use Rattle.security_tests.specs.Nets.{masked_net, probe}
use Rattle.twin_tape.specs.Laws.{HasTwins, IsCausal, xor_row}
use Rattle.security_tests.proofs.Inputs.{long}
use Rattle.twin_tape.specs.Security.{Agree}
use Rattle.probe_cones.specs.Inputs.{bit_roles, bit_with, first_bit, joined, with_random}
use Rattle.twin_tape.specs.Tapes.{IsTape}

-- the row of cycle t of a tape that is given cycle by cycle
row_of : (f : ℕ → Row) (n t : ℕ) → t < n → row_at (map f (range_with_len 0 n)) t ≡ f t
row_of f n t h = get_or-map-range_with_len f 0 n t t [] h (omega arith)

second_bit : (row : Row) → first_bit (drop 1 row) ≡ slice_index_or row 1 false
second_bit [] = refl
second_bit (b ∷ row) = refl

-- the bits of a whole tape: the random bit, share 0 and share 1
module _ (given random : List Row) (t : ℕ) (h : t < length random) where
  row : row_at (with_random masked_net given random) t ≡ joined (bit_roles masked_net) (row_at given t) (row_at random t)
  row = row_of (λ t. joined (bit_roles masked_net) (row_at given t) (row_at random t)) (max (length given) (length random)) t (omega arith)

  bit_0 : bit_at (with_random masked_net given random) t 0 ≡ bit_at random t 0
  bit_0 = ap (λ r. slice_index_or r 0 false) row

  bit_1 : bit_at (with_random masked_net given random) t 1 ≡ bit_at given t 0
  bit_1 = ap (λ r. slice_index_or r 1 false) row

  bit_2 : bit_at (with_random masked_net given random) t 2 ≡ bit_at given t 1
  bit_2 = ap (λ r. slice_index_or r 2 false) row ∙ second_bit (row_at given t)

-- the bits of a run
module _ (power : Row) (tape : List Row) where
  abbrev run : ℕ → ℕ → Bool
  run = bit_in masked_net power tape

  run_1 : (t : ℕ) → run t 1 ≡ bit_at tape t 0
  run_1 zero = refl
  run_1 (suc t) = refl

  run_2 : (t : ℕ) → run t 2 ≡ bit_at tape t 1
  run_2 zero = refl
  run_2 (suc t) = refl

  run_3 : (t : ℕ) → run t 3 ≡ bit_at tape t 2
  run_3 zero = refl
  run_3 (suc t) = refl

  run_4 : (t : ℕ) → run t 4 ≡ xor (bit_at tape t 1) (bit_at tape t 0)
  run_4 zero = refl
  run_4 (suc t) = refl

  run_6 : (t : ℕ) → run t 6 ≡ xor (run t 5) (bit_at tape t 2)
  run_6 zero = refl
  run_6 (suc t) = refl

-- random tapes, changed where two tapes of inputs differ in share 0
module _ (first second : List Row) where
  abbrev difference : ℕ → Bool
  difference t = xor (bit_at first t 0) (bit_at second t 0)

  abbrev changed : List Row → List Row
  changed random = map (λ t. xor_row (row_at random t) (difference t ∷ [])) (range_with_len 0 (length random))

  changed_row : (random : List Row) (t : ℕ) → t < length random → row_at (changed random) t ≡ xor_row (row_at random t) (difference t ∷ [])
  changed_row random t h = row_of (λ t. xor_row (row_at random t) (difference t ∷ [])) (length random) t h

  causal : (T : ℕ) → IsCausal 1 T changed
  causal T = record {
    change = λ past made. difference (length past) ∷ [];
    as_long = λ random is. length-map-range_with_len (λ t. xor_row (row_at random t) (difference t ∷ [])) 0 (length random) ∙ long 1 T random is;
    rows = λ random is t h.
        let low : t < length random = subst (λ n. t < n) (sym (long 1 T random is)) h in
        changed_row random t low ∙ ap (λ n. xor_row (row_at random t) (difference n ∷ [])) (sym (length-take-le t random (omega (arith, low))));
  }

  changed_bit : (T : ℕ) (random : List Row) → IsTape 1 T random → (t : ℕ) → t < T → bit_at (changed random) t 0 ≡ xor (bit_at random t 0) (difference t)
  changed_bit T random is t h =
      ap (λ r. slice_index_or r 0 false) (changed_row random t (subst (λ n. t < n) (sym (long 1 T random is)) h)) ∙
      flipped (row_at random t) (difference t) (wide T random is t h)
    where
      flipped : (row : Row) (b : Bool) → length row ≡ 1 → slice_index_or (xor_row row (b ∷ [])) 0 false ≡ xor (slice_index_or row 0 false) b
      flipped [] b e = absurd (omega (arith, e))
      flipped (x ∷ row) b e = refl

      wide : (T : ℕ) (tape : List Row) → IsTape 1 T tape → (t : ℕ) → t < T → length (row_at tape t) ≡ 1
      wide zero tape is t h = absurd (omega (arith, h))
      wide (suc T) [] is t h = absurd is
      wide (suc T) (row ∷ tape) is zero h = is.0
      wide (suc T) (row ∷ tape) is (suc t) h = wide T tape is.1 t (omega (arith, h))

same_sum : (a b r : Bool) → xor a r ≡ xor b (xor r (xor a b))
same_sum true true true = refl
same_sum true true false = refl
same_sum true false true = refl
same_sum true false false = refl
same_sum false true true = refl
same_sum false true false = refl
same_sum false false true = refl
same_sum false false false = refl

unchanged : (a r : Bool) → r ≡ xor r (xor a a)
unchanged true true = refl
unchanged true false = refl
unchanged false true = refl
unchanged false false = refl

-- runs with tapes of inputs and the random tapes that the change leads from and to
module _ (T : ℕ) (power : Row) (first second random : List Row) (is : IsTape 1 T random) where
  random_first : (t : ℕ) → t < T → t < length random
  random_first t h = subst (λ n. t < n) (sym (long 1 T random is)) h

  random_second : (t : ℕ) → t < T → t < length (changed first second random)
  random_second t h = subst (λ n. t < n) (sym ((causal first second T).as_long random is)) h

  abbrev x : ℕ → ℕ → Bool
  x = bit_with masked_net power first random

  abbrev y : ℕ → ℕ → Bool
  y = bit_with masked_net power second (changed first second random)

  abbrev given : List Row
  given = with_random masked_net first random

  abbrev taken : List Row
  taken = with_random masked_net second (changed first second random)

  taken_bit : (t : ℕ) → t < T → bit_at taken t 0 ≡ xor (bit_at random t 0) (difference first second t)
  taken_bit t h = bit_0 second (changed first second random) t (random_second t h) ∙ changed_bit first second T random is t h

  alike_1 : ((t : ℕ) → t < T → bit_at first t 0 ≡ bit_at second t 0) → (t : ℕ) → t < T → x t 1 ≡ y t 1
  alike_1 same t h =
      run_1 power given t ∙ bit_0 first random t (random_first t h) ∙ unchanged (bit_at first t 0) (bit_at random t 0) ∙
      ap (λ b. xor (bit_at random t 0) (xor (bit_at first t 0) b)) (same t h) ∙ sym (run_1 power taken t ∙ taken_bit t h)

  alike_2 : ((t : ℕ) → t < T → bit_at first t 0 ≡ bit_at second t 0) → (t : ℕ) → t < T → x t 2 ≡ y t 2
  alike_2 same t h =
      run_2 power given t ∙ bit_1 first random t (random_first t h) ∙ same t h ∙
      sym (run_2 power taken t ∙ bit_1 second (changed first second random) t (random_second t h))

  share_1 : ((t : ℕ) → t < T → bit_at first t 1 ≡ bit_at second t 1) → (t : ℕ) → t < T → bit_at given t 2 ≡ bit_at taken t 2
  share_1 same t h = bit_2 first random t (random_first t h) ∙ same t h ∙ sym (bit_2 second (changed first second random) t (random_second t h))

  alike_3 : ((t : ℕ) → t < T → bit_at first t 1 ≡ bit_at second t 1) → (t : ℕ) → t < T → x t 3 ≡ y t 3
  alike_3 same t h = run_3 power given t ∙ share_1 same t h ∙ sym (run_3 power taken t)

  alike_4 : (t : ℕ) → t < T → x t 4 ≡ y t 4
  alike_4 t h =
      run_4 power given t ∙ ap₂ xor (bit_1 first random t (random_first t h)) (bit_0 first random t (random_first t h)) ∙
      same_sum (bit_at first t 0) (bit_at second t 0) (bit_at random t 0) ∙
      sym (run_4 power taken t ∙ ap₂ xor (bit_1 second (changed first second random) t (random_second t h)) (taken_bit t h))

  alike_5 : (t : ℕ) → t < T → x t 5 ≡ y t 5
  alike_5 zero h = refl
  alike_5 (suc t) h = alike_4 t (omega (arith, h))

  alike_6 : ((t : ℕ) → t < T → bit_at first t 1 ≡ bit_at second t 1) → (t : ℕ) → t < T → x t 6 ≡ y t 6
  alike_6 same t h = run_6 power given t ∙ ap₂ xor (alike_5 t h) (share_1 same t h) ∙ sym (run_6 power taken t)

  alike_7 : ((t : ℕ) → t < T → bit_at first t 1 ≡ bit_at second t 1) → (t : ℕ) → t < T → x t 7 ≡ y t 7
  alike_7 same zero h = refl
  alike_7 same (suc t) h = alike_6 same t (omega (arith, h))

-- twins at one probe
abbrev At : ℕ → ℕ → ℕ → Type 0
At T wire cycle =
    (B : List ℕ) × (length B ≤ 1) ×
    ((power : Row) (first second : List Row) → IsTape 2 T first → IsTape 2 T second → Agree masked_net B first second →
    (F : List Row → List Row) × IsCausal 1 T F ×
    ((r : List Row) → IsTape 1 T r → observed masked_net (probe wire cycle ∷ []) [] T (bit_with masked_net power first r) ≡ observed masked_net (probe wire cycle ∷ []) [] T (bit_with masked_net power second (F r))))

share_0_agrees : (T : ℕ) (first second : List Row) → IsTape 2 T first → Agree masked_net (0 ∷ []) first second → (t : ℕ) → t < T → bit_at first t 0 ≡ bit_at second t 0
share_0_agrees T first second is agree t h = agree t 0 (subst (λ n. t < n) (sym (long 2 T first is)) h) (omega arith) refl

share_1_agrees : (T : ℕ) (first second : List Row) → IsTape 2 T first → Agree masked_net (1 ∷ []) first second → (t : ℕ) → t < T → bit_at first t 1 ≡ bit_at second t 1
share_1_agrees T first second is agree t h = agree t 1 (subst (λ n. t < n) (sym (long 2 T first is)) h) (omega arith) refl

abbrev one_bit : Bool → List Bool
one_bit b = b ∷ []

abbrev two_bits : Bool → Bool → List Bool
two_bits a b = a ∷ b ∷ []

at : (T wire cycle : ℕ) → wire < 8 → cycle < T → At T wire cycle
at T zero t w h =
    ([], omega arith, λ power first second a b agree. (changed first second, causal first second T, λ r is. refl))
at T (suc zero) t w h =
    (0 ∷ [], omega arith, λ power first second a b agree. (changed first second, causal first second T, λ r is. ap one_bit (alike_1 T power first second r is (share_0_agrees T first second a agree) t h)))
at T (suc (suc zero)) t w h =
    (0 ∷ [], omega arith, λ power first second a b agree. (changed first second, causal first second T, λ r is. ap one_bit (alike_2 T power first second r is (share_0_agrees T first second a agree) t h)))
at T (suc (suc (suc zero))) t w h =
    (1 ∷ [], omega arith, λ power first second a b agree. (changed first second, causal first second T, λ r is. ap one_bit (alike_3 T power first second r is (share_1_agrees T first second a agree) t h)))
at T (suc (suc (suc (suc zero)))) t w h =
    (0 ∷ [], omega arith, λ power first second a b agree. (changed first second, causal first second T, λ r is. ap₂ two_bits (alike_1 T power first second r is (share_0_agrees T first second a agree) t h) (alike_2 T power first second r is (share_0_agrees T first second a agree) t h)))
at T (suc (suc (suc (suc (suc zero))))) t w h =
    ([], omega arith, λ power first second a b agree. (changed first second, causal first second T, λ r is. ap one_bit (alike_5 T power first second r is t h)))
at T (suc (suc (suc (suc (suc (suc zero)))))) t w h =
    (1 ∷ [], omega arith, λ power first second a b agree. (changed first second, causal first second T, λ r is. ap₂ two_bits (alike_3 T power first second r is (share_1_agrees T first second a agree) t h) (alike_5 T power first second r is t h)))
at T (suc (suc (suc (suc (suc (suc (suc zero))))))) t w h =
    (1 ∷ [], omega arith, λ power first second a b agree. (changed first second, causal first second T, λ r is. ap one_bit (alike_7 T power first second r is (share_1_agrees T first second a agree) t h)))
at T (suc (suc (suc (suc (suc (suc (suc (suc wire)))))))) t w h = absurd (omega (arith, w))

pub has_twins : HasTwins masked_net 1
has_twins T [] A inside distinct low few = ([], omega arith, λ power first second a b agree. (changed first second, causal first second T, λ r is. refl))
has_twins T (p ∷ []) [] inside distinct low few = let ok = inside 0 p (omega arith) in at T p.wire p.cycle ok.0 ok.1
has_twins T (p ∷ []) (i ∷ A) inside distinct low few = absurd (omega (arith, few))
has_twins T (p ∷ q ∷ probes) A inside distinct low few = absurd (omega (arith, few))
