-- Decimal digits and the digits of a binary constant.
use Rattle.std.proofs.Common.{◌≡◌, ◌≤◌, ◌<◌, ◌+◌, ◌-◌, ◌*◌, ◌/◌, ◌%◌, ◌^◌, ◌++◌, ℕ, Bool, true, false, length, List, [], ◌∷◌, map, replicate, drop, refl, ap, ◌∙◌, IsTrue, arith, length-append}
use Rattle.std.specs.Fmt.{decimal}
use Rattle.std.proofs.lemmas.Bool.Decides.{nat_tests}
use Rattle.std.proofs.lemmas.Fmt.{decimal_by_steps_wide}
use Rattle.std.proofs.lemmas.List.Sums.{fold-append}
use Rattle.small_text.specs.Bytes.{is_digit, number_of}
use Rattle.small_text.proofs.Runs.{AllOf}
use Rattle.verilog_tokens.specs.Constants.{is_digit_or_rule, AreDigits, fitted, digit_bits, constant_bits}
use Rattle.verilog_tokens.specs.declared.constant.Base.TheVariants.{Binary}
use Rattle.design_text.specs.Parts.{bit_digit}

-- digits that spell a number
pub record Spelled (n : ℕ) (digits : List ℕ) : Type 0 where
  pub some : 0 < length digits
  pub digits_alone : AllOf is_digit digits
  pub value : number_of digits ≡ n

-- the digit of a number below ten
digit_is : (n : ℕ) → n < 10 → IsTrue (is_digit (48 + n))
digit_is n h = grind (arith, nat_tests)

-- lists of one kind, joined
all_append : (kind : ℕ → Bool) (front behind : List ℕ) → AllOf kind front → AllOf kind behind → AllOf kind (front ++ behind)
all_append kind [] behind a b = b
all_append kind (x ∷ xs) behind a b = (a.0, all_append kind xs behind a.1 b)

-- one digit
spelled_digit : (n : ℕ) → n < 10 → Spelled n ((48 + n) ∷ [])
spelled_digit n h = record { some = omega arith; digits_alone = (digit_is n h, tt); value = omega arith }

-- one more digit
spelled_more : (n : ℕ) (digits : List ℕ) → 10 ≤ n → Spelled (n / 10) digits → Spelled n (digits ++ ((48 + n % 10) ∷ []))
spelled_more n digits h s =
    let last : n % 10 < 10 = omega arith in
    let value : number_of (digits ++ ((48 + n % 10) ∷ [])) ≡ number_of digits * 10 + ((48 + n % 10) - 48) = fold-append (λ m d. m * 10 + (d - 48)) 0 digits ((48 + n % 10) ∷ []) in
    record {
      some = omega (arith, length-append digits ((48 + n % 10) ∷ []));
      digits_alone = all_append is_digit digits ((48 + n % 10) ∷ []) s.digits_alone (digit_is (n % 10) last, tt);
      value = omega (arith, value, s.value);
    }

-- a number is spelled by its decimal digits
pub spelled_decimal : (n : ℕ) → n < 10 ^ 64 → Spelled n (decimal n)
spelled_decimal = decimal_by_steps_wide Spelled spelled_digit spelled_more

-- the digits of bits
pub all_binary : (bits : List Bool) → AllOf (is_digit_or_rule Binary) (map bit_digit bits)
all_binary [] = tt
all_binary (true ∷ bits) = (refl, all_binary bits)
all_binary (false ∷ bits) = (refl, all_binary bits)

pub are_binary : (bits : List Bool) → 1 ≤ length bits → AreDigits Binary (map bit_digit bits)
are_binary [] h = absurd (omega (arith, h))
are_binary (true ∷ bits) h = (refl, all_binary bits)
are_binary (false ∷ bits) h = (refl, all_binary bits)

-- and the bits of the digits
same_bits : (bits : List Bool) → digit_bits 1 (map bit_digit bits) ≡ bits
same_bits [] = refl
same_bits (true ∷ bits) = ap (λ bs. true ∷ bs) (same_bits bits)
same_bits (false ∷ bits) = ap (λ bs. false ∷ bs) (same_bits bits)

fits_itself : (bits : List Bool) → fitted (length bits) bits ≡ bits
fits_itself bits = let none : length bits - length bits ≡ 0 = omega arith in ap (λ k. replicate k false ++ drop k bits) none

pub binary_value : (bits : List Bool) → constant_bits Binary (length bits) (map bit_digit bits) ≡ bits
binary_value bits = ap (λ bs. fitted (length bits) bs) (same_bits bits) ∙ fits_itself bits
