-- Sized constants, by IEEE 1364-2005, 3.5.1: a size, a base and digits. Those with x, z or ? are none here.
use Rattle.std.specs.Prelude.{◌≡◌, ◌==◌, ◌≤◌, ◌<◌, ◌+◌, ◌-◌, ◌*◌, ◌/◌, ◌%◌, ◌^◌, ◌&&◌, ◌||◌, ℕ, zero, suc, Bool, false, cond, nat_le, nat_lt, List, [], ◌∷◌, ◌++◌, length, drop, replicate, fold, Option, Some, None, IsTrue}
use Rattle.std.specs.List.{flat_map, AllByRecursion}
use Rattle.small_text.specs.Bytes.{is_digit, number_of}
use Rattle.verilog_tokens.specs.Bytes.{step_run}
use Rattle.verilog_tokens.specs.declared.constant.Base.{Base}
use Rattle.verilog_tokens.specs.declared.constant.Base.TheVariants.{Binary, Octal, Decimal, Hexadecimal}

-- b, o, d, h in either case
abbrev pub base_of : ℕ → Option Base
base_of b =
    cond ((b == 98) || (b == 66)) (Some Binary) (cond ((b == 111) || (b == 79)) (Some Octal)
    (cond ((b == 100) || (b == 68)) (Some Decimal) (cond ((b == 104) || (b == 72)) (Some Hexadecimal) None)))

abbrev pub radix : Base → ℕ
radix Binary = 2
radix Octal = 8
radix Decimal = 10
radix Hexadecimal = 16

-- the value of a digit; 16 for a byte that is no digit of any base
abbrev pub digit_of : ℕ → ℕ
digit_of b = cond (is_digit b) (b - 48) (cond (nat_le 97 b && nat_le b 102) (b - 87) (cond (nat_le 65 b && nat_le b 70) (b - 55) 16))

abbrev pub is_digit_of : Base → ℕ → Bool
is_digit_of base b = nat_lt (digit_of b) (radix base)

-- a digit of the base or `_`
abbrev pub is_digit_or_rule : Base → ℕ → Bool
is_digit_or_rule base b = (b == 95) || is_digit_of base b

-- a digit of the base, then digits and `_`
abbrev pub AreDigits : Base → List ℕ → Type 0
AreDigits base [] = Prim.⊥
AreDigits base (d ∷ ds) = IsTrue (is_digit_of base d) × AllByRecursion (λ b. IsTrue (is_digit_or_rule base b)) ds

-- the lowest bits of a number, so many, from the most significant on
abbrev pub low_bits : ℕ → ℕ → List Bool
low_bits zero n = []
low_bits (suc k) n = ((n / 2 ^ k) % 2 == 1) ∷ low_bits k n

-- a list of bits at a width: missing high bits are 0, surplus high bits are cut off
abbrev pub fitted : ℕ → List Bool → List Bool
fitted n bits = replicate (n - length bits) false ++ drop (length bits - n) bits

-- the bits of a digit that stands for so many bits; `_` stands for none
abbrev pub one_digit : ℕ → ℕ → List Bool
one_digit width d = cond (d == 95) [] (low_bits width (digit_of d))

-- the bits of digits that stand for so many bits each
abbrev pub digit_bits : ℕ → List ℕ → List Bool
digit_bits width digits = flat_map (one_digit width) digits

-- the number that decimal digits spell; `_` is passed over
abbrev pub decimal_step : ℕ → ℕ → ℕ
decimal_step n d = cond (d == 95) n (n * 10 + (d - 48))

abbrev pub decimal_of : List ℕ → ℕ
decimal_of digits = fold decimal_step 0 digits

-- a number with one more digit or `_`, where it stays below 2^128
abbrev pub decimal_next : ℕ → ℕ → Option ℕ
decimal_next n d = cond (is_digit_or_rule Decimal d && nat_lt (decimal_step n d) (2 ^ 128)) (Some (decimal_step n d)) None

-- how many digits and `_` go on a number so that it stays below 2^128
abbrev pub decimal_run : List ℕ → ℕ → ℕ
decimal_run = step_run decimal_next

-- the bits of a constant of a size
abbrev pub constant_bits : Base → ℕ → List ℕ → List Bool
constant_bits Binary size digits = fitted size (digit_bits 1 digits)
constant_bits Octal size digits = fitted size (digit_bits 3 digits)
constant_bits Decimal size digits = low_bits size (decimal_of digits)
constant_bits Hexadecimal size digits = fitted size (digit_bits 4 digits)

-- a decimal value is below 2^128
abbrev pub Fits : Base → List ℕ → Type 0
Fits Binary digits = Unit {0}
Fits Octal digits = Unit {0}
Fits Decimal digits = decimal_of digits < 2 ^ 128
Fits Hexadecimal digits = Unit {0}

-- a size from 1 to 65,535, `'`, a base, and digits of the base
pub record IsConstant (text : List ℕ) (bits : List Bool) : Type 0 where
  pub size : List ℕ
  pub mark : ℕ
  pub base : Base
  pub digits : List ℕ
  pub whole : text ≡ size ++ 39 ∷ mark ∷ digits
  pub decimal : AllByRecursion (λ b. IsTrue (is_digit b)) size
  pub least : 1 ≤ number_of size
  pub most : number_of size ≤ 65535
  pub based : base_of mark ≡ Some base
  pub spelled : AreDigits base digits
  pub fits : Fits base digits
  pub value : bits ≡ constant_bits base (number_of size) digits
