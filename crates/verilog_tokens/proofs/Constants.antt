-- Constants: what the function reads is one, and each is read.
use Rattle.std.proofs.Common.{◌≡◌, ◌==◌, ◌≤◌, ◌<◌, ◌+◌, ◌++◌, ◌&&◌, ◌||◌, ℕ, zero, suc, Bool, true, false, nat_le, length, take, drop, List, [], ◌∷◌, Option, Some, None, refl, sym, ap, ◌∙◌, subst, inl, inr, IsTrue, arith, length-append}
use Rattle.std.proofs.lemmas.Bool.Decides.{nat_tests}
use Rattle.std.proofs.lemmas.List.{take-append-drop}
use Rattle.small_text.specs.First.{run, begins}
use Rattle.small_text.proofs.ByteKinds.{chosen, both, begins_is}
use Rattle.verilog_tokens.proofs.Runs.{run_over}
use Rattle.small_text.proofs.Runs.{AllOf, all_of_run, taken_run, run_le}
use Rattle.verilog_tokens.specs.Bytes.{step_run}
use Rattle.verilog_tokens.specs.Constants.{base_of, is_digit_of, is_digit_or_rule, AreDigits, Fits, decimal_of, decimal_next, constant_bits}
use Rattle.verilog_tokens.specs.First.{Hit, digits_run, begins_digit, constant_at, digits_at, digits_of, based_at, sized_at}
use Rattle.verilog_tokens.specs.Token.{Token, Constant}
use Rattle.verilog_tokens.specs.declared.constant.Base.{Base}
use Rattle.verilog_tokens.specs.declared.constant.Base.TheVariants.{Binary, Octal, Decimal, Hexadecimal}
use Rattle.verilog_tokens.proofs.Steps.{run_over as steps_over, run_within, run_taken, fits_after, after_fits}

-- a digit, or a digit in front of others, is one
rule_of : (base : Base) (b : ℕ) → IsTrue (is_digit_of base b) → IsTrue (is_digit_or_rule base b)
rule_of base b h = or_second (b == 95) (is_digit_of base b) h
  where
    or_second : (p q : Bool) → q ≡ true → (p || q) ≡ true
    or_second true q h = refl
    or_second false q h = h

-- the digits of a constant are digits or `_`
all_rules : (base : Base) (ds : List ℕ) → AreDigits base ds → AllOf (is_digit_or_rule base) ds
all_rules base [] h = absurd h
all_rules base (d ∷ ds) h = (rule_of base d h.0, h.1)

plain_over : (base : Base) (ds behind : List ℕ) → AllOf (is_digit_or_rule base) ds → run (is_digit_or_rule base) (ds ++ behind) ≡ length ds + run (is_digit_or_rule base) behind
plain_over base ds behind h = ap length (run_over (is_digit_or_rule base) ds behind h) ∙ length-append ds _

-- the run of digits takes in the digits of a constant
pub digits_over : (base : Base) (ds behind : List ℕ) → AreDigits base ds → Fits base ds → (n : ℕ) × (digits_run base (ds ++ behind) ≡ length ds + n)
digits_over Binary ds behind h f = (run (is_digit_or_rule Binary) behind, plain_over Binary ds behind (all_rules Binary ds h))
digits_over Octal ds behind h f = (run (is_digit_or_rule Octal) behind, plain_over Octal ds behind (all_rules Octal ds h))
digits_over Decimal ds behind h f = (step_run decimal_next behind (decimal_of ds), steps_over decimal_next ds behind 0 (decimal_of ds) (fits_after ds 0 (all_rules Decimal ds h) f))
digits_over Hexadecimal ds behind h f = (run (is_digit_or_rule Hexadecimal) behind, plain_over Hexadecimal ds behind (all_rules Hexadecimal ds h))

-- the run of digits stays within the bytes
pub digits_within : (base : Base) (bytes : List ℕ) → digits_run base bytes ≤ length bytes
digits_within Binary bytes = run_le (is_digit_or_rule Binary) bytes
digits_within Octal bytes = run_le (is_digit_or_rule Octal) bytes
digits_within Decimal bytes = run_within decimal_next bytes 0
digits_within Hexadecimal bytes = run_le (is_digit_or_rule Hexadecimal) bytes

taken_rules : (base : Base) (bytes : List ℕ) → AllOf (is_digit_or_rule base) (take (run (is_digit_or_rule base) bytes) bytes)
taken_rules base bytes = subst (AllOf (is_digit_or_rule base)) (sym (taken_run (is_digit_or_rule base) bytes)) (all_of_run (is_digit_or_rule base) bytes)

-- the bytes of the run are digits or `_`, and fit
digits_taken : (base : Base) (bytes : List ℕ) → AllOf (is_digit_or_rule base) (take (digits_run base bytes) bytes) × Fits base (take (digits_run base bytes) bytes)
digits_taken Binary bytes = (taken_rules Binary bytes, tt)
digits_taken Octal bytes = (taken_rules Octal bytes, tt)
digits_taken Decimal bytes =
    let t = run_taken decimal_next bytes 0 in
    let f = after_fits (take (digits_run Decimal bytes) bytes) 0 t.0 (omega arith) t.1 in
    (f.0, omega (arith, f.1, f.2))
digits_taken Hexadecimal bytes = (taken_rules Hexadecimal bytes, tt)

first_digit : (base : Base) (bytes ds : List ℕ) → begins_digit base bytes ≡ true → (k : ℕ) → ds ≡ take k bytes → 0 < k → AllOf (is_digit_or_rule base) ds → AreDigits base ds
first_digit base [] ds h k e some all = absurd (cc)
first_digit base (b ∷ bs) ds h zero e some all = absurd (omega arith)
first_digit base (b ∷ bs) ds h (suc k) e some all = subst (AreDigits base) (sym e) (h, (subst (AllOf (is_digit_or_rule base)) e all).1)

one_digit : (base : Base) (b : ℕ) (bs : List ℕ) → IsTrue (is_digit_of base b) → Fits base (b ∷ []) → 0 < digits_run base (b ∷ bs)
one_digit base b bs h f = let o = digits_over base (b ∷ []) bs (h, tt) f in omega (arith, o.1)

fits_one : (base : Base) (b : ℕ) → IsTrue (is_digit_of base b) → Fits base (b ∷ [])
fits_one Binary b h = tt
fits_one Octal b h = tt
fits_one Decimal b h = grind (arith, nat_tests)
fits_one Hexadecimal b h = tt

some_digit : (base : Base) (bytes : List ℕ) → begins_digit base bytes ≡ true → 0 < digits_run base bytes
some_digit base [] h = absurd (cc)
some_digit base (b ∷ bs) h = one_digit base b bs h (fits_one base b h)

-- what a constant is, from behind its size on
pub record Sized (size : ℕ) (bytes : List ℕ) (t : Token) (rest : List ℕ) : Type 0 where
  pub mark : ℕ
  pub base : Base
  pub digits : List ℕ
  pub whole : bytes ≡ 39 ∷ mark ∷ (digits ++ rest)
  pub least : 1 ≤ size
  pub most : size ≤ 65535
  pub based : base_of mark ≡ Some base
  pub spelled : AreDigits base digits
  pub fits : Fits base digits
  pub value : t ≡ Constant (constant_bits base size digits)

abbrev hit : Token → List ℕ → Option Hit
hit t rest = Some (t, rest)

-- equal findings have equal parts
pub got : {t u : Token} {rest more : List ℕ} → hit u more ≡ hit t rest → (u ≡ t) × (more ≡ rest)
got {t} {u} {rest} {more} h =
    let a : Hit = (u, more) in
    let b : Hit = (t, rest) in
    let e : a ≡ b = cc in
    (ap (λ (p : Hit). p.0) e, ap (λ (p : Hit). p.1) e)

sized_digits : (size : ℕ) (bytes more : List ℕ) (mark : ℕ) (base : Base) (t : Token) (rest : List ℕ) →
    bytes ≡ 39 ∷ mark ∷ more → 1 ≤ size → size ≤ 65535 → base_of mark ≡ Some base → digits_at size base more ≡ hit t rest → Sized size bytes t rest
sized_digits size bytes more mark base t rest whole least most based h =
    let k = digits_run base more in
    elim (chosen (begins_digit base more) (Some (constant_at (constant_bits base size (take k more)) k more)) None (hit t rest) h) [
      | inl e ↦
          let g = got {t = t} {u = Constant (constant_bits base size (take k more))} {rest = rest} {more = drop k more} e.1 in
          let taken = digits_taken base more in
          record {
            mark = mark;
            base = base;
            digits = take k more;
            whole = whole ∙ ap (λ w. 39 ∷ mark ∷ w) (sym (take-append-drop k more) ∙ ap (λ r. take k more ++ r) g.1);
            least = least;
            most = most;
            based = based;
            spelled = first_digit base more (take k more) e.0 k refl (some_digit base more e.0) taken.0;
            fits = taken.1;
            value = sym g.0;
          }
      | inr e ↦ absurd (cc (e.1))
    ]

sized_base : (size : ℕ) (bytes more : List ℕ) (mark : ℕ) (o : Option Base) (t : Token) (rest : List ℕ) →
    bytes ≡ 39 ∷ mark ∷ more → 1 ≤ size → size ≤ 65535 → base_of mark ≡ o → digits_of size o more ≡ hit t rest → Sized size bytes t rest
sized_base size bytes more mark None t rest whole least most based h = absurd (cc)
sized_base size bytes more mark (Some base) t rest whole least most based h = sized_digits size bytes more mark base t rest whole least most based h

sized_mark : (size : ℕ) (bytes more : List ℕ) (t : Token) (rest : List ℕ) → bytes ≡ 39 ∷ more → 1 ≤ size → size ≤ 65535 → based_at size more ≡ hit t rest → Sized size bytes t rest
sized_mark size bytes [] t rest whole least most h = absurd (cc)
sized_mark size bytes (mark ∷ more) t rest whole least most h = sized_base size bytes more mark (base_of mark) t rest whole least most refl h

le_holds : (a b : ℕ) → nat_le a b ≡ true → a ≤ b
le_holds a b h = grind (arith, nat_tests)

-- what is read behind a size is a constant
pub sized_is : (size : ℕ) (bytes : List ℕ) (t : Token) (rest : List ℕ) → sized_at size bytes ≡ Some (t, rest) → Sized size bytes t rest
sized_is size bytes t rest h =
    elim (chosen (begins 39 bytes && (nat_le 1 size && nat_le size 65535)) (based_at size (drop 1 bytes)) None (hit t rest) h) [
      | inl e ↦
          let quote = both (begins 39 bytes) (nat_le 1 size && nat_le size 65535) e.0 in
          let within = both (nat_le 1 size) (nat_le size 65535) quote.1 in
          sized_mark size bytes (drop 1 bytes) t rest (begins_is 39 bytes quote.0) (le_holds 1 size within.0) (le_holds size 65535 within.1) e.1
      | inr e ↦ absurd (cc (e.1))
    ]

-- what stands behind a constant is shorter
pub sized_shorter : (size : ℕ) (bytes : List ℕ) (t : Token) (rest : List ℕ) → Sized size bytes t rest → length rest < length bytes
sized_shorter size bytes t rest s = omega (arith, ap length s.whole, length-append s.digits rest)

le_test : (a b : ℕ) → a ≤ b → nat_le a b ≡ true
le_test a b h = grind (arith, nat_tests)

digit_front : (base : Base) (ds behind : List ℕ) → AreDigits base ds → begins_digit base (ds ++ behind) ≡ true
digit_front base [] behind h = absurd h
digit_front base (d ∷ ds) behind h = h.0

-- a constant, or one with more digits, is read behind its size
pub record Longer (size : ℕ) (base : Base) (mark : ℕ) (digits behind : List ℕ) : Type 0 where
  pub more : ℕ
  pub within : more ≤ length behind
  pub found : sized_at size (39 ∷ mark ∷ (digits ++ behind)) ≡ Some (constant_at (constant_bits base size (take (length digits + more) (digits ++ behind))) (length digits + more) (digits ++ behind))

pub sized_found : (size : ℕ) (base : Base) (mark : ℕ) (digits behind : List ℕ) → 1 ≤ size → size ≤ 65535 → base_of mark ≡ Some base → AreDigits base digits → Fits base digits → Longer size base mark digits behind
sized_found size base mark digits behind least most based spelled fits =
    let o = digits_over base digits behind spelled fits in
    record {
      more = o.0;
      within = omega (arith, o.1, digits_within base (digits ++ behind), length-append digits behind);
      found = rw (le_test 1 size least, le_test size 65535 most, based, digit_front base digits behind spelled, o.1) refl;
    }
