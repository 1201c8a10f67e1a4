-- Products that stop at a greatest number.
use Rattle.std.proofs.Common.{◌≡◌, ◌≤◌, ◌<◌, ◌+◌, ◌*◌, ℕ, zero, suc, List, [], ◌∷◌, map, drop, length, min, ap, ◌∙◌, sym, refl, inl, inr, arith}
use Rattle.std.proofs.Math.Nat.{le-mul_of_pos_right, mul_comm}
use Rattle.std.proofs.lemmas.Bool.{cases_lt}
use Rattle.verilog_reader.specs.Plain.{forms_of}
use Rattle.verilog_reader.specs.View.{form_view}
use Rattle.verilog_reader.specs.declared.design.Form.{Form}
use Rattle.form_bits.specs.Forms.{Look, forms_width}

-- nothing is left past the end
drop_all : {X : Type 0} (xs : List X) (i : ℕ) → length xs ≤ i → drop i xs ≡ []
drop_all [] zero h = refl
drop_all [] (suc i) h = refl
drop_all (x ∷ xs) zero h = absurd (omega arith)
drop_all (x ∷ xs) (suc i) h = drop_all xs i (omega arith)

-- a factor that is no less than the greatest number
at_most : (m k w : ℕ) → m ≤ w → min (k * m) m ≡ min (k * w) m
at_most m k w h =
    elim (cases_lt 0 k) [
      | inl p ↦
          let a : m ≤ m * k = le-mul_of_pos_right m p in
          let b : w ≤ w * k = le-mul_of_pos_right w p in
          let x : k * m ≡ m * k = mul_comm k m in
          let y : k * w ≡ w * k = mul_comm k w in
          let s : min (k * m) m ≡ m = omega arith in
          let t : min (k * w) m ≡ m = omega arith in
          s ∙ sym t
      | inr z ↦
          let e : k ≡ 0 = omega arith in
          let x : k * m ≡ 0 = ap (λ n. n * m) e ∙ omega arith in
          let y : k * w ≡ 0 = ap (λ n. n * w) e ∙ omega arith in
          ap (λ n. min n m) (x ∙ sym y)
    ]

pub sat_mul : (m k w : ℕ) → min (k * min w m) m ≡ min (k * w) m
sat_mul m k w =
    elim (cases_lt w m) [
      | inl h ↦ ap (λ v. min (k * v) m) (omega arith)
      | inr h ↦ ap (λ v. min (k * v) m) (omega arith) ∙ at_most m k w h
    ]

-- the width when no form is left
pub at_end : (look : Look) (forms : List Form) (i w m whole : ℕ) → length forms ≤ i → w ≤ m → min (w + forms_width look (forms_of (map form_view (drop i forms)))) m ≡ whole → w ≡ whole
at_end look forms i w m whole past small e =
    let none : drop i forms ≡ [] = drop_all forms i past in
    let last : min (w + 0) m ≡ whole = ap (λ (fs : List Form). min (w + forms_width look (forms_of (map form_view fs))) m) (sym none) ∙ e in
    omega arith
