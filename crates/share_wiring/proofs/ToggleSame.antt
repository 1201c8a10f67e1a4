-- The worked example: the masked toggle computes the toggle.
use Rattle.std.proofs.Common.{◌≡◌, ◌<◌, ◌+◌, ◌*◌, ◌&&◌, ◌++◌, ℕ, zero, suc, Bool, true, false, not, List, [], ◌∷◌, Some, None, map, length, reverse, nat_lt, slice_get, refl, sym, ap, ap₂, ◌∙◌, subst, arith, codes, add-one}
use Rattle.std.proofs.lemmas.Bool.{cond-true, cond-false, lt-ltb, le-ltb}
use Rattle.agm_net.specs.Formula.{xor}
use Rattle.agm_net.specs.Trace.{Row, row_at, bit_at, Steps, IsTrace}
use Rattle.agm_net.specs.declared.port.Way.TheVariants.{Input, Output}
use Rattle.agm_net.specs.declared.port.Port.{Port}
use Rattle.share_wiring.specs.Recombine.{xor_rows, port_value, masked_value}
use Rattle.share_wiring.specs.Same.{Same}
use Rattle.share_wiring.specs.Schedule.{Stream, stream_at, chosen, Drives}
use Rattle.share_wiring.specs.Worked.{port, toggle, toggle_marks, toggle_report, masked_toggle}
use Rattle.share_wiring.proofs.Recombine.{xor_swap}
use Rattle.share_wiring.proofs.Toggle.{one_secret}
use Rattle.share_wiring.proofs.MaskedToggle.{state_port, share_port, with_digits, from_digits, has_shape, has_no_loop}

-- the sum of the two shares of a product, with one random bit
product : (x y : Bool) (v w r : Bool) → xor (xor (xor (x && v) (not x && r)) (x && xor w r)) (xor (xor (y && w) (not y && r)) (y && xor v r)) ≡ (xor x y && xor v w)
product false false false false false = refl
product false false false false true = refl
product false false false true false = refl
product false false false true true = refl
product false false true false false = refl
product false false true false true = refl
product false false true true false = refl
product false false true true true = refl
product false true false false false = refl
product false true false false true = refl
product false true false true false = refl
product false true false true true = refl
product false true true false false = refl
product false true true false true = refl
product false true true true false = refl
product false true true true true = refl
product true false false false false = refl
product true false false false true = refl
product true false false true false = refl
product true false false true true = refl
product true false true false false = refl
product true false true false true = refl
product true false true true false = refl
product true false true true true = refl
product true true false false false = refl
product true true false false true = refl
product true true false true false = refl
product true true false true true = refl
product true true true false false = refl
product true true true false true = refl
product true true true true false = refl
product true true true true true = refl

module _ (power : Row) (tape table : List Row) (trace : IsTrace masked_toggle power tape table) where
  abbrev at : ℕ → ℕ → Bool
  at t w = bit_at table t w

  -- what the shares of the state, of x and of y recombine to
  abbrev state : ℕ → Bool
  state t = xor (at t 11) (at t 12)

  abbrev x_at : ℕ → Bool
  x_at t = xor (at t 5) (at t 6)

  abbrev y_at : ℕ → Bool
  y_at t = xor (at t 7) (at t 8)

  step : (a b : ℕ) → a + 1 ≡ b → b < length table → Steps (at a) (at b) masked_toggle.registers
  step a b same lt = subst (λ k. Steps (at a) (at k) masked_toggle.registers) same (trace.registers_step a (omega arith))

  -- a loaded state
  loaded : (a b : ℕ) → a + 1 ≡ b → b < length table → at a 1 ≡ true → state b ≡ xor (at a 3) (at a 4)
  loaded a b same lt load =
      let one = step a b same lt in
      ap₂ xor (one.1.1.0 ∙ cond-true (at a 1) (at a 3) (xor (at a 9) (at a 28)) load) (one.1.1.1.0 ∙ cond-true (at a 1) (at a 4) (xor (at a 10) (at a 29)) load)

  -- a round of three cycles
  round : (a b c d : ℕ) → a + 1 ≡ b → b + 1 ≡ c → c + 1 ≡ d → d < length table → at c 1 ≡ false → state d ≡ xor (state a) (x_at a && y_at a)
  round a b c d ab bc cd lt unloaded =
      let one = step a b ab (omega arith) in
      let two = step b c bc (omega arith) in
      let three = step c d cd lt in
      let equations = trace.equations_hold c (omega arith) in
      let kept0 : at c 9 ≡ at a 11 = two.0 ∙ one.1.1.1.1.0 in
      let factor0 : at b 15 ≡ at a 5 = one.1.1.1.1.1.1.0 in
      let m0 : at c 26 ≡ (at a 5 && at a 7) = two.1.1.1.1.1.1.1.1.1.1.1.1.1.1.1.1.1.0 ∙ ap₂ (λ p q. p && q) factor0 one.1.1.1.1.1.1.1.1.1.0 in
      let u0 : at c 22 ≡ (not (at a 5) && at a 2) = two.1.1.1.1.1.1.1.1.1.1.1.1.1.0 ∙ ap₂ (λ p q. not p && q) factor0 one.1.1.1.1.1.1.1.1.0 in
      let w0 : at c 24 ≡ (at a 5 && xor (at a 8) (at a 2)) = two.1.1.1.1.1.1.1.1.1.1.1.1.1.1.1.0 ∙ ap₂ (λ p q. p && q) factor0 one.1.1.1.1.1.1.1.1.1.1.1.0 in
      let product0 : at c 28 ≡ xor (xor (at a 5 && at a 7) (not (at a 5) && at a 2)) (at a 5 && xor (at a 8) (at a 2)) =
      equations.0 ∙ ap₂ xor (ap₂ xor m0 u0) w0 in
      let share0 : at d 11 ≡ xor (at a 11) (xor (xor (at a 5 && at a 7) (not (at a 5) && at a 2)) (at a 5 && xor (at a 8) (at a 2))) =
      three.1.1.0 ∙ (cond-false (at c 1) (at c 3) (xor (at c 9) (at c 28)) unloaded ∙ ap₂ xor kept0 product0) in
      let kept1 : at c 10 ≡ at a 12 = two.1.0 ∙ one.1.1.1.1.1.0 in
      let factor1 : at b 16 ≡ at a 6 = one.1.1.1.1.1.1.1.0 in
      let m1 : at c 27 ≡ (at a 6 && at a 8) = two.1.1.1.1.1.1.1.1.1.1.1.1.1.1.1.1.1.1.0 ∙ ap₂ (λ p q. p && q) factor1 one.1.1.1.1.1.1.1.1.1.1.0 in
      let u1 : at c 23 ≡ (not (at a 6) && at a 2) = two.1.1.1.1.1.1.1.1.1.1.1.1.1.1.0 ∙ ap₂ (λ p q. not p && q) factor1 one.1.1.1.1.1.1.1.1.0 in
      let w1 : at c 25 ≡ (at a 6 && xor (at a 7) (at a 2)) = two.1.1.1.1.1.1.1.1.1.1.1.1.1.1.1.1.0 ∙ ap₂ (λ p q. p && q) factor1 one.1.1.1.1.1.1.1.1.1.1.1.1.0 in
      let product1 : at c 29 ≡ xor (xor (at a 6 && at a 8) (not (at a 6) && at a 2)) (at a 6 && xor (at a 7) (at a 2)) =
      equations.1.0 ∙ ap₂ xor (ap₂ xor m1 u1) w1 in
      let share1 : at d 12 ≡ xor (at a 12) (xor (xor (at a 6 && at a 8) (not (at a 6) && at a 2)) (at a 6 && xor (at a 7) (at a 2))) =
      three.1.1.1.0 ∙ (cond-false (at c 1) (at c 4) (xor (at c 10) (at c 29)) unloaded ∙ ap₂ xor kept1 product1) in
      ap₂ xor share0 share1
      ∙ (xor_swap (at a 11) (xor (xor (at a 5 && at a 7) (not (at a 5) && at a 2)) (at a 5 && xor (at a 8) (at a 2))) (at a 12) (xor (xor (at a 6 && at a 8) (not (at a 6) && at a 2)) (at a 6 && xor (at a 7) (at a 2)))
      ∙ ap (xor (state a)) (product (at a 5) (at a 6) (at a 7) (at a 8) (at a 2)))

  -- the state is put out two cycles later
  put_out : (a b c : ℕ) → a + 1 ≡ b → b + 1 ≡ c → c < length table → xor (at c 9) (at c 10) ≡ state a
  put_out a b c ab bc lt =
      let one = step a b ab (omega arith) in
      let two = step b c bc lt in
      ap₂ xor (two.0 ∙ one.1.1.1.1.0) (two.1.0 ∙ one.1.1.1.1.1.0)

  module _ (streams : List Stream) (steps : ℕ) (drives : Drives toggle (true ∷ []) toggle_report masked_toggle streams steps table) (s : ℕ) (first : List Row) (in_streams : s < length streams)
      (original : IsTrace toggle (stream_at streams s).initial (stream_at streams s).steps first) where
    load_is : (t : ℕ) → t < length table → at t 1 ≡ nat_lt t 3
    load_is t lt = let told : at t 1 ∷ [] ≡ nat_lt t 3 ∷ [] = drives.load t lt in cc

    few : s < 3
    few = let many = drives.as_many in omega arith

    -- the initial state
    initial_is : 0 < steps → xor (at s 3) (at s 4) ≡ bit_at first 0 3
    initial_is some =
        let long = original.as_long in
        let wide = drives.as_long s in_streams in
        let power_is : bit_at first 0 3 ∷ [] ≡ (stream_at streams s).initial = original.power_given (omega arith) in
        let told : reverse (xor_rows (port_value masked_toggle (state_port (48 ∷ [])) (bit_at table s)) (port_value masked_toggle (state_port (49 ∷ [])) (bit_at table s))) ≡ chosen true (true ∷ []) (stream_at streams s).initial =
        from_digits (λ one other. reverse (xor_rows (port_value masked_toggle (state_port one) (bit_at table s)) (port_value masked_toggle (state_port other) (bit_at table s))) ≡ chosen true (true ∷ []) (stream_at streams s).initial)
        (drives.secret_state s in_streams) in
        let both : xor (at s 3) (at s 4) ∷ [] ≡ bit_at first 0 3 ∷ [] = told ∙ ap (chosen true (true ∷ [])) (sym power_is) in
        cc

    -- the inputs of step k
    inputs_are : (k : ℕ) → k < steps → x_at (1 + s + 3 * k) ∷ y_at (1 + s + 3 * k) ∷ [] ≡ bit_at first k 1 ∷ bit_at first k 2 ∷ []
    inputs_are k lt =
        let long = original.as_long in
        let wide = drives.as_long s in_streams in
        let t = 1 + s + 3 * k in
        from_digits (λ one other. xor_rows (port_value masked_toggle (share_port one (codes "x")) (bit_at table t)) (port_value masked_toggle (share_port other (codes "x")) (bit_at table t))
        ++ (xor_rows (port_value masked_toggle (share_port one (codes "y")) (bit_at table t)) (port_value masked_toggle (share_port other (codes "y")) (bit_at table t)) ++ []) ≡ row_at (stream_at streams s).steps k)
        (drives.inputs s k t in_streams lt refl)
        ∙ sym (original.inputs_given k (omega arith))

    -- in its first cycle of step k, stream s has the toggle's state
    state_is : (k : ℕ) → k < steps → state (1 + s + 3 * k) ≡ bit_at first k 3
    state_is zero lt =
        let inside = drives.is_read s 0 in_streams lt in
        let start : s + 1 ≡ 1 + s + 3 * 0 = omega arith in
        loaded s (1 + s + 3 * 0) start (omega arith) (load_is s (omega arith) ∙ lt-ltb s 3 few) ∙ initial_is (omega arith)
    state_is (suc k) lt =
        let inside = drives.is_read s (suc k) in_streams lt in
        let long = original.as_long in
        let wide = drives.as_long s in_streams in
        let a = 1 + s + 3 * k in
        let c = 3 + s + 3 * k in
        let both = inputs_are k (omega arith) in
        let x : x_at a ≡ bit_at first k 1 = cc in
        let y : y_at a ≡ bit_at first k 2 = cc in
        let turn : c + 1 ≡ 1 + s + 3 * suc k = omega arith in
        let equations = original.equations_hold k (omega arith) in
        let stored = original.registers_step k (omega arith) in
        round a (2 + s + 3 * k) c (1 + s + 3 * suc k) (omega arith) (omega arith) turn (omega arith) (load_is c (omega arith) ∙ le-ltb c 3 (omega arith))
        ∙ (ap₂ xor (state_is k (omega arith)) (ap₂ (λ p q. p && q) x y)
        ∙ (ap (xor (bit_at first k 3)) (sym equations.0) ∙ (sym equations.1.0 ∙ (sym stored.0 ∙ ap (λ n. bit_at first n 3) (add-one k)))))

    -- and two cycles later its output is that state
    output_is : (k : ℕ) → k < steps → masked_value masked_toggle toggle_report (codes "q") (bit_at table (1 + s + 3 * k + 2)) ≡ bit_at first k 3 ∷ []
    output_is k lt =
        let c = 1 + s + 3 * k + 2 in
        let inside = drives.is_read s k in_streams lt in
        with_digits (λ one other. xor_rows (port_value masked_toggle (share_port one (codes "q")) (bit_at table c)) (port_value masked_toggle (share_port other (codes "q")) (bit_at table c)) ≡ bit_at first k 3 ∷ [])
        (ap (λ b. b ∷ []) (put_out (1 + s + 3 * k) (2 + s + 3 * k) c (omega arith) (omega arith) (omega arith) ∙ state_is k lt))

-- the only output is q
the_output : (P : Port → Type 0) (n : ℕ) (p : Port) → slice_get toggle.ports n ≡ Some p → p.way ≡ Output → P (port (codes "q") Output None 3) → P p
the_output P zero p here out h = absurd (let is : port (codes "clk") Input None 0 ≡ p = cc in let no : Input ≡ Output = ap (λ r. r.way) is ∙ out in cc)
the_output P (suc zero) p here out h = absurd (let is : port (codes "x") Input None 1 ≡ p = cc in let no : Input ≡ Output = ap (λ r. r.way) is ∙ out in cc)
the_output P (suc (suc zero)) p here out h = absurd (let is : port (codes "y") Input None 2 ≡ p = cc in let no : Input ≡ Output = ap (λ r. r.way) is ∙ out in cc)
the_output P (suc (suc (suc zero))) p here out h = let is : port (codes "q") Output None 3 ≡ p = cc in subst P is h
the_output P (suc (suc (suc (suc n)))) p here out h = absurd (cc)

pub is_same : Same toggle toggle_marks toggle_report masked_toggle
is_same = record {
  shape = has_shape;
  no_loop = has_no_loop;
  outputs = λ power tape table secrets streams steps trace tells drives s k first in_streams in_steps original n p at output.
      let driven = subst (λ kinds. Drives toggle kinds toggle_report masked_toggle streams steps table) (one_secret secrets tells) drives in
      the_output (λ q. masked_value masked_toggle toggle_report q.name (bit_at table (1 + s + 3 * k + 2)) ≡ map (bit_at first k) q.bits) n p at output
      (output_is power tape table trace streams steps driven s first in_streams original k in_steps);
}
