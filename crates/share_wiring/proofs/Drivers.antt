-- Each wire of a net without registers is an input bit or the wire of one equation.
use Rattle.std.proofs.Common.{◌≡◌, ◌<◌, ◌≤◌, ◌+◌, ◌==◌, ℕ, Bool, true, false, ◌||◌, List, [], ◌∷◌, length, IsTrue, count_by, refl, sym, ap, ◌∙◌, inl, inr, eq-eqb, arith}
use Rattle.std.specs.List.{AllByRecursion, list_any}
use Rattle.std.proofs.lemmas.Bool.{eqb-true, or_cases, cases_Bool, false_from_ne_true}
use Rattle.agm_net.specs.Formula.{reads_below}
use Rattle.agm_net.specs.Plain.{Line, PlainNet}
use Rattle.agm_net.specs.WellFormed.{WellFormed}
use Rattle.agm_net.specs.Small.{InOrder, IsFresh}
use Rattle.agm_net.proofs.Wires.{bits_in, is_bit_in, lines_fit}
use Rattle.agm_net.proofs.Lists.{all_from, count_more, count_none, count_some, count_yes, some_counted}

-- how many of some equations are for wire w
abbrev pub lines_for : List Line → ℕ → ℕ
lines_for lines w = count_by (λ l. l.0 == w) lines

-- equations in order, each for another wire and none for a known one, are fresh
fresh_from_counts : (n : ℕ) (known : ℕ → Bool) (lines : List Line) → AllByRecursion (λ l. l.0 < n) lines → InOrder known lines
    → ((w : ℕ) → w < n → IsTrue (known w) → lines_for lines w ≡ 0) → ((w : ℕ) → w < n → lines_for lines w ≤ 1) → IsFresh known lines
fresh_from_counts n known [] fits order none once = tt
fresh_from_counts n known (l ∷ ls) fits order none once =
    let counted = λ (w : ℕ) (h : IsTrue (l.0 == w)). count_yes (λ k. k.0 == w) l ls h in
    let new : known l.0 ≡ false = false_from_ne_true (known l.0) (λ h.
    let zero_all : lines_for (l ∷ ls) l.0 ≡ 0 = none l.0 fits.0 h in
    let one : lines_for (l ∷ ls) l.0 ≡ 1 + lines_for ls l.0 = counted l.0 (eq-eqb l.0 l.0 refl) in omega arith) in
    let fewer = λ (w : ℕ). count_more (λ k. k.0 == w) l ls in (
      new,
      order.0,
      fresh_from_counts n (λ w. (w == l.0) || known w) ls fits.1 order.1
          (λ w lt h. elim (or_cases (w == l.0) (known w) h) [
            | inl is ↦ (let one = counted w (eq-eqb l.0 w (sym (eqb-true w l.0 is))) in let most = once w lt in omega arith)
            | inr old ↦ (let zero_all = none w lt old in let less = fewer w in omega arith)
          ])
          (λ w lt. let most = once w lt in let less = fewer w in omega arith),
    )

-- the equations of a net, in order by some input bits, are fresh
pub fresh_lines : (net : PlainNet) (known : ℕ → Bool) → WellFormed net → ((w : ℕ) → IsTrue (known w) → IsTrue (is_bit_in net w)) → InOrder known net.lines → IsFresh known net.lines
fresh_lines net known well inputs order =
    let n = length net.wires in
    let fits = all_from (λ l. (l.0 < n) × IsTrue (reads_below n l.1)) (λ l. l.0 < n) (λ l h. h.0) net.lines (lines_fit net well) in
    fresh_from_counts n known net.lines fits order
    (λ w lt h. let all = well.one_driver w lt in let some = count_some (λ b. b == w) (bits_in net) (inputs w h) in omega arith)
    (λ w lt. let all = well.one_driver w lt in omega arith)

-- rows that agree on the wires of equations agree on each of them
pub line_agree : (x y : ℕ → Bool) (lines : List Line) (w : ℕ) → AllByRecursion (λ l. x l.0 ≡ y l.0) lines → IsTrue (list_any (λ l. l.0 == w) lines) → x w ≡ y w
line_agree x y [] w h some = absurd (let no : false ≡ true = some in cc)
line_agree x y (l ∷ ls) w h some =
    elim (or_cases (l.0 == w) (list_any (λ k. k.0 == w) ls) some) [
      | inl here ↦ (let same : l.0 ≡ w = eqb-true l.0 w here in let head : x l.0 ≡ y l.0 = h.0 in ap x (sym same) ∙ (head ∙ ap y same))
      | inr there ↦ line_agree x y ls w h.1 there
    ]

-- a wire is an input bit or the wire of an equation
pub driver_cases : (net : PlainNet) (P : Type 0) → WellFormed net → net.registers ≡ [] → (w : ℕ) → w < length net.wires → (IsTrue (is_bit_in net w) → P)
    → (IsTrue (list_any (λ l. l.0 == w) net.lines) → P) → P
driver_cases net P well plain w lt input line =
    elim (cases_Bool (is_bit_in net w)) [
      | inl is ↦ input is
      | inr is ↦ (
          let all = well.one_driver w lt in
          let inputs : count_by (λ b. b == w) (bits_in net) ≡ 0 = count_none (λ b. b == w) (bits_in net) is in
          let registers : count_by (λ r. r.q == w) net.registers ≡ 0 = rw plain refl in
          line (some_counted (λ l. l.0 == w) net.lines (omega arith)))
    ]
