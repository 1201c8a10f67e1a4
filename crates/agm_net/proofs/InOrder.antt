-- Equations in order have one solution, and where each is for a wire of its own they have no loop.
use Rattle.std.proofs.Common.{◌≡◌, ◌<◌, ◌==◌, ◌&&◌, ◌||◌, ℕ, zero, suc, Bool, true, false, cond, List, [], ◌∷◌, IsTrue, refl, sym, ap, ◌∙◌, inl, inr, eq-eqb, arith}
use Rattle.std.specs.List.{AllByRecursion}
use Rattle.std.proofs.lemmas.Bool.{eqb-true, or_cases, or_left, or_right, and_parts, cases_Bool, both_ways, false_from_ne_true}
use Rattle.agm_net.specs.Formula.{stands}
use Rattle.agm_net.specs.Plain.{Line, PlainNet}
use Rattle.agm_net.specs.Loop.{reads_in, HasNoLoop}
use Rattle.agm_net.specs.Small.{InOrder, IsFresh}
use Rattle.agm_net.specs.Trace.{Holds}
use Rattle.agm_net.proofs.Formulas.{Agree, same_value}
use Rattle.agm_net.proofs.Ranks.{no_loop}

-- one more wire on which two rows agree
known_more : (known x y : ℕ → Bool) (v : ℕ) → Agree known x y → x v ≡ y v → Agree (λ w. (w == v) || known w) x y
known_more known x y v a e w h =
    elim (or_cases (w == v) (known w) h) [ inl new ↦ let same : w ≡ v = eqb-true w v new in ap x same ∙ (e ∙ ap y (sym same)) | inr old ↦ a w old ]

-- two rows that solve equations in order and agree on what is known agree on the equations' wires
pub one_solution : (known : ℕ → Bool) (lines : List Line) (x y : ℕ → Bool) → InOrder known lines → Holds x lines → Holds y lines → Agree known x y → AllByRecursion (λ l. x l.0 ≡ y l.0) lines
one_solution known [] x y o h g a = tt
one_solution known (l ∷ ls) x y o h g a =
    let here : x l.0 ≡ y l.0 = h.0 ∙ (same_value x y l.1 (λ w s. a w (o.0 w s)) ∙ sym g.0) in
    (here, one_solution (λ w. (w == l.0) || known w) ls x y o.1 h.1 g.1 (known_more known x y l.0 a here))

-- whether an equation is for wire w and reads wire v
abbrev pub line_reads : ℕ → ℕ → Line → Bool
line_reads w v l = (l.0 == w) && stands v l.1

-- a place behind one equation more
abbrev later : ℕ → ℕ
later zero = zero
later (suc n) = suc (suc n)

-- the place of a wire's equation, counted from 1, and 0 for a wire without one
abbrev pub place : List Line → ℕ → ℕ
place [] w = 0
place (l ∷ ls) w = cond (l.0 == w) 1 (later (place ls w))

-- it keeps the order of places
later_less : (m n : ℕ) → m < n → later m < later n
later_less m zero lt = absurd (omega arith)
later_less zero (suc n) lt = omega arith
later_less (suc m) (suc n) lt = omega arith

-- the first place is before it
later_more : (m n : ℕ) → m < n → 1 < later n
later_more m zero lt = absurd (omega arith)
later_more m (suc n) lt = omega arith

-- a known wire has no equation
known_place : (known : ℕ → Bool) (lines : List Line) (w : ℕ) → IsFresh known lines → IsTrue (known w) → place lines w ≡ 0
known_place known [] w f h = refl
known_place known (l ∷ ls) w f h =
    elim (cases_Bool (l.0 == w)) [
      | inl here ↦ (let same : l.0 ≡ w = eqb-true l.0 w here in let two : known l.0 ≡ known w = ap known same in absurd (both_ways (known w) (sym two ∙ f.0) h))
      | inr apart ↦ rw apart (let none : place ls w ≡ 0 = known_place (λ v. (v == l.0) || known v) ls w f.2 (or_right (w == l.0) (known w) h) in ap later none)
    ]

-- what a wire reads stands at an earlier place
pub reads_earlier : (known : ℕ → Bool) (lines : List Line) (w v : ℕ) → IsFresh known lines → IsTrue (reads_in lines w v) → place lines v < place lines w
reads_earlier known [] w v f h = absurd (let no : false ≡ true = h in cc)
reads_earlier known (l ∷ ls) w v f h =
    elim (or_cases (line_reads w v l) (reads_in ls w v) h) [
      | inl here ↦ (
          let parts = and_parts (l.0 == w) (stands v l.1) here in
          let none : place (l ∷ ls) v ≡ 0 = known_place known (l ∷ ls) v f (f.1 v parts.1) in
          let first : place (l ∷ ls) w ≡ 1 = rw (parts.0) refl in
          omega arith)
      | inr there ↦ (
          let less : place ls v < place ls w = reads_earlier (λ u. (u == l.0) || known u) ls w v f.2 there in
          let apart : (l.0 == w) ≡ false = false_from_ne_true (l.0 == w) (λ here.
          let swapped : (w == l.0) ≡ true = eq-eqb w l.0 (sym (eqb-true l.0 w here)) in
          let none : place ls w ≡ 0 = known_place (λ u. (u == l.0) || known u) ls w f.2 (or_left (w == l.0) (known w) swapped) in
          omega arith) in
          let more : place (l ∷ ls) w ≡ later (place ls w) = rw apart refl in
          elim (cases_Bool (l.0 == v)) [
            | inl is ↦ (let one : place (l ∷ ls) v ≡ 1 = rw is refl in let two = later_more (place ls v) (place ls w) less in omega arith)
            | inr is ↦ (let after : place (l ∷ ls) v ≡ later (place ls v) = rw is refl in let two = later_less (place ls v) (place ls w) less in omega arith)
          ])
    ]

-- equations in order, each for a wire of its own, have no loop
pub no_loop_in_order : (net : PlainNet) (known : ℕ → Bool) → IsFresh known net.lines → HasNoLoop net
no_loop_in_order net known f = no_loop net (place net.lines) (λ w v h. reads_earlier known net.lines w v f h)
