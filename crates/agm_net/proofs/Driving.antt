-- What drives each wire of a well-formed net.
use Rattle.std.proofs.Common.{◌≡◌, ◌<◌, ◌≤◌, ◌+◌, ◌==◌, ◌&&◌, ◌||◌, ℕ, zero, suc, Bool, true, false, List, [], ◌∷◌, length, IsTrue, Some, slice_get, count_by, refl, sym, ap, ◌∙◌, subst, arith, zero-add, inl, inr, eq-eqb}
use Rattle.std.specs.List.{list_any}
use Rattle.std.proofs.lemmas.Bool.{eqb-true, cases_Bool, false_from_ne_true}
use Rattle.agm_net.specs.Formula.{stands, reads_below}
use Rattle.agm_net.specs.Loop.{reads}
use Rattle.agm_net.specs.Plain.{Line, Stored, PlainNet, input_bits, clock_bits}
use Rattle.agm_net.specs.Run.{Driver, d_input, d_clock, d_equation, d_register, d_nothing, HasDriver, first_driver, driver, reads_now, reads_ever}
use Rattle.agm_net.specs.WellFormed.{WellFormed}
use Rattle.agm_net.proofs.Formulas.{reads_are_below}
use Rattle.agm_net.proofs.Lists.{all_of_one, any_at, count_more, count_none, count_some, count_yes, found_of_all, none_counted, place_of_any}
use Rattle.agm_net.proofs.Wires.{times, one_way, inputs_are_wires, clock_is_wire, lines_fit, registers_fit}

-- where no item passes, another is the driver
first_none : {X : Type 0} (passes : X → Bool) (makes : ℕ → X → Driver) (n : ℕ) (xs : List X) (other : Driver) → list_any passes xs ≡ false → first_driver passes makes n xs other ≡ other
first_none passes makes n [] other none = refl
first_none passes makes n (x ∷ xs) other none =
    elim (cases_Bool (passes x)) [
      | inl is ↦ absurd (let no : true ≡ false = sym (ap (λ b. b || list_any passes xs) is) ∙ none in cc)
      | inr apart ↦ rw apart (first_none passes makes (suc n) xs other (sym (ap (λ b. b || list_any passes xs) apart) ∙ none))
    ]

-- and the only one that passes gives it
first_at : {X : Type 0} (passes : X → Bool) (makes : ℕ → X → Driver) (n : ℕ) (xs : List X) (other : Driver) (i : ℕ) (x : X) → count_by passes xs ≤ 1 → slice_get xs i ≡ Some x → IsTrue (passes x)
    → first_driver passes makes n xs other ≡ makes (n + i) x
first_at passes makes n [] other i x once at pass = absurd (cc)
first_at passes makes n (y ∷ ys) other zero x once at pass =
    let same : y ≡ x = cc in
    let place : n ≡ n + 0 = omega arith in
    rw (ap passes same ∙ pass) (ap (λ k. makes k y) place ∙ ap (makes (n + 0)) same)
first_at passes makes n (y ∷ ys) other (suc i) x once at pass =
    elim (cases_Bool (passes y)) [
      | inl is ↦ absurd (let two = count_yes passes y ys is in let more = count_some passes ys (any_at passes ys i x at pass) in omega arith)
      | inr apart ↦ (
          let place : suc n + i ≡ n + suc i = omega arith in
          let less = count_more passes y ys in
          rw apart (first_at passes makes (suc n) ys other i x (omega arith) at pass ∙ ap (λ k. makes k x) place))
    ]

-- what has no equation reads nothing in its cycle
reads_nothing : {X : Type 0} (passes : X → Bool) (makes : ℕ → X → Driver) (n : ℕ) (xs : List X) (other : Driver) (v : ℕ) → ((k : ℕ) (x : X) → reads_now (makes k x) v ≡ false) → reads_now other v ≡ false
    → reads_now (first_driver passes makes n xs other) v ≡ false
reads_nothing passes makes n [] other v each last = last
reads_nothing passes makes n (x ∷ xs) other v each last =
    elim (cases_Bool (passes x)) [ inl is ↦ rw is (each n x) | inr apart ↦ rw apart (reads_nothing passes makes (suc n) xs other v each last) ]

-- where each wire has one equation at most, what it reads by the list of equations is what its driver reads
reads_first : (lines : List Line) (n w v : ℕ) (other : Driver) → count_by (λ l. l.0 == w) lines ≤ 1 → reads_now other v ≡ false
    → list_any (λ l. (l.0 == w) && stands v l.1) lines ≡ reads_now (first_driver (λ l. l.0 == w) (λ k l. d_equation l.1) n lines other) v
reads_first [] n w v other once last = sym last
reads_first (l ∷ ls) n w v other once last =
    elim (cases_Bool (l.0 == w)) [
      | inl is ↦ (
          let two = count_yes (λ (k : Line). k.0 == w) l ls is in
          let none : list_any (λ (k : Line). k.0 == w) ls ≡ false = none_counted (λ k. k.0 == w) ls (omega arith) in
          rw is (rw (no_reads ls none) (or_false (stands v l.1))))
      | inr apart ↦ (
          let less = count_more (λ (k : Line). k.0 == w) l ls in
          rw apart (reads_first ls (suc n) w v other (omega arith) last))
    ]
  where
    or_false : (b : Bool) → (b || false) ≡ b
    or_false true = refl
    or_false false = refl

    no_reads : (ks : List Line) → list_any (λ k. k.0 == w) ks ≡ false → list_any (λ k. (k.0 == w) && stands v k.1) ks ≡ false
    no_reads [] none = refl
    no_reads (k ∷ ks) none =
        elim (cases_Bool (k.0 == w)) [
          | inl is ↦ absurd (let no : true ≡ false = sym (ap (λ b. b || list_any (λ j. j.0 == w) ks) is) ∙ none in cc)
          | inr apart ↦ rw apart (no_reads ks (sym (ap (λ b. b || list_any (λ j. j.0 == w) ks) apart) ∙ none))
        ]

-- what is read in a cycle is read
pub now_is_ever : (d : Driver) (v : ℕ) → IsTrue (reads_now d v) → IsTrue (reads_ever d v)
now_is_ever (d_equation f) v h = h
now_is_ever (d_input n) v h = h
now_is_ever d_clock v h = h
now_is_ever (d_register n next) v h = absurd (let no : false ≡ true = h in cc)
now_is_ever d_nothing v h = h

module _ (net : PlainNet) (well : WellFormed net) where
  -- what stands in a net for a wire stands for one of its wires
  pub driven_is_wire : (d : Driver) (w : ℕ) → HasDriver net d w → w < length net.wires
  driven_is_wire (d_input n) w h = all_of_one (λ v. v < length net.wires) (input_bits net) n w (inputs_are_wires net well) h
  driven_is_wire d_clock w h = found_of_all (λ v. v < length net.wires) (clock_bits net) (clock_is_wire net well) w h
  driven_is_wire (d_equation f) w h = (all_of_one (λ (l : Line). (l.0 < length net.wires) × IsTrue (reads_below (length net.wires) l.1)) net.lines h.0 (w, f) (lines_fit net well) h.1).0
  driven_is_wire (d_register n next) w h =
      let fit = all_of_one (λ (r : Stored). (r.q < length net.wires) × IsTrue (reads_below (length net.wires) r.next)) net.registers n h.0 (registers_fit net well) h.1 in
      subst (λ v. v < length net.wires) h.2 fit.0
  driven_is_wire d_nothing w h = absurd h

  -- and is its driver
  pub is_driver : (d : Driver) (w : ℕ) → HasDriver net d w → driver net w ≡ d
  is_driver d w h = by_kind d h (one_way net well w (driven_is_wire d w h))
    where
      by_kind : (d : Driver) → HasDriver net d w → times w (input_bits net) + times w (clock_bits net) + count_by (λ l. l.0 == w) net.lines + count_by (λ r. r.q == w) net.registers ≡ 1 → driver net w ≡ d
      by_kind (d_equation f) h one =
          let some = count_some (λ (l : Line). l.0 == w) net.lines (any_at (λ l. l.0 == w) net.lines h.0 (w, f) h.1 (eq-eqb w w refl)) in
          first_at (λ (l : Line). l.0 == w) (λ n l. d_equation l.1) 0 net.lines _ h.0 (w, f) (omega arith) h.1 (eq-eqb w w refl)
      by_kind (d_register n next) h one =
          let here : IsTrue (h.0.q == w) = eq-eqb h.0.q w h.2 in
          let some = count_some (λ (r : Stored). r.q == w) net.registers (any_at (λ r. r.q == w) net.registers n h.0 h.1 here) in
          first_none (λ (l : Line). l.0 == w) (λ n l. d_equation l.1) 0 net.lines _ (none_counted (λ l. l.0 == w) net.lines (omega arith))
          ∙ (first_at (λ (r : Stored). r.q == w) (λ n r. d_register n r.next) 0 net.registers _ n h.0 (omega arith) h.1 here
          ∙ (ap (λ k. d_register k h.0.next) (zero-add n) ∙ ap (d_register n) h.3))
      by_kind (d_input n) h one =
          let here : IsTrue (w == w) = eq-eqb w w refl in
          let some = count_some (λ b. b == w) (input_bits net) (any_at (λ b. b == w) (input_bits net) n w h here) in
          first_none (λ (l : Line). l.0 == w) (λ n l. d_equation l.1) 0 net.lines _ (none_counted (λ l. l.0 == w) net.lines (omega arith))
          ∙ (first_none (λ (r : Stored). r.q == w) (λ n r. d_register n r.next) 0 net.registers _ (none_counted (λ r. r.q == w) net.registers (omega arith))
          ∙ (first_at (λ b. b == w) (λ n b. d_input n) 0 (input_bits net) _ n w (omega arith) h here ∙ ap d_input (zero-add n)))
      by_kind d_clock h one =
          let some = count_some (λ b. b == w) (clock_bits net) h in
          let found = place_of_any (λ b. b == w) (clock_bits net) h in
          first_none (λ (l : Line). l.0 == w) (λ n l. d_equation l.1) 0 net.lines _ (none_counted (λ l. l.0 == w) net.lines (omega arith))
          ∙ (first_none (λ (r : Stored). r.q == w) (λ n r. d_register n r.next) 0 net.registers _ (none_counted (λ r. r.q == w) net.registers (omega arith))
          ∙ (first_none (λ b. b == w) (λ n b. d_input n) 0 (input_bits net) _ (none_counted (λ b. b == w) (input_bits net) (omega arith))
          ∙ first_at (λ b. b == w) (λ n b. d_clock) 0 (clock_bits net) d_nothing found.0 found.1 (omega arith) found.2 found.3))
      by_kind d_nothing h one = absurd h

  -- each wire has a driver
  pub is_driven : (w : ℕ) → w < length net.wires → HasDriver net (driver net w) w
  is_driven w lt =
      elim (cases_Bool (list_any (λ (l : Line). l.0 == w) net.lines)) [
        | inl some ↦ (let found = place_of_any (λ (l : Line). l.0 == w) net.lines some in
            from (d_equation found.1.1) (found.0, found.2 ∙ ap (λ v. Some (v, found.1.1)) (eqb-true found.1.0 w found.3)))
        | inr no_line ↦ elim (cases_Bool (list_any (λ (r : Stored). r.q == w) net.registers)) [
          | inl some ↦ (let found = place_of_any (λ (r : Stored). r.q == w) net.registers some in
              from (d_register found.0 found.1.next) (found.1, found.2, eqb-true found.1.q w found.3, refl))
          | inr no_register ↦ elim (cases_Bool (list_any (λ b. b == w) (input_bits net))) [
            | inl some ↦ (let found = place_of_any (λ b. b == w) (input_bits net) some in
                from (d_input found.0) (found.2 ∙ ap Some (eqb-true found.1 w found.3)))
            | inr no_input ↦ elim (cases_Bool (list_any (λ b. b == w) (clock_bits net))) [
              | inl some ↦ from d_clock some
              | inr no_clock ↦ (
                  let a = count_none (λ (l : Line). l.0 == w) net.lines no_line in
                  let b = count_none (λ (r : Stored). r.q == w) net.registers no_register in
                  let c = count_none (λ b. b == w) (input_bits net) no_input in
                  let d = count_none (λ b. b == w) (clock_bits net) no_clock in
                  let one = one_way net well w lt in absurd (omega arith))
            ]
          ]
        ]
      ]
    where
      from : (d : Driver) → HasDriver net d w → HasDriver net (driver net w) w
      from d h = subst (λ e. HasDriver net e w) (sym (is_driver d w h)) h

  -- what it reads or stores are wires
  pub reads_are_wires : (w v : ℕ) → w < length net.wires → IsTrue (reads_ever (driver net w) v) → v < length net.wires
  reads_are_wires w v lt = by_kind (driver net w) (is_driven w lt)
    where
      by_kind : (d : Driver) → HasDriver net d w → IsTrue (reads_ever d v) → v < length net.wires
      by_kind (d_equation f) h read =
          let fit = all_of_one (λ (l : Line). (l.0 < length net.wires) × IsTrue (reads_below (length net.wires) l.1)) net.lines h.0 (w, f) (lines_fit net well) h.1 in
          reads_are_below (length net.wires) f fit.1 v read
      by_kind (d_register n next) h read =
          let fit = all_of_one (λ (r : Stored). (r.q < length net.wires) × IsTrue (reads_below (length net.wires) r.next)) net.registers n h.0 (registers_fit net well) h.1 in
          reads_are_below (length net.wires) h.0.next fit.1 v (subst (λ f. IsTrue (stands v f)) (sym h.3) read)
      by_kind (d_input n) h read = absurd (let no : false ≡ true = read in cc)
      by_kind d_clock h read = absurd (let no : false ≡ true = read in cc)
      by_kind d_nothing h read = absurd h

  -- what is no wire has no driver
  pub undriven : (w : ℕ) → length net.wires ≤ w → driver net w ≡ d_nothing
  undriven w past =
      first_none (λ (l : Line). l.0 == w) (λ n l. d_equation l.1) 0 net.lines _
      (false_from_ne_true (list_any (λ (l : Line). l.0 == w) net.lines) (λ some.
      let found = place_of_any (λ (l : Line). l.0 == w) net.lines some in
      not_here (d_equation found.1.1) (found.0, found.2 ∙ ap (λ v. Some (v, found.1.1)) (eqb-true found.1.0 w found.3))))
      ∙ (first_none (λ (r : Stored). r.q == w) (λ n r. d_register n r.next) 0 net.registers _
      (false_from_ne_true (list_any (λ (r : Stored). r.q == w) net.registers) (λ some.
      let found = place_of_any (λ (r : Stored). r.q == w) net.registers some in
      not_here (d_register found.0 found.1.next) (found.1, found.2, eqb-true found.1.q w found.3, refl)))
      ∙ (first_none (λ b. b == w) (λ n b. d_input n) 0 (input_bits net) _
      (false_from_ne_true (list_any (λ b. b == w) (input_bits net)) (λ some.
      let found = place_of_any (λ b. b == w) (input_bits net) some in
      not_here (d_input found.0) (found.2 ∙ ap Some (eqb-true found.1 w found.3))))
      ∙ first_none (λ b. b == w) (λ n b. d_clock) 0 (clock_bits net) d_nothing (false_from_ne_true (list_any (λ b. b == w) (clock_bits net)) (not_here d_clock))))
    where
      not_here : (d : Driver) → HasDriver net d w → Prim.⊥
      not_here d h = let lt = driven_is_wire d w h in omega arith

  -- each wire has one equation at most
  pub line_once : (w : ℕ) → count_by (λ l. l.0 == w) net.lines ≤ 1
  line_once w =
      elim (cases_Bool (list_any (λ (l : Line). l.0 == w) net.lines)) [
        | inl some ↦ (
            let found = place_of_any (λ (l : Line). l.0 == w) net.lines some in
            let here : found.1.0 ≡ w = eqb-true found.1.0 w found.3 in
            let fit = all_of_one (λ (l : Line). (l.0 < length net.wires) × IsTrue (reads_below (length net.wires) l.1)) net.lines found.0 found.1 (lines_fit net well) found.2 in
            let below : found.1.0 < length net.wires = fit.0 in
            let one = one_way net well w (subst (λ v. v < length net.wires) here below) in omega arith)
        | inr none ↦ (let zero_all = count_none (λ (l : Line). l.0 == w) net.lines none in omega arith)
      ]

  -- and stands at one place among the input bits at most
  pub input_once : (w : ℕ) → times w (input_bits net) ≤ 1
  input_once w =
      elim (cases_Bool (list_any (λ b. b == w) (input_bits net))) [
        | inl some ↦ (let one = one_way net well w (found_of_all (λ v. v < length net.wires) (input_bits net) (inputs_are_wires net well) w some) in omega arith)
        | inr none ↦ (let zero_all = count_none (λ b. b == w) (input_bits net) none in omega arith)
      ]

  -- a wire reads what its driver reads in the same cycle
  pub reads_is : (w v : ℕ) → reads net w v ≡ reads_now (driver net w) v
  reads_is w v =
      reads_first net.lines 0 w v _ (line_once w)
      (reads_nothing (λ (r : Stored). r.q == w) (λ n r. d_register n r.next) 0 net.registers _ v (λ k r. refl)
      (reads_nothing (λ b. b == w) (λ n b. d_input n) 0 (input_bits net) _ v (λ k b. refl)
      (reads_nothing (λ b. b == w) (λ n b. d_clock) 0 (clock_bits net) d_nothing v (λ k b. refl) refl)))
