-- What the checks say of a net's parts.
use Rattle.std.proofs.Common.{◌≡◌, ℕ, Bool, true, false, List, Option, Some, None, length, sym, ◌∙◌, IsTrue, ◌↔◌, IfOk, Ok, Err}
use Rattle.std.specs.Prelude.{◌&&◌, nat_lt, Result, MatchOption}
use Rattle.std.specs.List.{list_all}
use Rattle.std.proofs.lemmas.Bool.{both_ways}
use Rattle.std.proofs.lemmas.List.Folds.{list_all-map}
use Rattle.agm_net.specs.Formula.{formula_of, reads_below}
use Rattle.agm_net.specs.Plain.{PlainNet, Line, Stored, plain, line_of, stored_of}
use Rattle.agm_net.specs.WellFormed.{WellFormed, PortsAreRight, IsFirstBad, numbers_fit}
use Rattle.agm_net.specs.Checks.{Texts, ports_fit, AllRight, IsFirstWrong}
use Rattle.agm_net.specs.declared.port.Port.{Port}
use Rattle.agm_net.specs.declared.expr.Equation.{Equation}
use Rattle.agm_net.specs.declared.expr.Register.{Register}
use Rattle.agm_net.proofs.Ports.{right-from_test, test-from_right}

-- the test of numbers, over equations and registers
pub numbers_are : (ports : List Port) (wires : Texts) (equations : List Equation) (registers : List Register) (clock : Option ℕ)
    → numbers_fit (plain ports wires equations registers clock)
    ≡ (list_all (λ e. nat_lt e.wire (length wires) && reads_below (length wires) (formula_of e.expr)) equations
    && list_all (λ r. nat_lt r.q (length wires) && (reads_below (length wires) (formula_of r.next) && nat_lt r.clock (length wires))) registers)
numbers_are ports wires equations registers clock =
    cc (
      list_all-map (λ (l : Line). nat_lt l.0 (length wires) && reads_below (length wires) l.1) line_of equations,
      list_all-map (λ (r : Stored). nat_lt r.q (length wires) && (reads_below (length wires) r.next && nat_lt r.clock (length wires))) stored_of registers,
    )

module _ (net : PlainNet) where
  -- parts with a number out of range
  pub refused_parts : numbers_fit net ≡ false → IsTrue false ↔ (IsTrue (numbers_fit net) × PortsAreRight net)
  refused_parts out = (λ h. absurd (cc), λ h. absurd (both_ways _ out h.0))

  -- parts with all numbers in range
  pub tested_parts : {E : Type 0} → numbers_fit net ≡ true → (r : Result Bool E) → IfOk r (λ b. b ≡ ports_fit net.ports net.wires net.clock) → IfOk r (λ b. IsTrue b ↔ (IsTrue (numbers_fit net) × PortsAreRight net))
  tested_parts within (Ok b) h = (λ fit. (within, right-from_test net (sym h ∙ fit)), λ right. h ∙ test-from_right net right.1)
  tested_parts within (Err e) h = tt

  -- a net of right parts and right wires
  made : IsTrue (numbers_fit net) × PortsAreRight net → AllRight net → WellFormed net
  made right all = record {
    in_range = right.0;
    ports_right = right.1;
    wires_differ = λ v w before within. (all w within).0 v before;
    one_driver = λ w within. (all w within).1;
  }

  -- what the first wrong wire says of parts with right numbers and ports
  pub by_wires : {E : Type 0} (r : Result (Option ℕ) E) → IsTrue (numbers_fit net) × PortsAreRight net → IfOk r (λ wire. MatchOption wire (AllRight net) (IsFirstWrong net))
      → IfOk r (λ bad. MatchOption bad (WellFormed net) (IsFirstBad net))
  by_wires (Ok None) right h = made right h
  by_wires (Ok (Some w)) right h = IsFirstBad.wire right.0 right.1 h.within h.right_before h.wrong
  by_wires (Err e) right h = tt
