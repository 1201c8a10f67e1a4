-- Operators of formulas and of nets, and their numbers.
use Rattle.std.specs.Prelude.{◌+◌, ◌++◌, ℕ, List, map, take, sum_by}
use Rattle.agm_net.specs.Formula.{Formula, f_zero, f_one, f_wire, f_not, f_and, f_or, f_xor, f_mux}
use Rattle.agm_net.specs.Plain.{PlainNet}

-- how many operators stand in a formula
abbrev pub operators : Formula → ℕ
operators f_zero = 0
operators f_one = 0
operators (f_wire w) = 0
operators (f_not x) = operators x + 1
operators (f_and x y) = operators x + operators y + 1
operators (f_or x y) = operators x + operators y + 1
operators (f_xor x y) = operators x + operators y + 1
operators (f_mux s x y) = operators s + operators x + operators y + 1

-- the formulas of a net: those of the equations in their order, then those of the registers
abbrev pub formulas : PlainNet → List Formula
formulas net = map (λ l. l.1) net.lines ++ map (λ r. r.next) net.registers

-- Operators are numbered from 0, formula after formula. So the first one of formula i has as its number how many stand before.
abbrev pub first_number : PlainNet → ℕ → ℕ
first_number net i = sum_by operators (take i (formulas net))

abbrev pub operators_of : PlainNet → ℕ
operators_of net = sum_by operators (formulas net)
