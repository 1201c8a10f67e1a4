-- Small netlists, with the marks of their ports.
use Rattle.std.specs.Prelude.{◌+◌, ◌++◌, ℕ, List, [], ◌∷◌, None, Some, codes, length, map, replicate, slice_index_or}
use Rattle.agm_net.specs.Formula.{Formula, f_zero, f_wire, f_not, f_and, f_or, f_xor, f_mux}
use Rattle.agm_net.specs.Plain.{Line, PlainNet}
use Rattle.agm_net.specs.declared.mark.Mark.{Mark}
use Rattle.agm_net.specs.declared.mark.Mark.TheVariants.{Unmarked, Secure, Clock}
use Rattle.agm_net.specs.declared.port.Way.{Way}
use Rattle.agm_net.specs.declared.port.Way.TheVariants.{Input, Output}
use Rattle.agm_net.specs.declared.port.Port.{Port}

abbrev pub Name : Type 0
Name = List ℕ

-- a port of one bit
abbrev pub port : Name → Way → ℕ → Port
port name way wire = record { name = name; way = way; range = None; bits = wire ∷ [] }

-- input ports of one bit each, whose wires are numbered from w on
abbrev pub inputs_from : ℕ → List Name → List Port
inputs_from w [] = []
inputs_from w (x ∷ xs) = port x Input w ∷ inputs_from (w + 1) xs

-- equations of wires that are numbered from w on
abbrev pub lines_from : ℕ → List (Name × Formula) → List Line
lines_from w [] = []
lines_from w (e ∷ es) = (w, e.1) ∷ lines_from (w + 1) es

abbrev pub wire_names : List Name → List (Name × Formula) → List Name
wire_names inputs made = inputs ++ map (λ e. e.0) made

-- A net of inputs and, numbered behind them, wires that equations make. Some of the latter are outputs.
abbrev pub gates : (inputs : List Name) → (made : List (Name × Formula)) → (outputs : List ℕ) → PlainNet
gates inputs made outputs = record {
  ports = inputs_from 0 inputs ++ map (λ w. port (slice_index_or (wire_names inputs made) w []) Output w) outputs;
  wires = wire_names inputs made;
  lines = lines_from (length inputs) made;
  registers = [];
  clock = None;
}

-- n secure inputs and m ports without a mark
abbrev pub secure : (n m : ℕ) → List Mark
secure n m = replicate n Secure ++ replicate m Unmarked

-- two products, the second of the first
abbrev pub in_a_row : PlainNet
in_a_row = gates (codes "x" ∷ codes "y" ∷ codes "z" ∷ []) ((codes "t", f_and (f_wire 0) (f_wire 1)) ∷ (codes "o", f_and (f_wire 3) (f_wire 2)) ∷ []) (4 ∷ [])

-- a product of two products
abbrev pub side_by_side : PlainNet
side_by_side =
    gates (codes "w" ∷ codes "x" ∷ codes "y" ∷ codes "z" ∷ [])
    ((codes "p", f_and (f_wire 0) (f_wire 1)) ∷ (codes "q", f_and (f_wire 2) (f_wire 3)) ∷ (codes "o", f_and (f_wire 4) (f_wire 5)) ∷ [])
    (6 ∷ [])

abbrev pub full_adder : PlainNet
full_adder =
    gates (codes "a" ∷ codes "b" ∷ codes "ci" ∷ [])
    ((codes "p", f_xor (f_wire 0) (f_wire 1)) ∷ (codes "s", f_xor (f_wire 3) (f_wire 2)) ∷ (codes "g", f_and (f_wire 0) (f_wire 1)) ∷
    (codes "t", f_and (f_wire 3) (f_wire 2)) ∷ (codes "co", f_or (f_wire 5) (f_wire 6)) ∷ [])
    (4 ∷ 7 ∷ [])

abbrev pub exclusive_or : PlainNet
exclusive_or = gates (codes "a" ∷ codes "b" ∷ []) ((codes "y", f_xor (f_wire 0) (f_wire 1)) ∷ []) (2 ∷ [])

-- whether two of three bits are 1
abbrev pub majority : PlainNet
majority =
    gates (codes "a" ∷ codes "b" ∷ codes "c" ∷ [])
    ((codes "p", f_xor (f_wire 0) (f_wire 1)) ∷ (codes "g", f_and (f_wire 0) (f_wire 1)) ∷ (codes "t", f_and (f_wire 3) (f_wire 2)) ∷
    (codes "y", f_or (f_wire 4) (f_wire 5)) ∷ [])
    (6 ∷ [])

-- x & x
abbrev pub square : PlainNet
square = gates (codes "x" ∷ []) ((codes "y", f_and (f_wire 0) (f_wire 0)) ∷ []) (1 ∷ [])

-- b where s is 1, else a
abbrev pub choice_of_two : PlainNet
choice_of_two = gates (codes "a" ∷ codes "b" ∷ codes "s" ∷ []) ((codes "y", f_mux (f_wire 2) (f_wire 0) (f_wire 1)) ∷ []) (3 ∷ [])

-- x & (x & y)
abbrev pub factor_again : PlainNet
factor_again = gates (codes "x" ∷ codes "y" ∷ []) ((codes "t", f_and (f_wire 0) (f_wire 1)) ∷ (codes "z", f_and (f_wire 0) (f_wire 2)) ∷ []) (3 ∷ [])

-- a ^ a
abbrev pub cancelled : PlainNet
cancelled = gates (codes "a" ∷ []) ((codes "y", f_xor (f_wire 0) (f_wire 0)) ∷ []) (1 ∷ [])

-- A register q that takes d where `en` is 1, by a multiplexer that is a sum of two products; and an output that is 0.
abbrev pub bank : PlainNet
bank = record {
  ports = port (codes "clk") Input 0 ∷ port (codes "en") Input 1 ∷ port (codes "d") Input 2 ∷ port (codes "q") Output 3 ∷ port (codes "zero") Output 5 ∷ [];
  wires = codes "clk" ∷ codes "en" ∷ codes "d" ∷ codes "q" ∷ codes "_0_" ∷ codes "zero" ∷ [];
  lines = (4, f_or (f_and (f_wire 1) (f_wire 2)) (f_and (f_wire 3) (f_not (f_wire 1)))) ∷ (5, f_zero) ∷ [];
  registers = record { q = 3; next = f_wire 4; clock = 0 } ∷ [];
  clock = Some 0;
}

abbrev pub bank_marks : List Mark
bank_marks = Clock ∷ Unmarked ∷ Secure ∷ Unmarked ∷ Unmarked ∷ []

-- a product of the product of six bits and the exclusive or of five, which are too many for one cut
abbrev pub wide : PlainNet
wide =
    gates (codes "a" ∷ codes "b" ∷ codes "c" ∷ codes "d" ∷ codes "e" ∷ codes "f" ∷ codes "g" ∷ codes "h" ∷ codes "i" ∷ codes "j" ∷ codes "k" ∷ [])
    ((codes "p1", f_and (f_wire 0) (f_wire 1)) ∷ (codes "p2", f_and (f_wire 11) (f_wire 2)) ∷ (codes "p3", f_and (f_wire 12) (f_wire 3)) ∷
    (codes "p4", f_and (f_wire 13) (f_wire 4)) ∷ (codes "p5", f_and (f_wire 14) (f_wire 5)) ∷ (codes "q1", f_xor (f_wire 6) (f_wire 7)) ∷
    (codes "q2", f_xor (f_wire 16) (f_wire 8)) ∷ (codes "q3", f_xor (f_wire 17) (f_wire 9)) ∷ (codes "q4", f_xor (f_wire 18) (f_wire 10)) ∷
    (codes "y", f_and (f_wire 15) (f_wire 19)) ∷ [])
    (20 ∷ [])
