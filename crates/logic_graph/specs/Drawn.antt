-- Nodes, as they are drawn for formulas.
use Rattle.std.specs.Prelude.{◌+◌, ◌++◌, ℕ, List, [], ◌∷◌, length, slice_index_or, slice_set, replicate, map}
use Rattle.std.specs.List.{range_with_len}
use Rattle.agm_net.specs.Formula.{Formula, f_zero, f_one, f_wire, f_not, f_and, f_or, f_xor, f_mux, formula_of}
use Rattle.agm_net.specs.Plain.{Line, PlainNet, input_bits, line_of}
use Rattle.agm_net.specs.declared.expr.Equation.{Equation}
use Rattle.agm_net.specs.declared.expr.Register.{Register}
use Rattle.logic_graph.specs.Sources.{with_sources}
use Rattle.logic_graph.specs.declared.nodes.Node.{Node}
use Rattle.logic_graph.specs.declared.nodes.Node.TheVariants.{Zero, One, Input, Q, Not, Xor, And, Or, Mux}
use Rattle.logic_graph.specs.Operators.{operators}
use Rattle.logic_graph.specs.Searching.{line_at}
use Rattle.logic_graph.specs.declared.drawing.Drawing.{Drawing}

-- The node of a formula whose operators stand from `at` on: nodes 0 and 1 are the constants, and the last operator is the formula's own.
abbrev pub place : List ℕ → ℕ → Formula → ℕ
place of_wire at f_zero = 0
place of_wire at f_one = 1
place of_wire at (f_wire w) = slice_index_or of_wire w 0
place of_wire at (f_not x) = at + operators x
place of_wire at (f_and x y) = at + operators x + operators y
place of_wire at (f_or x y) = at + operators x + operators y
place of_wire at (f_xor x y) = at + operators x + operators y
place of_wire at (f_mux s x y) = at + operators s + operators x + operators y

-- the nodes of its operators, each behind its operands
abbrev pub drawn : List ℕ → ℕ → Formula → List Node
drawn of_wire at f_zero = []
drawn of_wire at f_one = []
drawn of_wire at (f_wire w) = []
drawn of_wire at (f_not x) = drawn of_wire at x ++ Not (place of_wire at x) ∷ []
drawn of_wire at (f_and x y) =
    drawn of_wire at x ++ (drawn of_wire (at + operators x) y ++ And (place of_wire at x) (place of_wire (at + operators x) y) ∷ [])
drawn of_wire at (f_or x y) =
    drawn of_wire at x ++ (drawn of_wire (at + operators x) y ++ Or (place of_wire at x) (place of_wire (at + operators x) y) ∷ [])
drawn of_wire at (f_xor x y) =
    drawn of_wire at x ++ (drawn of_wire (at + operators x) y ++ Xor (place of_wire at x) (place of_wire (at + operators x) y) ∷ [])
drawn of_wire at (f_mux s x y) =
    drawn of_wire at s
    ++ (drawn of_wire (at + operators s) x
    ++ (drawn of_wire (at + operators s + operators x) y
    ++ Mux (place of_wire at s) (place of_wire (at + operators s) x) (place of_wire (at + operators s + operators x) y) ∷ []))

-- the constants, where each of n wires has the node of 0
abbrev pub first_drawing : ℕ → Drawing
first_drawing n = record { nodes = Zero ∷ One ∷ []; numbers = 0 ∷ 0 ∷ []; of_wire = replicate n 0 }

-- the number of each formula's first operator, where the first of all is m
abbrev pub starts : ℕ → List Formula → List ℕ
starts m [] = []
starts m (f ∷ fs) = m ∷ starts (m + operators f) fs

-- the number behind those of all their operators
abbrev pub behind : ℕ → List Formula → ℕ
behind m [] = m
behind m (f ∷ fs) = behind (m + operators f) fs

-- an equation more, whose first operator has number m
abbrev pub with_line : Drawing → Line → ℕ → Drawing
with_line d l m = record {
  nodes = d.nodes ++ drawn d.of_wire (length d.nodes) l.1;
  numbers = d.numbers ++ range_with_len m (operators l.1);
  of_wire = slice_set d.of_wire l.0 (place d.of_wire (length d.nodes) l.1);
}

-- an equation, and the number of its first operator
abbrev pub Job : Type 0
Job = Line × ℕ

abbrev pub with_jobs : List Job → Drawing → Drawing
with_jobs [] d = d
with_jobs (j ∷ js) d = with_jobs js (with_line d j.0 j.1)

-- equations in an order
abbrev pub jobs : List Line → List ℕ → List ℕ → List Job
jobs lines firsts order = map (λ i. (line_at lines i, slice_index_or firsts i 0)) order

-- formulas as equations of wires from w on
abbrev pub next_jobs : ℕ → List Formula → List ℕ → List Job
next_jobs w [] ms = []
next_jobs w (f ∷ fs) [] = []
next_jobs w (f ∷ fs) (m ∷ ms) = ((w, f), m) ∷ next_jobs (w + 1) fs ms

-- the nodes of constants, input bits and registers
abbrev pub source_drawing : PlainNet → Drawing
source_drawing net =
    with_sources (λ i. Q i) 0 (map (λ r. r.q) net.registers) (with_sources (λ i. Input i) 0 (input_bits net) (first_drawing (length net.wires + length net.registers)))

abbrev pub line_formulas : PlainNet → List Formula
line_formulas net = map (λ l. l.1) net.lines

abbrev pub next_formulas : PlainNet → List Formula
next_formulas net = map (λ r. r.next) net.registers

-- and those of all operators: the equations in an order, then the registers
abbrev pub line_drawing : PlainNet → List ℕ → Drawing
line_drawing net order = with_jobs (jobs net.lines (starts 0 (line_formulas net)) order) (source_drawing net)

abbrev pub net_drawing : PlainNet → List ℕ → Drawing
net_drawing net order = with_jobs (next_jobs (length net.wires) (next_formulas net) (starts (behind 0 (line_formulas net)) (next_formulas net))) (line_drawing net order)

-- the same of equations and registers themselves
abbrev pub operator_drawing : ℕ → List ℕ → List Equation → List Register → Drawing → Drawing
operator_drawing n order equations registers d =
    let eqs = map (λ e. formula_of e.expr) equations in
    let nexts = map (λ r. formula_of r.next) registers in
    with_jobs (next_jobs n nexts (starts (behind 0 eqs) nexts)) (with_jobs (jobs (map line_of equations) (starts 0 eqs) order) d)
