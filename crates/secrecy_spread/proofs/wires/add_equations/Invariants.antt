use Rattle.std.proofs.Common.{◌≡◌, ◌++◌, drop}
use Rattle.std.specs.List.{flat_map}
use Rattle.agm_net.specs.Formula.{formula_of}
use Rattle.secrecy_spread.specs.Wires.{edges_to}
use Rattle.secrecy_spread.proofs.wires.add_equations.Given as goal

abbrev pub invariant-loop-equation : goal.invariant-loop-equation
invariant-loop-equation l =
    l.edges ++ flat_map (λ e. edges_to e.wire (formula_of e.expr)) (drop l.equation-index l.equations)
    ≡ l.fn.edges ++ flat_map (λ e. edges_to e.wire (formula_of e.expr)) l.equations
