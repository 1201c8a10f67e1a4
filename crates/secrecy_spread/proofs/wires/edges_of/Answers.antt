use Rattle.std.proofs.Common.{ap, ◌∙◌, ◌++◌}
use Rattle.std.specs.List.{flat_map}
use Rattle.agm_net.specs.Formula.{formula_of}
use Rattle.agm_net.specs.declared.expr.Equation.{Equation}
use Rattle.agm_net.specs.declared.expr.Register.{Register}
use Rattle.secrecy_spread.specs.Wires.{edges_to}
use Rattle.secrecy_spread.proofs.WireSecrets.{net_edges}
use Rattle.secrecy_spread.proofs.wires.edges_of.Goals as goal

pub returns : goal.returns
returns c =
    net_edges c.args.net.now c.new-edges.result c.add_equations.new.edges c.add_registers.new.edges c.new-edges.ensures
    (c.in_ok-add_equations.ensures ∙ ap (λ es. c.new-edges.result ++ flat_map (λ (e : Equation). edges_to e.wire (formula_of e.expr)) es) c.as_slice.ensures)
    (c.in_ok-add_registers.ensures ∙ ap (λ rs. c.add_equations.new.edges ++ flat_map (λ (r : Register). edges_to r.q (formula_of r.next)) rs) c.as_slice-2.ensures)
