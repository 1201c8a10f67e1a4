use Rattle.std.proofs.Common.{◌≡◌, ◌+◌, IsTrue, length, map, ap, sym, subst, ◌∙◌, arith}
use Rattle.std.specs.List.{list_all}
use Rattle.agm_net.specs.Formula.{formula_of, reads_below}
use Rattle.agm_net.specs.Plain.{line_of}
use Rattle.agm_net.specs.declared.expr.Register.{Register}
use Rattle.logic_graph.specs.declared.drawing.Drawing.{Drawing}
use Rattle.logic_graph.specs.Searching.{fit}
use Rattle.logic_graph.proofs.NetParts.{fit_wider, net_fits, next_fits, operators_are, length-source_drawing}
use Rattle.logic_graph.proofs.making.draw_net.Goals as goal

pub draw_operators-requires-clause-fit : goal.draw_operators-requires-clause-fit
draw_operators-requires-clause-fit c =
    let net = c.args.net.now in
    let size : length c.in_ok-drawing.drawing.of_wire ≡ length net.wires + length net.registers = ap (λ (d : Drawing). length d.of_wire) c.in_ok-drawing.ensures ∙ length-source_drawing net in
    subst (λ es. IsTrue (fit (length c.in_ok-drawing.drawing.of_wire) (map line_of es))) (sym c.as_slice-equations.ensures) (fit_wider (length net.wires) (length c.in_ok-drawing.drawing.of_wire) (map line_of net.equations) (omega arith) (net_fits net))

pub draw_operators-requires-clause-in_range : goal.draw_operators-requires-clause-in_range
draw_operators-requires-clause-in_range c =
    let net = c.args.net.now in
    let size : length c.in_ok-drawing.drawing.of_wire ≡ length net.wires + length net.registers = ap (λ (d : Drawing). length d.of_wire) c.in_ok-drawing.ensures ∙ length-source_drawing net in
    let many = ap length c.as_slice-registers.ensures in
    let wires = c.len.ensures in
    omega arith

pub draw_operators-requires-clause-reads : goal.draw_operators-requires-clause-reads
draw_operators-requires-clause-reads c =
    let net = c.args.net.now in
    let size : length c.in_ok-drawing.drawing.of_wire ≡ length net.wires + length net.registers = ap (λ (d : Drawing). length d.of_wire) c.in_ok-drawing.ensures ∙ length-source_drawing net in
    subst (λ rs. IsTrue (list_all (λ (r : Register). reads_below (length c.in_ok-drawing.drawing.of_wire) (formula_of r.next)) rs)) (sym c.as_slice-registers.ensures) (next_fits net (length c.in_ok-drawing.drawing.of_wire) (omega arith))

pub returns : goal.returns
returns c =
    c.in_ok-draw_operators.ensures
    ∙ operators_are c.args.net.now c.args.order.now c.len.result c.as_slice-equations.result.now c.as_slice-registers.result.now c.in_ok-drawing.drawing c.len.ensures c.as_slice-equations.ensures c.as_slice-registers.ensures c.in_ok-drawing.ensures
