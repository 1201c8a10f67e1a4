use Rattle.std.proofs.Common.{◌≡◌, IsTrue, length, map, ap, sym, subst, ◌∙◌, arith}
use Rattle.std.specs.List.{list_all}
use Rattle.agm_net.specs.Formula.{formula_of, reads_below}
use Rattle.agm_net.specs.Plain.{line_of}
use Rattle.std.proofs.lemmas.List.{length-map}
use Rattle.agm_net.specs.declared.expr.Register.{Register}
use Rattle.logic_graph.specs.declared.drawing.Drawing.{Drawing}
use Rattle.logic_graph.specs.Drawn.{jobs}
use Rattle.logic_graph.proofs.NetParts.{length-starts, length-jobs}
use Rattle.logic_graph.proofs.making.draw_operators.Goals as goal

pub equations-requires-clause-numbered : goal.equations-requires-clause-numbered
equations-requires-clause-numbered c = ap length (c.as_slice.ensures.value ∙ c.in_ok-numbers.ensures.0) ∙ (length-starts 0 _ ∙ length-map c.args.equations.now _)

pub registers-requires-clause-in_range : goal.registers-requires-clause-in_range
registers-requires-clause-in_range c =
    let same : length c.equations.new.self.of_wire ≡ length c.args.drawing.now.of_wire = ap (λ (d : Drawing). length d.of_wire) c.in_ok-equations.ensures ∙ length-jobs (jobs (map line_of c.args.equations.now) c.as_slice.result.now c.args.order.now) c.args.drawing.now in
    let fits = c.requires.in_range in omega arith

pub registers-requires-clause-numbered : goal.registers-requires-clause-numbered
registers-requires-clause-numbered c = ap length (c.as_slice-2.ensures.value ∙ c.in_ok-next_numbers.ensures) ∙ (length-starts _ _ ∙ length-map c.args.registers.now _)

pub registers-requires-clause-reads : goal.registers-requires-clause-reads
registers-requires-clause-reads c =
    let same : length c.equations.new.self.of_wire ≡ length c.args.drawing.now.of_wire = ap (λ (d : Drawing). length d.of_wire) c.in_ok-equations.ensures ∙ length-jobs (jobs (map line_of c.args.equations.now) c.as_slice.result.now c.args.order.now) c.args.drawing.now in
    subst (λ n. IsTrue (list_all (λ (r : Register). reads_below n (formula_of r.next)) c.args.registers.now)) (sym same) c.requires.reads
