use Rattle.std.proofs.Common.{◌≡◌, ◌-◌, ◌++◌, ap₂, subst, length}
use Rattle.agm_net.specs.Formula.{formula_of}
use Rattle.logic_graph.specs.Drawn.{place, drawn}
use Rattle.logic_graph.proofs.Blocks.{line_drawn}
use Rattle.logic_graph.proofs.drawing.Drawing.line.Goals as goal

pub returns : goal.returns
returns c =
    let d = c.args.self.now in
    let f = formula_of c.args.expr.now in
    let made = subst (λ ow. (c.in_ok-node.node ≡ place ow (length d.nodes) f) × (c.draw.new.nodes ≡ d.nodes ++ drawn ow (length d.nodes) f)) c.as_slice.ensures c.in_ok-node.ensures in
    line_drawn d c.args.wire c.args.first c.in_ok-node.node (c.len.result - c.len-from.result) f c.draw.new.nodes c.count_up.new.numbers c.put.new.of_wire made c.in_ok-count_up.ensures
    (ap₂ (λ a b. a - b) c.len.ensures c.len-from.ensures) c.put.ensures
