use Rattle.std.proofs.Common.{◌≡◌, ap, rules}
use Rattle.agm_net.specs.Formula.{formula_of, f_not, f_and, f_or, f_xor, f_mux}
use Rattle.logic_graph.specs.declared.nodes.Node.TheVariants.{Not, Xor, And, Or, Mux}
use Rattle.logic_graph.specs.Drawn.{place, drawn}
use Rattle.logic_graph.proofs.Blocks.{drawn_one, drawn_two, drawn_three}
use Rattle.logic_graph.proofs.drawing.+draw.Goals as goal

pub returns-in_ok-y-in-And : goal.returns-in_ok-y-in-And
returns-in_ok-y-in-And t c =
    let ow = c.args.of_wire.now in
    let n0 = c.args.nodes.now in
    let shape : formula_of c.args.expr.now ≡ f_and (formula_of c.deref-in-And.result.now) (formula_of c.deref-in-And-2.result.now) = search rules in
    drawn_two ow n0 c.draw-in-And.new.nodes c.draw-in-And-2.new.nodes c.add-in-And.new.nodes (formula_of c.args.expr.now) (formula_of c.deref-in-And.result.now) (formula_of c.deref-in-And-2.result.now) And
    c.in_ok-x-in-And.x c.in_ok-y-in-And.y c.add-in-And.result (ap (drawn ow _) shape) (ap (place ow _) shape) c.in_ok-x-in-And.ensures c.in_ok-y-in-And.ensures c.add-in-And.ensures

pub returns-in_ok-y-in-Or : goal.returns-in_ok-y-in-Or
returns-in_ok-y-in-Or t c =
    let ow = c.args.of_wire.now in
    let n0 = c.args.nodes.now in
    let shape : formula_of c.args.expr.now ≡ f_or (formula_of c.deref-in-Or.result.now) (formula_of c.deref-in-Or-2.result.now) = search rules in
    drawn_two ow n0 c.draw-in-Or.new.nodes c.draw-in-Or-2.new.nodes c.add-in-Or.new.nodes (formula_of c.args.expr.now) (formula_of c.deref-in-Or.result.now) (formula_of c.deref-in-Or-2.result.now) Or
    c.in_ok-x-in-Or.x c.in_ok-y-in-Or.y c.add-in-Or.result (ap (drawn ow _) shape) (ap (place ow _) shape) c.in_ok-x-in-Or.ensures c.in_ok-y-in-Or.ensures c.add-in-Or.ensures

pub returns-in_ok-y-in-Xor : goal.returns-in_ok-y-in-Xor
returns-in_ok-y-in-Xor t c =
    let ow = c.args.of_wire.now in
    let n0 = c.args.nodes.now in
    let shape : formula_of c.args.expr.now ≡ f_xor (formula_of c.deref-in-Xor.result.now) (formula_of c.deref-in-Xor-2.result.now) = search rules in
    drawn_two ow n0 c.draw-in-Xor.new.nodes c.draw-in-Xor-2.new.nodes c.add-in-Xor.new.nodes (formula_of c.args.expr.now) (formula_of c.deref-in-Xor.result.now) (formula_of c.deref-in-Xor-2.result.now) Xor
    c.in_ok-x-in-Xor.x c.in_ok-y-in-Xor.y c.add-in-Xor.result (ap (drawn ow _) shape) (ap (place ow _) shape) c.in_ok-x-in-Xor.ensures c.in_ok-y-in-Xor.ensures c.add-in-Xor.ensures

pub returns-in_ok-x-in-Not : goal.returns-in_ok-x-in-Not
returns-in_ok-x-in-Not t c =
    let ow = c.args.of_wire.now in
    let n0 = c.args.nodes.now in
    let shape : formula_of c.args.expr.now ≡ f_not (formula_of c.deref.result.now) = search rules in
    drawn_one ow n0 c.draw.new.nodes c.add.new.nodes (formula_of c.args.expr.now) (formula_of c.deref.result.now) Not
    c.in_ok-x-in-Not.x c.add.result (ap (drawn ow _) shape) (ap (place ow _) shape) c.in_ok-x-in-Not.ensures c.add.ensures

pub returns-in_ok-high-in-Mux : goal.returns-in_ok-high-in-Mux
returns-in_ok-high-in-Mux t c =
    let ow = c.args.of_wire.now in
    let n0 = c.args.nodes.now in
    let shape : formula_of c.args.expr.now ≡ f_mux (formula_of c.deref-in-Mux.result.now) (formula_of c.deref-in-Mux-2.result.now) (formula_of c.deref-in-Mux-3.result.now) = search rules in
    drawn_three ow n0 c.draw-in-Mux.new.nodes c.draw-in-Mux-2.new.nodes c.draw-in-Mux-3.new.nodes c.add-in-Mux.new.nodes (formula_of c.args.expr.now) (formula_of c.deref-in-Mux.result.now)
    (formula_of c.deref-in-Mux-2.result.now) (formula_of c.deref-in-Mux-3.result.now) Mux c.in_ok-select-in-Mux.select c.in_ok-low-in-Mux.low c.in_ok-high-in-Mux.high c.add-in-Mux.result
    (ap (drawn ow _) shape) (ap (place ow _) shape) c.in_ok-select-in-Mux.ensures c.in_ok-low-in-Mux.ensures c.in_ok-high-in-Mux.ensures c.add-in-Mux.ensures
