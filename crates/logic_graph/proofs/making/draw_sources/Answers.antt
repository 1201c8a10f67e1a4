use Rattle.std.proofs.Common.{◌≡◌, length, ap, ◌∙◌, arith}
use Rattle.std.proofs.lemmas.List.{length-replicate}
use Rattle.logic_graph.specs.declared.drawing.Drawing.{Drawing}
use Rattle.logic_graph.specs.declared.nodes.Node.TheVariants.{Input}
use Rattle.logic_graph.proofs.NetParts.{length-sources}
use Rattle.logic_graph.proofs.making.draw_sources.Goals as goal

pub outputs-requires : goal.outputs-requires
outputs-requires c = λ k d lt.
    (let size = length-sources (λ i. Input i) 0 c.args.inputs.now c.in_ok-drawing.drawing in
    let one : length c.inputs.new.self.of_wire ≡ length c.in_ok-drawing.drawing.of_wire = ap (λ (d : Drawing). length d.of_wire) c.in_ok-inputs.ensures ∙ size in
    let two : length c.in_ok-drawing.drawing.of_wire ≡ c.args.n = ap (λ (d : Drawing). length d.of_wire) c.in_ok-drawing.ensures ∙ length-replicate c.args.n _ in
    let fits = c.requires.outputs_fit k d lt in omega arith)
