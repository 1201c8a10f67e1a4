use Rattle.std.proofs.Common.{◌≡◌, length, drop}
use Rattle.logic_graph.specs.declared.nodes.Node.TheVariants.{Q}
use Rattle.logic_graph.specs.Sources as sources
use Rattle.logic_graph.proofs.drawing.Drawing.outputs.Given as goal

abbrev pub invariant-loop-i : goal.invariant-loop-i
invariant-loop-i l = record {
  as_many : length l.self.of_wire ≡ length l.fn.self.of_wire;
  rest : sources.with_sources (λ i. Q i) l.i (drop l.i l.wires) l.self ≡ sources.with_sources (λ i. Q i) 0 l.wires l.fn.self;
}
