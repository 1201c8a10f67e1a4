use Rattle.std.proofs.Common.{◌≡◌, ◌-◌, ◌≤◌, ap, sym, subst, length, take, drop, ◌∙◌, arith, IsTrue}
use Rattle.std.proofs.lemmas.List.{length-map, length-take, length-drop}
use Rattle.logic_graph.specs.Settled.{bit_of}
use Rattle.cycle_sim.specs.Fits.{sources_fit}
use Rattle.cycle_sim.proofs.sim.Sim.take_over.Goals as goal

pub invariant_of-self : goal.invariant_of-self
invariant_of-self c =
    let before = c.args.self.now in
    let sinks = c.as_slice-sinks.result.now in
    let n = length sinks - c.len.result in
    let next = take (length sinks - n) (drop n sinks) in
    let fits : length before.registers ≤ length before.graph.sinks = before.sinks in
    let size : length sinks ≡ length before.graph.sinks = ap length c.as_slice-sinks.ensures in
    let many = c.len.ensures in
    let rest = length-drop n sinks in
    let taken = length-take (length sinks - n) (drop n sinks) in
    let same : length c.take_over.new.registers ≡ length before.registers = ap length c.take_over.ensures ∙ (length-map next (λ s. bit_of c.as_slice.result.now s) ∙ omega arith) in
    record {
      as_many = before.as_many;
      sinks = subst (λ m. m ≤ length before.graph.sinks) (sym same) fits;
      sources = λ k n at. subst (λ m. IsTrue (sources_fit before.inputs m n)) (sym same) (before.sources k n at);
    }
