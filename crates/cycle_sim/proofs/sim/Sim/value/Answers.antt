use Rattle.std.proofs.Common.{ap₂, get_or, ◌∙◌}
use Rattle.logic_graph.specs.Settled.{bit_of}
use Rattle.cycle_sim.proofs.Cycles.{last_value}
use Rattle.cycle_sim.proofs.sim.Sim.value.Goals as goal

pub returns : goal.returns
returns c = λ net power before last table h trace.
    ap₂ (λ vs ws. bit_of vs (get_or ws c.args.wire 0)) c.as_slice.ensures c.as_slice-2.ensures ∙ last_value net power before last table c.args.self.now c.args.wire h trace c.requires
