use Rattle.agm_net.specs.View.{plain_of}
use Rattle.cycle_sim.proofs.sim.Sim.new.Goals as goal

pub returns-in-Err-clause-looped : goal.returns-in-Err-clause-looped
returns-in-Err-clause-looped c = c.fault_of.ensures (plain_of c.args.net.now) c.in-Err.ensures.looped
