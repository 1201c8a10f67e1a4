use Rattle.cycle_sim.proofs.Cycles.{redone}
use Rattle.cycle_sim.proofs.sim.Sim.redo.Goals as goal

pub returns : goal.returns
returns c = λ net power before last h. redone net power before last c.args.inputs.now c.args.self.now c.settle.new.self c.settle.ensures h
