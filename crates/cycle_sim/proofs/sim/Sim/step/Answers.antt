use Rattle.std.proofs.Common.{subst}
use Rattle.cycle_sim.specs.Moved.{HasSettled}
use Rattle.cycle_sim.proofs.Cycles.{first_runs, next_runs}
use Rattle.cycle_sim.proofs.sim.Sim.step.Goals as goal
use Rattle.cycle_sim.proofs.sim.Sim.step.Goals.{then-self, else-self}

pub returns : goal.returns
returns c = λ net power tape h. elim c.if-self.branch [
  | then-self w ↦ next_runs net power tape c.args.inputs.now c.args.self.now w.take_over.new.self c.settle.new.self w.take_over.ensures
      (subst (λ s. HasSettled s c.args.inputs.now c.settle.new.self) w.self-is c.settle.ensures) w.if-self.true h
  | else-self w ↦ first_runs net power tape c.args.inputs.now c.args.self.now c.settle.new.self (subst (λ s. HasSettled s c.args.inputs.now c.settle.new.self) w.self-is c.settle.ensures) w.if-self.false h
]
