use Rattle.probe_cones.proofs.Steps.{found_by_steps, steps_of_found}
use Rattle.probe_cones.proofs.laws.cones_are_steps.Goals as goal

pub returns : goal.returns
returns c = λ net w v well none inside. (λ found. steps_of_found net well none w v found, λ steps. found_by_steps net well none w v inside steps.0 steps.1)
