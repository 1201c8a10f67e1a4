use Rattle.probe_cones.specs.Inputs.{bit_roles}
use Rattle.twin_tape.proofs.Splits.{join_of_split}
use Rattle.twin_tape.proofs.laws.split_and_joined.Goals as goal

pub returns : goal.returns
returns c = λ net row long. join_of_split (bit_roles net) row long
