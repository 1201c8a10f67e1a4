use Rattle.probe_cones.specs.Inputs.{bit_roles}
use Rattle.twin_tape.proofs.Splits.{others_of_join, random_of_join}
use Rattle.twin_tape.proofs.laws.joined_and_split.Goals as goal

pub returns : goal.returns
returns c = λ net others random long wide. (others_of_join (bit_roles net) others random long, random_of_join (bit_roles net) others random wide)
