use Rattle.whole_networks.proofs.Wholeness as wholeness
use Rattle.whole_networks.proofs.masked_nets_are_whole.Goals as goal

pub returns : goal.returns
returns c = λ original report net masked. wholeness.is_whole original report net masked
