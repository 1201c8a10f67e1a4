use Rattle.whole_networks.proofs.RenumberedNetwork as renumbering
use Rattle.whole_networks.proofs.renumbered.renumbered_is_network.Goals as goal

pub returns : goal.returns
returns c = λ net other d network renumbered. renumbering.is_network net other renumbered d network
