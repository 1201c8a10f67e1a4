use Rattle.whole_networks.proofs.RenumberedNetwork as renumbering
use Rattle.whole_networks.proofs.renumbered.renumbered_has_gadgets.Goals as goal

pub returns : goal.returns
returns c = λ net other d n counted renumbered. renumbering.has_gadgets net other renumbered d n counted
