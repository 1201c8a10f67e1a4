use Rattle.whole_networks.proofs.RenumberedWell as renumbering
use Rattle.whole_networks.proofs.renumbered.renumbered_is_net.Goals as goal

pub returns : goal.returns
returns c = λ net other well renumbered. renumbering.is_well net other renumbered well
