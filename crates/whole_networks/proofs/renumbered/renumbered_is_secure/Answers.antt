use Rattle.whole_networks.proofs.RenumberedNetwork as networks
use Rattle.whole_networks.proofs.RenumberedWell as nets
use Rattle.whole_networks.proofs.renumbered.renumbered_is_secure.Goals as goal

pub returns : goal.returns
returns c = λ original report net other masked network renumbered.
    c.masked_networks_are_secure.ensures original report other (nets.is_masked net other renumbered original report masked) (networks.is_network net other renumbered report.order network)
