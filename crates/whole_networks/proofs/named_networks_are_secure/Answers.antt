use Rattle.whole_networks.proofs.Named as named
use Rattle.whole_networks.proofs.named_networks_are_secure.Goals as goal

pub returns : goal.returns
returns c = λ original report net names few well shape network. c.masked_networks_are_secure.ensures original report net (named.is_masked original report net names few well shape) network
