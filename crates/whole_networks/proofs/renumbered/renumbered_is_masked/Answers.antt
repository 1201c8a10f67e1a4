use Rattle.whole_networks.proofs.RenumberedWell as renumbering
use Rattle.whole_networks.proofs.renumbered.renumbered_is_masked.Goals as goal

pub returns : goal.returns
returns c = λ original report net other masked renumbered. renumbering.is_masked net other renumbered original report masked
