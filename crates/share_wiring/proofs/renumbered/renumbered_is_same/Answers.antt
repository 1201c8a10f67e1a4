use Rattle.share_wiring.proofs.RenumberedSame as renumbering
use Rattle.share_wiring.proofs.renumbered.renumbered_is_same.Goals as goal

pub returns : goal.returns
returns c = λ original marks report net other same renumbered. renumbering.renumbered_is_same net other renumbered original marks report same
