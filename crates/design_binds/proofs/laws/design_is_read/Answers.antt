use Rattle.std.proofs.Common.{[], ◌∷◌}
use Rattle.net_design.specs.Design.{module_of}
use Rattle.design_text.proofs.ModulesAgain.{design_spelled}
use Rattle.design_binds.proofs.Writes.{writable}
use Rattle.design_binds.proofs.laws.design_is_read.Goals as goal

pub returns : goal.returns
returns c = λ net formed plain short. design_spelled (module_of net ∷ []) (writable net formed plain short)
