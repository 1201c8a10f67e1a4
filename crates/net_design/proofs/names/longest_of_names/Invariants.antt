use Rattle.std.proofs.Common.{◌≡◌, fold, take}
use Rattle.net_design.specs.Design.{longer}
use Rattle.net_design.proofs.names.longest_of_names.Given as goal

abbrev pub invariant-loop-name : goal.invariant-loop-name
invariant-loop-name l = l.most ≡ fold longer 0 (take l.name-index l.names)
