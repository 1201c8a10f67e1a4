use Rattle.std.proofs.Common.{take}
use Rattle.agm_net.specs.View.{plain_of}
use Rattle.hpc2_audit.specs.Gadgets.{HasKinds}
use Rattle.hpc2_audit.proofs.gadgets.has_kinds.Given as goal

abbrev pub invariant-loop-kind : goal.invariant-loop-kind
invariant-loop-kind l = HasKinds (plain_of l.net) l.sheet.order l.gadget (take l.kind-index l.kinds)
