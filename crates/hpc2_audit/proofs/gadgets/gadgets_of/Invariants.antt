use Rattle.std.proofs.Common.{take}
use Rattle.hpc2_audit.specs.Gadgets.{AreGadgets}
use Rattle.hpc2_audit.proofs.gadgets.gadgets_of.Given as goal

abbrev pub invariant-loop-own : goal.invariant-loop-own
invariant-loop-own l = AreGadgets (take l.own-index l.said) l.gadgets.keys
