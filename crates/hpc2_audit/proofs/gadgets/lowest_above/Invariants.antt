use Rattle.std.proofs.Common.{take}
use Rattle.hpc2_audit.specs.Gadgets.{IsLowestAbove}
use Rattle.hpc2_audit.proofs.gadgets.lowest_above.Given as goal

abbrev pub invariant-loop-own : goal.invariant-loop-own
invariant-loop-own l = IsLowestAbove (take l.own-index l.said) l.number l.lowest
