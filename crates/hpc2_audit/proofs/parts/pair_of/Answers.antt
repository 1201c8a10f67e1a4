use Rattle.std.proofs.Common.{arith}
use Rattle.hpc2_audit.proofs.Texts.{no_pair}
use Rattle.hpc2_audit.proofs.parts.pair_of.Goals as goal

pub returns : goal.returns
returns c = no_pair c.args.order c.args.number c.loop-i.left c.loop-i.i (omega arith) (omega arith) c.loop-i.invariant
