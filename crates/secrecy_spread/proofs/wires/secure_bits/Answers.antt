use Rattle.std.proofs.Common.{get_or, refl}
use Rattle.agm_net.specs.declared.mark.Mark.TheVariants.{Unmarked}
use Rattle.secrecy_spread.proofs.WireSecrets.{secure_more}
use Rattle.secrecy_spread.proofs.wires.secure_bits.Goals as goal

pub loop-n-preserved : goal.loop-n-preserved
loop-n-preserved c =
    secure_more c.args.ports.now c.args.marks.now c.loop-n.n c.index-ports-n.result (get_or c.args.marks.now c.loop-n.n Unmarked) Unmarked c.loop-n.bits c.add_if_secure.new.bits _ c.index-ports-n.is c.loop-n-test.true c.requires refl c.in_ok-add_if_secure.ensures c.loop-n.invariant
