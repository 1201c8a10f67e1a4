use Rattle.std.proofs.Common.{[], ◌∷◌}
use Rattle.agm_net.proofs.Named.{named-other_length}
use Rattle.agm_net.proofs.checks.is_bit_named.Goals as goal

pub returns-then-bits-ne1 : goal.returns-then-bits-ne1
returns-then-bits-ne1 c = named-other_length c.args.wires.now c.args.bits.now (c.args.name.now ∷ []) c.if-bits-ne1.true
