use Rattle.std.proofs.Common.{◌<◌, length, sym, subst}
use Rattle.agm_net.proofs.Wires.{clock_within}
use Rattle.probe_cones.proofs.joining.random_flags.Goals as goal

pub flags_but-requires : goal.flags_but-requires
flags_but-requires c = λ n is. (
    subst (λ ps. n < length ps) (sym c.as_slice.ensures) (clock_within c.args.net.now.ports n (c.args.net.now.well_formed.ports_right.clock_fits n is)))
