use Rattle.std.proofs.Common.{◌<◌, length, sym, subst}
use Rattle.agm_net.proofs.Wires.{clock_within}
use Rattle.hpc2_audit.proofs.sheet.random_places.Goals as goal

pub random_wires-requires : goal.random_wires-requires
random_wires-requires c = λ n is. (
    subst (λ ps. n < length ps) (sym c.as_slice.ensures) (clock_within c.args.net.now.ports n (c.args.net.now.well_formed.ports_right.clock_fits n is)))
