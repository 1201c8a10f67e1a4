use Rattle.std.proofs.Common.{sym, subst}
use Rattle.std.specs.List.{AllByRecursion}
use Rattle.agm_net.specs.View.{plain_of}
use Rattle.net_design.specs.Sites.{BitsFit}
use Rattle.net_design.proofs.Fits.{bits_fit}
use Rattle.net_design.proofs.sites.sites_of.Goals as goal

pub put_ports-requires : goal.put_ports-requires
put_ports-requires c =
    let net = c.args.net.now in subst (λ ps. AllByRecursion BitsFit ps) (sym c.as_slice.ensures) (bits_fit (plain_of net) net.well_formed)
