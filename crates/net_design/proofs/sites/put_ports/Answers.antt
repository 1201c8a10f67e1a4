use Rattle.net_design.specs.Sites.{port_sites, put}
use Rattle.net_design.proofs.Numbered.{fold_flat_map_more}
use Rattle.net_design.proofs.sites.put_ports.Goals as goal

pub loop-number-preserved : goal.loop-number-preserved
loop-number-preserved c =
    let more = fold_flat_map_more put c.args.sites.now port_sites c.args.ports.now c.loop-number.number c.index-ports-number.result c.loop-number-test.true in
    let before = c.loop-number.invariant in
    let now = c.put_port.ensures in
    let port = c.index-ports-number.is in
    cc
