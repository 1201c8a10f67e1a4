use Rattle.std.proofs.Common.{◌<◌, length, subst}
use Rattle.net_design.specs.Sites.{bit_site, put}
use Rattle.net_design.proofs.Numbered.{fold_map_more}
use Rattle.net_design.proofs.sites.put_port.Goals as goal

pub loop-i-preserved : goal.loop-i-preserved
loop-i-preserved c =
    let port = c.args.port.now in
    let i = c.loop-i.i in
    let items = c.as_slice-wire-items.ensures in
    let below : i < length port.bits = subst (λ ws. i < length ws) items c.loop-i-test.true in
    let more = fold_map_more put c.args.sites.now (bit_site c.args.number port.range) port.bits i 0 below in
    let before = c.loop-i.invariant in
    let now = c.put_site.ensures in
    let index = c.index_at-index.ensures in
    cc
