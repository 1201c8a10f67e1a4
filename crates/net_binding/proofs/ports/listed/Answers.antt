use Rattle.std.proofs.Common.{◌≤◌, map, length, arith}
use Rattle.module_outlines.specs.View.{wide_view}
use Rattle.net_binding.proofs.ports.listed.Goals as goal
use Rattle.net_binding.proofs.Listed.{listed_end}

pub returns : goal.returns
returns c =
    let done = c.loop-i-test.false in
    let past : length c.args.ways.now ≤ c.loop-i.i = omega arith in
    listed_end c.loop-i.so_far.ports _ c.loop-i.so_far.first c.loop-i.i c.args.wides.now c.args.ways.now past c.loop-i.invariant
