use Rattle.std.proofs.Common.{◌∙◌, below_more}
use Rattle.agm_net.proofs.Repeats.{added-port, new-port}
use Rattle.agm_net.proofs.checks.first_repeated_port.Goals as goal

pub loop-i-preserved : goal.loop-i-preserved
loop-i-preserved c = record {
  added = added-port c.args.ports.now c.loop-i.i c.index-ports-i.result c.loop-i-test.true c.index-ports-i.is _ c.as_slice.ensures _ c.loop-i.invariant.added _ _ c.if-not-branch.false c.in_ok-add.ensures.added;
  new_before = below_more _ _ c.loop-i.invariant.new_before (new-port c.args.ports.now c.loop-i.i c.index-ports-i.result c.loop-i-test.true c.index-ports-i.is _ c.as_slice.ensures _ c.loop-i.invariant.added _ c.in_ok-add.ensures.fresh ∙ c.if-not-branch.false);
}
