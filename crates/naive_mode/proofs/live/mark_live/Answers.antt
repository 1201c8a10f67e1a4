use Rattle.std.proofs.Common.{arith}
use Rattle.naive_mode.proofs.Marking.{are_live}
use Rattle.naive_mode.proofs.live.mark_live.Goals as goal

pub returns : goal.returns
returns c =
    let a = c.mark_sinks.auto.live in
    let b = c.mark_back.auto.live in
    let m = c.requires.as_many in
    are_live c.args.nodes.now c.args.sinks.now c.args.live.now c.mark_sinks.new.live c.mark_back.new.live c.requires.none c.mark_sinks.ensures (omega arith) c.mark_back.ensures
