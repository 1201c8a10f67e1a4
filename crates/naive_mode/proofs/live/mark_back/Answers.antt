use Rattle.std.proofs.Common.{◌+◌, ◌-◌, ◌<◌, ◌≡◌, length, get_or, subst, arith}
use Rattle.std.proofs.lemmas.Option.{slice_get-get_or}
use Rattle.logic_graph.specs.declared.nodes.Node.TheVariants.{Zero}
use Rattle.logic_graph.specs.Settled.{bit_of}
use Rattle.naive_mode.specs.Rows.{AreReachedFrom}
use Rattle.secrecy_spread.proofs.NodesTold.{reads_later}
use Rattle.naive_mode.proofs.Marking.{reached_more}
use Rattle.naive_mode.proofs.live.mark_back.Goals as goal

pub mark_from-requires-clause-in_order : goal.mark_from-requires-clause-in_order
mark_from-requires-clause-in_order c =
    let k = c.loop-k.k - 1 in
    let n = get_or c.args.nodes.now k Zero in
    let same = c.loop-k.auto.live in
    let low = c.loop-k.auto.k in
    let more = c.loop-k-test.true in
    let lt : k < length c.args.nodes.now = omega arith in
    reads_later k (length c.loop-k.live) n (let m = c.requires.as_many in omega arith) (c.requires.in_order k n (slice_get-get_or c.args.nodes.now k Zero lt))

pub loop-k-preserved : goal.loop-k-preserved
loop-k-preserved c =
    let k = c.loop-k.k - 1 in
    let n = get_or c.args.nodes.now k Zero in
    let low = c.loop-k.auto.k in
    let more = c.loop-k-test.true in
    let lt : k < length c.args.nodes.now = omega arith in
    let at = slice_get-get_or c.args.nodes.now k Zero lt in
    let up : c.loop-k.k ≡ k + 1 = omega arith in
    reached_more c.args.nodes.now (bit_of c.args.live.now) (bit_of c.loop-k.live) (bit_of c.mark_from.new.live) k n at (c.requires.in_order k n at)
    (subst (λ x. AreReachedFrom x c.args.nodes.now (bit_of c.args.live.now) (bit_of c.loop-k.live)) up c.loop-k.invariant) c.mark_from.ensures
