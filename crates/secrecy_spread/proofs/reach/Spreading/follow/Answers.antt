use Rattle.std.proofs.Common.{◌<◌, ◌-◌, length, get_or, arith}
use Rattle.std.proofs.lemmas.Option.{slice_get-get_or}
use Rattle.secrecy_spread.specs.declared.reach.Edge.{Edge}
use Rattle.secrecy_spread.specs.Reach.{state, from_at}
use Rattle.secrecy_spread.proofs.Reaching.{last_from_le, followed}
use Rattle.secrecy_spread.proofs.reach.Spreading.follow.Goals as goal

pub loop-link-smaller : goal.loop-link-smaller
loop-link-smaller c =
    let i = c.loop-link.link - 1 in
    let some = c.loop-link-test.true in
    let range = c.loop-link.invariant.in_range in
    let lt : i < length c.args.edges.now = omega arith in
    let back = c.requires.linked.back i lt in
    let le = last_from_le c.args.edges.now i (from_at c.args.edges.now i) in
    omega arith

pub loop-link-preserved : goal.loop-link-preserved
loop-link-preserved c =
    let edges = c.args.edges.now in
    let i = c.loop-link.link - 1 in
    let e : Edge = get_or edges i (record { from = 0; to = 0 }) in
    let some = c.loop-link-test.true in
    let range = c.loop-link.invariant.in_range in
    let lt : i < length edges = omega arith in
    let long = c.loop-link.invariant.grows.as_many in
    let to = c.requires.to i (record { from = 0; to = 0 }) lt in
    followed edges c.args.nexts.now c.args.head c.loop-link.link i (state c.args.self.now) (state c.loop-link.self) (state c.mark.new.self) e c.requires.linked (omega arith) (slice_get-get_or edges i (record { from = 0; to = 0 }) lt) (omega arith) c.in_ok-mark.ensures c.loop-link.invariant
