use Rattle.std.proofs.Common.{◌≡◌, ◌<◌, sym, subst, length, get_or, arith, true, refl}
use Rattle.std.proofs.lemmas.Option.{get_or_from_slice_get, slice_get_read}
use Rattle.std.specs.Vec.{vec_len}
use Rattle.agm_net.specs.View.{plain_of}
use Rattle.probe_cones.specs.Walk.{state, is_stamped, HasTurned}
use Rattle.probe_cones.proofs.Walking.{at_next, at_end, found_stamped, stamped_within}
use Rattle.probe_cones.proofs.walk.Walk.run.Goals as goal

pub turn-requires-clause-in_range : goal.turn-requires-clause-in_range
turn-requires-clause-in_range c =
    let net = plain_of c.args.net.now in
    let s = state c.loop-next.self in
    let at = c.loop-next.invariant in
    let u = c.index-found.result.now in
    let next = c.loop-next.next in
    let len : vec_len c.loop-next.self.found ≡ length s.found = c.loop-next.self.found.ok.0 in
    let a = c.len.ensures in
    let b = c.loop-next-test.true in
    let lt : next < length s.found = omega (arith, len, a, b) in
    let here : get_or s.found next 0 ≡ u = get_or_from_slice_get s.found next u 0 (slice_get_read s.found (length s.found) next u refl lt c.index-found.ensures) in
    let stamped : is_stamped s u ≡ true = subst (λ v. is_stamped s v ≡ true) here (found_stamped net c.args.wire s next at.walks lt) in
    let some : 0 < s.stamp = (let e = at.same_stamp in let p = c.requires.positive in omega (arith, e, p)) in
    subst (λ n. u < n) at.as_many (stamped_within s u some stamped)

pub loop-next-preserved : goal.loop-next-preserved
loop-next-preserved c =
    let net = plain_of c.args.net.now in
    let s = state c.loop-next.self in
    let at = c.loop-next.invariant in
    let u = c.index-found.result.now in
    let next = c.loop-next.next in
    let len : vec_len c.loop-next.self.found ≡ length s.found = c.loop-next.self.found.ok.0 in
    let a = c.len.ensures in
    let b = c.loop-next-test.true in
    let lt : next < length s.found = omega (arith, len, a, b) in
    let here : get_or s.found next 0 ≡ u = get_or_from_slice_get s.found next u 0 (slice_get_read s.found (length s.found) next u refl lt c.index-found.ensures) in
    let turned : HasTurned net u s (state c.turn.new.self) = c.in_ok-turn.ensures in
    at_next net c.args.wire c.args.stamp next s (state c.turn.new.self) at lt (subst (λ v. HasTurned net v s (state c.turn.new.self)) (sym here) turned)

pub returns : goal.returns
returns c =
    let s = state c.loop-next.self in
    let len : vec_len c.loop-next.self.found ≡ length s.found = c.loop-next.self.found.ok.0 in
    let a = c.len.ensures in
    let b = c.loop-next-test.false in
    at_end (plain_of c.args.net.now) c.args.wire c.args.stamp c.loop-next.next s c.loop-next.invariant (omega (arith, len, a, b))
