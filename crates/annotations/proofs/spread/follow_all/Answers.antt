use Rattle.std.proofs.Common.{ℕ, ◌<◌, length, sym, subst, ◌∙◌, arith}
use Rattle.std.specs.Prelude.{slice_index}
use Rattle.std.proofs.lemmas.Grind.{get_or_default_zero}
use Rattle.agm_net.specs.View.{plain_of}
use Rattle.annotations.proofs.Reached.{set_within}
use Rattle.annotations.specs.Clocked.{IsClockWire}
use Rattle.annotations.proofs.spread.follow_all.Goals as goal

pub follow-requires-clause-within : goal.follow-requires-clause-within
follow-requires-clause-within c =
    let few : c.loop-turn.turn < length c.loop-turn.queue.items = omega arith in
    let set_there = c.loop-turn.invariant.reached.marked c.loop-turn.turn few in
    subst (λ (n : ℕ). c.index.result.now < n) c.loop-turn.invariant.reached.long
    (subst (λ (w : ℕ). w < length c.loop-turn.marks) (sym (c.index.ensures ∙ get_or_default_zero c.loop-turn.queue.items c.loop-turn.turn c.index.result.now few)) (set_within c.loop-turn.marks (slice_index c.loop-turn.queue.items c.loop-turn.turn) set_there))

pub follow-requires-clause-clock : goal.follow-requires-clause-clock
follow-requires-clause-clock c =
    let few : c.loop-turn.turn < length c.loop-turn.queue.items = omega arith in
    let set_there = c.loop-turn.invariant.reached.marked c.loop-turn.turn few in
    subst (IsClockWire (plain_of c.args.net.now)) (sym (c.index.ensures ∙ get_or_default_zero c.loop-turn.queue.items c.loop-turn.turn c.index.result.now few))
    (c.loop-turn.invariant.reached.sound (slice_index c.loop-turn.queue.items c.loop-turn.turn) set_there)
