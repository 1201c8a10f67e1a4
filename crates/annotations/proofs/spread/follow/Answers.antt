use Rattle.std.proofs.Common.{◌≡◌, ℕ, ◌-◌, ◌<◌, true, List, length, get_or, sym, ap, subst, ◌∙◌, arith}
use Rattle.std.proofs.lemmas.Grind.{get_or_default_zero}
use Rattle.agm_net.specs.View.{plain_of}
use Rattle.agm_net.specs.declared.expr.Equation.{Equation}
use Rattle.annotations.proofs.Reached.{grown_both, clock_copy, wire_fits, wire_is, next_less, next_here, next_marked}
use Rattle.annotations.proofs.Verdict.{and_parts}
use Rattle.annotations.specs.Clocked.{IsClockWire}
use Rattle.annotations.specs.Spread.{is_set, wire_at}
use Rattle.annotations.proofs.spread.follow.Goals as goal

pub mark_clock-requires-clause-within : goal.mark_clock-requires-clause-within
mark_clock-requires-clause-within c =
    let es = c.args.net.now.equations in let e = c.loop-number.number - 1 in
    let few : e < length es = (let h = c.loop-number.invariant.within in let k = c.loop-number-test.true in omega arith) in
    subst (λ (w : ℕ). w < length c.args.net.now.wires)
    (wire_is es e c.index-as_slice-place.result few ∙ ap (λ (qs : List Equation). (get_or qs e c.index-as_slice-place.result).wire) (sym c.as_slice.ensures))
    (wire_fits es (length c.args.net.now.wires) e (and_parts _ _ c.args.net.now.well_formed.in_range).0 few)

pub mark_clock-requires-clause-clock : goal.mark_clock-requires-clause-clock
mark_clock-requires-clause-clock c =
    let es = c.args.net.now.equations in let e = c.loop-number.number - 1 in
    let few : e < length es = (let h = c.loop-number.invariant.within in let k = c.loop-number-test.true in omega arith) in
    subst (IsClockWire (plain_of c.args.net.now))
    (wire_is es e c.index-as_slice-place.result few ∙ ap (λ (qs : List Equation). (get_or qs e c.index-as_slice-place.result).wire) (sym c.as_slice.ensures))
    (clock_copy c.args.net.now e c.args.wire (c.loop-number.invariant.here e (omega arith)) c.requires.clock)

pub loop-number-smaller : goal.loop-number-smaller
loop-number-smaller c =
    let placed : c.loop-number.number - 1 < length c.args.copies.now.links.items = (let a = c.loop-number.invariant.within in let b = c.loop-number-test.true in let d = c.requires.index.links_long in omega arith) in
    let linked = c.index-number-in-loop-number.ensures ∙ get_or_default_zero c.args.copies.now.links.items (c.loop-number.number - 1) c.index-number-in-loop-number.result.now placed in
    next_less c.args.net.now c.args.copies.now.heads.items c.args.copies.now.links.items c.args.wire c.loop-number.number c.index-number-in-loop-number.result.now c.loop-number.marks c.mark_clock.new.marks c.loop-number.queue.items c.mark_clock.new.queue.items
    c.requires.index c.requires.within c.loop-number-test.true c.loop-number.invariant.within c.loop-number.invariant.here linked

pub loop-number-preserved : goal.loop-number-preserved
loop-number-preserved c =
    let placed : c.loop-number.number - 1 < length c.args.copies.now.links.items = (let a = c.loop-number.invariant.within in let b = c.loop-number-test.true in let d = c.requires.index.links_long in omega arith) in
    let linked = c.index-number-in-loop-number.ensures ∙ get_or_default_zero c.args.copies.now.links.items (c.loop-number.number - 1) c.index-number-in-loop-number.result.now placed in
    let es = c.args.net.now.equations in let e = c.loop-number.number - 1 in
    let few : e < length es = (let h = c.loop-number.invariant.within in let k = c.loop-number-test.true in omega arith) in
    let smaller = next_less c.args.net.now c.args.copies.now.heads.items c.args.copies.now.links.items c.args.wire c.loop-number.number c.index-number-in-loop-number.result.now c.loop-number.marks c.mark_clock.new.marks c.loop-number.queue.items c.mark_clock.new.queue.items
    c.requires.index c.requires.within c.loop-number-test.true c.loop-number.invariant.within c.loop-number.invariant.here linked in
    let this : is_set c.mark_clock.new.marks (wire_at es e) ≡ true =
    subst (λ (w : ℕ). is_set c.mark_clock.new.marks w ≡ true) (sym (wire_is es e c.index-as_slice-place.result few ∙ ap (λ (qs : List Equation). (get_or qs e c.index-as_slice-place.result).wire) (sym c.as_slice.ensures))) c.in_ok-mark_clock.ensures.marked in
    record {
      reached = c.in_ok-mark_clock.ensures.reached;
      grown = grown_both c.args.marks.now c.args.queue.now.items c.loop-number.marks c.loop-number.queue.items c.mark_clock.new.marks c.mark_clock.new.queue.items c.loop-number.invariant.grown c.in_ok-mark_clock.ensures.grown;
      within = let h = c.loop-number.invariant.within in omega arith;
      here = next_here c.args.net.now c.args.copies.now.heads.items c.args.copies.now.links.items c.args.wire c.loop-number.number c.index-number-in-loop-number.result.now c.loop-number.marks c.mark_clock.new.marks c.loop-number.queue.items c.mark_clock.new.queue.items
          c.requires.index c.requires.within c.loop-number-test.true c.loop-number.invariant.within c.loop-number.invariant.here linked;
      marked = next_marked c.args.net.now c.args.copies.now.heads.items c.args.copies.now.links.items c.args.wire c.loop-number.number c.index-number-in-loop-number.result.now c.loop-number.marks c.mark_clock.new.marks c.loop-number.queue.items c.mark_clock.new.queue.items
          c.requires.index c.requires.within c.loop-number-test.true c.loop-number.invariant.within c.loop-number.invariant.here linked c.loop-number.invariant.marked c.in_ok-mark_clock.ensures.grown this;
    }
