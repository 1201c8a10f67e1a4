use Rattle.std.proofs.Common.{ℕ, ◌+◌, ◌-◌, ◌&&◌, List, [], ◌∷◌, length, map, refl, sym, subst, ◌∙◌, Ok, Err, inl, inr}
use Rattle.std.specs.List.{range_with_len}
use Rattle.std.proofs.lemmas.Bool.{both_ways}
use Rattle.annotations.proofs.Verdict.{rest_decides, wires_left, no_wires_left, and_parts, and_both}
use Rattle.annotations.specs.Rules.{Rule, clock_read, Broken, Passes}
use Rattle.annotations.specs.Spread.{is_set}
use Rattle.annotations.specs.declared.fault.AnnotationFault.TheVariants as fault
use Rattle.annotations.proofs.uses.check_wires.Goals as goal

pub returns-then-is_clock_read : goal.returns-then-is_clock_read
returns-then-is_clock_read c top net are reads =
    let w = c.loop-wire.wire in
    let both = and_parts (is_set c.args.marks.now w) (is_set c.args.read.now w) (sym c.is_clock_read.ensures ∙ c.if-is_clock_read.true) in
    c.loop-wire.invariant top net are reads (Err (fault.ClockUse w))
    (subst (λ (rs : List Rule). Passes top net rs (Err (fault.ClockUse w))) (sym (wires_left clock_read w (length c.args.marks.now) c.loop-wire-test.true))
    (inr (inl ((are.sound w both.0, sym (reads w c.loop-wire-test.true) ∙ both.1), refl))))

pub loop-wire-preserved : goal.loop-wire-preserved
loop-wire-preserved c top net are reads answer h =
    let w = c.loop-wire.wire in
    c.loop-wire.invariant top net are reads answer
    (subst (λ (rs : List Rule). Passes top net rs answer) (sym (wires_left clock_read w (length c.args.marks.now) c.loop-wire-test.true))
    (rest_decides (Broken top net) (clock_read w ∷ []) (map clock_read (range_with_len (w + 1) (length c.args.marks.now - (w + 1)))) (λ (u : Unit {0}). Unit {0}) answer
    (λ wrong. both_ways (is_set c.args.marks.now w && is_set c.args.read.now w) (sym c.is_clock_read.ensures ∙ c.if-is_clock_read.false) (and_both (is_set c.args.marks.now w) (is_set c.args.read.now w) (are.complete w wrong.0) (reads w c.loop-wire-test.true ∙ wrong.1)), tt) h))

pub returns : goal.returns
returns c top net are reads =
    c.loop-wire.invariant top net are reads (Ok tt)
    (subst (λ (ws : List ℕ). Passes top net (map clock_read ws) (Ok tt)) (sym (no_wires_left c.loop-wire.wire (length c.args.marks.now) c.loop-wire-test.false)) (tt, tt))
