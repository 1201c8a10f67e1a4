use Rattle.std.proofs.Common.{◌+◌, List, [], ◌∷◌, drop, map, refl, sym, subst, ◌∙◌, Ok, Err, inl, inr}
use Rattle.std.proofs.Math.ListN.{drop_of_length-le}
use Rattle.std.proofs.lemmas.Bool.{both_ways}
use Rattle.agm_net.specs.declared.expr.Register.{Register}
use Rattle.annotations.proofs.Verdict.{rest_decides, items_left}
use Rattle.annotations.specs.Rules.{Rule, own_clock, Broken, Passes}
use Rattle.annotations.specs.Spread.{is_set}
use Rattle.annotations.specs.declared.fault.AnnotationFault.TheVariants as fault
use Rattle.annotations.proofs.uses.check_registers.Goals as goal

pub returns-then-not-is_set : goal.returns-then-not-is_set
returns-then-not-is_set c top net are =
    let r = c.register-item.result in
    c.loop-register.invariant top net are (Err (fault.ClockUse r.clock))
    (subst (λ (rs : List Rule). Passes top net rs (Err (fault.ClockUse r.clock))) (sym (items_left (λ (q : Register). own_clock q.clock) c.args.registers.now c.loop-register.register-index r c.loop-register-test.true c.register-item.is))
    (inr (inl (λ clock. both_ways (is_set c.args.marks.now r.clock) (sym c.is_set.ensures ∙ c.if-not-is_set.true) (are.complete r.clock clock), refl))))

pub loop-register-preserved : goal.loop-register-preserved
loop-register-preserved c top net are answer h =
    let r = c.register-item.result in
    c.loop-register.invariant top net are answer
    (subst (λ (rs : List Rule). Passes top net rs answer) (sym (items_left (λ (q : Register). own_clock q.clock) c.args.registers.now c.loop-register.register-index r c.loop-register-test.true c.register-item.is))
    (rest_decides (Broken top net) (own_clock r.clock ∷ []) (map (λ (q : Register). own_clock q.clock) (drop (c.loop-register.register-index + 1) c.args.registers.now)) (λ (u : Unit {0}). Unit {0}) answer
    (λ none. none (are.sound r.clock (sym c.is_set.ensures ∙ c.if-not-is_set.false)), tt) h))

pub returns : goal.returns
returns c top net are =
    c.loop-register.invariant top net are (Ok tt)
    (subst (λ (rs : List Register). Passes top net (map (λ (q : Register). own_clock q.clock) rs) (Ok tt)) (sym (drop_of_length-le c.args.registers.now c.loop-register-test.false)) (tt, tt))
