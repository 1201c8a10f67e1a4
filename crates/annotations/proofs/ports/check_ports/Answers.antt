use Rattle.std.proofs.Common.{◌+◌, List, drop, sym, subst, Ok, Err}
use Rattle.std.specs.List.{flat_map, enumerate_from}
use Rattle.std.proofs.Math.ListN.{drop_of_length-le}
use Rattle.std.proofs.lemmas.Result.{err_from_is_err_and}
use Rattle.agm_net.specs.declared.port.Port.{Port}
use Rattle.annotations.proofs.Verdict.{marks_at, fault_left, rest_decides, ports_left, handed_on}
use Rattle.annotations.specs.Asked.{asked}
use Rattle.annotations.specs.Rules.{Rule, Broken, Passes}
use Rattle.annotations.proofs.ports.check_ports.Goals as goal

pub returns-in_err-check_port : goal.returns-in_err-check_port
returns-in_err-check_port c top net same all =
    let i = c.loop-number.number in let p = c.index-ports-number.result in
    handed_on (Passes top net (flat_map (asked c.args.whole) (enumerate_from 0 c.args.ports.now))) c.from_residual.result c.in_err-check_port.field-0.0 (err_from_is_err_and c.from_residual.result c.from_residual.ensures.1)
    (c.loop-number.invariant top net same all (Err c.in_err-check_port.field-0.0)
    (subst (λ (rs : List Rule). Passes top net rs (Err c.in_err-check_port.field-0.0)) (sym (ports_left (asked c.args.whole) c.args.ports.now i p c.loop-number-test.true c.index-ports-number.is))
    (fault_left (Broken top net) (asked c.args.whole (i, p)) (flat_map (asked c.args.whole) (enumerate_from (i + 1) (drop (i + 1) c.args.ports.now))) (λ (u : Unit {0}). Unit {0}) (λ (u : Unit {0}). Unit {0}) c.in_err-check_port.field-0.0
    (c.in_err-check_port.ensures top net same (marks_at top c.args.ports.now c.args.facts.now i p _ c.loop-number-test.true c.index-ports-number.is all)))))

pub loop-number-preserved : goal.loop-number-preserved
loop-number-preserved c top net same all answer h =
    let i = c.loop-number.number in let p = c.index-ports-number.result in
    c.loop-number.invariant top net same all answer
    (subst (λ (rs : List Rule). Passes top net rs answer) (sym (ports_left (asked c.args.whole) c.args.ports.now i p c.loop-number-test.true c.index-ports-number.is))
    (rest_decides (Broken top net) (asked c.args.whole (i, p)) (flat_map (asked c.args.whole) (enumerate_from (i + 1) (drop (i + 1) c.args.ports.now))) (λ (u : Unit {0}). Unit {0}) answer
    (c.in_ok-check_port.ensures top net same (marks_at top c.args.ports.now c.args.facts.now i p _ c.loop-number-test.true c.index-ports-number.is all)).0 h))

pub returns : goal.returns
returns c top net same all =
    c.loop-number.invariant top net same all (Ok tt)
    (subst (λ (ps : List Port). Passes top net (flat_map (asked c.args.whole) (enumerate_from c.loop-number.number ps)) (Ok tt)) (sym (drop_of_length-le c.args.ports.now c.loop-number-test.false)) (tt, tt))
