use Rattle.std.proofs.Common.{◌+◌, ℕ, List, drop, flat_map, sym, ap, subst, ◌∙◌, Err}
use Rattle.std.specs.List.{enumerate_from}
use Rattle.std.proofs.lemmas.Result.{err_from_is_err_and}
use Rattle.stimulus.proofs.Causes.{fault_left, first_right, handed_on, parts_left, same_first}
use Rattle.stimulus.specs.Answer.{Passes}
use Rattle.stimulus.specs.Asked.{Asked, asked_in, asked_of, first_fault}
use Rattle.stimulus.proofs.checks.check_cause.Goals as goal

pub returns-in_err-check_stream : goal.returns-in_err-check_stream
returns-in_err-check_stream c =
    let w = c.args.wanted.now in let texts = c.args.texts.now in let i = c.loop-stream.stream in let t = c.index-texts-stream.result in
    let f = c.in_err-check_stream.field-0.0 in
    let first = c.first_steps-first.result in
    let right = λ (u : Unit {0}). Unit {0} in
    let part = asked_in w.registers w.inputs first c.args.cause in
    let rest = flat_map part (enumerate_from (i + 1) (drop (i + 1) texts)) in
    let left : Passes (flat_map part (enumerate_from i (drop i texts))) right (Err f) =
    subst (λ (as' : List Asked). Passes as' right (Err f)) (sym (parts_left part texts i t c.loop-stream-test.true c.index-texts-stream.is)) (fault_left (part (i, t)) rest right right f c.in_err-check_stream.ensures) in
    let all = same_first (flat_map part (enumerate_from i (drop i texts))) (flat_map part (enumerate_from 0 texts)) right (Err f) c.loop-stream.invariant left in
    handed_on (Passes (asked_of w.registers w.inputs texts c.args.cause) right) c.from_residual.result f (err_from_is_err_and c.from_residual.result c.from_residual.ensures.1)
    (subst (λ (n : ℕ). Passes (flat_map (asked_in w.registers w.inputs n c.args.cause) (enumerate_from 0 texts)) right (Err f)) c.first_steps-first.ensures all)

pub loop-stream-preserved : goal.loop-stream-preserved
loop-stream-preserved c =
    let w = c.args.wanted.now in let texts = c.args.texts.now in let i = c.loop-stream.stream in let t = c.index-texts-stream.result in
    let part = asked_in w.registers w.inputs c.first_steps-first.result c.args.cause in
    let rest = flat_map part (enumerate_from (i + 1) (drop (i + 1) texts)) in
    sym (ap first_fault (parts_left part texts i t c.loop-stream-test.true c.index-texts-stream.is) ∙ first_right (part (i, t)) rest c.in_ok-check_stream.ensures.0) ∙ c.loop-stream.invariant
