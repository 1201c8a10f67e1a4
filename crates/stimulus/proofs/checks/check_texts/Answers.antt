use Rattle.std.proofs.Common.{[], ◌∷◌, ◌++◌, sym, Err}
use Rattle.std.proofs.lemmas.Result.{err_from_is_err_and}
use Rattle.stimulus.proofs.Causes.{fault_left, handed_on, no_more, rest_decides, same_first}
use Rattle.stimulus.specs.Answer.{Passes}
use Rattle.stimulus.specs.Asked.{all_asked, asked_of, streams_asked}
use Rattle.stimulus.specs.declared.fault.StimulusCause.TheVariants.{Steps, Initial, Inputs, Bits}
use Rattle.stimulus.proofs.checks.check_texts.Goals as goal

pub returns-in_err-check_cause : goal.returns-in_err-check_cause
returns-in_err-check_cause c =
    let w = c.args.wanted.now in let texts = c.args.texts.now in let of = asked_of w.registers w.inputs texts in
    let right = λ (u : Unit {0}). Unit {0} in let f = c.in_err-check_cause.field-0.0 in
    let later = of Initial ++ (of Inputs ++ (of Bits ++ [])) in
    handed_on (Passes (all_asked w.registers w.inputs c.args.limit texts) right) c.from_residual-in_err-check_cause.result f (err_from_is_err_and c.from_residual-in_err-check_cause.result c.from_residual-in_err-check_cause.ensures.1)
    (rest_decides (streams_asked c.args.limit texts ∷ []) (of Steps ++ later) right (Err f) c.in_ok-check_count.ensures.0
    (fault_left (of Steps) later right right f c.in_err-check_cause.ensures))

pub returns-in_err-check_cause-2 : goal.returns-in_err-check_cause-2
returns-in_err-check_cause-2 c =
    let w = c.args.wanted.now in let texts = c.args.texts.now in let of = asked_of w.registers w.inputs texts in
    let right = λ (u : Unit {0}). Unit {0} in let f = c.in_err-check_cause-2.field-0.0 in
    let later = of Inputs ++ (of Bits ++ []) in
    handed_on (Passes (all_asked w.registers w.inputs c.args.limit texts) right) c.from_residual-in_err-check_cause-2.result f (err_from_is_err_and c.from_residual-in_err-check_cause-2.result c.from_residual-in_err-check_cause-2.ensures.1)
    (rest_decides (streams_asked c.args.limit texts ∷ []) (of Steps ++ (of Initial ++ later)) right (Err f) c.in_ok-check_count.ensures.0
    (rest_decides (of Steps) (of Initial ++ later) right (Err f) c.in_ok-check_cause.ensures.0
    (fault_left (of Initial) later right right f c.in_err-check_cause-2.ensures)))

pub returns-in_err-check_cause-3 : goal.returns-in_err-check_cause-3
returns-in_err-check_cause-3 c =
    let w = c.args.wanted.now in let texts = c.args.texts.now in let of = asked_of w.registers w.inputs texts in
    let right = λ (u : Unit {0}). Unit {0} in let f = c.in_err-check_cause-3.field-0.0 in
    let later = of Bits ++ [] in
    handed_on (Passes (all_asked w.registers w.inputs c.args.limit texts) right) c.from_residual-in_err-check_cause-3.result f (err_from_is_err_and c.from_residual-in_err-check_cause-3.result c.from_residual-in_err-check_cause-3.ensures.1)
    (rest_decides (streams_asked c.args.limit texts ∷ []) (of Steps ++ (of Initial ++ (of Inputs ++ later))) right (Err f) c.in_ok-check_count.ensures.0
    (rest_decides (of Steps) (of Initial ++ (of Inputs ++ later)) right (Err f) c.in_ok-check_cause.ensures.0
    (rest_decides (of Initial) (of Inputs ++ later) right (Err f) c.in_ok-check_cause-2.ensures.0
    (fault_left (of Inputs) later right right f c.in_err-check_cause-3.ensures))))

pub returns : goal.returns
returns c =
    let w = c.args.wanted.now in let texts = c.args.texts.now in let of = asked_of w.registers w.inputs texts in
    let right = λ (u : Unit {0}). Unit {0} in let answer = c.check_cause-4.result in
    rest_decides (streams_asked c.args.limit texts ∷ []) (of Steps ++ (of Initial ++ (of Inputs ++ (of Bits ++ [])))) right answer c.in_ok-check_count.ensures.0
    (rest_decides (of Steps) (of Initial ++ (of Inputs ++ (of Bits ++ []))) right answer c.in_ok-check_cause.ensures.0
    (rest_decides (of Initial) (of Inputs ++ (of Bits ++ [])) right answer c.in_ok-check_cause-2.ensures.0
    (rest_decides (of Inputs) (of Bits ++ []) right answer c.in_ok-check_cause-3.ensures.0
    (same_first (of Bits) (of Bits ++ []) right answer (sym (no_more (of Bits))) c.check_cause-4.ensures))))
