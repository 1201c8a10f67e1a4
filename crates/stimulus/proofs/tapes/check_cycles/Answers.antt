use Rattle.std.proofs.Common.{[], ◌∷◌, ◌++◌, Err}
use Rattle.std.proofs.lemmas.Result.{err_from_is_err_and}
use Rattle.stimulus.proofs.Causes.{fault_left, handed_on, rest_decides}
use Rattle.stimulus.specs.Answer.{Passes}
use Rattle.stimulus.specs.Asked.{asked_cycles, cycles_asked, tape_asked}
use Rattle.stimulus.specs.declared.fault.StimulusCause.TheVariants.{Inputs, Bits}
use Rattle.stimulus.proofs.tapes.check_cycles.Goals as goal

pub returns-in_err-check_steps : goal.returns-in_err-check_steps
returns-in_err-check_steps c =
    let w = c.args.wanted.now in let cycles = c.args.cycles.now in let f = c.in_err-check_steps.field-0.0 in
    let right = λ (u : Unit {0}). Unit {0} in let of = asked_cycles w.inputs cycles in
    handed_on (Passes (tape_asked w.inputs c.args.rows cycles) right) c.from_residual-in_err-check_steps.result f (err_from_is_err_and c.from_residual-in_err-check_steps.result c.from_residual-in_err-check_steps.ensures.1)
    (rest_decides (cycles_asked c.args.rows cycles ∷ []) (of Inputs ++ of Bits) right (Err f) c.in_ok-check_count.ensures.0
    (fault_left (of Inputs) (of Bits) right right f c.in_err-check_steps.ensures))

pub returns : goal.returns
returns c =
    let w = c.args.wanted.now in let cycles = c.args.cycles.now in
    let right = λ (u : Unit {0}). Unit {0} in let of = asked_cycles w.inputs cycles in
    rest_decides (cycles_asked c.args.rows cycles ∷ []) (of Inputs ++ of Bits) right c.check_steps-2.result c.in_ok-check_count.ensures.0
    (rest_decides (of Inputs) (of Bits) right c.check_steps-2.result c.in_ok-check_steps.ensures.0 c.check_steps-2.ensures)
