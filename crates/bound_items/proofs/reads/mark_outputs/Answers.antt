use Rattle.std.proofs.Common.{Some, fold, ap, ◌∙◌, arith}
use Rattle.cell_library.specs.Spelled.{pin_of}
use Rattle.bound_items.specs.Items.{pin_function}
use Rattle.bound_items.specs.Reads.{function_pins, marked}
use Rattle.bound_items.proofs.reads.mark_outputs.Goals as goal
use Rattle.bound_items.proofs.Marked.{marks_on, marks_done}

pub loop-number-preserved : goal.loop-number-preserved
loop-number-preserved c =
    marks_on pin_of c.loop-number.flags c.mark_function.new.flags _ c.args.bits.now c.args.pins.now c.loop-number.number c.index-pins-number.result
    c.index-pins-number.is c.loop-number-test.true c.loop-number.invariant (c.mark_function.ensures ∙ ap (λ b. fold marked c.loop-number.flags (function_pins b (pin_function (Some (pin_of c.index-pins-number.result))))) c.bit_at.ensures)

pub returns : goal.returns
returns c =
    marks_done pin_of c.loop-number.flags _ c.args.bits.now c.args.pins.now c.loop-number.number (omega arith) c.loop-number.invariant
