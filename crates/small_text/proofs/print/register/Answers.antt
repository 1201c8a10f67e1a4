use Rattle.std.proofs.Common.{codes}
use Rattle.small_text.specs.Written.{cell_parts, pin_parts, next_pin_parts, end_parts}
use Rattle.small_text.proofs.Appended.{five_steps}
use Rattle.small_text.proofs.print.register.Goals as goal

pub returns : goal.returns
returns c =
    five_steps c.extend.result c.args.text.now c.cell.new.text c.pin.new.text c.next_pin.new.text c.next_pin-2.new.text c.extend.new.self (cell_parts (codes "AGM_DFF") c.args.name.now) (pin_parts (codes "C") c.args.c.now) (next_pin_parts (codes "D") c.args.d.now) (next_pin_parts (codes "Q") c.args.q.now) end_parts
    c.in_ok-cell.ensures c.in_ok-pin.ensures c.in_ok-next_pin.ensures c.in_ok-next_pin-2.ensures c.extend.ensures.ok
