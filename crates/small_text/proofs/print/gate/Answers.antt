use Rattle.std.proofs.Common.{codes}
use Rattle.small_text.specs.Written.{cell_parts, pin_parts, next_pin_parts, end_parts}
use Rattle.small_text.proofs.Appended.{five_steps}
use Rattle.small_text.proofs.print.gate.Goals as goal

pub returns : goal.returns
returns c =
    five_steps c.extend.result c.args.text.now c.cell.new.text c.pin.new.text c.next_pin.new.text c.next_pin-2.new.text c.extend.new.self (cell_parts c.args.kind.now c.args.name.now) (pin_parts (codes "A") c.args.a.now) (next_pin_parts (codes "B") c.args.b.now) (next_pin_parts (codes "Y") c.args.y.now) end_parts
    c.in_ok-cell.ensures c.in_ok-pin.ensures c.in_ok-next_pin.ensures c.in_ok-next_pin-2.ensures c.extend.ensures.ok
