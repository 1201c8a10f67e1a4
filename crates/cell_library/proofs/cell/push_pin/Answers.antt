use Rattle.cell_library.specs.View as view
use Rattle.cell_library.proofs.Lists.{map_pushed}
use Rattle.cell_library.proofs.cell.push_pin.Goals as goal

pub returns : goal.returns
returns c = map_pushed view.raw_pin c.args.pins c.push.new.self c.in_ok-pin.pin _ c.in_ok-push.ensures.ok c.in_ok-pin.ensures
