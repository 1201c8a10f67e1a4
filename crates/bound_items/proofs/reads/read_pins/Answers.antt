use Rattle.cell_library.specs.Spelled.{cell_of}
use Rattle.bound_items.proofs.reads.read_pins.Goals as goal
use Rattle.bound_items.proofs.Marked.{are_reads}

pub returns : goal.returns
returns c = are_reads (cell_of c.args.cell.now) c.args.bits.now c.args.q _ c.in_ok-flags.ensures
