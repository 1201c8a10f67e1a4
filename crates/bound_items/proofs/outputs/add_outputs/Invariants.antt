use Rattle.std.proofs.Common.{◌≡◌, map, drop}
use Rattle.std.specs.List.{flat_map}
use Rattle.verilog_reader.specs.View.{pin_view}
use Rattle.cell_library.specs.Spelled.{cell_of}
use Rattle.bound_items.specs.Items.{cell_lines}
use Rattle.bound_items.specs.State.{state_of, after}
use Rattle.bound_items.proofs.outputs.add_outputs.Given as goal

abbrev pub invariant-loop-connection : goal.invariant-loop-connection
invariant-loop-connection l =
    after (state_of l.netlist) (flat_map (cell_lines (cell_of l.site.cell.now) l.site.bits.now l.operands) (map pin_view (drop l.connection-index l.pins)))
    ≡ after (state_of l.initial.netlist) (flat_map (cell_lines (cell_of l.site.cell.now) l.site.bits.now l.operands) (map pin_view l.pins))
