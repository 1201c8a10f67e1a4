use Rattle.std.proofs.Common.{◌≡◌, map, drop}
use Rattle.cell_library.specs.Spelled.{cell_of, pin_of}
use Rattle.bound_items.specs.Items.{pins_count}
use Rattle.bound_items.specs.State.{state_of, after}
use Rattle.bound_items.proofs.counts.add_pins.Given as goal

abbrev pub invariant-loop-k : goal.invariant-loop-k
invariant-loop-k l =
    after (state_of l.netlist) (pins_count l.site.instance.now (cell_of l.site.cell.now) l.site.bits.now l.site.state l.k (map pin_of (drop l.k l.pins)))
    ≡ after (state_of l.initial.netlist) (pins_count l.site.instance.now (cell_of l.site.cell.now) l.site.bits.now l.site.state 0 (map pin_of l.pins))
