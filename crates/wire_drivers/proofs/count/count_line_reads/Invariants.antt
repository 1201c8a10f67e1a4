use Rattle.std.proofs.Common.{◌≡◌, ◌++◌, fold, map, filter, take}
use Rattle.std.specs.List.{flat_map}
use Rattle.agm_net.specs.Plain.{is_input}
use Rattle.wire_drivers.specs.Wiring.{wires_of, wires_in, is_output}
use Rattle.wire_drivers.specs.View.{line_view, flop_view}
use Rattle.wire_drivers.specs.Counted.{counted}
use Rattle.wire_drivers.proofs.count.count_line_reads.Given as goal

abbrev pub invariant-loop-line : goal.invariant-loop-line
invariant-loop-line l = l.counts ≡ fold counted l.initial.counts (flat_map (λ l. wires_in l.1) (map line_view (take l.line-index l.lines)))
