use Rattle.std.proofs.Common.{◌≡◌, ◌++◌, fold, map, filter, take}
use Rattle.std.specs.List.{flat_map}
use Rattle.agm_net.specs.Plain.{is_input}
use Rattle.wire_drivers.specs.Wiring.{wires_of, wires_in, is_output}
use Rattle.wire_drivers.specs.View.{line_view, flop_view}
use Rattle.wire_drivers.specs.Counted.{counted}
use Rattle.wire_drivers.proofs.count.count_flop_reads.Given as goal

abbrev pub invariant-loop-flop : goal.invariant-loop-flop
invariant-loop-flop l = l.counts ≡ fold counted l.initial.counts (flat_map (λ f. wires_in f.next ++ wires_of f.clock) (map flop_view (take l.flop-index l.flops)))
