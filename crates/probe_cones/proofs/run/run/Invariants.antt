use Rattle.std.proofs.Common.{◌≡◌, map, take}
use Rattle.std.specs.List.{range_with_len}
use Rattle.agm_net.specs.View.{plain_of}
use Rattle.cycle_sim.specs.HasRun.{HasRun}
use Rattle.probe_cones.specs.Observing.{wires_in}
use Rattle.probe_cones.proofs.run.run.Given as goal

abbrev pub invariant-loop-row : goal.invariant-loop-row
invariant-loop-row l = record {
  ran : HasRun (plain_of l.net) l.power_up (take l.row-index l.tape) l.sim;
  so_far : l.table ≡ map (wires_in (plain_of l.net) l.power_up l.tape) (range_with_len 0 l.row-index);
}
