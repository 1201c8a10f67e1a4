use Rattle.std.proofs.Common.{◌≡◌, List, length, map, take}
use Rattle.std.specs.List.{AllByRecursion}
use Rattle.agm_net.specs.Plain.{input_bits}
use Rattle.agm_net.specs.Trace.{Row, IsTrace}
use Rattle.agm_net.specs.View.{plain_of}
use Rattle.cycle_sim.specs.HasRun.{HasRun}
use Rattle.side_by_side.specs.Beside.{seen_in}
use Rattle.side_by_side.proofs.Whole.{tape_of}
use Rattle.side_by_side.proofs.masked_run.run.Given as goal

abbrev pub invariant-loop-cycle : goal.invariant-loop-cycle
invariant-loop-cycle l = record {
  ran : HasRun (plain_of l.net) l.power (take l.cycle (tape_of l.seed l.random l.rows)) l.sim;
  wide : AllByRecursion (λ row. length row ≡ length (input_bits (plain_of l.net))) (take l.cycle (tape_of l.seed l.random l.rows));
  told : (table : List Row) → IsTrace (plain_of l.net) l.power (tape_of l.seed l.random l.rows) table → l.seen ≡ map (seen_in l.watched) (take l.cycle table);
}
