use Rattle.std.proofs.Common.{◌≡◌, ◌++◌, List, map, take}
use Rattle.std.specs.List.{flat_map, range_with_len}
use Rattle.agm_net.specs.Plain.{PlainNet}
use Rattle.agm_net.specs.Trace.{Row, IsTrace}
use Rattle.agm_net.specs.View.{plain_of}
use Rattle.cycle_sim.specs.HasRun.{HasRun}
use Rattle.side_by_side.specs.Beside.{seen_in}
use Rattle.side_by_side.specs.Pairs.{watched_of, numbered_outputs, step_pairs}
use Rattle.side_by_side.proofs.plain_run.push_stream.Given as goal

abbrev pub invariant-loop-step : goal.invariant-loop-step
invariant-loop-step l = record {
  ran : HasRun (plain_of l.net) l.stream.initial (take l.step l.stream.steps) l.sim;
  told : (masked : PlainNet) (table first : List Row) → l.watched ≡ map (watched_of l.report masked) (numbered_outputs l.net.ports) → l.seen ≡ map (seen_in l.watched) table
      → IsTrace (plain_of l.net) l.stream.initial l.stream.steps first
      → l.pairs ≡ l.initial.pairs ++ flat_map (step_pairs (plain_of l.net) l.report masked table l.number first) (range_with_len 0 l.step);
}
