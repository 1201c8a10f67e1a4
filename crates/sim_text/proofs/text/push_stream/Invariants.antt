use Rattle.std.proofs.Common.{◌≡◌, ◌++◌, List, take}
use Rattle.agm_net.specs.Trace.{Row, IsTrace}
use Rattle.agm_net.specs.View.{plain_of}
use Rattle.cycle_sim.specs.HasRun.{HasRun}
use Rattle.sim_text.specs.Text.{stream_text}
use Rattle.sim_text.proofs.text.push_stream.Given as goal

abbrev pub invariant-loop-step : goal.invariant-loop-step
invariant-loop-step l = record {
  ran : HasRun (plain_of l.net) l.stream.initial (take l.step l.stream.steps) l.sim;
  told : (table : List Row) → IsTrace (plain_of l.net) l.stream.initial l.stream.steps table → l.text ≡ l.initial.text ++ stream_text (plain_of l.net) (l.number, take l.step table);
}
