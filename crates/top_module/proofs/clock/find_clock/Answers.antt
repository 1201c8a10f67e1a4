use Rattle.std.proofs.Common.{position, ap, ◌∙◌}
use Rattle.top_module.proofs.Placed.{position_map}
use Rattle.top_module.specs.Ports.{facts_of, is_clock}
use Rattle.verilog_reader.specs.View.{module_view}
use Rattle.top_module.proofs.clock.find_clock.Goals as goal

pub returns : goal.returns
returns c =
    c.first_clock.ensures ∙ (ap (position is_clock) (c.as_slice.ensures ∙ c.in_ok-facts.ensures) ∙ position_map is_clock (facts_of (module_view c.args.unit.now)) c.args.unit.now.ports)
