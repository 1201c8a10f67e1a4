use Rattle.std.proofs.Common.{map, ap, ◌∙◌}
use Rattle.std.proofs.lemmas.Result.{IfOk-weaker}
use Rattle.top_module.specs.Ports.{facts_of}
use Rattle.verilog_reader.specs.View.{module_view}
use Rattle.top_module.proofs.ports.port_facts.Goals as goal

pub returns : goal.returns
returns c =
    IfOk-weaker c.at_places.result _ _
    (λ list h. h (facts_of (module_view c.args.unit.now)) (c.as_slice-2.ensures.value ∙ c.in_ok-facts.ensures) ∙ ap (map (facts_of (module_view c.args.unit.now))) c.as_slice-3.ensures)
    c.at_places.ensures
