use Rattle.std.proofs.Common.{◌∙◌}
use Rattle.top_module.proofs.Grown.{item_said}
use Rattle.top_module.proofs.Placed.{map_same}
use Rattle.top_module.proofs.ports.add_item.Goals as goal

pub returns-in-Declare : goal.returns-in-Declare
returns-in-Declare c f all =
    c.add_facts.ensures f all
    ∙ map_same _ _ c.args.names.now (λ j n at. item_said c.args.item.now c.in-Declare.attributes c.in-Declare.way c.in-Declare.range c.in-Declare.declared c.as_slice-in-Declare.result.now c.as_slice.result.now c.said.result c.in-Declare.is c.as_slice-in-Declare.ensures c.as_slice.ensures c.said.ensures (f n) n)
