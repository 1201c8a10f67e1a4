use Rattle.verilog_reader.specs.View.{module_view}
use Rattle.bound_items.proofs.inside.port_at.Goals as goal
use Rattle.bound_items.proofs.Instances.{port_found}

pub returns-in-Some : goal.returns-in-Some
returns-in-Some c =
    port_found (module_view c.args.inside.module.now) c.args.inside.outline.now c.args.name.now c.as_slice.result.now c.in-Some.number c.as_slice-in-Some.result.now c.as_slice-in-Some-2.result.now c.port_in.result
    c.requires c.as_slice.ensures c.in-Some.ensures c.as_slice-in-Some.ensures c.as_slice-in-Some-2.ensures c.port_in.ensures
