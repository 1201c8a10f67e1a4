use Rattle.std.proofs.Common.{map, ◌∙◌, ap}
use Rattle.module_outlines.specs.View.{wide_view}
use Rattle.net_binding.specs.Ports.{ports_by}
use Rattle.net_binding.proofs.ports.ports_of.Goals as goal
use Rattle.net_binding.proofs.Listed.{ports_given}

pub returns : goal.returns
returns c = ports_given c.args.outline.now c.as_slice.result.now c.as_slice-2.result.now c.listed.result c.as_slice.ensures c.as_slice-2.ensures c.listed.ensures
