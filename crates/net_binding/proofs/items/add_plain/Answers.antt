use Rattle.std.proofs.Common.{◌++◌, length}
use Rattle.form_bits.specs.Forms.{look_in}
use Rattle.bound_items.specs.State.{state_of}
use Rattle.net_binding.specs.Ready.{plain_parts}
use Rattle.net_binding.proofs.items.add_plain.Goals as goal
use Rattle.net_binding.proofs.Found.{plain_given}

pub returns-in_ok-site-in-Instance : goal.returns-in_ok-site-in-Instance
returns-in_ok-site-in-Instance c =
    plain_given (plain_parts c.args.parts.modules.now (c.args.parts.known.now ++ c.args.parts.library.now)) c.args.frame.now.prefix (look_in c.args.scope.now.names c.args.scope.now.spots) c.args.frame.now.base (length c.args.netlist.wires) (state_of c.args.netlist) c.add_named.result
    c.args.item.now c.in-Instance.attributes c.in-Instance.cell c.in-Instance.name c.in_ok-site-in-Instance.site c.in-Instance.pins c.as_slice.result.now
    c.in-Instance.is c.in_ok-site-in-Instance.ensures c.as_slice.ensures c.add_named.ensures
