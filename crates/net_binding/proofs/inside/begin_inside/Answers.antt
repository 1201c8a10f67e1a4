use Rattle.std.proofs.Common.{◌++◌, map, reverse}
use Rattle.std.proofs.lemmas.Result.{err_from_is_err_and}
use Rattle.verilog_reader.specs.View.{pin_view}
use Rattle.bound_items.specs.State.{state_of}
use Rattle.net_binding.specs.Ready.{plain_parts}
use Rattle.net_binding.specs.Rest.{rest_of, Begins}
use Rattle.net_binding.proofs.inside.begin_inside.Goals as goal
use Rattle.net_binding.proofs.Given.{handed_on, entry_given, entry_fails}

pub returns-in_err-netlist : goal.returns-in_err-netlist
returns-in_err-netlist c cell attributes mn i =
    handed_on (Begins (plain_parts c.args.parts.modules.now (c.args.parts.known.now ++ c.args.parts.library.now)) (state_of c.args.walker.netlist) (rest_of (plain_parts c.args.parts.modules.now (c.args.parts.known.now ++ c.args.parts.library.now)) c.args.walker)) c.from_residual-in_err-netlist.result c.in_err-netlist.field-0.0
    (err_from_is_err_and c.from_residual-in_err-netlist.result c.from_residual-in_err-netlist.ensures.1)
    (entry_fails c.args.parts.modules.now (c.args.parts.known.now ++ c.args.parts.library.now) c.args.own.module.now c.args.inside.module.now c.args.own.outline.now c.args.walker.frame c.args.walker.outer.items attributes cell c.args.name.now c.in_ok-site.site c.new.result c.in_ok-prefix.prefix (map pin_view c.args.pins.now) c.args.number (state_of c.args.walker.netlist) c.in_err-netlist.field-0.0
    c.requires.own c.requires.own_outline c.requires.inside c.requires.fresh mn i c.in_ok-site.ensures c.new.ensures c.in_ok-prefix.ensures c.in_err-netlist.ensures)

pub returns : goal.returns
returns c cell attributes mn i =
    entry_given c.args.parts.modules.now (c.args.parts.known.now ++ c.args.parts.library.now) c.args.own.module.now c.args.inside.module.now c.args.own.outline.now c.args.walker.frame c.args.walker.outer.items c.in_ok-outer.outer.items
    attributes cell c.args.name.now c.in_ok-site.site c.new.result c.in_ok-prefix.prefix (map pin_view c.args.pins.now) c.args.number c.len-base.result (state_of c.args.walker.netlist) (state_of c.in_ok-netlist.netlist)
    c.requires.own c.requires.own_outline c.requires.inside c.requires.fresh mn i c.in_ok-site.ensures c.new.ensures c.in_ok-prefix.ensures c.len-base.ensures c.in_ok-outer.ensures c.in_ok-netlist.ensures
