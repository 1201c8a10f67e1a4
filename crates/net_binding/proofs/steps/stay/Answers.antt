use Rattle.std.proofs.Common.{◌++◌, reverse}
use Rattle.std.proofs.lemmas.Result.{err_from_is_err_and}
use Rattle.bound_items.specs.State.{state_of}
use Rattle.net_binding.specs.Ready.{plain_parts}
use Rattle.net_binding.specs.Rest.{rest_of, Begins}
use Rattle.net_binding.proofs.steps.stay.Goals as goal
use Rattle.net_binding.proofs.Given.{handed_on, stay_given, stay_fails}

pub returns-in_err-netlist : goal.returns-in_err-netlist
returns-in_err-netlist c =
    handed_on (Begins (plain_parts c.args.parts.modules.now (c.args.parts.known.now ++ c.args.parts.library.now)) (state_of c.args.walker.netlist) (rest_of (plain_parts c.args.parts.modules.now (c.args.parts.known.now ++ c.args.parts.library.now)) c.args.walker)) c.from_residual.result c.in_err-netlist.field-0.0
    (err_from_is_err_and c.from_residual.result c.from_residual.ensures.1)
    (stay_fails c.args.parts.modules.now (c.args.parts.known.now ++ c.args.parts.library.now) c.args.own.module.now c.args.own.outline.now c.args.item.now c.args.walker.frame (reverse c.args.walker.outer.items) (state_of c.args.walker.netlist) c.in_err-netlist.field-0.0
    c.requires.own c.requires.own_outline c.requires.item c.requires.plain c.in_err-netlist.ensures)

pub returns : goal.returns
returns c =
    stay_given c.args.parts.modules.now (c.args.parts.known.now ++ c.args.parts.library.now) c.args.own.module.now c.args.own.outline.now c.args.item.now c.args.walker.frame c.in_ok-frame.frame (reverse c.args.walker.outer.items) (state_of c.args.walker.netlist) (state_of c.in_ok-netlist.netlist)
    c.requires.own c.requires.own_outline c.requires.item c.requires.plain c.in_ok-netlist.ensures c.in_ok-frame.ensures
