use Rattle.std.proofs.Common.{◌++◌, reverse}
use Rattle.bound_items.specs.State.{state_of}
use Rattle.net_binding.proofs.steps.go_outside.Goals as goal
use Rattle.net_binding.proofs.Given.{end_given, out_given}

pub returns-in-Some : goal.returns-in-Some
returns-in-Some c =
    out_given c.args.parts.modules.now (c.args.parts.known.now ++ c.args.parts.library.now) c.args.own.module.now c.args.walker.frame c.in-Some.popped.frame c.in_ok-frame-in-Some.frame c.args.walker.outer.items c.in-Some.popped.outer.items (state_of c.args.walker.netlist) (state_of c.in_ok-netlist-in-Some.netlist)
    c.requires.own c.requires.done c.in-Some.ensures c.in_ok-netlist-in-Some.ensures c.in_ok-frame-in-Some.ensures

pub returns : goal.returns
returns c = end_given c.args.parts.modules.now (c.args.parts.known.now ++ c.args.parts.library.now) c.args.own.module.now c.args.walker.frame c.args.walker.outer.items (state_of c.args.walker.netlist) c.requires.own c.requires.done c.in-None.ensures
