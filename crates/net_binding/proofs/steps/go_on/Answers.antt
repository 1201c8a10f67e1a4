use Rattle.std.proofs.Common.{◌++◌, Some, None}
use Rattle.net_binding.specs.Ready.{plain_parts}
use Rattle.net_binding.proofs.steps.go_on.Goals as goal
use Rattle.net_binding.proofs.Found.{number_given, item_none, item_is}

pub stay-requires-in-None-clause-plain : goal.stay-requires-in-None-clause-plain
stay-requires-in-None-clause-plain c =
    item_none (plain_parts c.args.parts.modules.now (c.args.parts.known.now ++ c.args.parts.library.now)) c.args.item.now c.in-Instance.attributes c.in-Instance.cell c.in-Instance.name c.in-Instance.pins c.in-Instance.is
    (number_given c.args.parts.modules.now c.args.parts.numbers.now c.in-Instance.cell c.as_slice.result.now None c.requires.ready.numbers_are c.as_slice.ensures c.in-None.ensures)

pub returns-in-Some : goal.returns-in-Some
returns-in-Some c =
    c.go_inside.ensures c.in-Instance.attributes
    (number_given c.args.parts.modules.now c.args.parts.numbers.now c.in-Instance.cell c.as_slice.result.now (Some c.in-Some.number) c.requires.ready.numbers_are c.as_slice.ensures c.in-Some.ensures)
    (item_is c.args.own.module.now.items c.args.walker.frame.item c.args.item.now c.in-Instance.attributes c.in-Instance.cell c.in-Instance.name c.in-Instance.pins c.as_slice-in-Some.result.now c.requires.item c.in-Instance.is c.as_slice-in-Some.ensures)
