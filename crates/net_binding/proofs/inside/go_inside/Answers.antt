use Rattle.std.proofs.Common.{◌≡◌, true, ◌++◌, ◌∷◌, List, Some, map, length, reverse, sym, ap, ◌∙◌, subst}
use Rattle.verilog_reader.specs.View.{pin_view}
use Rattle.bound_items.specs.Events.{first_broken}
use Rattle.bound_items.specs.State.{state_of, UnlessMemory}
use Rattle.bound_items.specs.declared.fault.BindFault.{BindFault}
use Rattle.net_binding.specs.Walk.{is_recursive}
use Rattle.net_binding.specs.Ready.{plain_parts}
use Rattle.net_binding.specs.Rest.{rest_of, path_of}
use Rattle.net_binding.specs.declared.frame.Frame.{Frame}
use Rattle.net_binding.proofs.inside.go_inside.Goals as goal
use Rattle.net_binding.proofs.Given.{recursive_given}

pub returns-then-is_recursive : goal.returns-then-is_recursive
returns-then-is_recursive c attributes mn i =
    let P = plain_parts c.args.parts.modules.now (c.args.parts.known.now ++ c.args.parts.library.now) in
    let s = state_of c.args.walker.netlist in
    let r : is_recursive P (path_of (c.args.walker.frame ∷ reverse c.args.walker.outer.items)) c.args.number ≡ true =
    sym (c.is_recursive.ensures ∙ ap (λ (xs : List Frame). is_recursive P (path_of (c.args.walker.frame ∷ reverse xs)) c.args.number) c.as_slice.ensures.value) ∙ c.if-is_recursive.true in
    subst (λ (f : BindFault). UnlessMemory f (first_broken s.names (rest_of P c.args.walker) ≡ Some f)) (sym c.in_ok-recursive-in-Some.ensures)
    (recursive_given c.args.parts.modules.now (c.args.parts.known.now ++ c.args.parts.library.now) c.args.own.module.now c.in-Some.inside.module.now c.args.walker.frame c.args.walker.outer.items attributes c.args.cell.now c.args.name.now (map pin_view c.args.pins.now) c.args.number s
    c.requires.own c.in-Some.ensures.0 r mn i)

pub returns-else-is_recursive : goal.returns-else-is_recursive
returns-else-is_recursive c attributes mn i = c.begin_inside.ensures c.args.cell.now attributes mn i
