use Rattle.std.proofs.Common.{◌≡◌, [], Err, map, subst, sym, ◌∙◌}
use Rattle.cell_library.specs.Found.{raw_name}
use Rattle.cell_library.specs.Spelled.{cell_of}
use Rattle.verilog_reader.specs.View.{design_view}
use Rattle.bound_items.specs.State.{UnlessMemory}
use Rattle.bound_items.specs.declared.fault.BindFault.{BindFault}
use Rattle.net_binding.specs.Bound.{Answers, Outcome, bound}
use Rattle.net_binding.proofs.top.bind.Goals as goal
use Rattle.net_binding.proofs.Made.{fault_given, fault_unless, none_given}
use Rattle.net_binding.proofs.Numbers.{modules_differ}

pub returns-in-Some : goal.returns-in-Some
returns-in-Some c =
    let is = fault_given c.args.library.now.cells (design_view c.args.design.now) c.in_ok-fault.field-0 c.in-Some.fault c.in_ok-fault.ensures c.in-Some.is in
    subst (λ (f : BindFault). UnlessMemory f (bound (map cell_of c.args.library.now.cells) (design_view c.args.design.now) ≡ Err f)) (sym c.fault_of.ensures) (fault_unless c.in-Some.fault _ is)

pub returns-in-None : goal.returns-in-None
returns-in-None c =
    let is = none_given c.args.library.now.cells (design_view c.args.design.now) c.in_ok-fault.field-0 c.in_ok-fault.ensures c.in-None.is in
    subst (λ (o : Outcome). Answers o c.bind_named.result) (sym is) c.bind_named.ensures

pub bind_named-requires : goal.bind_named-requires
bind_named-requires c =
    modules_differ (map raw_name c.args.library.now.cells) [] (design_view c.args.design.now) (sym c.in_ok-fault.ensures ∙ c.in-None.is)
