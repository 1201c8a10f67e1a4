use Rattle.std.proofs.Common.{◌++◌, map, slice_get, ap, sym, ◌∙◌}
use Rattle.std.proofs.lemmas.Result.{IfOk-weaker}
use Rattle.verilog_reader.specs.View.{pin_view}
use Rattle.bound_items.specs.State.{state_of, after}
use Rattle.net_binding.proofs.steps.add_outside.Goals as goal
use Rattle.net_binding.proofs.Found.{behind_given}

pub returns-in-Some-item_at : goal.returns-in-Some-item_at
returns-in-Some-item_at c =
    let item = sym (c.in-Some-item_at.ensures ∙ ap (λ xs. slice_get xs c.args.frame.now.item) c.as_slice.ensures) in
    let es = behind_given c.args.parts.modules.now (c.args.parts.known.now ++ c.args.parts.library.now) c.in-Some.inside.module.now c.in-Some-outlined.own.module.now c.in-Some-outlined.own.outline.now c.in-Some-item_at.item.now c.args.inner.now c.args.frame.now (map pin_view c.pins_of.result.now)
    c.in-Some.ensures.0 c.in-Some-outlined.ensures.0 c.in-Some-outlined.ensures.1 item c.pins_of.ensures in
    IfOk-weaker c.add_behind.result _ _ (λ t h. h ∙ ap (λ xs. after (state_of c.args.netlist) xs) es) c.add_behind.ensures
