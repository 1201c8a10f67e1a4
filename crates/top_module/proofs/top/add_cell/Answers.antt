use Rattle.std.proofs.Common.{ℕ, ◌||◌, List, sym, ap, ◌∙◌}
use Rattle.std.specs.Str.{bytes_eq}
use Rattle.top_module.proofs.Added.{one_added}
use Rattle.top_module.specs.Marks.{is_among}
use Rattle.top_module.specs.Top.{instantiates}
use Rattle.verilog_reader.specs.View.{item_view}
use Rattle.verilog_reader.specs.declared.design.Item.{Item}
use Rattle.top_module.proofs.top.add_cell.Goals as goal

pub returns-in_ok-add : goal.returns-in_ok-add
returns-in_ok-add c name =
    one_added c.args.names.now c.as_slice.result.now c.add.new.self c.in_ok-add.field-0.is_new c.in_ok-add.ensures.fresh c.in_ok-add.ensures.added name
    ∙ (ap (λ (n : List ℕ). is_among name c.args.names.now || bytes_eq n name) c.as_slice.ensures ∙ ap (λ (item : Item). is_among name c.args.names.now || instantiates name (item_view item)) (sym c.in-Instance.is))
