use Rattle.std.proofs.Common.{ℕ, false, ◌||◌, List, ap, ◌∙◌}
use Rattle.std.specs.Str.{bytes_eq}
use Rattle.top_module.proofs.Added.{one_added, any_more}
use Rattle.top_module.specs.Marks.{is_among}
use Rattle.top_module.proofs.ports.table_of.Goals as goal

pub loop-own-preserved : goal.loop-own-preserved
loop-own-preserved c name =
    any_more (λ n. bytes_eq n name) c.args.names.now c.loop-own.own-index c.own-item.result false (is_among name c.loop-own.table) (is_among name c.add.new.self) c.loop-own-test.true c.own-item.is (c.loop-own.invariant name)
    (one_added c.loop-own.table c.as_slice.result.now c.add.new.self c.in_ok-add.field-0.is_new c.in_ok-add.ensures.fresh c.in_ok-add.ensures.added name ∙ ap (λ (n : List ℕ). is_among name c.loop-own.table || bytes_eq n name) c.as_slice.ensures)
