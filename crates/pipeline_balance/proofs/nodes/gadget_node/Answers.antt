use Rattle.std.proofs.Common.{◌*◌, ◌-◌, ◌/◌, subst₂}
use Rattle.pipeline_balance.specs.declared.values.Value.{Value}
use Rattle.pipeline_balance.specs.Signals.{Products}
use Rattle.pipeline_balance.specs.Valued.{signal, MakesValue}
use Rattle.pipeline_balance.proofs.Sizes.{value_fits}
use Rattle.pipeline_balance.proofs.Noding as noding
use Rattle.pipeline_balance.proofs.nodes.gadget_node.Goals as goal

pub gadget-requires : goal.gadget-requires
gadget-requires g c =
    let n = g.row.S in (
      value_fits n c.requires.size.1,
      (
        c.requires.size,
        (
          noding.value_read n _ c.args.table.now c.args.late (c.args.level - 1) c.read-x.result c.requires.late c.requires.values c.read-x.ensures,
          (
            noding.value_read n _ c.args.table.now c.args.early (c.args.level - 2) c.read-y.result c.requires.early c.requires.values c.read-y.ensures,
            (c.requires.random, c.requires.gadgets),
          ),
        ),
      ),
    )

pub returns-clause-made : goal.returns-clause-made
returns-clause-made g c =
    let n = g.row.S in
    subst₂ (λ (x y : Value n). MakesValue c.args.builder.now c.gadget.new.builder n 1 (n * (n - 1) / 2) c.in_ok-answer.answer (λ cycles bits. Products cycles (signal n bits x) (signal n bits y) (signal n bits c.in_ok-answer.answer)))
    c.read-x.ensures c.read-y.ensures c.in_ok-answer.ensures.made
