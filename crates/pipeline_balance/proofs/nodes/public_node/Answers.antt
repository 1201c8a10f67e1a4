use Rattle.std.proofs.Common.{◌∙◌, ◌&&◌, ◌||◌, subst₂, ap₂, arith}
use Rattle.pipeline_balance.specs.declared.values.Value.{Value}
use Rattle.pipeline_balance.specs.Signals.{Joins}
use Rattle.pipeline_balance.specs.Valued.{signal, MakesValue}
use Rattle.pipeline_balance.proofs.Sizes.{value_fits}
use Rattle.pipeline_balance.proofs.Noding as noding
use Rattle.pipeline_balance.proofs.nodes.public_node.Goals as goal

pub product-requires : goal.product-requires
product-requires g c =
    let n = g.row.S in
    let two = c.requires.size.0 in (
      value_fits n c.requires.size.1,
      (
        (omega (arith, two), c.requires.size.1),
        (
          noding.value_read n _ c.args.table.now c.args.a c.args.level c.read-x.result c.requires.first c.requires.values c.read-x.ensures,
          (
            noding.value_read n _ c.args.table.now c.args.b c.args.level c.read-y.result c.requires.second c.requires.values c.read-y.ensures,
            ap₂ (λ x y. x && y)
                (noding.kind_read n _ c.args.table.now c.args.a c.args.level c.read-x.result c.requires.first c.requires.values c.read-x.ensures)
                (noding.kind_read n _ c.args.table.now c.args.b c.args.level c.read-y.result c.requires.second c.requires.values c.read-y.ensures) ∙ c.requires.public,
          ),
        ),
      ),
    )

pub returns-clause-kind : goal.returns-clause-kind
returns-clause-kind g c =
    let n = g.row.S in
    c.in_ok-made.ensures.kind ∙ ap₂ (λ x y. x || y)
    (noding.kind_read n _ c.args.table.now c.args.a c.args.level c.read-x.result c.requires.first c.requires.values c.read-x.ensures)
    (noding.kind_read n _ c.args.table.now c.args.b c.args.level c.read-y.result c.requires.second c.requires.values c.read-y.ensures)

pub returns-clause-made : goal.returns-clause-made
returns-clause-made g c =
    let n = g.row.S in
    subst₂ (λ (x y : Value n). MakesValue c.args.builder.now c.product.new.builder n 0 0 c.in_ok-made.made (λ cycles bits. Joins cycles (λ x y. x && y) (signal n bits x) (signal n bits y) (signal n bits c.in_ok-made.made)))
    c.read-x.ensures c.read-y.ensures c.in_ok-made.ensures.made
