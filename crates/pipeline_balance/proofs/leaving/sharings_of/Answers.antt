use Rattle.std.proofs.Common.{◌++◌, [], ◌∷◌, take, ap, sym, subst, subst₂, ◌∙◌}
use Rattle.std.proofs.lemmas.List.{take_more}
use Rattle.hpc2_gadget.proofs.Sizes.{array_fits}
use Rattle.pipeline_balance.specs.declared.values.Value.TheVariants.{Public}
use Rattle.pipeline_balance.specs.Chained.{value_at}
use Rattle.pipeline_balance.specs.Leaving.{AreSpread}
use Rattle.pipeline_balance.specs.Valued.{IsValue}
use Rattle.pipeline_balance.proofs.Adding.{value_still}
use Rattle.pipeline_balance.proofs.LeavingValues.{spread_more}
use Rattle.pipeline_balance.proofs.Sizes.{value_fits}
use Rattle.pipeline_balance.proofs.leaving.sharings_of.Goals as goal

pub secret_of-requires : goal.secret_of-requires
secret_of-requires g c =
    let n = g.row.S in
    let v = value_at c.args.values.now c.loop-j.j in (
      value_fits n c.requires.size.1,
      (
        array_fits n c.requires.size.1,
        (
          c.requires.size,
          subst (IsValue n c.loop-j.builder) (sym c.source_value-value.ensures) (value_still n c.args.builder.now c.loop-j.builder v c.loop-j.invariant.adds.extends (c.requires.values c.loop-j.j c.loop-j-test.true)),
        ),
      ),
    )

pub loop-j-preserved : goal.loop-j-preserved
loop-j-preserved g c =
    let n = g.row.S in
    let old = c.args.builder.now in
    let new = c.secret_of.new.builder in
    let j = c.loop-j.j in
    let values = c.args.values.now in
    let v = c.source_value-value.result in
    let more = spread_more n old c.loop-j.builder new (take j values) c.loop-j.sharings v c.in_ok-sharing.sharing c.loop-j.invariant c.in_ok-sharing.ensures in
    subst₂ (λ vs zs. AreSpread n old new vs zs)
    (ap (λ u. take j values ++ u ∷ []) c.source_value-value.ensures ∙ sym (take_more values j (Public (record { shares = [] })) c.loop-j-test.true))
    (sym c.in_ok-push.ensures.ok) more
