use Rattle.std.proofs.Common.{◌≡◌, All, Bool, List, length, sym, ◌∙◌, subst}
use Rattle.std.proofs.lemmas.List.{take_all}
use Rattle.std.proofs.lemmas.List.Elements.{All-more}
use Rattle.simulation_tests.proofs.fitting.are_wide.Goals as goal

pub loop-row-preserved : goal.loop-row-preserved
loop-row-preserved c =
    let IsWide : List Bool → Type 0 = λ row. length row ≡ c.args.width in
    All-more IsWide c.args.rows.now c.loop-row.row-index c.row-item.result c.loop-row-test.true c.loop-row.invariant (subst IsWide c.row-item.is (sym c.len.ensures ∙ c.if-len-width.false))

pub returns : goal.returns
returns c = λ told. subst (λ (rows : List (List Bool)). All (λ row. length row ≡ c.args.width) rows) (take_all c.loop-row.row-index c.args.rows.now c.loop-row-test.false) c.loop-row.invariant
