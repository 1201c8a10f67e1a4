use Rattle.std.proofs.Common.{refl, sym, ◌∙◌}
use Rattle.std.proofs.lemmas.Result.{err_from_is_err_and}
use Rattle.liberty_text.specs.Tokens.{tokens_of}
use Rattle.cell_library.specs.Steps.{cell_more}
use Rattle.cell_library.specs.View as view
use Rattle.cell_library.proofs.Groups.{over_args_kept, over_complex_kept, over_group_fails_kept, over_group_kept}
use Rattle.cell_library.proofs.CellSteps.{kinds_kept}
use Rattle.cell_library.proofs.cell.other_group.Goals as goal

pub returns-in_err-rest : goal.returns-in_err-rest
returns-in_err-rest c =
    let p = err_from_is_err_and c.from_residual.result c.from_residual.ensures.1 in
    rw (p.1, p.2) (over_args_kept c.in_err-rest.field-0.0 (cell_more (view.raw_cell c.args.cell)) c.args.depth c.args.name.now (tokens_of c.args.text.now) c.in_err-rest.ensures)

pub returns-then-not-begins : goal.returns-then-not-begins
returns-then-not-begins c =
    over_complex_kept (cell_more (view.raw_cell c.args.cell)) (view.raw_cell c.args.cell) c.args.depth c.args.name.now (tokens_of c.args.text.now) (tokens_of c.in_ok-rest.rest.now) c.in_ok-rest.ensures (sym c.begins.ensures ∙ c.if-not-begins.true) (λ xs e. refl)
    ∙ rw c.ended.ensures refl

pub returns-in_err-behind : goal.returns-in_err-behind
returns-in_err-behind c =
    let p = err_from_is_err_and c.from_residual-in_err-behind.result c.from_residual-in_err-behind.ensures.1 in
    rw (p.1, p.2) (over_group_fails_kept c.in_err-behind.field-0.0 (cell_more (view.raw_cell c.args.cell)) c.args.depth c.args.name.now (tokens_of c.args.text.now) (tokens_of c.in_ok-rest.rest.now) (tokens_of c.in_ok-inner.inner.now) c.in_ok-rest.ensures c.in_ok-inner.ensures c.in_err-behind.ensures)

pub returns : goal.returns
returns c =
    over_group_kept (cell_more (view.raw_cell c.args.cell)) _ c.args.depth c.args.name.now (tokens_of c.args.text.now) (tokens_of c.in_ok-rest.rest.now) (tokens_of c.in_ok-inner.inner.now) (tokens_of c.in_ok-behind.behind.now) c.in_ok-rest.ensures c.in_ok-inner.ensures c.in_ok-behind.ensures
    (λ xs ss e. kinds_kept (view.raw_cell c.args.cell) c.args.name.now xs ss e (view.kinds c.kinds_more.result) c.requires.no_pin c.requires.no_flip c.kinds_more.ensures)
    ∙ rw c.ended-2.ensures refl
