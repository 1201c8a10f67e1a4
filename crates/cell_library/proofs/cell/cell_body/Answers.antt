use Rattle.std.proofs.Common.{refl, sym, ◌∙◌}
use Rattle.std.proofs.lemmas.Result.{err_from_is_err_and}
use Rattle.liberty_text.specs.Tokens.{tokens_of}
use Rattle.liberty_statements.specs.Reading.{statements_at, body_at}
use Rattle.cell_library.specs.Steps.{fold_all, cell_more, no_cell}
use Rattle.cell_library.specs.Read.{read_cell}
use Rattle.cell_library.specs.Texts.{cell_texts}
use Rattle.cell_library.specs.View as view
use Rattle.cell_library.proofs.Folds.{kept_less, fold_go, fold_fails, fold_end, whole_fails}
use Rattle.cell_library.proofs.Wholes.{cell_whole}
use Rattle.cell_library.proofs.cell.cell_body.Goals as goal

pub statements-init : goal.statements-init
statements-init c = rw (c.new.ensures, c.new-2.ensures) refl

pub returns-in_err-more : goal.returns-in_err-more
returns-in_err-more c =
    let p = err_from_is_err_and c.from_residual.result c.from_residual.ensures.1 in
    rw (p.1, p.2) (whole_fails c.in_err-more.field-0.0 c.args.depth (fold_all cell_more (view.raw_cell c.statements.cell)) (fold_all cell_more no_cell) (λ ss. read_cell (cell_texts ss)) (tokens_of c.statements.rest.now) (tokens_of c.args.text.now) c.statements.invariant
    (fold_fails c.in_err-more.field-0.0 c.args.depth (cell_more (view.raw_cell c.statements.cell)) (fold_all cell_more (view.raw_cell c.statements.cell)) (tokens_of c.statements.rest.now) (sym c.begins.ensures ∙ c.statements-test.true) c.in_err-more.ensures))

pub statements-smaller : goal.statements-smaller
statements-smaller c = kept_less c.args.depth (cell_more (view.raw_cell c.statements.cell)) (tokens_of c.statements.rest.now) (view.raw_cell c.in_ok-more.more, tokens_of c.in_ok-more.behind.now) c.in_ok-more.ensures

pub statements-preserved : goal.statements-preserved
statements-preserved c =
    fold_go c.args.depth cell_more (view.raw_cell c.statements.cell) (view.raw_cell c.in_ok-more.more) (tokens_of c.statements.rest.now) (tokens_of c.in_ok-more.behind.now) (sym c.begins.ensures ∙ c.statements-test.true) c.in_ok-more.ensures ∙ c.statements.invariant

pub returns : goal.returns
returns c =
    cell_whole (statements_at (body_at c.args.depth) (tokens_of c.args.text.now))
    ∙ (sym c.statements.invariant ∙ fold_end c.args.depth cell_more (view.raw_cell c.statements.cell) (tokens_of c.statements.rest.now) (tokens_of c.in_ok-rest.rest.now) c.in_ok-rest.ensures)
