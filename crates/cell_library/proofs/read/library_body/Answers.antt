use Rattle.std.proofs.Common.{[], map, refl, sym, ◌∙◌}
use Rattle.std.proofs.lemmas.Result.{err_from_is_err_and}
use Rattle.liberty_text.specs.Tokens.{tokens_of}
use Rattle.liberty_statements.specs.Reading.{statements_at, body_at}
use Rattle.cell_library.specs.Steps.{fold_all, cells_more, cells_in}
use Rattle.cell_library.specs.Spelled.{cell_of}
use Rattle.cell_library.proofs.Folds.{kept_less, fold_go, fold_fails, fold_end, whole_fails}
use Rattle.cell_library.proofs.LibrarySteps.{library_whole}
use Rattle.cell_library.proofs.read.library_body.Goals as goal

pub statements-init : goal.statements-init
statements-init c = rw c.new-cells.ensures refl

pub returns-in_err-more : goal.returns-in_err-more
returns-in_err-more c =
    let p = err_from_is_err_and c.from_residual.result c.from_residual.ensures.1 in
    rw (p.1, p.2) (whole_fails c.in_err-more.field-0.0 c.args.depth (fold_all cells_more (map cell_of c.statements.cells)) (fold_all cells_more []) cells_in (tokens_of c.statements.rest.now) (tokens_of c.args.text.now) c.statements.invariant
    (fold_fails c.in_err-more.field-0.0 c.args.depth (cells_more (map cell_of c.statements.cells)) (fold_all cells_more (map cell_of c.statements.cells)) (tokens_of c.statements.rest.now) (sym c.begins.ensures ∙ c.statements-test.true) c.in_err-more.ensures))

pub statements-smaller : goal.statements-smaller
statements-smaller c = kept_less c.args.depth (cells_more (map cell_of c.statements.cells)) (tokens_of c.statements.rest.now) (map cell_of c.in_ok-more.more, tokens_of c.in_ok-more.behind.now) c.in_ok-more.ensures

pub statements-preserved : goal.statements-preserved
statements-preserved c =
    fold_go c.args.depth cells_more (map cell_of c.statements.cells) (map cell_of c.in_ok-more.more) (tokens_of c.statements.rest.now) (tokens_of c.in_ok-more.behind.now) (sym c.begins.ensures ∙ c.statements-test.true) c.in_ok-more.ensures ∙ c.statements.invariant

pub returns : goal.returns
returns c =
    library_whole (statements_at (body_at c.args.depth) (tokens_of c.args.text.now))
    ∙ (sym c.statements.invariant ∙ fold_end c.args.depth cells_more (map cell_of c.statements.cells) (tokens_of c.statements.rest.now) (tokens_of c.in_ok-rest.rest.now) c.in_ok-rest.ensures)
