use Rattle.std.proofs.Common.{sym, ◌∙◌}
use Rattle.std.proofs.lemmas.Result.{err_from_is_err_and}
use Rattle.cell_function.specs.Parts.{parts_of}
use Rattle.cell_function.specs.Tree.{tree_of}
use Rattle.cell_function.proofs.Whole.{function_fails, function_done, function_more}
use Rattle.cell_function.proofs.read.function.Goals as goal

pub returns-in_err-function : goal.returns-in_err-function
returns-in_err-function c =
    let p = err_from_is_err_and c.from_residual.result c.from_residual.ensures.1 in
    rw (p.1, p.2) (function_fails c.in_err-function.field-0.0 c.args.limit (parts_of c.args.text.now) c.in_err-function.ensures)

pub returns-then-is_at_end : goal.returns-then-is_at_end
returns-then-is_at_end c =
    function_done c.args.limit (parts_of c.args.text.now) (parts_of c.in_ok-function.rest.now) (tree_of c.in_ok-function.function) c.in_ok-function.ensures (sym c.is_at_end.ensures ∙ c.if-is_at_end.true)

pub returns-else-is_at_end : goal.returns-else-is_at_end
returns-else-is_at_end c =
    function_more c.args.limit (parts_of c.args.text.now) (parts_of c.in_ok-function.rest.now) (tree_of c.in_ok-function.function) c.in_ok-function.ensures (sym c.is_at_end.ensures ∙ c.if-is_at_end.false)
