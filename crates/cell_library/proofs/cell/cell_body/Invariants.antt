use Rattle.std.proofs.Common.{◌≡◌, length}
use Rattle.liberty_text.specs.Tokens.{tokens_of}
use Rattle.liberty_statements.specs.Reading as reading
use Rattle.cell_library.specs.Steps as spec
use Rattle.cell_library.specs.View as view
use Rattle.cell_library.proofs.cell.cell_body.Given as goal

abbrev pub invariant-statements : goal.invariant-statements
invariant-statements l =
    reading.as_value (spec.fold_all spec.cell_more (view.raw_cell l.cell)) (reading.statements_at (reading.body_at l.depth) (tokens_of l.rest))
    ≡ reading.as_value (spec.fold_all spec.cell_more spec.no_cell) (reading.statements_at (reading.body_at l.depth) (tokens_of l.text))

abbrev pub decreases-statements : goal.decreases-statements
decreases-statements l = length (tokens_of l.rest)
