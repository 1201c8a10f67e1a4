use Rattle.std.proofs.Common.{◌∙◌, sym, ap, is_some}
use Rattle.cell_library.specs.Found.{cell_by}
use Rattle.module_rules.proofs.check.is_cell.Goals as goal
use Rattle.module_rules.proofs.Tables.{cell_tells, some_in_map}

pub returns : goal.returns
returns c =
    c.is_some.ensures
    ∙ (sym (some_in_map (λ x. x.now) c.cell.result)
    ∙ (ap is_some (c.cell.ensures ∙ ap (λ n. cell_by c.args.library.now.cells n) c.as_slice.ensures)
    ∙ cell_tells c.args.library.now.cells c.args.name.now))
