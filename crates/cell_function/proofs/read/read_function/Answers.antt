use Rattle.std.proofs.Common.{◌≡◌, length, ap, sym, ◌∙◌}
use Rattle.cell_function.specs.Parts.{parts_of}
use Rattle.cell_function.specs.Reading.{function_at, function_of}
use Rattle.cell_function.specs.Tree.{tree_of}
use Rattle.cell_function.proofs.Whole.{read_is_spelled, none_spelled}
use Rattle.cell_function.proofs.read.read_function.Goals as goal

pub returns-in-Ok-clause-spelled : goal.returns-in-Ok-clause-spelled
returns-in-Ok-clause-spelled c = read_is_spelled (length c.args.text.now) c.args.text.now (tree_of c.in-Ok.function) c.in-Ok.ensures

pub returns-in-Ok-clause-value : goal.returns-in-Ok-clause-value
unfolding function_of
returns-in-Ok-clause-value c = sym c.in-Ok.ensures

pub returns-in-Err-Wrong-clause-spelled : goal.returns-in-Err-Wrong-clause-spelled
returns-in-Err-Wrong-clause-spelled c = none_spelled c.args.text.now (rw c.in-Err-Wrong.field-0-is at c.in-Err-Wrong.ensures)

pub returns-in-Err-Wrong-clause-value : goal.returns-in-Err-Wrong-clause-value
unfolding function_of
returns-in-Err-Wrong-clause-value c = sym (rw c.in-Err-Wrong.field-0-is at c.in-Err-Wrong.ensures)
