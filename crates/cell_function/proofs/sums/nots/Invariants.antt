use Rattle.std.proofs.Common.{◌≡◌, ◌-◌}
use Rattle.cell_function.specs.Reading as spec
use Rattle.cell_function.specs.Tree.{tree_of}
use Rattle.cell_function.proofs.sums.nots.Given as goal

abbrev pub invariant-loop : goal.invariant-loop
invariant-loop l = spec.nots (l.count - l.counter) (tree_of l.inverted) ≡ spec.nots l.count (tree_of l.fn.function)
