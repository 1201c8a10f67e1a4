use Rattle.std.proofs.Common.{◌≡◌, ◌-◌}
use Rattle.cell_function.specs.Parts.{parts_of}
use Rattle.cell_function.specs.Reading as spec
use Rattle.cell_function.specs.Tree.{tree_of}
use Rattle.cell_function.proofs.sums.primes.Given as goal

abbrev pub invariant-loop : goal.invariant-loop
invariant-loop l = spec.primes_at (l.limit - l.counter) (tree_of l.inverted) (parts_of l.rest) ≡ spec.primes_at l.limit (tree_of l.fn.function) (parts_of l.text)
