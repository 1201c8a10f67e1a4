use Rattle.std.proofs.Common.{◌≡◌, ◌≤◌, ◌-◌}
use Rattle.cell_function.specs.Parts.{parts_of}
use Rattle.cell_function.specs.Reading as spec
use Rattle.cell_function.proofs.sums.bangs.Given as goal

abbrev pub invariant-loop : goal.invariant-loop
invariant-loop l = (spec.bangs_at (l.limit - l.counter) l.count (parts_of l.rest) ≡ spec.bangs_at l.limit 0 (parts_of l.text)) × (l.count ≤ l.counter)
