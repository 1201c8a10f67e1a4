use Rattle.std.proofs.Common.{◌≡◌, All, length, take}
use Rattle.simulation_tests.proofs.fitting.are_wide.Given as goal

abbrev pub invariant-loop-row : goal.invariant-loop-row
invariant-loop-row l = All (λ row. length row ≡ l.width) (take l.row-index l.rows)
