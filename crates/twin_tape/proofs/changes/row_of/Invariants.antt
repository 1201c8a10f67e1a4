use Rattle.std.proofs.Common.{◌≡◌, ◌++◌, drop}
use Rattle.twin_tape.specs.Changes.{changed_row}
use Rattle.twin_tape.proofs.changes.row_of.Given as goal

abbrev pub invariant-loop-k : goal.invariant-loop-k
invariant-loop-k l =
    l.row ++ changed_row l.plan l.table l.other l.cycle (drop l.k l.pairs) (drop l.k l.random) ≡ changed_row l.plan l.table l.other l.cycle l.pairs l.random
