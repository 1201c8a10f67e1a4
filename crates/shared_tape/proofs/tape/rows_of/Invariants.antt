use Rattle.std.proofs.Common.{◌≡◌, map, length}
use Rattle.std.specs.List.{range_with_len}
use Rattle.shared_tape.specs.Filled.{filled}
use Rattle.shared_tape.specs.Rows.{tape_row}
use Rattle.shared_tape.proofs.tape.rows_of.Given as goal

abbrev pub invariant-loop-cycle : goal.invariant-loop-cycle
invariant-loop-cycle l = l.rows ≡ map (tape_row l.seed l.report l.sharer.secrets l.sharer.inputs (filled (length l.sharer.secrets) l.width l.report.streams l.sharer.steps l.streams) l.sharer.steps) (range_with_len 0 l.cycle)
