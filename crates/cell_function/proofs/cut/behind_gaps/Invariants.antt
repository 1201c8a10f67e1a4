use Rattle.std.proofs.Common.{◌≡◌, length}
use Rattle.cell_function.specs.Parts.{parts_of}
use Rattle.cell_function.proofs.cut.behind_gaps.Given as goal

abbrev pub invariant-loop-behind : goal.invariant-loop-behind
invariant-loop-behind l = parts_of l.rest ≡ parts_of l.bytes

abbrev pub decreases-loop-behind : goal.decreases-loop-behind
decreases-loop-behind l = length l.rest
