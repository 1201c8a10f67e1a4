use Rattle.std.proofs.Common.{◌≡◌}
use Rattle.top_module.specs.Top.{has_top}
use Rattle.top_module.proofs.Numbering.{below}
use Rattle.top_module.proofs.top.marked.Given as goal

abbrev pub invariant-loop-number : goal.invariant-loop-number
invariant-loop-number l = l.numbers ≡ below has_top l.modules l.number
