use Rattle.std.proofs.Common.{◌≡◌, not}
use Rattle.top_module.specs.Marks.{is_among}
use Rattle.top_module.proofs.Numbering.{below}
use Rattle.top_module.proofs.top.others.Given as goal

abbrev pub invariant-loop-number : goal.invariant-loop-number
invariant-loop-number l = l.numbers ≡ below (λ m. not (is_among m.name l.names)) l.modules l.number
