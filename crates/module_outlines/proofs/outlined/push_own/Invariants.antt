use Rattle.std.proofs.Common.{◌≡◌, ◌++◌, map, take, filter, not}
use Rattle.module_rules.specs.Items.{is_among}
use Rattle.module_outlines.specs.Outlines.{wide}
use Rattle.module_outlines.specs.View.{wide_view}
use Rattle.module_outlines.proofs.outlined.push_own.Given as goal

abbrev pub invariant-loop-name : goal.invariant-loop-name
invariant-loop-name l = map wide_view l.wides ≡ map wide_view l.initial.wides ++ map (wide l.range) (filter (λ n. not (is_among l.ports n)) (take l.name-index l.names))
