use Rattle.std.proofs.Common.{◌≡◌, drop, is_some}
use Rattle.std.specs.List.{list_all}
use Rattle.stimulus.proofs.steps.are_all_there.Given as goal

abbrev pub invariant-loop-text : goal.invariant-loop-text
invariant-loop-text l = list_all (λ t. is_some t) (drop l.text-index l.texts) ≡ list_all (λ t. is_some t) l.texts
