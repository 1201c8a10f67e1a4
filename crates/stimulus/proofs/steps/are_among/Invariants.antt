use Rattle.std.proofs.Common.{◌≡◌, drop}
use Rattle.std.specs.List.{list_all}
use Rattle.stimulus.specs.Asked.{is_among}
use Rattle.stimulus.proofs.steps.are_among.Given as goal

abbrev pub invariant-loop-member : goal.invariant-loop-member
invariant-loop-member l = list_all (λ m. is_among l.names m.key) (drop l.member-index l.step) ≡ list_all (λ m. is_among l.names m.key) l.step
