use Rattle.std.proofs.Common.{◌≡◌, filter, not}
use Rattle.std.specs.Prelude.{codes}
use Rattle.std.specs.Str.{bytes_eq}
use Rattle.stimulus.proofs.inputs.but_random.Given as goal

abbrev pub invariant-loop-input : goal.invariant-loop-input
invariant-loop-input l = l.kept ≡ filter (λ i. not (bytes_eq i.name (codes "agm_r"))) l.yielded
