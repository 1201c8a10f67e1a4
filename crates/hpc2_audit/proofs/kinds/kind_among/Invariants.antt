use Rattle.std.proofs.Common.{◌≡◌, ◌<◌, ℕ, Some, slice_get}
use Rattle.agm_net.specs.declared.label.PartKind.{PartKind}
use Rattle.agm_net.proofs.OnePart.{word}
use Rattle.hpc2_audit.proofs.kinds.kind_among.Given as goal

abbrev pub invariant-loop-kind : goal.invariant-loop-kind
invariant-loop-kind l = (n : ℕ) (k : PartKind) → n < l.kind-index → slice_get l.kinds n ≡ Some k → l.letters ≡ word k → ⊥
