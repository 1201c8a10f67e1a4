use Rattle.std.proofs.Common.{◌≡◌, ℕ, Some, slice_get, sym, subst}
use Rattle.hpc2_audit.proofs.Texts.{has_kind}
use Rattle.hpc2_audit.proofs.kinds.kind_of.Goals as goal

pub kind_among-requires : goal.kind_among-requires
kind_among-requires c = λ k. subst (λ kinds. (n : ℕ) × (slice_get kinds n ≡ Some k)) (sym c.as_slice.ensures) (has_kind k)
