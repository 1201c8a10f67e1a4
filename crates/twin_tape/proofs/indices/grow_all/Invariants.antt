use Rattle.std.proofs.Common.{◌≡◌, ◌≤◌, ℕ, List}
use Rattle.std.specs.List.{All}
use Rattle.twin_tape.specs.Allowed.{stage_of}
use Rattle.twin_tape.specs.Permitted.{begun, known}
use Rattle.twin_tape.proofs.indices.grow_all.Given as goal

abbrev pub invariant-loop-next : goal.invariant-loop-next
invariant-loop-next l = (A : List ℕ) (T : ℕ) → l.fn.indices.items ≡ begun l.sights A → All (λ s. stage_of s ≤ T) l.sights → l.indices.items ≡ known l.sights A T l.next

abbrev pub decreases-loop-next : goal.decreases-loop-next
decreases-loop-next l = l.next
