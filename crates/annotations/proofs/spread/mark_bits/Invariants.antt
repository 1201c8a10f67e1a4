use Rattle.std.proofs.Common.{◌≡◌, ℕ, true, take}
use Rattle.std.specs.List.{list_any}
use Rattle.std.specs.Prelude.{◌==◌}
use Rattle.agm_net.specs.View.{plain_of}
use Rattle.annotations.specs.Spread.{is_set, AreReached}
use Rattle.annotations.proofs.spread.mark_bits.Given as goal

abbrev pub invariant-loop-bit : goal.invariant-loop-bit
invariant-loop-bit l = record {
  reached : AreReached (plain_of l.net) l.marks l.queue.items;
  marked : (w : ℕ) → list_any (λ b. b == w) (take l.bit-index l.bits) ≡ true → is_set l.marks w ≡ true;
}
