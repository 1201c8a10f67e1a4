use Rattle.std.proofs.Common.{◌≡◌, ◌<◌, ℕ, length, get_or}
use Rattle.probe_cones.specs.Origins.{origin_at}
use Rattle.probe_cones.specs.declared.origins.Origin.TheVariants.{Clock}
use Rattle.probe_cones.proofs.origins.mark_clock.Given as goal

abbrev pub invariant-loop-bit : goal.invariant-loop-bit
invariant-loop-bit l = record {
  as_many : length l.origins ≡ length l.fn.origins;
  marked : (k : ℕ) → k < l.bit-index → origin_at l.origins (get_or l.bits k 0) ≡ Clock;
  others : (w : ℕ) → ((k : ℕ) → k < l.bit-index → get_or l.bits k 0 ≡ w → Prim.⊥) → origin_at l.origins w ≡ origin_at l.fn.origins w;
}
