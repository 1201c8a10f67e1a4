use Rattle.std.proofs.Common.{◌≡◌, ◌<◌, ℕ, length, map, slice_get, Some}
use Rattle.agm_net.specs.Formula.{Formula}
use Rattle.agm_net.specs.Plain.{line_of}
use Rattle.probe_cones.specs.Origins.{origin_at, IsOf}
use Rattle.probe_cones.proofs.origins.mark_equations.Given as goal

abbrev pub invariant-loop-i : goal.invariant-loop-i
invariant-loop-i l = record {
  as_many : length l.origins ≡ length l.fn.origins;
  marked : (k w : ℕ) (f : Formula) → k < l.i → slice_get (map line_of l.equations) k ≡ Some (w, f) → IsOf (map line_of l.equations) (origin_at l.origins w) w;
  others : (w : ℕ) → ((k : ℕ) (f : Formula) → k < l.i → slice_get (map line_of l.equations) k ≡ Some (w, f) → Prim.⊥) → origin_at l.origins w ≡ origin_at l.fn.origins w;
}
