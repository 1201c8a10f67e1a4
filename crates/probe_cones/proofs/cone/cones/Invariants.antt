use Rattle.std.proofs.Common.{◌≡◌, ◌≤◌, ◌++◌, ℕ, length, map, drop, get_or}
use Rattle.agm_net.specs.View.{plain_of}
use Rattle.probe_cones.specs.Cone.{cone}
use Rattle.probe_cones.proofs.cone.cones.Given as goal

abbrev pub invariant-loop-i : goal.invariant-loop-i
invariant-loop-i l = record {
  as_many : length l.walk.stamps.items ≡ length l.net.wires;
  low : (v : ℕ) → get_or l.walk.stamps.items v 0 ≤ l.i;
  done : l.cones ++ map (cone (plain_of l.net)) (drop l.i l.wires) ≡ map (cone (plain_of l.net)) l.wires;
}
