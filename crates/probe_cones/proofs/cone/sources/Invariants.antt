use Rattle.std.proofs.Common.{◌≡◌, ◌++◌, drop, filter}
use Rattle.probe_cones.specs.Origins.{comes_from_source, origin_at}
use Rattle.probe_cones.proofs.cone.sources.Given as goal

abbrev pub invariant-loop-wire : goal.invariant-loop-wire
invariant-loop-wire l = l.found.items ++ filter (λ v. comes_from_source (origin_at l.origins v)) (drop l.wire-index l.wires) ≡ filter (λ v. comes_from_source (origin_at l.origins v)) l.wires
