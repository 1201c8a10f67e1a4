-- Probes that fit a net.
use Rattle.std.specs.Prelude.{◌<◌, ◌≤◌, ◌+◌, ◌^◌, ℕ, length}
use Rattle.std.specs.List.{All}
use Rattle.probe_cones.specs.declared.probe.Probes.{Probes}

-- Each wire is one of the net's, each cycle is below 2^20, and probes and indices are together at most the order.
pub record AreFit (wires order : ℕ) (asked : Probes) : Type 0 where
  pub in_range : All (λ p. p.wire < wires) asked.probes
  pub cycles : All (λ p. p.cycle < 2 ^ 20) asked.probes
  pub few : length asked.probes + length asked.indices ≤ order
