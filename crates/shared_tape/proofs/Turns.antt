-- The stream and the step that stand in a cycle.
use Rattle.std.proofs.Common.{◌≡◌, ◌<◌, ◌-◌, ℕ, nat_lt, true, subst, sym, arith}
use Rattle.std.proofs.lemmas.Bool.{and_parts, ltb-true}
use Rattle.std.proofs.Math.Nat.{mod-lt}
use Rattle.share_wiring.specs.ReportOf.{streams_of}
use Rattle.share_wiring.specs.declared.report.Balance.{Balance}
use Rattle.share_wiring.specs.declared.report.Balance.TheVariants.{Pipe, Gate}
use Rattle.shared_tape.specs.Cycles.{has_inputs, stream_in, step_in}

below : (balance : Balance) (period t : ℕ) → 0 < period → stream_in balance period t < streams_of balance period
below Pipe period t some = mod-lt (t - 1) some
below Gate period t some = omega arith

pub stream_below : (balance : Balance) (period t streams : ℕ) → 0 < period → streams ≡ streams_of balance period → stream_in balance period t < streams
stream_below balance period t streams some are = subst (λ n. stream_in balance period t < n) (sym are) (below balance period t some)

pub step_below : (period steps t : ℕ) → has_inputs period steps t ≡ true → step_in period t < steps
step_below period steps t on = ltb-true (step_in period t) steps (and_parts (nat_lt 0 t) (nat_lt (step_in period t) steps) on).1
