use Rattle.std.proofs.Common.{true, map}
use Rattle.share_wiring.specs.Wiring.{share}
use Rattle.pipeline_balance.specs.Leaving.{made_header, AreRowsLed}
use Rattle.pipeline_balance.proofs.leaving.shares_out.Given as goal

abbrev pub invariant-loop-i : goal.invariant-loop-i
invariant-loop-i g l = AreRowsLed l.place l.i (made_header true l.port) (λ i. map (λ z. share z.shares i) l.sharings) l.initial.builder l.builder
