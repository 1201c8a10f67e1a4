use Rattle.std.proofs.Common.{◌+◌, subst, refl, arith}
use Rattle.share_wiring.specs.Wiring.{Wiring}
use Rattle.share_wiring.specs.Adds.{Extends}
use Rattle.share_wiring.proofs.Runs.{extends_same}
use Rattle.share_wiring.proofs.builder.Builder.begin_gadget.Goals as goal

pub returns-clause-extends : goal.returns-clause-extends
returns-clause-extends c =
    let old : Wiring = record { ports = c.self.inside.ports.items; wires = c.self.inside.wires.items; gadgets = c.self.inside.gadgets; given = c.self.inside.given } in
    let new : Wiring = record old { gadgets = old.gadgets + 1 } in
    subst (λ (net : Wiring). Extends net new) c.self.view_is (extends_same old new refl (omega arith))
