use Rattle.std.proofs.Common.{◌≢◌, ◌<◌, ◌+◌, length, get_or, sym, refl, subst, ◌∙◌, arith}
use Rattle.std.specs.List.{AllByRecursion}
use Rattle.share_wiring.specs.Wiring.{Wiring}
use Rattle.share_wiring.specs.Adds.{Extends, random_bits, given_bits}
use Rattle.share_wiring.proofs.PortBits.{random_within, random_new}
use Rattle.share_wiring.proofs.Runs.{extends_same}
use Rattle.share_wiring.specs.Networks.{IsRandomWire}
use Rattle.share_wiring.proofs.RandomBits.{random_wire}
use Rattle.share_wiring.proofs.builder.Builder.random.Goals as goal

pub returns-clause-within : goal.returns-clause-within
returns-clause-within c =
    let old : Wiring = record { ports = c.self.inside.ports.items; wires = c.self.inside.wires.items; gadgets = c.self.inside.gadgets; given = c.self.inside.given } in
    let left = subst (λ (net : Wiring). net.given < length (random_bits net.ports)) (sym c.self.view_is) c.requires in
    let is = c.as_slice.ensures ∙ c.self.invariant.1 in
    subst (λ bits. get_or bits c.self.inside.given 0 < length c.self.inside.wires.items) (sym is) (random_within old c.self.invariant.0 left)

pub returns-clause-extends : goal.returns-clause-extends
returns-clause-extends c =
    let old : Wiring = record { ports = c.self.inside.ports.items; wires = c.self.inside.wires.items; gadgets = c.self.inside.gadgets; given = c.self.inside.given } in
    let new : Wiring = record old { given = old.given + 1 } in
    subst (λ (net : Wiring). Extends net new) c.self.view_is (extends_same old new refl (omega arith))

pub returns-clause-new : goal.returns-clause-new
returns-clause-new c =
    let old : Wiring = record { ports = c.self.inside.ports.items; wires = c.self.inside.wires.items; gadgets = c.self.inside.gadgets; given = c.self.inside.given } in
    let left = subst (λ (net : Wiring). net.given < length (random_bits net.ports)) (sym c.self.view_is) c.requires in
    let is = c.as_slice.ensures ∙ c.self.invariant.1 in
    let here = subst (λ bits. AllByRecursion (λ b. b ≢ get_or bits c.self.inside.given 0) (given_bits old)) (sym is) (random_new old c.self.invariant.0 left) in
    subst (λ (net : Wiring). AllByRecursion (λ b. b ≢ get_or c.as_slice.result.now c.self.inside.given 0) (given_bits net)) c.self.view_is here

pub returns-clause-named : goal.returns-clause-named
returns-clause-named c =
    let old : Wiring = record { ports = c.self.inside.ports.items; wires = c.self.inside.wires.items; gadgets = c.self.inside.gadgets; given = c.self.inside.given } in
    let left = subst (λ (net : Wiring). net.given < length (random_bits net.ports)) (sym c.self.view_is) c.requires in
    let is = c.as_slice.ensures ∙ c.self.invariant.1 in
    subst (λ bits. IsRandomWire c.self.inside.wires.items (get_or bits c.self.inside.given 0)) (sym is) (random_wire old c.self.invariant.0 c.self.inside.given left)
