use Rattle.std.proofs.Common.{◌≡◌, List, sym, ap, subst}
use Rattle.share_wiring.specs.Wiring.{Wiring, IsRun, IsSharing, share}
use Rattle.share_wiring.specs.Own.{closed_wires}
use Rattle.share_wiring.specs.Adds.{AreHeld}
use Rattle.share_wiring.specs.Built.{IsBuilt}
use Rattle.share_wiring.specs.declared.gate.Wire.{Wire}
use Rattle.share_wiring.proofs.Closing.{close_built, close_keeps}
use Rattle.share_wiring.specs.Adds.{random_bits}
use Rattle.share_wiring.specs.Networks.{Rules, KeepsNetwork, AreNamed}
use Rattle.share_wiring.proofs.CloseRules.{close_rules}
use Rattle.share_wiring.proofs.builder.Builder.close.Goals as goal

pub invariant_of-self : goal.invariant_of-self
invariant_of-self g c =
    let old : Wiring = record { ports = c.self.inside.ports.items; wires = c.self.inside.wires.items; gadgets = c.self.inside.gadgets; given = c.self.inside.given } in
    let are = subst (λ (net : Wiring). AreHeld g.row.S net.wires c.args.held.now.shares) (sym c.self.view_is) c.requires.held in
    let next = subst (λ (net : Wiring). IsSharing net.wires g.row.S c.args.next.now.shares) (sym c.self.view_is) c.requires.next in (
      subst (λ ws. IsBuilt (record old { wires = ws })) (sym c.close_wires.ensures) (close_built old g.row.S c.args.held.now.shares c.args.next.now.shares are c.self.invariant.0 next),
      c.self.invariant.1,
    )

pub returns-clause-value : goal.returns-clause-value
returns-clause-value g c cycles bits run =
    let old : Wiring = record { ports = c.self.inside.ports.items; wires = c.self.inside.wires.items; gadgets = c.self.inside.gadgets; given = c.self.inside.given } in
    let are = subst (λ (net : Wiring). AreHeld g.row.S net.wires c.args.held.now.shares) (sym c.self.view_is) c.requires.held in
    let kept = close_keeps old g.row.S c.args.held.now.shares c.args.next.now.shares are cycles bits (subst (λ (ws : List Wire). IsRun ws cycles bits) c.close_wires.ensures run) in
    (subst (λ (net : Wiring). IsRun net.wires cycles bits) c.self.view_is kept.0, kept.1)

pub returns-clause-made : goal.returns-clause-made
returns-clause-made g c =
    let old : Wiring = record { ports = c.self.inside.ports.items; wires = c.self.inside.wires.items; gadgets = c.self.inside.gadgets; given = c.self.inside.given } in
    subst (λ (net : Wiring). record old { wires = c.close_wires.new.wires.items } ≡ record net { wires = closed_wires g.row.S (share c.args.held.now.shares) (share c.args.next.now.shares) net.wires }) c.self.view_is
    (ap (λ ws. record old { wires = ws }) c.close_wires.ensures)

pub returns-clause-network : goal.returns-clause-network
returns-clause-network g c d le small named =
    let old : Wiring = record { ports = c.self.inside.ports.items; wires = c.self.inside.wires.items; gadgets = c.self.inside.gadgets; given = c.self.inside.given } in
    let bits = random_bits old.ports in
    let are = subst (λ (net : Wiring). AreHeld g.row.S net.wires c.args.held.now.shares) (sym c.self.view_is) c.requires.held in
    let next = subst (λ (net : Wiring). IsSharing net.wires g.row.S c.args.next.now.shares) (sym c.self.view_is) c.requires.next in
    let names = subst (λ (net : Wiring). AreNamed g.row.S net.wires c.args.held.now.shares) (sym c.self.view_is) named in
    subst (λ (net : Wiring). KeepsNetwork d net (record old { wires = c.close_wires.new.wires.items })) c.self.view_is
    (λ before. subst (λ ws. Rules d old.gadgets ws old.given bits) (sym c.close_wires.ensures)
    (close_rules old d old.gadgets g.row.S c.args.held.now.shares c.args.next.now.shares bits are names next le small before))
