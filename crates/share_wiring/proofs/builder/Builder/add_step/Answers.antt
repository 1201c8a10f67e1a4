use Rattle.std.proofs.Common.{◌≡◌, ◌<◌, ◌+◌, ◌^◌, ◌∙◌, List, length, take, sym, ap, subst, arith}
use Rattle.share_wiring.specs.Wiring.{Wiring, IsSharing, IsRun, share}
use Rattle.share_wiring.specs.Own.{source_of, step_registers, upto}
use Rattle.share_wiring.specs.Adds.{Extends, AddsStep, AddsRegisters}
use Rattle.share_wiring.specs.Built.{IsBuilt, ReadsPublic, ReadsShares}
use Rattle.share_wiring.specs.declared.gate.Wire.{Wire}
use Rattle.share_wiring.proofs.Runs.{extends_append, extends_refl}
use Rattle.share_wiring.proofs.OwnWires.{step_wires, step_built, step_adds_registers, step_room, made_sharing, made_keep}
use Rattle.share_wiring.specs.Cells.{AddsCells}
use Rattle.share_wiring.proofs.Cells.{step_cells}
use Rattle.share_wiring.specs.Networks.{Rules, KeepsNetwork}
use Rattle.share_wiring.proofs.StepRules.{step_rules, step_named}
use Rattle.share_wiring.specs.Adds.{random_bits}
use Rattle.share_wiring.proofs.builder.Builder.add_step.Goals as goal

pub invariant_of-self : goal.invariant_of-self
invariant_of-self g c =
    let old : Wiring = record { ports = c.self.inside.ports.items; wires = c.self.inside.wires.items; gadgets = c.self.inside.gadgets; given = c.self.inside.given } in
    let x = c.args.x.now.shares in
    let y = c.args.y.now.shares in
    let left = subst (λ (net : Wiring). ReadsShares c.args.step g.row.S net.wires x) (sym c.self.view_is) c.requires.left in
    let right = subst (λ (net : Wiring). ReadsShares c.args.step g.row.S net.wires y) (sym c.self.view_is) c.requires.right in
    let public = subst (λ (net : Wiring). ReadsPublic net.wires c.args.step) (sym c.self.view_is) c.requires.public in
    let count = c.len-count.ensures in
    let fits = c.len-count.type_inv in
    let small : length c.push_step.new.wires.items < 2 ^ 64 = omega arith in
    let room = step_room old g.row.S c.args.step x y c.push_step.new.wires.items c.in-Ok.ensures.ok small in (
      subst (λ ws. IsBuilt (record old { wires = ws })) (sym c.in-Ok.ensures.ok)
          (step_built old g.row.S c.args.step x y c.self.invariant.0 c.requires.size.1 room public left right),
      c.self.invariant.1,
    )

pub returns-in-Ok-clause-extends : goal.returns-in-Ok-clause-extends
returns-in-Ok-clause-extends g c =
    let old : Wiring = record { ports = c.self.inside.ports.items; wires = c.self.inside.wires.items; gadgets = c.self.inside.gadgets; given = c.self.inside.given } in
    let new : Wiring = record old { wires = c.push_step.new.wires.items } in
    subst (λ (net : Wiring). Extends net new) c.self.view_is (extends_append old new (step_wires old g.row.S c.args.step c.args.x.now.shares c.args.y.now.shares) c.in-Ok.ensures.ok (omega arith))

pub returns-in-Ok-clause-shares : goal.returns-in-Ok-clause-shares
returns-in-Ok-clause-shares g c =
    let old : Wiring = record { ports = c.self.inside.ports.items; wires = c.self.inside.wires.items; gadgets = c.self.inside.gadgets; given = c.self.inside.given } in
    let x = c.args.x.now.shares in
    let y = c.args.y.now.shares in
    let count = c.len-count.ensures in
    let fits = c.len-count.type_inv in
    let small : length c.push_step.new.wires.items < 2 ^ 64 = omega arith in
    let room = step_room old g.row.S c.args.step x y c.push_step.new.wires.items c.in-Ok.ensures.ok small in
    let shown = c.ascending.ensures ∙ ap (λ k. upto g.row.S (λ i. k + i)) (c.len-first.ensures ∙ c.self.inside.wires.ok.0) in
    subst (λ ws. IsSharing ws g.row.S c.ascending.result.shares) (sym c.in-Ok.ensures.ok)
    (made_sharing old g.row.S (λ i. source_of c.args.step i (share x i) (share y i)) c.ascending.result.shares c.requires.size.1 room shown)

pub returns-in-Ok-clause-adds : goal.returns-in-Ok-clause-adds
returns-in-Ok-clause-adds g c cycles bits run =
    let old : Wiring = record { ports = c.self.inside.ports.items; wires = c.self.inside.wires.items; gadgets = c.self.inside.gadgets; given = c.self.inside.given } in
    let x = c.args.x.now.shares in
    let y = c.args.y.now.shares in
    let shown = c.ascending.ensures ∙ ap (λ k. upto g.row.S (λ i. k + i)) (c.len-first.ensures ∙ c.self.inside.wires.ok.0) in
    let kept =
    made_keep old g.row.S (λ i. source_of c.args.step i (share x i) (share y i)) c.ascending.result.shares cycles bits shown
    (subst (λ (ws : List Wire). IsRun ws cycles bits) c.in-Ok.ensures.ok run) in
    (subst (λ (net : Wiring). IsRun net.wires cycles bits) c.self.view_is kept.0, kept.1)

pub returns-in-Ok-clause-registers : goal.returns-in-Ok-clause-registers
returns-in-Ok-clause-registers g c =
    let old : Wiring = record { ports = c.self.inside.ports.items; wires = c.self.inside.wires.items; gadgets = c.self.inside.gadgets; given = c.self.inside.given } in
    let new : Wiring = record old { wires = c.push_step.new.wires.items } in
    subst (λ (net : Wiring). AddsRegisters (step_registers c.args.step g.row.S) net new) c.self.view_is
    (step_adds_registers old g.row.S c.args.step c.args.x.now.shares c.args.y.now.shares new c.in-Ok.ensures.ok)

pub returns-in-Err-clause-extends : goal.returns-in-Err-clause-extends
returns-in-Err-clause-extends g c =
    let old : Wiring = record { ports = c.self.inside.ports.items; wires = c.self.inside.wires.items; gadgets = c.self.inside.gadgets; given = c.self.inside.given } in
    let back : c.truncate.new.self.items ≡ c.self.inside.wires.items = c.truncate.ensures.items ∙ (ap (λ k. take k c.push_step.new.wires.items) (c.len-first.ensures ∙ c.self.inside.wires.ok.0) ∙ c.in-Err.ensures.err) in
    subst (λ (net : Wiring). Extends net (record old { wires = c.truncate.new.self.items })) c.self.view_is
    (subst (λ ws. Extends old (record old { wires = ws })) (sym back) (extends_refl old))

pub returns-in-Ok-clause-cells : goal.returns-in-Ok-clause-cells
returns-in-Ok-clause-cells g c =
    let old : Wiring = record { ports = c.self.inside.ports.items; wires = c.self.inside.wires.items; gadgets = c.self.inside.gadgets; given = c.self.inside.given } in
    let new : Wiring = record old { wires = c.push_step.new.wires.items } in
    subst (λ (net : Wiring). AddsCells net new) c.self.view_is (step_cells old new g.row.S c.args.step c.args.x.now.shares c.args.y.now.shares c.in-Ok.ensures.ok)

pub returns-in-Ok-clause-made : goal.returns-in-Ok-clause-made
returns-in-Ok-clause-made g c =
    let old : Wiring = record { ports = c.self.inside.ports.items; wires = c.self.inside.wires.items; gadgets = c.self.inside.gadgets; given = c.self.inside.given } in
    let shown = c.ascending.ensures ∙ ap (λ k. upto g.row.S (λ i. k + i)) (c.len-first.ensures ∙ c.self.inside.wires.ok.0) in
    subst (λ (net : Wiring). AddsStep c.args.step g.row.S net (record old { wires = c.push_step.new.wires.items }) c.args.x.now.shares c.args.y.now.shares c.ascending.result.shares) c.self.view_is
    (record { made = ap (λ ws. record old { wires = ws }) c.in-Ok.ensures.ok; numbers = shown })

pub returns-in-Ok-clause-network : goal.returns-in-Ok-clause-network
returns-in-Ok-clause-network g c d le =
    let old : Wiring = record { ports = c.self.inside.ports.items; wires = c.self.inside.wires.items; gadgets = c.self.inside.gadgets; given = c.self.inside.given } in
    let x = c.args.x.now.shares in
    let y = c.args.y.now.shares in
    let bits = random_bits old.ports in
    let left = subst (λ (net : Wiring). ReadsShares c.args.step g.row.S net.wires x) (sym c.self.view_is) c.requires.left in
    let right = subst (λ (net : Wiring). ReadsShares c.args.step g.row.S net.wires y) (sym c.self.view_is) c.requires.right in
    let public = subst (λ (net : Wiring). ReadsPublic net.wires c.args.step) (sym c.self.view_is) c.requires.public in
    let count = c.len-count.ensures in
    let fits = c.len-count.type_inv in
    let small : length c.push_step.new.wires.items < 2 ^ 64 = omega arith in
    let room = step_room old g.row.S c.args.step x y c.push_step.new.wires.items c.in-Ok.ensures.ok small in
    subst (λ (net : Wiring). KeepsNetwork d net (record old { wires = c.push_step.new.wires.items })) c.self.view_is
    (λ before. subst (λ ws. Rules d old.gadgets ws old.given bits) (sym c.in-Ok.ensures.ok) (step_rules old d old.gadgets g.row.S c.args.step x y bits le c.requires.size.1 room public left right before))

pub returns-in-Ok-clause-named : goal.returns-in-Ok-clause-named
returns-in-Ok-clause-named g c =
    let old : Wiring = record { ports = c.self.inside.ports.items; wires = c.self.inside.wires.items; gadgets = c.self.inside.gadgets; given = c.self.inside.given } in
    let x = c.args.x.now.shares in
    let y = c.args.y.now.shares in
    let count = c.len-count.ensures in
    let fits = c.len-count.type_inv in
    let small : length c.push_step.new.wires.items < 2 ^ 64 = omega arith in
    let room = step_room old g.row.S c.args.step x y c.push_step.new.wires.items c.in-Ok.ensures.ok small in
    let shown = c.ascending.ensures ∙ ap (λ k. upto g.row.S (λ i. k + i)) (c.len-first.ensures ∙ c.self.inside.wires.ok.0) in
    step_named c.args.step g.row.S old (record old { wires = c.push_step.new.wires.items }) x y c.ascending.result.shares room
    (record { made = ap (λ ws. record old { wires = ws }) c.in-Ok.ensures.ok; numbers = shown })
