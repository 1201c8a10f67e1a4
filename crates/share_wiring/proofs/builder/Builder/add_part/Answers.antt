use Rattle.std.proofs.Common.{◌≡◌, ◌<◌, ◌^◌, ◌++◌, ◌∷◌, [], ◌∙◌, List, length, sym, ap, subst, arith, IsTrue}
use Rattle.share_wiring.specs.Wiring.{Wiring, IsRun, Keeps}
use Rattle.share_wiring.specs.Adds.{Extends, AddsRegisters}
use Rattle.share_wiring.specs.Built.{IsBuilt, IsNewPart, source_fits, is_stored}
use Rattle.share_wiring.specs.declared.gate.Wire.{Wire}
use Rattle.share_wiring.proofs.Runs.{extends_append, extends_same}
use Rattle.share_wiring.proofs.Parts.{part_built, part_keeps, part_registers}
use Rattle.share_wiring.specs.Cells.{AddsCells}
use Rattle.share_wiring.proofs.Cells.{cells_more}
use Rattle.share_wiring.proofs.builder.Builder.add_part.Goals as goal

pub returns-in_err-push-clause-extends : goal.returns-in_err-push-clause-extends
returns-in_err-push-clause-extends c =
    let old : Wiring = record { ports = c.self.inside.ports.items; wires = c.self.inside.wires.items; gadgets = c.self.inside.gadgets; given = c.self.inside.given } in
    subst (λ (net : Wiring). Extends net (record old { wires = c.push.new.self.items })) c.self.view_is
    (extends_same old (record old { wires = c.push.new.self.items }) c.in_err-push.ensures.items (omega arith))

pub invariant_of-self-2 : goal.invariant_of-self-2
invariant_of-self-2 c =
    let old : Wiring = record { ports = c.self.inside.ports.items; wires = c.self.inside.wires.items; gadgets = c.self.inside.gadgets; given = c.self.inside.given } in
    let name = c.args.name.now in
    let source = c.args.source in
    let part = subst (λ (net : Wiring). IsNewPart net name) (sym c.self.view_is) c.requires.part in
    let fits = subst (λ (net : Wiring). IsTrue (source_fits source (length net.wires) (length net.wires))) (sym c.self.view_is) c.requires.fits in
    let count = c.len-wire.ensures in
    let len = c.self.inside.wires.ok.0 in
    let range = c.len-wire.type_inv in
    let small : length c.self.inside.wires.items < 2 ^ 64 = omega arith in
    let new : c.push.new.self.items ≡ old.wires ++ (record { name = name; source = source }) ∷ [] =
    c.in_ok-push.ensures.items ∙ ap (λ n. old.wires ++ (record { name = n; source = source }) ∷ []) c.in_ok-name.ensures in (
      subst (λ ws. IsBuilt (record old { wires = ws })) (sym new) (part_built old name source c.self.invariant.0 small part fits c.requires.inner),
      c.self.invariant.1,
    )

pub returns-clause-extends : goal.returns-clause-extends
returns-clause-extends c =
    let old : Wiring = record { ports = c.self.inside.ports.items; wires = c.self.inside.wires.items; gadgets = c.self.inside.gadgets; given = c.self.inside.given } in
    subst (λ (net : Wiring). Extends net (record old { wires = c.push.new.self.items })) c.self.view_is
    (extends_append old (record old { wires = c.push.new.self.items }) _ c.in_ok-push.ensures.items (omega arith))

pub returns-clause-adds : goal.returns-clause-adds
returns-clause-adds c cycles bits run =
    let old : Wiring = record { ports = c.self.inside.ports.items; wires = c.self.inside.wires.items; gadgets = c.self.inside.gadgets; given = c.self.inside.given } in
    let at = c.len-wire.ensures ∙ c.self.inside.wires.ok.0 in
    let kept = part_keeps old c.in_ok-name.name c.args.source cycles bits (subst (λ (ws : List Wire). IsRun ws cycles bits) c.in_ok-push.ensures.items run) in
    (subst (λ (net : Wiring). IsRun net.wires cycles bits) c.self.view_is kept.0, subst (λ w. Keeps cycles bits w c.args.source) (sym at) kept.1)

pub returns-clause-registers : goal.returns-clause-registers
returns-clause-registers c =
    let old : Wiring = record { ports = c.self.inside.ports.items; wires = c.self.inside.wires.items; gadgets = c.self.inside.gadgets; given = c.self.inside.given } in
    subst (λ (net : Wiring). AddsRegisters (is_stored c.args.source) net (record old { wires = c.push.new.self.items })) c.self.view_is
    (part_registers old c.in_ok-name.name c.args.source (record old { wires = c.push.new.self.items }) c.in_ok-push.ensures.items)

pub returns-clause-cells : goal.returns-clause-cells
returns-clause-cells c cell =
    let old : Wiring = record { ports = c.self.inside.ports.items; wires = c.self.inside.wires.items; gadgets = c.self.inside.gadgets; given = c.self.inside.given } in
    let new : Wiring = record old { wires = c.push.new.self.items } in
    subst (λ (net : Wiring). AddsCells net new) c.self.view_is (cells_more old new _ c.in_ok-push.ensures.items (cell, tt))
