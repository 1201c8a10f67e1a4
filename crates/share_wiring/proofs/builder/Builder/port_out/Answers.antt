use Rattle.std.proofs.Common.{◌≡◌, ◌<◌, ◌+◌, ◌∙◌, List, ℕ, length, take, get_or, sym, ap, refl, subst, subst₂, arith}
use Rattle.std.specs.List.{AllByRecursion}
use Rattle.agm_net.specs.Plain.{bit_names}
use Rattle.agm_net.specs.declared.port.Way.TheVariants.{Output}
use Rattle.share_wiring.specs.Wiring.{Wiring, IsRun}
use Rattle.share_wiring.specs.Own.{copy_wires}
use Rattle.share_wiring.specs.Adds.{Extends, AddsRegisters, random_bits}
use Rattle.share_wiring.specs.Built.{IsBuilt, IsNewPort, MayBeGiven}
use Rattle.share_wiring.specs.declared.gate.Gate.TheVariants.{Same}
use Rattle.share_wiring.specs.declared.gate.Source.TheVariants.{Equation}
use Rattle.share_wiring.specs.declared.gate.Wire.{Wire}
use Rattle.share_wiring.proofs.Runs.{extends_append, extends_same}
use Rattle.share_wiring.proofs.PortWires.{out_built, given_within, copies_keep, none_stored, insert_random, new_port}
use Rattle.share_wiring.specs.Cells.{AddsCells}
use Rattle.share_wiring.proofs.Cells.{port_cells}
use Rattle.share_wiring.specs.Networks.{Rules, KeepsNetwork, IsServed}
use Rattle.share_wiring.proofs.PortRules.{output_rules}
use Rattle.share_wiring.proofs.builder.Builder.port_out.Goals as goal

pub invariant_of-self : goal.invariant_of-self
invariant_of-self c =
    let old : Wiring = record { ports = c.self.inside.ports.items; wires = c.self.inside.wires.items; gadgets = c.self.inside.gadgets; given = c.self.inside.given } in
    let name = c.args.name.now in
    let range = c.args.range in
    let new = subst (λ (net : Wiring). IsNewPort net name range) (sym c.self.view_is) c.requires.port in
    let given = subst (λ (net : Wiring). AllByRecursion (MayBeGiven net.wires name) c.args.bits.now) (sym c.self.view_is) c.requires.given in
    let made = out_built old c.self.invariant.0 name range new c.args.place c.requires.place.0 c.args.bits.now (given_within old.wires name c.args.bits.now given) c.requires.bits c.requires.other in (
      subst₂ (λ ps ws. IsBuilt (record old { ports = ps; wires = ws })) (sym c.in-Ok.ensures.ports) (sym c.in-Ok.ensures.wires) made,
      c.self.invariant.1 ∙ (sym (insert_random (new_port old name Output range) old.ports c.args.place c.requires.other) ∙ ap random_bits (sym c.in-Ok.ensures.ports)),
    )

pub returns-in-Ok-clause-extends : goal.returns-in-Ok-clause-extends
returns-in-Ok-clause-extends c =
    let old : Wiring = record { ports = c.self.inside.ports.items; wires = c.self.inside.wires.items; gadgets = c.self.inside.gadgets; given = c.self.inside.given } in
    let new : Wiring = record old { ports = c.push_output_port.new.ports.items; wires = c.push_output_port.new.wires.items } in
    subst (λ (net : Wiring). Extends net new) c.self.view_is (extends_append old new (copy_wires (bit_names c.args.name.now c.args.range) c.args.bits.now) c.in-Ok.ensures.wires (omega arith))

pub returns-in-Ok-clause-value : goal.returns-in-Ok-clause-value
returns-in-Ok-clause-value c cycles bits run =
    let old : Wiring = record { ports = c.self.inside.ports.items; wires = c.self.inside.wires.items; gadgets = c.self.inside.gadgets; given = c.self.inside.given } in
    let Says : Wiring → Type 0 = λ net. IsRun net.wires cycles bits × ((t : ℕ) → t < cycles → (i : ℕ) → i < length c.args.bits.now → bits t (length net.wires + i) ≡ bits t (get_or c.args.bits.now i 0)) in
    subst Says c.self.view_is (copies_keep old.wires (bit_names c.args.name.now c.args.range) c.args.bits.now cycles bits c.requires.bits (subst (λ (ws : List Wire). IsRun ws cycles bits) c.in-Ok.ensures.wires run))

pub returns-in-Ok-clause-registers : goal.returns-in-Ok-clause-registers
returns-in-Ok-clause-registers c =
    let old : Wiring = record { ports = c.self.inside.ports.items; wires = c.self.inside.wires.items; gadgets = c.self.inside.gadgets; given = c.self.inside.given } in
    let new : Wiring = record old { ports = c.push_output_port.new.ports.items; wires = c.push_output_port.new.wires.items } in
    subst (λ (net : Wiring). AddsRegisters 0 net new) c.self.view_is
    (none_stored (bit_names c.args.name.now c.args.range) (λ i. Equation (Same (get_or c.args.bits.now i 0))) (λ i. refl) old new c.in-Ok.ensures.wires)

pub returns-in-Err-clause-extends : goal.returns-in-Err-clause-extends
returns-in-Err-clause-extends c =
    let old : Wiring = record { ports = c.self.inside.ports.items; wires = c.self.inside.wires.items; gadgets = c.self.inside.gadgets; given = c.self.inside.given } in
    let back : c.truncate.new.self.items ≡ c.self.inside.wires.items = c.truncate.ensures.items ∙ (ap (λ k. take k c.push_output_port.new.wires.items) (c.len-wires.ensures ∙ c.self.inside.wires.ok.0) ∙ c.in-Err.ensures.err.0) in
    let after : Wiring = record old { ports = c.push_output_port.new.ports.items; wires = c.truncate.new.self.items } in
    subst (λ (net : Wiring). Extends net after) c.self.view_is (extends_same old after back (omega arith))

pub returns-in-Ok-clause-cells : goal.returns-in-Ok-clause-cells
returns-in-Ok-clause-cells c =
    let old : Wiring = record { ports = c.self.inside.ports.items; wires = c.self.inside.wires.items; gadgets = c.self.inside.gadgets; given = c.self.inside.given } in
    let new : Wiring = record old { ports = c.push_output_port.new.ports.items; wires = c.push_output_port.new.wires.items } in
    subst (λ (net : Wiring). AddsCells net new) c.self.view_is
    (port_cells old new (bit_names c.args.name.now c.args.range) (λ i. Equation (Same (get_or c.args.bits.now i 0))) (λ i. tt) c.in-Ok.ensures.wires)

pub returns-in-Ok-clause-network : goal.returns-in-Ok-clause-network
returns-in-Ok-clause-network c d served =
    let old : Wiring = record { ports = c.self.inside.ports.items; wires = c.self.inside.wires.items; gadgets = c.self.inside.gadgets; given = c.self.inside.given } in
    let name = c.args.name.now in
    let range = c.args.range in
    let bits = c.args.bits.now in
    let new = subst (λ (net : Wiring). IsNewPort net name range) (sym c.self.view_is) c.requires.port in
    let given = subst (λ (net : Wiring). AllByRecursion (MayBeGiven net.wires name) bits) (sym c.self.view_is) c.requires.given in
    let serve = subst (λ (net : Wiring). IsServed d net.wires name bits) (sym c.self.view_is) served in
    let same = ap random_bits c.in-Ok.ensures.ports ∙ insert_random (new_port old name Output range) old.ports c.args.place c.requires.other in
    subst (λ (net : Wiring). KeepsNetwork d net (record old { ports = c.push_output_port.new.ports.items; wires = c.push_output_port.new.wires.items })) c.self.view_is
    (λ before. subst (λ ws. Rules d old.gadgets ws old.given (random_bits c.push_output_port.new.ports.items)) (sym c.in-Ok.ensures.wires)
    (output_rules d old.gadgets old name range (random_bits old.ports) (random_bits c.push_output_port.new.ports.items) bits new.port_name new.small c.requires.other same c.requires.bits given serve before))
