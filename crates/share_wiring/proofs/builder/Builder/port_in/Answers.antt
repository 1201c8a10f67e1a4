use Rattle.std.proofs.Common.{◌≡◌, ◌++◌, ◌∷◌, [], ◌∙◌, List, ℕ, ◌<◌, length, take, get_or, cond, codes, sym, ap, refl, subst, arith}
use Rattle.std.specs.Str.{bytes_eq}
use Rattle.std.specs.List.{range_with_len}
use Rattle.agm_net.specs.Plain.{bit_names}
use Rattle.agm_net.specs.declared.port.Port.{Port}
use Rattle.agm_net.specs.declared.port.Way.TheVariants.{Input as In}
use Rattle.share_wiring.specs.Wiring.{Wiring, IsRun}
use Rattle.share_wiring.specs.Own.{input_wires}
use Rattle.share_wiring.specs.Adds.{Extends, AddsRegisters, random_bits}
use Rattle.share_wiring.specs.Built.{IsNewPort}
use Rattle.share_wiring.specs.declared.gate.Source.TheVariants.{Input}
use Rattle.share_wiring.specs.declared.gate.Wire.{Wire}
use Rattle.share_wiring.proofs.Runs.{extends_append, extends_same, run_front}
use Rattle.share_wiring.proofs.PortWires.{last_in_built, append_random, none_stored, new_port}
use Rattle.share_wiring.specs.Cells.{AddsCells}
use Rattle.share_wiring.proofs.Cells.{port_cells}
use Rattle.std.proofs.lemmas.List.{get_or_append_left}
use Rattle.share_wiring.specs.Networks.{Rules, KeepsNetwork}
use Rattle.share_wiring.proofs.PortRules.{input_rules}
use Rattle.share_wiring.proofs.builder.Builder.port_in.Goals as goal

pub invariant_of-self : goal.invariant_of-self
invariant_of-self c =
    let old : Wiring = record { ports = c.self.inside.ports.items; wires = c.self.inside.wires.items; gadgets = c.self.inside.gadgets; given = c.self.inside.given } in
    let name = c.args.name.now in
    let range = c.args.range in
    let new = subst (λ (net : Wiring). IsNewPort net name range) (sym c.self.view_is) c.requires in
    let with_bits : List ℕ → List Port = λ bs. c.self.inside.ports.items ++ (record { name = name; way = In; range = range; bits = bs }) ∷ [] in
    let ports : c.push_input_port.new.ports.items ≡ old.ports ++ new_port old name In range ∷ [] = c.in-Ok.ensures.ports ∙ ap with_bits c.in-Ok.ensures.bits in
    let random = append_random (new_port old name In range) old.ports in
    let joined : c.push_input_port.new.random ≡ random_bits old.ports ++ cond (bytes_eq name (codes "agm_r")) (range_with_len (length old.wires) (length (bit_names name range))) [] =
    c.in-Ok.ensures.random
    ∙ (ap (λ bs. bs ++ cond (bytes_eq name (codes "agm_r")) c.in-Ok.bits []) c.self.invariant.1
    ∙ ap (λ bs. random_bits old.ports ++ cond (bytes_eq name (codes "agm_r")) bs []) c.in-Ok.ensures.bits) in (
      last_in_built old name range c.push_input_port.new.ports.items c.push_input_port.new.wires.items c.self.invariant.0 new ports c.in-Ok.ensures.wires,
      joined ∙ (sym random ∙ ap random_bits (sym ports)),
    )

pub returns-in-Ok-clause-extends : goal.returns-in-Ok-clause-extends
returns-in-Ok-clause-extends c =
    let old : Wiring = record { ports = c.self.inside.ports.items; wires = c.self.inside.wires.items; gadgets = c.self.inside.gadgets; given = c.self.inside.given } in
    let new : Wiring = record old { ports = c.push_input_port.new.ports.items; wires = c.push_input_port.new.wires.items } in
    subst (λ (net : Wiring). Extends net new) c.self.view_is (extends_append old new (input_wires (bit_names c.args.name.now c.args.range)) c.in-Ok.ensures.wires (omega arith))

pub returns-in-Ok-clause-adds : goal.returns-in-Ok-clause-adds
returns-in-Ok-clause-adds c cycles bits run = (
  subst (λ (net : Wiring). IsRun net.wires cycles bits) c.self.view_is
      (run_front c.self.inside.wires.items (input_wires (bit_names c.args.name.now c.args.range)) cycles bits (subst (λ (ws : List Wire). IsRun ws cycles bits) c.in-Ok.ensures.wires run)),
  tt,
)

pub returns-in-Ok-clause-registers : goal.returns-in-Ok-clause-registers
returns-in-Ok-clause-registers c =
    let old : Wiring = record { ports = c.self.inside.ports.items; wires = c.self.inside.wires.items; gadgets = c.self.inside.gadgets; given = c.self.inside.given } in
    let new : Wiring = record old { ports = c.push_input_port.new.ports.items; wires = c.push_input_port.new.wires.items } in
    subst (λ (net : Wiring). AddsRegisters 0 net new) c.self.view_is (none_stored (bit_names c.args.name.now c.args.range) (λ i. Input) (λ i. refl) old new c.in-Ok.ensures.wires)

pub returns-in-Err-clause-extends : goal.returns-in-Err-clause-extends
returns-in-Err-clause-extends c =
    let old : Wiring = record { ports = c.self.inside.ports.items; wires = c.self.inside.wires.items; gadgets = c.self.inside.gadgets; given = c.self.inside.given } in
    let back : c.truncate.new.self.items ≡ c.self.inside.wires.items = c.truncate.ensures.items ∙ (ap (λ k. take k c.push_input_port.new.wires.items) (c.len-wires.ensures ∙ c.self.inside.wires.ok.0) ∙ c.in-Err.ensures.err.0) in
    let after : Wiring = record old { ports = c.truncate-in-Err.new.self.items; wires = c.truncate.new.self.items } in
    subst (λ (net : Wiring). Extends net after) c.self.view_is (extends_same old after back (omega arith))

pub returns-in-Ok-clause-cells : goal.returns-in-Ok-clause-cells
returns-in-Ok-clause-cells c =
    let old : Wiring = record { ports = c.self.inside.ports.items; wires = c.self.inside.wires.items; gadgets = c.self.inside.gadgets; given = c.self.inside.given } in
    let new : Wiring = record old { ports = c.push_input_port.new.ports.items; wires = c.push_input_port.new.wires.items } in
    subst (λ (net : Wiring). AddsCells net new) c.self.view_is (port_cells old new (bit_names c.args.name.now c.args.range) (λ i. Input) (λ i. tt) c.in-Ok.ensures.wires)

pub returns-in-Ok-clause-network : goal.returns-in-Ok-clause-network
returns-in-Ok-clause-network c d fits =
    let old : Wiring = record { ports = c.self.inside.ports.items; wires = c.self.inside.wires.items; gadgets = c.self.inside.gadgets; given = c.self.inside.given } in
    let name = c.args.name.now in
    let range = c.args.range in
    let new = subst (λ (net : Wiring). IsNewPort net name range) (sym c.self.view_is) c.requires in
    let with_bits : List ℕ → List Port = λ bs. c.self.inside.ports.items ++ (record { name = name; way = In; range = range; bits = bs }) ∷ [] in
    let ports : c.push_input_port.new.ports.items ≡ old.ports ++ new_port old name In range ∷ [] = c.in-Ok.ensures.ports ∙ ap with_bits c.in-Ok.ensures.bits in
    let before_bits = random_bits old.ports in
    let more = cond (bytes_eq name (codes "agm_r")) (range_with_len (length old.wires) (length (bit_names name range))) [] in
    let bits : random_bits c.push_input_port.new.ports.items ≡ before_bits ++ more = ap random_bits ports ∙ append_random (new_port old name In range) old.ports in
    let enough = c.self.invariant.0.given in
    let same : (k : ℕ) → k < old.given → get_or (random_bits c.push_input_port.new.ports.items) k 0 ≡ get_or before_bits k 0 =
    λ k lt. ap (λ bs. get_or bs k 0) bits ∙ get_or_append_left before_bits more 0 k (omega (arith, lt, enough)) in
    subst (λ (net : Wiring). KeepsNetwork d net (record old { ports = c.push_input_port.new.ports.items; wires = c.push_input_port.new.wires.items })) c.self.view_is
    (λ before. subst (λ ws. Rules d old.gadgets ws old.given (random_bits c.push_input_port.new.ports.items)) (sym c.in-Ok.ensures.wires)
    (input_rules d old.gadgets old name range before_bits (random_bits c.push_input_port.new.ports.items) new.port_name new.small fits same before))
