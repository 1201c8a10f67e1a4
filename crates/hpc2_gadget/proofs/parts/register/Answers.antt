use Rattle.std.proofs.Common.{◌∙◌}
use Rattle.hpc2_gadget.proofs.Made.{new_part, part_grown, part_shared}
use Rattle.std.proofs.Common.{ap, ◌++◌, ◌∷◌, [], List, ℕ}
use Rattle.share_wiring.specs.declared.gate.Source.TheVariants.{Register}
use Rattle.hpc2_gadget.proofs.parts.register.Goals as goal

pub store-requires-clause-part : goal.store-requires-clause-part
store-requires-clause-part c =
    new_part c.args.builder.now c.args.place.shares c.args.place.gadget c.args.kind c.args.i c.args.j c.as_slice.result.now (c.as_slice.ensures ∙ c.in_ok-name.ensures) c.args.place.size c.args.place.few c.requires.begun c.requires.index c.requires.below

pub returns-clause-grown : goal.returns-clause-grown
returns-clause-grown c =
    part_grown c.args.builder.now c.store.new.self c.args.place.shares c.args.place.gadget c.args.kind c.args.i c.args.j c.as_slice.result.now _ (c.as_slice.ensures ∙ c.in_ok-name.ensures) c.args.place.size c.requires.index c.requires.below
    c.in_ok-wire.ensures.extends c.in_ok-wire.ensures.stays c.in_ok-wire.ensures.cells c.in_ok-wire.ensures.made

pub returns-clause-shared : goal.returns-clause-shared
returns-clause-shared c shared =
    part_shared c.args.builder.now c.store.new.self c.args.place.shares c.args.place.gadget c.args.kind c.args.i c.args.j c.as_slice.result.now _ c.in_ok-wire.wire (c.as_slice.ensures ∙ c.in_ok-name.ensures) c.args.place.size c.args.place.few c.requires.index
    c.in_ok-wire.ensures.made c.in_ok-wire.ensures.wire shared

pub returns-clause-part : goal.returns-clause-part
returns-clause-part c =
    let name = c.as_slice.ensures ∙ c.in_ok-name.ensures in
    record {
      wires = c.in_ok-wire.ensures.made ∙ ap (λ (a : List ℕ). c.args.builder.now.wires ++ (record { name = a; source = Register c.args.next c.args.place.clock }) ∷ []) name;
      ports = c.in_ok-wire.ensures.stays.ports;
      given = c.in_ok-wire.ensures.stays.given;
      number = c.in_ok-wire.ensures.wire;
    }
