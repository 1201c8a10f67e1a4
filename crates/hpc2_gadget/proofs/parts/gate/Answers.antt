use Rattle.std.proofs.Common.{◌∙◌, sym, subst}
use Rattle.agm_net.specs.Small.{IsCell}
use Rattle.hpc2_gadget.proofs.Made.{new_part, part_grown, part_shared}
use Rattle.std.proofs.Common.{ap, ◌++◌, ◌∷◌, [], List, ℕ}
use Rattle.agm_net.specs.Formula.{formula_of}
use Rattle.agm_net.specs.Label.{part_name}
use Rattle.share_wiring.specs.Gates.{gate_of}
use Rattle.share_wiring.specs.declared.gate.Source.{Source}
use Rattle.share_wiring.specs.declared.gate.Source.TheVariants.{Equation}
use Rattle.hpc2_gadget.proofs.Made.{gate_back}
use Rattle.share_wiring.specs.declared.gate.Wire.{Wire}
use Rattle.hpc2_gadget.proofs.parts.gate.Goals as goal

pub equate-requires-clause-part : goal.equate-requires-clause-part
equate-requires-clause-part c =
    new_part c.args.builder.now c.args.place.shares c.args.place.gadget c.args.kind c.args.i c.args.j c.as_slice.result.now (c.as_slice.ensures ∙ c.in_ok-name.ensures) c.args.place.size c.args.place.few c.requires.begun c.requires.index c.requires.below

pub returns-clause-grown : goal.returns-clause-grown
returns-clause-grown c =
    part_grown c.args.builder.now c.equate.new.self c.args.place.shares c.args.place.gadget c.args.kind c.args.i c.args.j c.as_slice.result.now _ (c.as_slice.ensures ∙ c.in_ok-name.ensures) c.args.place.size c.requires.index c.requires.below
    c.in_ok-wire.ensures.extends c.in_ok-wire.ensures.stays (c.in_ok-wire.ensures.cells (subst IsCell (sym c.in_ok-expr.ensures) c.requires.cell)) c.in_ok-wire.ensures.made

pub returns-clause-shared : goal.returns-clause-shared
returns-clause-shared c shared =
    part_shared c.args.builder.now c.equate.new.self c.args.place.shares c.args.place.gadget c.args.kind c.args.i c.args.j c.as_slice.result.now _ c.in_ok-wire.wire (c.as_slice.ensures ∙ c.in_ok-name.ensures) c.args.place.size c.args.place.few c.requires.index
    c.in_ok-wire.ensures.made c.in_ok-wire.ensures.wire shared

pub returns-clause-part : goal.returns-clause-part
returns-clause-part c =
    let name = c.as_slice.ensures ∙ c.in_ok-name.ensures in
    let one : List ℕ → Source → List Wire = λ a s. c.args.builder.now.wires ++ (record { name = a; source = s }) ∷ [] in
    record {
      wires = c.in_ok-wire.ensures.made ∙ (ap (λ a. one a (Equation (gate_of (formula_of c.in_ok-expr.expr)))) name ∙ ap (λ x. one (part_name c.args.place.shares c.args.place.gadget c.args.kind c.args.i c.args.j) (Equation x)) (ap gate_of c.in_ok-expr.ensures ∙ gate_back c.args.gate));
      ports = c.in_ok-wire.ensures.stays.ports;
      given = c.in_ok-wire.ensures.stays.given;
      number = c.in_ok-wire.ensures.wire;
    }
