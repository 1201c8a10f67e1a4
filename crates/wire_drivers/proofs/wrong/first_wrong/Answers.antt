use Rattle.std.proofs.Common.{length, ap, sym, ◌∙◌}
use Rattle.wire_drivers.specs.Wiring.{Wiring, driven, read}
use Rattle.wire_drivers.specs.View.{wiring}
use Rattle.wire_drivers.proofs.wrong.first_wrong.Goals as goal
use Rattle.wire_drivers.proofs.Counts.{uses_length}
use Rattle.wire_drivers.proofs.Agrees.{wrong_on}

pub first_wrong_count-requires : goal.first_wrong_count-requires
first_wrong_count-requires c =
    let w : Wiring = wiring c.args.ports.now c.args.wires.now c.args.lines.now c.args.flops.now in
    ap length (c.as_slice-2.ensures.value ∙ c.in_ok-readers.ensures)
    ∙ (uses_length (length c.args.wires.now) (read w) ∙ sym (ap length (c.as_slice.ensures.value ∙ c.in_ok-drivers.ensures) ∙ uses_length (length c.args.wires.now) (driven w)))

pub returns : goal.returns
returns c =
    let w : Wiring = wiring c.args.ports.now c.args.wires.now c.args.lines.now c.args.flops.now in
    c.first_wrong_count.ensures ∙ wrong_on w _ _ (c.as_slice.ensures.value ∙ c.in_ok-drivers.ensures) (c.as_slice-2.ensures.value ∙ c.in_ok-readers.ensures)
