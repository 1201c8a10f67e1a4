use Rattle.std.proofs.Common.{◌≡◌, ℕ, List, length, map, ap, sym, ◌∙◌}
use Rattle.std.specs.List.{flat_map, range_with_len}
use Rattle.agm_net.specs.Plain.{line_of, stored_of}
use Rattle.wire_drivers.specs.Wiring.{Wiring, driven, numbers}
use Rattle.wire_drivers.specs.Counted.{numbers_at, name_at}
use Rattle.wire_drivers.specs.View.{wiring}
use Rattle.wire_drivers.proofs.keep.kept_net.Goals as goal
use Rattle.wire_drivers.proofs.Counts.{uses_length}
use Rattle.wire_drivers.proofs.Agrees.{numbers_agree, names_agree, kept_is}

pub names_of-requires : goal.names_of-requires
names_of-requires c =
    let w : Wiring = wiring c.args.ports.now c.args.wires.now c.args.lines.now c.args.flops.now in
    ap length (c.as_slice.ensures.value ∙ c.in_ok-drivers.ensures) ∙ uses_length (length c.args.wires.now) (driven w)

pub returns-in-Ok : goal.returns-in-Ok
returns-in-Ok c =
    let w : Wiring = wiring c.args.ports.now c.args.wires.now c.args.lines.now c.args.flops.now in
    let n : c.in_ok-numbers.numbers.items ≡ numbers w = c.in_ok-numbers.ensures ∙ (ap (λ (d : List ℕ). numbers_at d (length d)) (c.as_slice-2.ensures.value ∙ c.in_ok-drivers.ensures) ∙ numbers_agree w) in
    let e = c.in-Ok.ensures.parts in
    kept_is w c.in-Ok.net.clock c.args.clock _ _ _ c.in-Ok.net.ports c.in-Ok.net.wires (map line_of c.in-Ok.net.equations) (map stored_of c.in-Ok.net.registers)
    (c.as_slice-3.ensures.value ∙ n) (c.as_slice-4.ensures.value ∙ n) (c.as_slice-5.ensures.value ∙ n)
    (e.0 ∙ c.in_ok-ports.ensures)
    (e.1 ∙ (c.in_ok-names.ensures ∙ (ap (λ (d : List ℕ). flat_map (name_at d c.args.wires.now) (range_with_len 0 (length c.args.wires.now))) (c.as_slice.ensures.value ∙ c.in_ok-drivers.ensures) ∙ names_agree w)))
    (ap (λ es. map line_of es) e.2 ∙ c.in_ok-equations.ensures)
    (ap (λ rs. map stored_of rs) e.3 ∙ c.in_ok-registers.ensures)
    e.4
