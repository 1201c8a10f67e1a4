use Rattle.std.proofs.Common.{◌<◌, length, sym, subst, ap, ◌∙◌}
use Rattle.std.proofs.lemmas.List.{length-map}
use Rattle.stimulus.proofs.Named.{clock_within}
use Rattle.shared_tape.specs.SharedTape.{port_marks}
use Rattle.shared_tape.proofs.secrets.marks_of.Goals as goal

pub with_clock-kinds-requires : goal.with_clock-kinds-requires
with_clock-kinds-requires c =
    let net = c.args.net.now in
    let many = ap length (c.in_ok-kinds.ensures ∙ ap (port_marks c.args.report.now) c.as_slice.ensures) ∙ length-map net.ports _ in
    subst (λ n. c.in-Some.clock < n) (sym many) (clock_within net.ports c.in-Some.clock (net.well_formed.ports_right.clock_fits c.in-Some.clock c.in-Some.is))
