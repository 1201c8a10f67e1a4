use Rattle.std.proofs.Common.{◌≡◌, ◌∙◌, map, sym, subst, ap, arith}
use Rattle.agm_net.specs.Plain.{line_of, stored_of}
use Rattle.agm_net.specs.View.{plain_of}
use Rattle.hpc2_audit.specs.Readers.{AreReaders, noted_lines, noted_registers}
use Rattle.hpc2_audit.proofs.Reading.{readers_are, lines_long, registers_long}
use Rattle.hpc2_audit.proofs.readers.note_net.Goals as goal

pub returns : goal.returns
returns c =
    let net = plain_of c.args.net.now in
    let start = c.args.readers.now in
    let long = c.requires.as_many in
    let first : c.note_equations.new.readers ≡ noted_lines net.lines start = c.note_equations.ensures ∙ ap (λ es. noted_lines (map line_of es) start) c.as_slice.ensures in
    let second : c.note_registers.new.readers ≡ noted_registers net.registers (noted_lines net.lines start) =
    c.note_registers.ensures ∙ (ap (λ gs. noted_registers (map stored_of gs) c.note_equations.new.readers) c.as_slice-2.ensures ∙ ap (noted_registers net.registers) first) in
    subst (AreReaders net) (sym second)
    (readers_are net c.args.net.now.well_formed start long (λ w lt. c.requires.nobody w (omega arith)) (registers_long net.registers (noted_lines net.lines start) ∙ lines_long net.lines start))
