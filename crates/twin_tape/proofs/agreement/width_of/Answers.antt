use Rattle.std.proofs.Common.{[], cond, length, ap, sym, ◌∙◌}
use Rattle.twin_tape.specs.Differences.{Column}
use Rattle.twin_tape.proofs.Agreeing.{of_port, of_port_long}
use Rattle.twin_tape.proofs.agreement.width_of.Goals as goal

pub returns-else-lacks_columns : goal.returns-else-lacks_columns
returns-else-lacks_columns c =
    let n = c.args.number in
    let p = c.args.port.now in
    c.len.ensures ∙ (sym (of_port_long n p) ∙ ap (λ b. length {A = Column} (cond b [] (of_port n p))) c.if-lacks_columns.ensures)
