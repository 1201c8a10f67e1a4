use Rattle.std.proofs.Common.{◌∙◌, sym}
use Rattle.agm_net.specs.Plain.{plain}
use Rattle.agm_net.proofs.Parts.{numbers_are, refused_parts, tested_parts}
use Rattle.agm_net.proofs.checks.are_parts_right.Goals as goal

pub returns-then-not-do_numbers_fit : goal.returns-then-not-do_numbers_fit
returns-then-not-do_numbers_fit c =
    let numbers = numbers_are c.args.ports.now c.args.wires.now c.args.equations.now c.args.registers.now c.args.clock in
    refused_parts (plain c.args.ports.now c.args.wires.now c.args.equations.now c.args.registers.now c.args.clock) (numbers ∙ (sym c.do_numbers_fit.ensures ∙ c.if-not-do_numbers_fit.true))

pub returns : goal.returns
returns c =
    let numbers = numbers_are c.args.ports.now c.args.wires.now c.args.equations.now c.args.registers.now c.args.clock in
    tested_parts (plain c.args.ports.now c.args.wires.now c.args.equations.now c.args.registers.now c.args.clock) (numbers ∙ (sym c.do_numbers_fit.ensures ∙ c.if-not-do_numbers_fit.false)) c.do_ports_fit.result c.do_ports_fit.ensures
