use Rattle.std.proofs.Common.{◌≡◌, ◌∙◌, sym}
use Rattle.agm_net.specs.Formula.{formula_of}
use Rattle.agm_net.specs.Plain.{stored_of}
use Rattle.agm_net.specs.Run.{d_input, d_clock, d_equation, d_register}
use Rattle.agm_net.specs.View.{plain_of}
use Rattle.hpc2_audit.proofs.Ruling.{no_register, one_register}
use Rattle.hpc2_audit.proofs.rules.keeps_clock.Goals as goal

pub returns-in-Flop : goal.returns-in-Flop
returns-in-Flop c =
    let net = plain_of c.args.net.now in
    let sheet = c.requires.sheet in
    let own = c.in-Flop.ensures in
    one_register net c.args.sheet.now.order c.args.sheet.now.said sheet.well sheet.said c.args.wire c.requires.within own.0 (stored_of c.in-Flop.register.now) own.2 own.3 c.may_clock.result c.may_clock.ensures

pub returns-in-Line : goal.returns-in-Line
returns-in-Line c =
    let net = plain_of c.args.net.now in
    let sheet = c.requires.sheet in
    no_register net c.args.sheet.now.order c.args.sheet.now.said sheet.well sheet.said c.args.wire c.requires.within
    (λ n f e. let wrong : d_equation (formula_of c.in-Line._expr.now) ≡ d_register n f = sym c.in-Line.ensures ∙ e in cc)

pub returns-in-Bit : goal.returns-in-Bit
returns-in-Bit c =
    let net = plain_of c.args.net.now in
    let sheet = c.requires.sheet in
    let own = c.in-Bit.ensures in
    no_register net c.args.sheet.now.order c.args.sheet.now.said sheet.well sheet.said c.args.wire c.requires.within
    (λ n f e. let wrong : d_input own.0 ≡ d_register n f = sym own.1 ∙ e in cc)

pub returns-in-Clocked : goal.returns-in-Clocked
returns-in-Clocked c =
    let net = plain_of c.args.net.now in
    let sheet = c.requires.sheet in
    no_register net c.args.sheet.now.order c.args.sheet.now.said sheet.well sheet.said c.args.wire c.requires.within
    (λ n f e. let wrong : d_clock ≡ d_register n f = sym c.in-Clocked.ensures ∙ e in cc)
