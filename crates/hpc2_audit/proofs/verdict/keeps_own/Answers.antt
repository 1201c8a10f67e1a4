use Rattle.std.proofs.Common.{◌↔◌, IsTrue, sym, subst}
use Rattle.agm_net.specs.View.{plain_of}
use Rattle.hpc2_audit.specs.Audited.{KeepsOwn}
use Rattle.hpc2_audit.specs.Rules.{HasSomeLabel, KeepsClock, KeepsMade, KeepsNumber, KeepsPorts, KeepsReads}
use Rattle.hpc2_audit.proofs.Verdicts.{label_tells, six_tell}
use Rattle.hpc2_audit.proofs.verdict.keeps_own.Goals as goal

pub returns : goal.returns
returns c =
    let net = plain_of c.args.net.now in
    let d = c.args.sheet.now.order in
    let w = c.args.wire in
    let some = subst (λ b. IsTrue b ↔ HasSomeLabel net d w) (sym c.is_some.ensures) (label_tells net d w c.label_of.result c.label_of.ensures) in
    subst (λ b. IsTrue b ↔ KeepsOwn net d w) (sym c.all_six.ensures)
    (six_tell c.is_some.result c.keeps_ports.result c.keeps_reads.result c.keeps_made.result c.keeps_clock.result c.keeps_number.result (HasSomeLabel net d w) (KeepsPorts net d w) (KeepsReads net d w)
    (KeepsMade net d w) (KeepsClock net d w) (KeepsNumber net d w) some c.keeps_ports.ensures c.keeps_reads.ensures c.keeps_made.ensures c.keeps_clock.ensures c.keeps_number.ensures)
