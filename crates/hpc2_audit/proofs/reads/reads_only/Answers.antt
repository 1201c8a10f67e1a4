use Rattle.std.proofs.Common.{◌∙◌, ap}
use Rattle.agm_net.specs.Formula.{formula_of}
use Rattle.agm_net.specs.Run.{reads_ever}
use Rattle.agm_net.specs.View.{plain_of}
use Rattle.hpc2_audit.specs.Standing.{all_stand, said_at, serves}
use Rattle.hpc2_audit.proofs.Ruling.{reads_tell}
use Rattle.hpc2_audit.proofs.reads.reads_only.Goals as goal

pub returns-in-Line : goal.returns-in-Line
returns-in-Line c =
    let net = plain_of c.args.net.now in
    let sheet = c.requires.sheet in
    let f = formula_of c.in-Line.expr.now in
    reads_tell net c.args.sheet.now.order c.args.sheet.now.said sheet.well sheet.said c.args.wire c.requires.within f c.args.index c.all_serve.result (λ v. ap (λ d. reads_ever d v) c.in-Line.ensures)
    (c.all_serve.ensures ∙ ap (λ xs. all_stand (λ v. serves c.args.index (said_at xs v)) f) c.as_slice.ensures)

pub returns-in-Flop : goal.returns-in-Flop
returns-in-Flop c =
    let net = plain_of c.args.net.now in
    let sheet = c.requires.sheet in
    let f = formula_of c.in-Flop.register.now.next in
    let own = c.in-Flop.ensures in
    reads_tell net c.args.sheet.now.order c.args.sheet.now.said sheet.well sheet.said c.args.wire c.requires.within f c.args.index c.all_serve-in-Flop.result (λ v. ap (λ d. reads_ever d v) own.1)
    (c.all_serve-in-Flop.ensures ∙ ap (λ xs. all_stand (λ v. serves c.args.index (said_at xs v)) f) c.as_slice-in-Flop.ensures)
