use Rattle.std.proofs.Common.{◌≡◌, ◌∙◌, Some, None, ap, sym}
use Rattle.agm_net.specs.View.{plain_of}
use Rattle.hpc2_audit.specs.Standing.{asked, said_at}
use Rattle.hpc2_audit.proofs.Ruling.{asked_some, asked_none}
use Rattle.hpc2_audit.proofs.reads.keeps_reads.Goals as goal

pub returns-in-Some : goal.returns-in-Some
returns-in-Some c =
    let net = plain_of c.args.net.now in
    let sheet = c.requires.sheet in
    let said = c.args.sheet.now.said in
    let w = c.args.wire in
    let e : asked (said_at said w) ≡ Some c.in-Some.index = sym (ap asked (c.said_at.ensures ∙ ap (λ xs. said_at xs w) c.as_slice.ensures)) ∙ (sym c.asked.ensures ∙ c.in-Some.is) in
    asked_some net c.args.sheet.now.order said sheet.well sheet.said w c.requires.within c.in-Some.index e c.reads_only.result c.reads_only.ensures

pub returns-in-None : goal.returns-in-None
returns-in-None c =
    let net = plain_of c.args.net.now in
    let sheet = c.requires.sheet in
    let said = c.args.sheet.now.said in
    let w = c.args.wire in
    let e : asked (said_at said w) ≡ None = sym (ap asked (c.said_at.ensures ∙ ap (λ xs. said_at xs w) c.as_slice.ensures)) ∙ (sym c.asked.ensures ∙ c.in-None.is) in
    asked_none net c.args.sheet.now.order said sheet.well sheet.said w c.requires.within e
