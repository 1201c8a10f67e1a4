use Rattle.std.proofs.Common.{◌≡◌, ◌∙◌, Some, sym, ap}
use Rattle.agm_net.specs.View.{plain_of}
use Rattle.hpc2_audit.specs.Standing.{part_said, said_at}
use Rattle.hpc2_audit.proofs.Ruling.{number_some}
use Rattle.hpc2_audit.proofs.gadgets.keeps_number.Goals as goal

pub returns-in-Some : goal.returns-in-Some
returns-in-Some c =
    let net = plain_of c.args.net.now in
    let sheet = c.requires.sheet in
    let said = c.args.sheet.now.said in
    let w = c.args.wire in
    let e : part_said (said_at said w) ≡ Some c.in-Some.part = sym (ap part_said (c.said_at.ensures ∙ ap (λ xs. said_at xs w) c.as_slice.ensures)) ∙ (sym c.part_said.ensures ∙ c.in-Some.is) in
    number_some net c.args.sheet.now.order said sheet.well sheet.said w c.requires.within c.in-Some.part c.is_number.result c.args.numbering.behind_gap e c.is_number.ensures c.requires.numbering.lowest
