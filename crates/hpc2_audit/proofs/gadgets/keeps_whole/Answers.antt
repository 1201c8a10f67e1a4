use Rattle.std.proofs.Common.{◌≡◌, ◌∙◌, ◌↔◌, IsTrue, Some, ap, sym}
use Rattle.agm_net.specs.Network.{IsWhole}
use Rattle.agm_net.specs.View.{plain_of}
use Rattle.hpc2_audit.specs.Rules.{KeepsWhole}
use Rattle.hpc2_audit.specs.Standing.{part_said, said_at}
use Rattle.hpc2_audit.proofs.Ruling.{whole_some}
use Rattle.hpc2_audit.proofs.Verdicts.{ok_map}
use Rattle.hpc2_audit.proofs.gadgets.keeps_whole.Goals as goal

pub returns-in-Some-clause-told : goal.returns-in-Some-clause-told
returns-in-Some-clause-told c =
    let net = plain_of c.args.net.now in
    let sheet = c.requires.sheet in
    let d = c.args.sheet.now.order in
    let said = c.args.sheet.now.said in
    let w = c.args.wire in
    let p = c.in-Some.part in
    let e : part_said (said_at said w) ≡ Some p = sym (ap part_said (c.said_at.ensures ∙ ap (λ xs. said_at xs w) c.as_slice.ensures)) ∙ (sym c.part_said.ensures ∙ c.in-Some.is) in
    ok_map c.becomes_whole.result (λ b. IsTrue b ↔ IsWhole net d p.gadget) (λ b. IsTrue b ↔ KeepsWhole net d w)
    (λ b tells. whole_some net d said sheet.well sheet.said w c.requires.within p b e tells)
    c.becomes_whole.ensures.told
