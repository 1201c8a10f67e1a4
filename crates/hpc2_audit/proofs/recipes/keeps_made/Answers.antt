use Rattle.std.proofs.Common.{◌≡◌, ◌∙◌, ◌↔◌, IsTrue, Some, ap, sym, subst}
use Rattle.agm_net.specs.Network.{IsMade}
use Rattle.agm_net.specs.View.{plain_of}
use Rattle.hpc2_audit.specs.Recipes.{FormIs}
use Rattle.hpc2_audit.specs.Standing.{part_said, said_at}
use Rattle.hpc2_audit.proofs.Ruling.{made_some, made_tells}
use Rattle.hpc2_audit.proofs.recipes.keeps_made.Goals as goal

pub returns-in-Some : goal.returns-in-Some
returns-in-Some c =
    let net = plain_of c.args.net.now in
    let sheet = c.requires.sheet in
    let d = c.args.sheet.now.order in
    let said = c.args.sheet.now.said in
    let w = c.args.wire in
    let m = c.making_of.result in
    let b = c.is_form.result in
    let e : part_said (said_at said w) ≡ Some c.in-Some.part = sym (ap part_said (c.said_at.ensures ∙ ap (λ xs. said_at xs w) c.as_slice-said.ensures)) ∙ (sym c.part_said.ensures ∙ c.in-Some.is) in
    let one = subst (λ xs. IsTrue b ↔ FormIs xs c.form_of-form.result m) c.as_slice-said.ensures c.is_form.ensures in
    let two = subst (λ f. IsTrue b ↔ FormIs said f m) c.form_of-form.ensures one in
    let made = made_tells net d said sheet.well sheet.said w c.requires.within c.driver_of.result c.driver_of.ensures m b two in
    made_some net d said sheet.well sheet.said w c.requires.within c.in-Some.part b e (subst (λ r. IsTrue b ↔ IsMade net d w r) c.making_of.ensures made)
