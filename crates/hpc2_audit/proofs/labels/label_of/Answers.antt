use Rattle.std.proofs.Common.{◌≡◌, ◌∙◌, ap, subst, inr}
use Rattle.agm_net.specs.View.{plain_of}
use Rattle.hpc2_audit.specs.Labels.{random_label}
use Rattle.hpc2_audit.specs.Readers.{readers_at}
use Rattle.hpc2_audit.specs.Standing.{said_at}
use Rattle.hpc2_audit.specs.declared.spelled.Spelled.TheVariants.{OfRandom, OfNothing}
use Rattle.hpc2_audit.proofs.Labelling.{no_label, random_found}
use Rattle.hpc2_audit.proofs.Saying.{said_is}
use Rattle.hpc2_audit.proofs.labels.label_of.Goals as goal

pub returns-in-OfRandom : goal.returns-in-OfRandom
returns-in-OfRandom c =
    let net = plain_of c.args.net.now in
    let sheet = c.requires.sheet in
    let d = c.args.sheet.now.order in
    let said = c.args.sheet.now.said in
    let readers = c.args.sheet.now.readers in
    let w = c.args.wire in
    let e : said_at said w ≡ OfRandom = subst (λ xs. said_at xs w ≡ OfRandom) c.as_slice-said.ensures c.in-OfRandom.is in
    let named = said_is net d said sheet.said w OfRandom c.requires.within e in
    let is : c.random_label.result ≡ random_label said (readers_at readers w) =
    c.random_label.ensures ∙ (ap (λ xs. random_label xs (readers_at c.as_slice.result.now w)) c.as_slice-said.ensures ∙ ap (λ rs. random_label said (readers_at rs w)) c.as_slice.ensures) in
    random_found net d said sheet.said w c.requires.within named (readers_at readers w) (sheet.readers.told w c.requires.within) c.random_label.result is

pub returns-in-OfNothing : goal.returns-in-OfNothing
returns-in-OfNothing c =
    let net = plain_of c.args.net.now in
    let sheet = c.requires.sheet in
    let said = c.args.sheet.now.said in
    let w = c.args.wire in
    no_label net c.args.sheet.now.order said sheet.said w c.requires.within (inr (subst (λ xs. said_at xs w ≡ OfNothing) c.as_slice-said.ensures c.in-OfNothing.is))
