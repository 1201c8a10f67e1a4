use Rattle.std.proofs.Common.{◌≡◌, ◌∙◌, ◌↔◌, IsTrue, codes, ap, sym, subst}
use Rattle.std.specs.Prelude.{◌&&◌, ◌||◌, is_some, position}
use Rattle.std.specs.Str.{bytes_eq}
use Rattle.agm_net.specs.Network.{HasWire}
use Rattle.agm_net.specs.View.{plain_of}
use Rattle.hpc2_audit.specs.Standing.{is_own_clock, part_said, said_at, says_clock}
use Rattle.hpc2_audit.proofs.Finding.{names_tell}
use Rattle.hpc2_audit.proofs.Ruling.{clock_tells}
use Rattle.hpc2_audit.proofs.rules.may_clock.Goals as goal

pub returns : goal.returns
returns c =
    let net = plain_of c.args.net.now in
    let sheet = c.requires.sheet in
    let tables = c.args.sheet.now in
    let w = c.args.wire in
    let k = c.args.clock in
    let own : c.said_at-own.result ≡ said_at tables.said k = c.said_at-own.ensures ∙ ap (λ xs. said_at xs k) c.as_slice-said.ensures in
    let other : c.said_at.result ≡ said_at tables.said w = c.said_at.ensures ∙ ap (λ xs. said_at xs w) c.as_slice-said.ensures in
    let p : c.says_clock.result ≡ says_clock (said_at tables.said k) = c.says_clock.ensures ∙ ap says_clock own in
    let q : c.part_said.result ≡ part_said (said_at tables.said w) = c.part_said.ensures ∙ ap part_said other in
    let r : c.part_said-2.result ≡ part_said (said_at tables.said k) = c.part_said-2.ensures ∙ ap part_said own in
    let is : c.one_or_two.result ≡ (says_clock (said_at tables.said k) || (c.is_some.result && is_own_clock (part_said (said_at tables.said w)) (part_said (said_at tables.said k)))) = cc (c.one_or_two.ensures, c.is_own_clock.ensures, p, q, r) in
    let found : is_some (position (λ n. bytes_eq n (codes "agm_clk")) tables.names) ≡ c.is_some.result =
    sym (c.is_some.ensures ∙ (ap is_some c.find.ensures ∙ ap (λ x. is_some (position (λ n. bytes_eq n x) tables.names)) c.as_slice.ensures)) in
    let wire = subst (λ b. IsTrue b ↔ HasWire net (codes "agm_clk")) found (names_tell net.wires tables.names (codes "agm_clk") sheet.names) in
    clock_tells net tables.order tables.said sheet.well sheet.said w c.requires.within k c.is_some.result c.one_or_two.result wire is
