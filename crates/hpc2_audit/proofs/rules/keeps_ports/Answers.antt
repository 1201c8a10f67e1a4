use Rattle.std.proofs.Common.{◌≡◌, ◌∙◌, not, ap}
use Rattle.std.specs.Prelude.{◌&&◌, ◌||◌}
use Rattle.agm_net.specs.View.{plain_of}
use Rattle.hpc2_audit.specs.Places.{place_at}
use Rattle.hpc2_audit.specs.Standing.{is_there, said_at, says_clock, says_random}
use Rattle.hpc2_audit.proofs.Ruling.{ports_tell}
use Rattle.hpc2_audit.proofs.rules.keeps_ports.Goals as goal

pub returns : goal.returns
returns c =
    let net = plain_of c.args.net.now in
    let sheet = c.requires.sheet in
    let tables = c.args.sheet.now in
    let w = c.args.wire in
    let e : c.said_at-said.result ≡ said_at tables.said w = c.said_at-said.ensures ∙ ap (λ xs. said_at xs w) c.as_slice.ensures in
    let p : c.says_clock.result ≡ says_clock (said_at tables.said w) = c.says_clock.ensures ∙ ap says_clock e in
    let q : c.is_there.result ≡ is_there (place_at tables.clock w) = c.is_there.ensures ∙ ap (λ xs. is_there (place_at xs w)) c.as_slice-2.ensures in
    let r : c.says_random.result ≡ says_random (said_at tables.said w) = c.says_random.ensures ∙ ap says_random e in
    let s : c.is_there-2.result ≡ is_there (place_at tables.random w) = c.is_there-2.ensures ∙ ap (λ xs. is_there (place_at xs w)) c.as_slice-3.ensures in
    let is : c.both_follow.result ≡ ((not (says_clock (said_at tables.said w)) || is_there (place_at tables.clock w)) && (not (says_random (said_at tables.said w)) || is_there (place_at tables.random w))) = cc (c.both_follow.ensures, p, q, r, s) in
    ports_tell net tables.order tables.said sheet.well sheet.said w c.requires.within (place_at tables.clock w) (place_at tables.random w) c.both_follow.result (sheet.clock.told w c.requires.within) (sheet.random.told w c.requires.within) is
