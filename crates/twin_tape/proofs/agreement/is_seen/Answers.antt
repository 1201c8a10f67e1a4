use Rattle.std.proofs.Common.{◌∙◌}
use Rattle.twin_tape.proofs.Agreeing.{sees_public, sees_share}
use Rattle.twin_tape.proofs.agreement.is_seen.Goals as goal

pub returns-in-Share : goal.returns-in-Share
returns-in-Share c = λ p at. (c.holds.ensures ∙ sees_share c.args.indices.now p.name c.in-Share.index (c.in-Share.ensures p at))

pub returns-in-Public : goal.returns-in-Public
returns-in-Public c = λ p at. (let role = c.in-Public.ensures p at in sees_public c.args.indices.now p.name role.0 role.1)
