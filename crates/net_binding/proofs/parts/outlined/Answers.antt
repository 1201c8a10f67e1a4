use Rattle.std.proofs.Common.{sym}
use Rattle.net_binding.proofs.parts.outlined.Goals as goal

pub returns-in-Some-outline_at : goal.returns-in-Some-outline_at
returns-in-Some-outline_at c =
    (sym c.in-Some.ensures, c.requires.outlines_are c.args.number c.in-Some.module.now c.in-Some-outline_at.outline.now (sym c.in-Some.ensures) (sym c.in-Some-outline_at.ensures))
