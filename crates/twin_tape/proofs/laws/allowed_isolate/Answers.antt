use Rattle.twin_tape.specs.Permitted.{permitted, sights}
use Rattle.twin_tape.specs.Security.{role_at}
use Rattle.twin_tape.proofs.Alike.{sees_more}
use Rattle.twin_tape.proofs.laws.allowed_isolate.Goals as goal

pub returns : goal.returns
returns c = λ net d label well hpc2 labels T probes A known inside more power first second is_first agree o.
    c.permitted_isolate.ensures net d label well hpc2 labels T probes A inside power first second is_first
    (λ t n lt at h. agree t n lt at (sees_more (permitted (sights label probes) A T) known more (role_at net n) h)) o
