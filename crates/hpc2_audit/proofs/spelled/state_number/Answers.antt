use Rattle.std.proofs.Common.{sym, true≢false}
use Rattle.hpc2_audit.proofs.Spelling.{number_none, number_other}
use Rattle.hpc2_audit.proofs.spelled.state_number.Goals as goal

pub returns-else-is_bare_or_bracketed : goal.returns-else-is_bare_or_bracketed
returns-else-is_bare_or_bracketed c =
    let own = c.in-Some.ensures in
    number_other c.args.behind.now c.in-Some.index c.in-Some.rest.now own.0 own.1 own.2 (λ h. true≢false (sym (c.if-is_bare_or_bracketed.ensures.1 h)))

pub returns-in-None : goal.returns-in-None
returns-in-None c = number_none c.args.behind.now c.in-None.ensures
