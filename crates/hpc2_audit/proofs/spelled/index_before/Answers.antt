use Rattle.std.proofs.Common.{sym, true≢false}
use Rattle.hpc2_audit.proofs.Spelling.{before_other}
use Rattle.hpc2_audit.proofs.spelled.index_before.Goals as goal

pub returns-else-begins_so : goal.returns-else-begins_so
returns-else-begins_so c =
    let own = c.in-Some.ensures in
    before_other c.args.behind.now c.args.mark c.requires c.in-Some.index c.in-Some.rest.now own.0 own.1 own.2 (λ h. true≢false (sym (c.if-begins_so.ensures.1 h)))
