use Rattle.std.proofs.Common.{Some, None}
use Rattle.std.proofs.lemmas.Bool.Decides.{Decides-eqb}
use Rattle.std.proofs.lemmas.Slice.Eq.{strip_prefix_is}
use Rattle.hpc2_audit.proofs.Spelling.{more_tells, no_front}
use Rattle.hpc2_audit.proofs.spelled.has_more.Goals as goal

pub returns-in-Some : goal.returns-in-Some
returns-in-Some c =
    more_tells c.args.name.now c.args.front.now c.in-Some.rest.now c.is_empty.result (strip_prefix_is Decides-eqb c.args.name.now c.args.front.now (Some c.in-Some.rest) c.in-Some.ensures.cases) c.is_empty.ensures

pub returns-in-None : goal.returns-in-None
returns-in-None c = no_front c.args.name.now c.args.front.now (strip_prefix_is Decides-eqb c.args.name.now c.args.front.now None c.in-None.ensures.cases)
