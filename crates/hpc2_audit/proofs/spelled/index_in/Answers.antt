use Rattle.std.proofs.Common.{Some, None}
use Rattle.std.proofs.lemmas.Bool.Decides.{Decides-eqb}
use Rattle.std.proofs.lemmas.Slice.Eq.{strip_prefix_is}
use Rattle.agm_net.proofs.Nets.{match_both}
use Rattle.hpc2_audit.proofs.Spelling.{indexed_behind, indexed_in, no_indexed}
use Rattle.hpc2_audit.proofs.spelled.index_in.Goals as goal

pub returns-in-Some : goal.returns-in-Some
returns-in-Some c =
    let name = c.args.name.now in
    let front = c.args.front.now in
    let behind = c.in-Some.behind.now in
    let cut = strip_prefix_is Decides-eqb name front (Some c.in-Some.behind) c.in-Some.ensures.cases in
    match_both c.index_before.result c.index_before.ensures
    (λ none i is. none i (indexed_in front behind name c.args.mark i cut is))
    (λ i is. indexed_behind front behind name c.args.mark i cut is)

pub returns-in-None : goal.returns-in-None
returns-in-None c = no_indexed c.args.front.now c.args.name.now c.args.mark (strip_prefix_is Decides-eqb c.args.name.now c.args.front.now None c.in-None.ensures.cases)
