use Rattle.std.proofs.Common.{sym, subst, inl, inr}
use Rattle.agm_net.proofs.Nets.{match_both}
use Rattle.hpc2_audit.specs.Spelled.{IsIndexed}
use Rattle.hpc2_audit.proofs.Spelling.{of_three, no_three}
use Rattle.hpc2_audit.proofs.spelled.share_of.Goals as goal

pub returns-in-Some : goal.returns-in-Some
returns-in-Some c =
    let name = c.args.name.now in
    of_three c.in-Some.index name (inl (subst (λ f. IsIndexed f 95 c.in-Some.index name) c.as_slice.ensures c.in-Some.ensures))

pub returns : goal.returns
returns c =
    let name = c.args.name.now in
    match_both c.state_index.result c.state_index.ensures
    (λ none. no_three name
    (λ i is. c.in_default.ensures i (subst (λ f. IsIndexed f 95 i name) (sym c.as_slice.ensures) is))
    (λ i is. c.in_default-index_in.ensures i (subst (λ f. IsIndexed f 46 i name) (sym c.as_slice-2.ensures) is))
    none)
    (λ i is. of_three i name (inr (inr is)))
