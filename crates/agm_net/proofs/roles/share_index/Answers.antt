use Rattle.std.proofs.Common.{◌≡◌, ◌++◌, ℕ, List, codes, Some, subst}
use Rattle.std.proofs.lemmas.Bool.Decides.{Decides-eqb}
use Rattle.std.proofs.lemmas.Slice.Eq.{strip_prefix_is}
use Rattle.agm_net.proofs.Nets.{match_both}
use Rattle.agm_net.proofs.ShareIndex.{share_from, share_not, share_never}
use Rattle.agm_net.proofs.roles.share_index.Goals as goal

pub returns-in-Some : goal.returns-in-Some
returns-in-Some c =
    let front : c.args.name.now ≡ codes "agm_s" ++ c.in_ok-behind.behind.now =
    subst (λ (p : List ℕ). c.args.name.now ≡ p ++ c.in_ok-behind.behind.now) c.as_slice.ensures
    (strip_prefix_is Decides-eqb c.args.name.now c.as_slice.result.now (Some c.in_ok-behind.behind) c.in_ok-behind.ensures.cases) in
    let cut = c.in-Some.ensures in
    match_both c.index_of.result c.index_of.ensures
    (share_not c.args.name.now c.in_ok-behind.behind.now c.in-Some.digits.now cut.1 front cut.0 cut.2 cut.3)
    (share_from c.args.name.now c.in_ok-behind.behind.now c.in-Some.digits.now cut.1 front cut.0 cut.2 cut.3)

pub returns-in-None : goal.returns-in-None
returns-in-None c =
    let front : c.args.name.now ≡ codes "agm_s" ++ c.in_ok-behind.behind.now =
    subst (λ (p : List ℕ). c.args.name.now ≡ p ++ c.in_ok-behind.behind.now) c.as_slice.ensures
    (strip_prefix_is Decides-eqb c.args.name.now c.as_slice.result.now (Some c.in_ok-behind.behind) c.in_ok-behind.ensures.cases) in
    share_never c.args.name.now c.in_ok-behind.behind.now front c.in-None.ensures
