use Rattle.std.proofs.Common.{length, ap, subst₂, ◌∙◌}
use Rattle.pipeline_balance.specs.Piped.{node_at}
use Rattle.pipeline_balance.specs.Reaching.{AreReached}
use Rattle.pipeline_balance.proofs.Planned.{laid_copy}
use Rattle.pipeline_balance.proofs.layouts.layout_of.Goals as goal

pub returns : goal.returns
returns c =
    laid_copy c.args.xan.now c.args.secrets.now c.args.plan.now c.as_slice-secret.result.now _ c.as_slice-late_first.result.now _ c.as_slice-levels.result.now _ c.in_ok-lasts.lasts _ c.requires.plan c.requires.sources
    c.as_slice-secret.ensures c.as_slice-levels.ensures c.as_slice-late_first.ensures c.in_ok-from_slice.ensures c.in_ok-from_slice-2.ensures c.in_ok-from_slice-3.ensures c.lasts.view_is
    (c.in_ok-lasts.ensures.one_each ∙ ap length c.as_slice.ensures)
    (subst₂ (λ ns ks. AreReached ns ks c.as_slice-secret.result.now c.as_slice-levels.result.now c.as_slice-late_first.result.now c.args.plan.now.depth (node_at c.in_ok-lasts.lasts)) c.as_slice.ensures c.as_slice-2.ensures c.in_ok-lasts.ensures.reached)
