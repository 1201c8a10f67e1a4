use Rattle.std.proofs.Common.{◌++◌, ◌∷◌, [], ◌∙◌, ap}
use Rattle.pipeline_balance.proofs.Chaining.{growing_begins, growing_value, growing_goes_on}
use Rattle.pipeline_balance.proofs.Sizes.{value_fits}
use Rattle.pipeline_balance.proofs.chains.make_chain.Goals as goal

pub delayed-requires : goal.delayed-requires
delayed-requires g c =
    let n = g.row.S in
    (value_fits n c.requires.size.1, (c.requires.size, growing_value n _ _ c.args.value.now c.args.level c.loop-at.at c.loop-at.stages c.loop-at.reached c.loop-at.invariant))

pub loop-at-init : goal.loop-at-init
loop-at-init g c =
    growing_begins g.row.S c.args.builder.now c.args.value.now c.args.level c.push.new.self c.requires.value
    (c.in_ok-push.ensures.ok ∙ ap (λ xs. xs ++ c.args.value.now ∷ []) c.new-stages.ensures)

pub loop-at-preserved : goal.loop-at-preserved
loop-at-preserved g c =
    growing_goes_on g.row.S _ _ _ c.args.value.now c.args.level c.loop-at.at c.loop-at.stages c.push-in-loop-at.new.self c.loop-at.reached c.in_ok-reached.reached
    c.loop-at.invariant c.in_ok-reached.ensures.kind c.in_ok-reached.ensures.made c.in_ok-push-2.ensures.ok
