use Rattle.std.proofs.Common.{◌≤◌, length, sym, ap, subst, ◌∙◌, arith}
use Rattle.pipeline_balance.specs.Piped.{node_at}
use Rattle.pipeline_balance.specs.Reaching.{AreReached}
use Rattle.pipeline_balance.proofs.Raising.{all_raised}
use Rattle.pipeline_balance.proofs.lasts.last_levels.Goals as goal

pub raise_nodes-requires : goal.raise_nodes-requires
raise_nodes-requires c = record { order = c.requires.order; each = c.requires.each; begun = c.into_vec-lasts.ensures ∙ c.in_ok-begun.ensures }

pub raise_sinks-requires : goal.raise_sinks-requires
raise_sinks-requires c j lt =
    let count = (c.raise_nodes.ensures c.args.sinks.now c.args.depth).count in
    let within = c.requires.sinks j lt in
    omega (arith, count, within)

pub returns-clause-one_each : goal.returns-clause-one_each
returns-clause-one_each c =
    let raised = c.raise_sinks.ensures _ _ _ _ _ (c.raise_nodes.ensures c.args.sinks.now c.args.depth) in
    ap length c.from_vec.ensures ∙ raised.count

pub returns-clause-reached : goal.returns-clause-reached
returns-clause-reached c =
    let raised = c.raise_sinks.ensures _ _ _ _ _ (c.raise_nodes.ensures c.args.sinks.now c.args.depth) in
    subst (λ xs. AreReached c.args.graph.now c.args.sinks.now c.args.secret.now c.args.levels.now c.args.late_first.now c.args.depth (node_at xs)) (sym c.from_vec.ensures)
    (all_raised c.args.graph.now c.args.sinks.now c.args.secret.now c.args.levels.now c.args.late_first.now c.args.depth c.raise_sinks.new.lasts.items raised)

pub returns-clause-least : goal.returns-clause-least
returns-clause-least c last reached k =
    let raised = c.raise_sinks.ensures _ _ _ _ _ (c.raise_nodes.ensures c.args.sinks.now c.args.depth) in
    subst (λ xs. node_at xs k ≤ last k) (sym c.from_vec.ensures) (raised.least last reached k)
