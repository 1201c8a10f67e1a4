use Rattle.agema_texts.proofs.Costs.{sources_told}
use Rattle.agema_texts.proofs.planned.plan_naive.Goals as goal

pub plan-requires : goal.plan-requires
plan-requires c = record { sources = sources_told c.args.graph.now c.in_ok-xan.xan c.args.secrets.now c.requires.entries c.in_ok-xan.ensures.among }
