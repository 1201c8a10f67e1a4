use Rattle.std.proofs.Common.{take, ◌∙◌}
use Rattle.top_module.proofs.Grown.{among_more}
use Rattle.top_module.proofs.Placed.{map_same}
use Rattle.top_module.specs.Steps.{joined_among}
use Rattle.top_module.proofs.ports.add_facts.Goals as goal

pub loop-own-preserved : goal.loop-own-preserved
loop-own-preserved c = record {
  long = c.add_fact.auto.facts ∙ c.loop-own.invariant.long;
  grown = λ f all.
      c.add_fact.ensures (λ n. joined_among (take c.loop-own.own-index c.args.declared.now) c.args.more (f n) n) (c.loop-own.invariant.grown f all)
      ∙ map_same _ _ c.args.names.now (λ j n at. among_more c.args.declared.now c.loop-own.own-index c.own-item.result c.args.more (f n) n c.loop-own-test.true c.own-item.is);
}
