use Rattle.std.proofs.Common.{◌≡◌, length, max, ap, subst, ◌∙◌, arith}
use Rattle.std.proofs.lemmas.List.{length-set}
use Rattle.pipeline_balance.specs.Piped.{node_at}
use Rattle.pipeline_balance.specs.Reaching.{AreRaised}
use Rattle.pipeline_balance.proofs.Raising.{sink_raised}
use Rattle.pipeline_balance.proofs.lasts.raise_sinks.Goals as goal

pub raise-requires : goal.raise-requires
raise-requires c = (let within = c.requires c.loop-j.j c.loop-j-test.true in let count = c.loop-j.invariant.0 in omega (arith, within, count))

pub loop-j-preserved : goal.loop-j-preserved
loop-j-preserved c =
    let j = c.loop-j.j in
    let xs = c.loop-j.lasts.items in
    let s = node_at c.args.sinks.now j in
    let lt = c.loop-j-test.true in
    let count = c.loop-j.invariant.0 in
    let within = c.requires j lt in (
      ap length c.raise.ensures ∙ (length-set xs s (max (node_at xs s) c.args.depth) ∙ count),
      λ nodes secret levels late_first k begun.
          sink_raised nodes c.args.sinks.now secret levels late_first c.args.depth k j xs c.raise.new.lasts.items lt (omega (arith, within, count)) c.raise.ensures (c.loop-j.invariant.1 nodes secret levels late_first k begun),
    )

pub returns : goal.returns
returns c nodes secret levels late_first k begun =
    let no = c.loop-j-test.false in
    let le = c.loop-j.auto.j-end in
    let whole : c.loop-j.j ≡ length c.args.sinks.now = omega (arith, no, le) in
    subst (λ j. AreRaised nodes c.args.sinks.now secret levels late_first c.args.depth k j c.loop-j.lasts.items) whole (c.loop-j.invariant.1 nodes secret levels late_first k begun)
