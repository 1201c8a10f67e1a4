use Rattle.std.proofs.Common.{◌<◌, ◌*◌, ap, ◌∙◌, length, get_or, arith}
use Rattle.std.proofs.lemmas.Option.{slice_get-get_or, slice_get_within, get_or_from_slice_get}
use Rattle.logic_graph.specs.declared.nodes.XanNode.TheVariants.{Zero}
use Rattle.logic_graph.specs.Settled.{bit_of}
use Rattle.secrecy_spread.specs.Levels.{xan_level}
use Rattle.level_plan.specs.PlanOf.{level_at}
use Rattle.level_plan.proofs.Passed.{reads_later, level_local, pass_more, level_low, low_more}
use Rattle.level_plan.proofs.levels.tell_levels.Goals as goal

pub level_of-requires-clause-in_order : goal.level_of-requires-clause-in_order
level_of-requires-clause-in_order c =
    let k = c.loop-k.k in
    let n = get_or c.args.nodes.now k Zero in
    let same = c.loop-k.auto.levels in
    reads_later k (length c.loop-k.levels) n (omega arith) (c.requires.in_order k n (slice_get-get_or c.args.nodes.now k Zero c.loop-k-test.true))

pub level_of-requires-clause-low : goal.level_of-requires-clause-low
level_of-requires-clause-low c = λ j lt.
    (let low = c.loop-k.invariant.low j in let k = c.loop-k-test.true in let small = c.requires.small in omega arith)

pub loop-k-init : goal.loop-k-init
loop-k-init c = record { tells = λ j n lt at. absurd (omega arith); low = λ j. (let z = c.requires.zero j in omega arith) }

pub loop-k-preserved : goal.loop-k-preserved
loop-k-preserved c =
    let same = c.loop-k.auto.levels in
    let k = c.loop-k.k in
    let n = get_or c.args.nodes.now k Zero in
    let lt : k < length c.loop-k.levels = (let m = c.requires.as_many in omega arith) in
    let inv = c.loop-k.invariant in
    record {
      tells = pass_more 0 (xan_level (bit_of c.args.secret.now)) (level_local (bit_of c.args.secret.now)) c.args.nodes.now c.loop-k.levels k c.level_of.result c.requires.in_order lt
          (λ m at. c.level_of.ensures ∙ ap (xan_level (bit_of c.args.secret.now) (level_at c.loop-k.levels)) (get_or_from_slice_get c.args.nodes.now k m Zero at))
          inv.tells;
      low = low_more c.loop-k.levels k c.level_of.result lt (let l = level_low (bit_of c.args.secret.now) (level_at c.loop-k.levels) (2 * k) n inv.low in let e = c.level_of.ensures in omega arith) inv.low;
    }

pub returns : goal.returns
returns c =
    let same = c.loop-k.auto.levels in
    record {
      one_each = c.loop-k.auto.levels ∙ c.requires.as_many;
      tells = λ k n at. (let lt = slice_get_within c.args.nodes.now k n at in c.loop-k.invariant.tells k n (omega arith) at);
    }
