use Rattle.std.proofs.Common.{◌≡◌, [], length, get_or, slice_get, Some, sym, subst, ◌∙◌, arith}
use Rattle.std.proofs.lemmas.Option.{slice_get-get_or}
use Rattle.logic_graph.specs.declared.nodes.XanNode.{XanNode}
use Rattle.logic_graph.specs.declared.nodes.XanNode.TheVariants.{Zero}
use Rattle.pipeline_balance.specs.Reaching.{AreRaised}
use Rattle.pipeline_balance.proofs.Raising.{raising_begins, node_raised, reads_more}
use Rattle.pipeline_balance.proofs.lasts.raise_nodes.Goals as goal

pub raise_reads-requires : goal.raise_reads-requires
raise_reads-requires c =
    let k = c.loop-k.k in
    let lt = c.loop-k-test.true in
    let count = (c.loop-k.invariant [] 0).count in
    let each = c.requires.each.0 in
    let node : XanNode = get_or c.args.graph.now k Zero in
    let at : slice_get c.args.graph.now k ≡ Some node = slice_get-get_or c.args.graph.now k Zero lt in
    record { order = reads_more k (length c.loop-k.lasts.items) node (omega (arith, lt, count)) (c.requires.order k node at); secret = each ∙ sym count }

pub loop-k-init : goal.loop-k-init
loop-k-init c sinks depth = raising_begins c.args.graph.now sinks c.args.secret.now c.args.levels.now c.args.late_first.now depth c.args.lasts.now.items c.requires.each.1 c.requires.begun

pub loop-k-preserved : goal.loop-k-preserved
loop-k-preserved c sinks depth =
    let k = c.loop-k.k in
    let lt = c.loop-k-test.true in
    let node : XanNode = get_or c.args.graph.now k Zero in
    let at : slice_get c.args.graph.now k ≡ Some node = slice_get-get_or c.args.graph.now k Zero lt in
    node_raised c.args.graph.now sinks c.args.secret.now c.args.levels.now c.args.late_first.now depth k 0 c.loop-k.lasts.items c.raise_reads.new.lasts.items node lt (c.requires.order k node at) at
    c.raise_reads.ensures (c.loop-k.invariant sinks depth)

pub returns : goal.returns
returns c sinks depth =
    let no = c.loop-k-test.false in
    let le = c.loop-k.auto.k-end in
    let whole : c.loop-k.k ≡ length c.args.graph.now = omega (arith, no, le) in
    subst (λ k. AreRaised c.args.graph.now sinks c.args.secret.now c.args.levels.now c.args.late_first.now depth k 0 c.loop-k.lasts.items) whole (c.loop-k.invariant sinks depth)
