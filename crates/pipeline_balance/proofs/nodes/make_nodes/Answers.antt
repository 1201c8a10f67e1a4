use Rattle.std.proofs.Common.{◌≡◌, get_or, slice_get, Some, lit<}
use Rattle.std.proofs.lemmas.Option.{slice_get-get_or}
use Rattle.logic_graph.specs.declared.nodes.XanNode.{XanNode}
use Rattle.logic_graph.specs.declared.nodes.XanNode.TheVariants.{Zero}
use Rattle.pipeline_balance.proofs.Sizes.{value_fits}
use Rattle.pipeline_balance.proofs.Filling as filling
use Rattle.pipeline_balance.proofs.nodes.make_nodes.Goals as goal

pub next_chain-requires : goal.next_chain-requires
next_chain-requires g c =
    let n = g.row.S in
    let k = c.loop-k.k in
    let lt = c.loop-k-test.true in
    let node : XanNode = get_or c.args.graph.now k Zero in
    let at : slice_get c.args.graph.now k ≡ Some node = slice_get-get_or c.args.graph.now k Zero lt in
    let inputs = c.args.inputs.now in
    let registers = c.args.registers.now in
    let filled = c.loop-k.invariant in
    rw (c.as_slice.ensures, c.as_slice-levels.ensures, c.as_slice-lasts.ensures, c.as_slice-late_first.ensures) (
      value_fits n c.requires.size.1,
      (
        lit< tt,
        (
          c.requires.size,
          (
            (
              filling.next_sources n c.args.graph.now inputs registers c.args.layout.now c.args.builder.now c.loop-k.builder k c.loop-k.table filled c.requires.order c.requires.layout node at inputs c.requires.sources.0,
              filling.next_sources n c.args.graph.now inputs registers c.args.layout.now c.args.builder.now c.loop-k.builder k c.loop-k.table filled c.requires.order c.requires.layout node at registers c.requires.sources.1,
            ),
            (
              filling.next_reads n c.args.graph.now inputs registers c.args.layout.now c.args.builder.now c.loop-k.builder k c.loop-k.table filled c.requires.order c.requires.layout node at,
              (
                filling.next_values n c.args.graph.now inputs registers c.args.layout.now c.args.builder.now c.loop-k.builder k c.loop-k.table filled c.requires.order c.requires.layout node at,
                (
                  filling.next_can n c.args.graph.now inputs registers c.args.layout.now c.args.builder.now c.loop-k.builder k c.loop-k.table filled c.requires.order c.requires.layout node at,
                  (
                    c.requires.layout.in_order k lt,
                    (
                      filling.next_random n c.args.graph.now inputs registers c.args.layout.now c.args.builder.now c.loop-k.builder k c.loop-k.table filled c.requires.order c.requires.layout node at lt c.requires.random,
                      filling.next_gadgets n c.args.graph.now inputs registers c.args.layout.now c.args.builder.now c.loop-k.builder k c.loop-k.table filled c.requires.order c.requires.layout node at lt c.requires.gadgets,
                    ),
                  ),
                ),
              ),
            ),
          ),
        ),
      ),
    )

pub loop-k-init : goal.loop-k-init
loop-k-init g c = filling.filled_begins g.row.S c.args.graph.now c.args.inputs.now c.args.registers.now c.args.layout.now c.args.builder.now c.new-table.result c.new-table.ensures

pub loop-k-preserved : goal.loop-k-preserved
loop-k-preserved g c =
    let n = g.row.S in
    let k = c.loop-k.k in
    let node : XanNode = get_or c.args.graph.now k Zero in
    let at : slice_get c.args.graph.now k ≡ Some node = slice_get-get_or c.args.graph.now k Zero c.loop-k-test.true in
    filling.filled_read n c.args.graph.now c.args.inputs.now c.args.registers.now c.args.layout.now c.args.builder.now c.loop-k.builder k c.loop-k.table c.loop-k.invariant c.requires.order c.requires.layout node at
    c.next_chain.new.builder c.in_ok-made.made c.push.new.self c.as_slice.result.now c.as_slice-levels.result.now c.as_slice-lasts.result.now
    c.as_slice.ensures c.as_slice-levels.ensures c.as_slice-lasts.ensures c.in_ok-push.ensures.ok c.in_ok-made.ensures.chain c.in_ok-made.ensures.adds
