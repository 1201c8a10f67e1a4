use Rattle.std.proofs.Common.{◌≡◌, ◌<◌, ℕ, length, sym, ap, subst, subst₂, ◌∙◌, lit<, arith}
use Rattle.pipeline_balance.specs.Chained.{value_at, at_level, IsFilled}
use Rattle.pipeline_balance.specs.Registered.{AreClosed}
use Rattle.pipeline_balance.specs.Piped.{node_at}
use Rattle.pipeline_balance.proofs.Sizes.{value_fits}
use Rattle.pipeline_balance.proofs.Registering.{same_kind}
use Rattle.pipeline_balance.proofs.Piping as piping
use Rattle.pipeline_balance.proofs.pipeline.make_pipeline.Goals as goal

pub hold_registers-requires : goal.hold_registers-requires
hold_registers-requires g c = (let two = c.requires.size.0 in (value_fits g.row.S c.requires.size.1, (omega (arith, two), c.requires.size.1)))

pub make_nodes-requires : goal.make_nodes-requires
make_nodes-requires g c =
    let n = g.row.S in
    let start = c.args.builder.now in
    let mid = c.hold_registers.new.builder in
    let held = c.in_ok-held.held in
    let registers = c.in_ok-held.ensures.registers in
    let adds = c.in_ok-held.ensures.adds in
    rw c.as_slice.ensures (
      value_fits n c.requires.size.1,
      (
        lit< tt,
        (
          c.requires.size,
          (
            (piping.sources_still n start mid c.args.firsts.now held registers adds c.args.inputs.now c.requires.inputs, registers.values),
            (
              c.requires.order,
              (
                piping.layout_still n start mid c.args.firsts.now held registers adds c.args.graph.now _ c.args.layout.now c.requires.layout,
                (
                  piping.random_still n start mid c.args.firsts.now held registers adds _ c.requires.random,
                  piping.gadgets_still n start mid c.args.firsts.now held registers adds _ c.requires.gadgets,
                ),
              ),
            ),
          ),
        ),
      ),
    )

pub read_all-requires : goal.read_all-requires
read_all-requires g c =
    let n = g.row.S in
    rw c.as_slice-2.ensures (
      lit< tt,
      (
        value_fits n c.requires.size.1,
        piping.end_read n c.args.graph.now c.args.inputs.now _ c.args.layout.now _ _ c.in_ok-table.table c.in_ok-table.ensures c.args.depth c.args.outputs.now c.requires.outputs,
      ),
    )

pub read_all-requires-2 : goal.read_all-requires-2
read_all-requires-2 g c =
    let n = g.row.S in
    rw c.as_slice-3.ensures (
      lit< tt,
      (
        value_fits n c.requires.size.1,
        piping.end_read n c.args.graph.now c.args.inputs.now _ c.args.layout.now _ _ c.in_ok-table.table c.in_ok-table.ensures c.args.depth c.args.nexts.now c.requires.nexts,
      ),
    )

pub close_registers-requires : goal.close_registers-requires
close_registers-requires g c =
    let n = g.row.S in
    let start = c.args.builder.now in
    let mid = c.hold_registers.new.builder in
    let now = c.make_nodes.new.builder in
    let graph = c.args.graph.now in
    let inputs = c.args.inputs.now in
    let firsts = c.args.firsts.now in
    let nexts = c.args.nexts.now in
    let layout = c.args.layout.now in
    let depth = c.args.depth in
    let held = c.in_ok-held.held in
    let stored = c.in_ok-stored.stored in
    let table = c.in_ok-table.table in
    let registers = c.in_ok-held.ensures.registers in
    let adds = c.in_ok-held.ensures.adds in
    let filled : IsFilled n graph inputs held layout mid now (length graph) table = subst (λ h. IsFilled n graph inputs h layout mid now (length graph) table) c.as_slice.ensures c.in_ok-table.ensures in
    let same_count = piping.map_length n held firsts registers.kinds in
    let one_each = c.requires.one_each in
    let counted : length held ≡ length nexts = same_count ∙ sym one_each in
    let next_are : (j : ℕ) → j < length nexts → value_at stored j ≡ at_level table (node_at nexts j) depth = λ j lt. c.in_ok-stored.ensures.read j lt ∙ ap (λ t. at_level t (node_at nexts j) depth) c.as_slice-3.ensures in
    let each_next = c.in_ok-stored.ensures.one_each in
    let two = c.requires.size.0 in
    rw (c.as_slice-4.ensures, c.as_slice-5.ensures) (
      value_fits n c.requires.size.1,
      (
        (omega (arith, two), c.requires.size.1),
        (
          filled.adds.extends.publics c.args.load (adds.extends.publics c.args.load c.requires.load),
          (
            (sym same_count, omega (arith, each_next, counted)),
            (
              piping.registers_still n graph inputs held layout mid now table filled depth firsts registers,
              (
                piping.held_still n graph inputs held layout mid now table filled depth c.in_ok-held.ensures.held,
                (
                  piping.sources_on n graph inputs held layout mid now table filled depth firsts (piping.sources_still n start mid firsts held registers adds firsts c.requires.firsts),
                  (
                    piping.end_values n graph inputs held layout mid now table filled depth nexts c.requires.nexts stored each_next next_are,
                    λ r lt public. (
                        let below : r < length nexts = omega (arith, lt, counted) in
                        piping.end_kind n graph inputs held layout mid now table filled depth nexts c.requires.nexts stored each_next next_are r below
                        ∙ c.requires.public r below (sym (same_kind n mid firsts held r registers) ∙ public)),
                  ),
                ),
              ),
            ),
          ),
        ),
      ),
    )

pub returns-clause-pipeline : goal.returns-clause-pipeline
returns-clause-pipeline g c =
    let n = g.row.S in
    let start = c.args.builder.now in
    let mid = c.hold_registers.new.builder in
    let now = c.make_nodes.new.builder in
    let graph = c.args.graph.now in
    let inputs = c.args.inputs.now in
    let firsts = c.args.firsts.now in
    let nexts = c.args.nexts.now in
    let layout = c.args.layout.now in
    let depth = c.args.depth in
    let held = c.in_ok-held.held in
    let stored = c.in_ok-stored.stored in
    let table = c.in_ok-table.table in
    let registers = c.in_ok-held.ensures.registers in
    let adds = c.in_ok-held.ensures.adds in
    let filled : IsFilled n graph inputs held layout mid now (length graph) table = subst (λ h. IsFilled n graph inputs h layout mid now (length graph) table) c.as_slice.ensures c.in_ok-table.ensures in
    let same_count = piping.map_length n held firsts registers.kinds in
    let one_each = c.requires.one_each in
    let counted : length held ≡ length nexts = same_count ∙ sym one_each in
    let next_are : (j : ℕ) → j < length nexts → value_at stored j ≡ at_level table (node_at nexts j) depth = λ j lt. c.in_ok-stored.ensures.read j lt ∙ ap (λ t. at_level t (node_at nexts j) depth) c.as_slice-3.ensures in
    let each_next = c.in_ok-stored.ensures.one_each in
    let outputs = c.args.outputs.now in
    let ends = c.in_ok-ends.ends in
    let new = c.close_registers.new.builder in
    let out_are : (j : ℕ) → j < length outputs → value_at ends j ≡ at_level table (node_at outputs j) depth = λ j lt. c.in_ok-ends.ensures.read j lt ∙ ap (λ t. at_level t (node_at outputs j) depth) c.as_slice-2.ensures in
    let closed : AreClosed n now new c.args.load firsts held stored (length held) = subst₂ (λ h s. AreClosed n now new c.args.load firsts h s (length h)) c.as_slice-4.ensures c.as_slice-5.ensures c.in_ok-close_registers.ensures in
    piping.makes_pipeline n graph inputs firsts held stored ends outputs nexts layout start mid now new c.args.load depth table adds filled closed counted
    c.requires.outputs c.in_ok-ends.ensures.one_each out_are c.requires.nexts each_next next_are

pub returns-clause-kinds : goal.returns-clause-kinds
returns-clause-kinds g c o lt =
    let n = g.row.S in
    let mid = c.hold_registers.new.builder in
    let now = c.make_nodes.new.builder in
    let graph = c.args.graph.now in
    let inputs = c.args.inputs.now in
    let layout = c.args.layout.now in
    let depth = c.args.depth in
    let held = c.in_ok-held.held in
    let table = c.in_ok-table.table in
    let filled : IsFilled n graph inputs held layout mid now (length graph) table = subst (λ h. IsFilled n graph inputs h layout mid now (length graph) table) c.as_slice.ensures c.in_ok-table.ensures in
    let outputs = c.args.outputs.now in
    let ends = c.in_ok-ends.ends in
    let out_are : (j : ℕ) → j < length outputs → value_at ends j ≡ at_level table (node_at outputs j) depth = λ j below. c.in_ok-ends.ensures.read j below ∙ ap (λ t. at_level t (node_at outputs j) depth) c.as_slice-2.ensures in
    piping.end_kind n graph inputs held layout mid now table filled depth outputs c.requires.outputs ends c.in_ok-ends.ensures.one_each out_are o lt
