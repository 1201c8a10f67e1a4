use Rattle.std.proofs.Common.{◌≤◌, ◌+◌, ◌*◌, ◌-◌, ◌/◌, ◌^◌, IsTrue, nat_lt, length, sym, subst, refl, lit<, arith}
use Rattle.logic_graph.specs.declared.nodes.XanNode.TheVariants.{Input, Q, And}
use Rattle.pipeline_balance.specs.declared.values.Value.{Value}
use Rattle.pipeline_balance.specs.Valued.{signal, MakesValue, IsInverse}
use Rattle.pipeline_balance.specs.Chained.{value_at, kind_at}
use Rattle.pipeline_balance.proofs.Sizes.{value_fits}
use Rattle.pipeline_balance.proofs.Noding as noding
use Rattle.pipeline_balance.proofs.Adding as adding
use Rattle.std.proofs.lemmas.Bool.{and_parts, ltb-true}
use Rattle.logic_graph.specs.Nodes.{xan_reads_before}
use Rattle.share_wiring.specs.Adds.{random_bits}
use Rattle.pipeline_balance.specs.Chained.{CanBeMade, gadgets_in, MakesNode}
use Rattle.pipeline_balance.proofs.nodes.make_node.Goals as goal

pub constant-requires : goal.constant-requires
constant-requires g c =
    let n = g.row.S in
    let two = c.requires.size.0 in
    (value_fits n c.requires.size.1, (omega (arith, two), c.requires.size.1))

pub constant-requires-in-One : goal.constant-requires-in-One
constant-requires-in-One g c =
    let n = g.row.S in
    let two = c.requires.size.0 in
    (value_fits n c.requires.size.1, (omega (arith, two), c.requires.size.1))

pub inverse-requires : goal.inverse-requires
inverse-requires g c =
    let n = g.row.S in
    let two = c.requires.size.0 in
    let can = subst (λ node. CanBeMade n (length c.args.inputs.now) (length c.args.registers.now) c.args.table.now c.args.level c.args.late_first node) c.in-Not.is c.requires.can in
    (value_fits n c.requires.size.1, ((omega (arith, two), c.requires.size.1), noding.value_read n _ c.args.table.now c.in-Not.a c.args.level c.read-x.result can.0 c.requires.values c.read-x.ensures))

pub sum_node-requires : goal.sum_node-requires
sum_node-requires g c =
    let n = g.row.S in
    let can = subst (λ node. CanBeMade n (length c.args.inputs.now) (length c.args.registers.now) c.args.table.now c.args.level c.args.late_first node) c.in-Xor.is c.requires.can in
    (lit< tt, (value_fits n c.requires.size.1, (c.requires.size, (c.requires.values, (can.0, can.1)))))

pub product_node-requires : goal.product_node-requires
product_node-requires g c =
    let n = g.row.S in
    let can = subst (λ node. CanBeMade n (length c.args.inputs.now) (length c.args.registers.now) c.args.table.now c.args.level c.args.late_first node) c.in-And.is c.requires.can in
    let k = length c.args.table.now in
    let reads = and_parts (nat_lt c.in-And.a k) (nat_lt c.in-And.b k) (subst (λ node. IsTrue (xan_reads_before k node)) c.in-And.is c.requires.order) in (
      lit< tt,
      (
        value_fits n c.requires.size.1,
        (
          c.requires.size,
          (
            (ltb-true c.in-And.a k reads.0, ltb-true c.in-And.b k reads.1),
            (
              c.requires.values,
              (
                can,
                (
                  subst (λ node. c.args.builder.now.given + gadgets_in (kind_at c.args.table.now) node * (n * (n - 1) / 2) ≤ length (random_bits c.args.builder.now.ports)) c.in-And.is c.requires.random,
                  subst (λ node. c.args.builder.now.gadgets + gadgets_in (kind_at c.args.table.now) node ≤ 2 ^ 32) c.in-And.is c.requires.gadgets,
                ),
              ),
            ),
          ),
        ),
      ),
    )

pub returns-in_ok-made-in-Zero-clause-made : goal.returns-in_ok-made-in-Zero-clause-made
returns-in_ok-made-in-Zero-clause-made g c =
    let n = g.row.S in
    rw c.in-Zero.is (adding.makes_as _ _ _ 0 0 0 _ _ _ _ refl (omega arith) (λ cycles bits f. noding.zero_made n c.args.inputs.now c.args.registers.now c.args.table.now c.args.level c.in_ok-made-in-Zero.made cycles bits f) c.in_ok-made-in-Zero.ensures.made)

pub returns-in_ok-made-in-One-clause-made : goal.returns-in_ok-made-in-One-clause-made
returns-in_ok-made-in-One-clause-made g c =
    let n = g.row.S in
    rw c.in-One.is (adding.makes_as _ _ _ 0 0 0 _ _ _ _ refl (omega arith) (λ cycles bits f. noding.one_made n c.args.inputs.now c.args.registers.now c.args.table.now c.args.level c.in_ok-made-in-One.made cycles bits f) c.in_ok-made-in-One.ensures.made)

pub returns-in-Input-clause-made : goal.returns-in-Input-clause-made
returns-in-Input-clause-made g c =
    let n = g.row.S in
    let can = subst (λ node. CanBeMade n (length c.args.inputs.now) (length c.args.registers.now) c.args.table.now c.args.level c.args.late_first node) c.in-Input.is c.requires.can in
    let x = value_at c.args.inputs.now c.in-Input.i in
    rw c.in-Input.is
    (subst (λ (v : Value n). MakesValue c.args.builder.now c.args.builder.now n 0 (0 * (n * (n - 1) / 2)) v (MakesNode n c.args.inputs.now c.args.registers.now c.args.table.now (Input c.in-Input.i) c.args.level v)) (sym c.source_value-given.ensures)
    (adding.makes_as _ _ _ 0 0 0 _ _ _ _ refl (omega arith) (λ cycles bits f. f)
    (adding.makes_none _ c.args.builder.now _ _ (c.requires.sources.0 c.in-Input.i can.1)
    (λ cycles bits. noding.input_made n c.args.inputs.now c.args.registers.now c.args.table.now c.args.level x cycles bits c.in-Input.i can.0 can.1 refl))))

pub returns-in-Q-clause-made : goal.returns-in-Q-clause-made
returns-in-Q-clause-made g c =
    let n = g.row.S in
    let can = subst (λ node. CanBeMade n (length c.args.inputs.now) (length c.args.registers.now) c.args.table.now c.args.level c.args.late_first node) c.in-Q.is c.requires.can in
    let x = value_at c.args.registers.now c.in-Q.r in
    rw c.in-Q.is
    (subst (λ (v : Value n). MakesValue c.args.builder.now c.args.builder.now n 0 (0 * (n * (n - 1) / 2)) v (MakesNode n c.args.inputs.now c.args.registers.now c.args.table.now (Q c.in-Q.r) c.args.level v)) (sym c.source_value-held.ensures)
    (adding.makes_as _ _ _ 0 0 0 _ _ _ _ refl (omega arith) (λ cycles bits f. f)
    (adding.makes_none _ c.args.builder.now _ _ (c.requires.sources.1 c.in-Q.r can.1)
    (λ cycles bits. noding.register_made n c.args.inputs.now c.args.registers.now c.args.table.now c.args.level x cycles bits c.in-Q.r can.0 can.1 refl))))

pub returns-in_ok-made-in-Not-clause-made : goal.returns-in_ok-made-in-Not-clause-made
returns-in_ok-made-in-Not-clause-made g c =
    let n = g.row.S in
    let can = subst (λ node. CanBeMade n (length c.args.inputs.now) (length c.args.registers.now) c.args.table.now c.args.level c.args.late_first node) c.in-Not.is c.requires.can in
    let made = c.in_ok-made-in-Not.made in
    let at = subst (λ (x : Value n). MakesValue c.args.builder.now c.inverse.new.builder n 0 0 made (λ cycles bits. IsInverse cycles (signal n bits x) (signal n bits made))) c.read-x.ensures c.in_ok-made-in-Not.ensures.made in
    rw c.in-Not.is (adding.makes_as _ _ _ 0 0 0 _ _ _ _ refl (omega arith) (λ cycles bits f. noding.not_made n c.args.inputs.now c.args.registers.now c.args.table.now c.args.level made cycles bits c.in-Not.a can.0 can.1 f) at)

pub returns-in_ok-made-in-Xor-clause-made : goal.returns-in_ok-made-in-Xor-clause-made
returns-in_ok-made-in-Xor-clause-made g c =
    let n = g.row.S in
    let can = subst (λ node. CanBeMade n (length c.args.inputs.now) (length c.args.registers.now) c.args.table.now c.args.level c.args.late_first node) c.in-Xor.is c.requires.can in
    rw c.in-Xor.is (adding.makes_as _ _ _ 0 0 0 _ _ _ _ refl (omega arith) (λ cycles bits f. noding.xor_made n c.args.inputs.now c.args.registers.now c.args.table.now c.args.level c.in_ok-made-in-Xor.made cycles bits c.in-Xor.a c.in-Xor.b can.0 can.1 f) c.in_ok-made-in-Xor.ensures.made)

pub returns-in_ok-made-in-And-clause-made : goal.returns-in_ok-made-in-And-clause-made
returns-in_ok-made-in-And-clause-made g c =
    let n = g.row.S in
    let one = gadgets_in (kind_at c.args.table.now) (And c.in-And.a c.in-And.b) in
    rw c.in-And.is (adding.makes_as _ _ _ one one (one * (n * (n - 1) / 2)) _ _ _ _ refl refl (λ cycles bits f. f c.args.inputs.now c.args.registers.now) c.in_ok-made-in-And.ensures.made)
