use Rattle.std.proofs.Common.{◌+◌, ◌*◌, ◌-◌, ◌/◌, sym, subst, lit<, arith}
use Rattle.pipeline_balance.specs.declared.values.Value.{Value}
use Rattle.pipeline_balance.specs.Chained.{kind_at, gadgets_in, IsChain, MakesNode}
use Rattle.pipeline_balance.proofs.Sizes.{value_fits}
use Rattle.pipeline_balance.proofs.Adding as adding
use Rattle.pipeline_balance.proofs.nodes.next_chain.Goals as goal

pub make_chain-requires : goal.make_chain-requires
make_chain-requires g c =
    let n = g.row.S in
    let two = c.requires.size.0 in
    (value_fits n c.requires.size.1, (lit< tt, ((omega (arith, two), c.requires.size.1), (c.in_ok-value.ensures.made.shares, c.requires.last))))

pub returns-clause-chain : goal.returns-clause-chain
returns-clause-chain g c =
    let n = g.row.S in
    subst (λ s. IsChain n c.make_chain.new.builder s c.args.level c.args.last c.in_ok-made.made) c.in_ok-value.ensures.kind c.in_ok-made.ensures.chain

pub returns-clause-adds : goal.returns-clause-adds
returns-clause-adds g c =
    let n = g.row.S in
    let v = c.in_ok-value.value in
    let here = gadgets_in (kind_at c.args.table.now) c.args.kind in
    adding.adds_so _ _ (here + 0) here (here * (n * (n - 1) / 2) + 0) (here * (n * (n - 1) / 2)) _ _ (omega arith) (omega arith)
    (λ cycles bits f. (subst (λ (x : Value n). MakesNode n c.args.inputs.now c.args.registers.now c.args.table.now c.args.kind c.args.level x cycles bits) (sym c.in_ok-made.ensures.first) f.0, f.1))
    (adding.adds_then _ _ _ here 0 (here * (n * (n - 1) / 2)) 0 _ _ (adding.adds_of _ _ _ _ _ _ _ c.in_ok-value.ensures.made) c.in_ok-made.ensures.adds)
