use Rattle.std.proofs.Common.{◌-◌, ◌+◌, sym, ap, ◌∙◌, arith}
use Rattle.cell_function.specs.Reading.{nots}
use Rattle.cell_function.specs.Tree.{tree_of}
use Rattle.cell_function.proofs.Left.{nots_on, nots_end}
use Rattle.cell_function.proofs.sums.nots.Goals as goal

pub loop-preserved : goal.loop-preserved
loop-preserved c =
    ap (nots (c.args.count - (c.loop.counter + 1))) c.in_ok-inverted.ensures
    ∙ (sym (nots_on (c.args.count - c.loop.counter) (c.args.count - (c.loop.counter + 1)) (tree_of c.loop.inverted) (omega arith)) ∙ c.loop.invariant)

pub returns : goal.returns
returns c = sym (nots_end (c.args.count - c.loop.counter) (tree_of c.loop.inverted) (omega arith)) ∙ c.loop.invariant
