use Rattle.std.proofs.Common.{◌-◌, ◌+◌, sym, ◌∙◌, arith}
use Rattle.cell_function.specs.Parts.{parts_of}
use Rattle.cell_function.proofs.Left.{bangs_on, bangs_stop, bangs_end}
use Rattle.cell_function.proofs.sums.bangs.Goals as goal

pub returns-in-None : goal.returns-in-None
returns-in-None c = sym (bangs_stop (c.args.limit - c.loop.counter) c.loop.count (parts_of c.loop.rest.now) c.in-None.ensures) ∙ c.loop.invariant.0

pub loop-preserved : goal.loop-preserved
loop-preserved c = (
  sym (bangs_on (c.args.limit - c.loop.counter) (c.args.limit - (c.loop.counter + 1)) c.loop.count (parts_of c.loop.rest.now) (parts_of c.in-Some.behind.now) (omega arith) c.in-Some.ensures) ∙ c.loop.invariant.0,
  omega arith,
)

pub returns : goal.returns
returns c = sym (bangs_end (c.args.limit - c.loop.counter) c.loop.count (parts_of c.loop.rest.now) (omega arith)) ∙ c.loop.invariant.0
