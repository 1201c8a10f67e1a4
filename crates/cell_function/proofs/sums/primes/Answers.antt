use Rattle.std.proofs.Common.{◌-◌, ◌+◌, sym, ap, ◌∙◌, arith}
use Rattle.cell_function.specs.Parts.{parts_of}
use Rattle.cell_function.specs.Reading.{primes_at}
use Rattle.cell_function.specs.Tree.{tree_of}
use Rattle.cell_function.proofs.Left.{primes_on, primes_stop, primes_end}
use Rattle.cell_function.proofs.sums.primes.Goals as goal

pub returns-in-None : goal.returns-in-None
returns-in-None c =
    sym (primes_stop (c.args.limit - c.loop.counter) (tree_of c.loop.inverted) (parts_of c.loop.rest.now) c.in-None.ensures) ∙ c.loop.invariant

pub loop-preserved : goal.loop-preserved
loop-preserved c =
    ap (λ t. primes_at (c.args.limit - (c.loop.counter + 1)) t (parts_of c.in-Some.behind.now)) c.in_ok-inverted-in-Some.ensures
    ∙ (sym (primes_on (c.args.limit - c.loop.counter) (c.args.limit - (c.loop.counter + 1)) (tree_of c.loop.inverted) (parts_of c.loop.rest.now) (parts_of c.in-Some.behind.now) (omega arith) c.in-Some.ensures) ∙ c.loop.invariant)

pub returns : goal.returns
returns c = sym (primes_end (c.args.limit - c.loop.counter) (tree_of c.loop.inverted) (parts_of c.loop.rest.now) (omega arith)) ∙ c.loop.invariant
