use Rattle.std.proofs.Common.{length, ap, ◌∙◌}
use Rattle.random_draws.specs.Draws.{Turn, random_bits}
use Rattle.shared_tape.proofs.Drawing.{draws_are, bits_long}
use Rattle.shared_tape.proofs.sharing.draws_of.Goals as goal

pub returns-clause-long : goal.returns-clause-long
returns-clause-long c =
    let t = c.new-bits.result in ap length (c.in_ok-draws.ensures ∙ c.in_ok-row.ensures.row) ∙ (bits_long t.key t.stream t.next c.in-Some.width ∙ c.in-Some.ensures.1)

pub returns-clause-draws : goal.returns-clause-draws
returns-clause-draws c = λ n is. (
    c.in_ok-draws.ensures
    ∙ (c.in_ok-row.ensures.row
    ∙ (ap (λ (u : Turn). random_bits u.key u.stream u.next c.in-Some.width) c.new-bits.ensures
    ∙ draws_are c.args.seed.now c.args.first n c.args.order c.args.count c.in-Some.width is c.in-Some.ensures.1)))
