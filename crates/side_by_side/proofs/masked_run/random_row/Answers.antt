use Rattle.std.proofs.Common.{ap, ◌*◌, ◌∙◌}
use Rattle.rand_chacha.specs.ChaCha.{key_of}
use Rattle.random_draws.specs.Draws.{Turn, random_bits}
use Rattle.random_draws.proofs.Repeats.{same_bits}
use Rattle.side_by_side.proofs.masked_run.random_row.Goals as goal

pub returns : goal.returns
returns c =
    c.in_ok-drawn.ensures
    ∙ (c.in_ok-row.ensures.row
    ∙ (ap (λ (u : Turn). random_bits u.key u.stream u.next c.args.width) c.new-bits.ensures ∙ same_bits (key_of c.args.seed.now) 0 (c.args.cycle * c.args.width) c.args.width))
