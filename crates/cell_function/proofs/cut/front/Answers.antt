use Rattle.std.proofs.Common.{ap, ◌∙◌}
use Rattle.cell_function.specs.Parts.{part_at}
use Rattle.cell_function.specs.Parts.{part_of, front_of}
use Rattle.cell_function.proofs.Row.{front_is, mapped}
use Rattle.cell_function.proofs.cut.front.Goals as goal

pub returns : goal.returns
returns c =
    mapped (λ f. part_of f.0) (λ f. f.1.now) c.part.result (part_at c.behind_gaps.result.now) c.part.ensures
    ∙ (front_is c.behind_gaps.result.now c.behind_gaps.ensures.none ∙ ap front_of c.behind_gaps.ensures.all)
