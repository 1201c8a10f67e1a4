use Rattle.std.proofs.Common.{ap, ◌∙◌}
use Rattle.liberty_text.specs.First.{token_at}
use Rattle.liberty_text.specs.Tokens.{token_of, front_of}
use Rattle.liberty_text.proofs.Row.{front_is, mapped}
use Rattle.liberty_text.proofs.first.front.Goals as goal

pub returns : goal.returns
returns c =
    mapped (λ f. token_of f.0) (λ f. f.1.now) c.token.result (token_at c.behind_gaps.result.now) c.token.ensures
    ∙ (front_is c.behind_gaps.result.now c.behind_gaps.ensures.none ∙ ap front_of c.behind_gaps.ensures.tokens)
