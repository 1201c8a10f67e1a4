use Rattle.std.proofs.Common.{◌≡◌, length}
use Rattle.liberty_text.specs.Tokens.{tokens_of}
use Rattle.liberty_statements.specs.Reading as spec
use Rattle.liberty_statements.proofs.args.skip_more.Given as goal

abbrev pub invariant-loop-rest : goal.invariant-loop-rest
invariant-loop-rest l = spec.behind (spec.next_args_at (tokens_of l.rest)) ≡ spec.behind (spec.next_args_at (tokens_of l.text))

abbrev pub decreases-loop-rest : goal.decreases-loop-rest
decreases-loop-rest l = length (tokens_of l.rest)
