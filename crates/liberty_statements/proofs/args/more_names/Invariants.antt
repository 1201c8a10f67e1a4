use Rattle.std.proofs.Common.{◌≡◌, ◌++◌, length, map}
use Rattle.liberty_text.specs.Tokens.{tokens_of}
use Rattle.liberty_statements.specs.Grammar.{second_name}
use Rattle.liberty_statements.specs.Reading as spec
use Rattle.liberty_statements.proofs.args.more_names.Given as goal

abbrev pub invariant-loop-alloc : goal.invariant-loop-alloc
invariant-loop-alloc l = spec.as_value (λ xs. l.names ++ map second_name xs) (spec.next_args_at (tokens_of l.rest)) ≡ spec.as_value (λ xs. l.fn.first ++ map second_name xs) (spec.next_args_at (tokens_of l.text))

abbrev pub decreases-loop-alloc : goal.decreases-loop-alloc
decreases-loop-alloc l = length (tokens_of l.rest)
