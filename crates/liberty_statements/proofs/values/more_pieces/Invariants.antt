use Rattle.std.proofs.Common.{◌≡◌, ◌++◌, length}
use Rattle.liberty_text.specs.Tokens.{tokens_of}
use Rattle.liberty_statements.specs.Grammar.{spaced}
use Rattle.liberty_statements.specs.Reading as spec
use Rattle.liberty_statements.proofs.values.more_pieces.Given as goal

abbrev pub invariant-loop-text : goal.invariant-loop-text
invariant-loop-text l = spec.as_value (λ ps. l.text ++ spaced ps) (spec.next_pieces_at (tokens_of l.left)) ≡ spec.as_value (λ ps. l.fn.first ++ spaced ps) (spec.next_pieces_at (tokens_of l.rest))

abbrev pub decreases-loop-text : goal.decreases-loop-text
decreases-loop-text l = length (tokens_of l.left)
