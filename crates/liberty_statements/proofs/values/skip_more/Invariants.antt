use Rattle.std.proofs.Common.{◌≡◌, length}
use Rattle.liberty_text.specs.Tokens.{tokens_of}
use Rattle.liberty_statements.specs.Reading as spec
use Rattle.liberty_statements.proofs.values.skip_more.Given as goal

abbrev pub invariant-loop-left : goal.invariant-loop-left
invariant-loop-left l = spec.behind (spec.next_pieces_at (tokens_of l.left)) ≡ spec.behind (spec.next_pieces_at (tokens_of l.rest))

abbrev pub decreases-loop-left : goal.decreases-loop-left
decreases-loop-left l = length (tokens_of l.left)
