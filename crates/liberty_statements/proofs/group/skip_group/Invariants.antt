use Rattle.std.proofs.Common.{◌≡◌, ◌<◌, ◌-◌, length}
use Rattle.liberty_text.specs.Tokens.{tokens_of}
use Rattle.liberty_statements.specs.Reading as spec
use Rattle.liberty_statements.proofs.Closes.{closes}
use Rattle.liberty_statements.proofs.group.skip_group.Given as goal

abbrev pub invariant-loop-rest : goal.invariant-loop-rest
invariant-loop-rest l = (closes (l.depth - l.free) l.free (tokens_of l.rest) ≡ spec.behind (spec.body_at l.depth (tokens_of l.text))) × (l.free < l.depth)

abbrev pub decreases-loop-rest : goal.decreases-loop-rest
decreases-loop-rest l = length (tokens_of l.rest)
