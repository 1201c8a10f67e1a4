use Rattle.std.proofs.Common.{◌≡◌, ◌<◌, ℕ, length}
use Rattle.pipeline_balance.specs.Chained.{value_at, at_level}
use Rattle.pipeline_balance.specs.Piped.{node_at}
use Rattle.pipeline_balance.proofs.pipeline.read_all.Given as goal

abbrev pub invariant-loop-j : goal.invariant-loop-j
invariant-loop-j g l = (length l.values ≡ l.j) × ((i : ℕ) → i < l.j → value_at l.values i ≡ at_level l.table (node_at l.nodes i) l.level)
