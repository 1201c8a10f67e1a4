use Rattle.std.proofs.Common.{◌≡◌, drop, map}
use Rattle.std.specs.List.{enumerate_from}
use Rattle.probe_lists.specs.Asked.{first_bad_index, first_of, index_fault}
use Rattle.probe_lists.proofs.checks.first_bad_index.Given as goal

abbrev pub invariant-loop-place : goal.invariant-loop-place
invariant-loop-place l = first_of (map (index_fault l.order l.indices) (enumerate_from l.place (drop l.place l.indices))) ≡ first_bad_index l.order l.indices
