use Rattle.std.proofs.Common.{◌≡◌, ◌++◌, drop}
use Rattle.pipeline_balance.specs.Reporting.{flagged_names}
use Rattle.pipeline_balance.proofs.reports.flagged.Given as goal

abbrev pub invariant-loop-k : goal.invariant-loop-k
invariant-loop-k l = l.names ++ flagged_names (drop l.k l.flags) (drop l.k l.ports) ≡ flagged_names l.flags l.ports
