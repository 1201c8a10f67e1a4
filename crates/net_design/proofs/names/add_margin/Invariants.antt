use Rattle.std.proofs.Common.{◌≡◌, ◌++◌, replicate}
use Rattle.net_design.proofs.names.add_margin.Given as goal

abbrev pub invariant-loop : goal.invariant-loop
invariant-loop l = l.name ≡ l.initial.name ++ replicate l.counter 95
