use Rattle.std.proofs.Common.{◌≡◌, ◌+◌, map}
use Rattle.std.specs.List.{range_with_len}
use Rattle.twin_tape.specs.Permitted.{taken}
use Rattle.twin_tape.proofs.plan.stages_of.Given as goal

abbrev pub invariant-loop-earlier : goal.invariant-loop-earlier
invariant-loop-earlier l = record {
  known : l.known.items ≡ taken l.sights l.indices l.cycles l.earlier;
  stages : l.stages ≡ map (taken l.sights l.indices l.cycles) (range_with_len 0 (l.earlier + 1));
}
