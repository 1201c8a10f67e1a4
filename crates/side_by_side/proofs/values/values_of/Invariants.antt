use Rattle.std.proofs.Common.{◌≡◌, length, take}
use Rattle.agm_net.specs.Plain.{PlainNet}
use Rattle.agm_net.specs.Trace.{Row}
use Rattle.sim_text.specs.Steps.{IsLastRow}
use Rattle.side_by_side.proofs.values.values_of.Given as goal

abbrev pub invariant-loop-wire : goal.invariant-loop-wire
invariant-loop-wire l = record {
  as_wide : length l.values ≡ l.wire;
  row : (net : PlainNet) (row : Row) → IsLastRow net l.sim row → l.values ≡ take l.wire row;
}
