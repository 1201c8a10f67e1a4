use Rattle.std.proofs.Common.{◌≡◌, length, take}
use Rattle.std.specs.List.{list_any}
use Rattle.std.specs.Prelude.{◌==◌}
use Rattle.annotations.specs.Spread.{AreAdded}
use Rattle.annotations.proofs.reads.mark_wires.Given as goal

abbrev pub invariant-loop-wire : goal.invariant-loop-wire
invariant-loop-wire l = record {
  long : length l.read ≡ length l.fn.read;
  added : AreAdded l.fn.read l.read (λ w. list_any (λ b. b == w) (take l.wire-index l.wires));
}
