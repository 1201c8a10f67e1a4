use Rattle.std.proofs.Common.{◌≡◌, not, ◌&&◌, length, take}
use Rattle.std.specs.List.{list_any}
use Rattle.std.specs.Prelude.{◌==◌}
use Rattle.agm_net.specs.Plain.{is_input}
use Rattle.annotations.specs.Spread.{AreAdded}
use Rattle.annotations.proofs.reads.mark_outputs.Given as goal

abbrev pub invariant-loop-port : goal.invariant-loop-port
invariant-loop-port l = record {
  long : length l.read ≡ length l.fn.read;
  added : AreAdded l.fn.read l.read (λ w. list_any (λ p. not (is_input p) && list_any (λ b. b == w) p.bits) (take l.port-index l.ports));
}
