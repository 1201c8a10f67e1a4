use Rattle.std.proofs.Common.{◌≡◌, length, take}
use Rattle.std.specs.List.{list_any}
use Rattle.agm_net.specs.Formula.{formula_of, stands}
use Rattle.annotations.specs.Spread.{AreAdded}
use Rattle.annotations.proofs.reads.mark_registers.Given as goal

abbrev pub invariant-loop-register : goal.invariant-loop-register
invariant-loop-register l = record {
  long : length l.read ≡ length l.fn.read;
  added : AreAdded l.fn.read l.read (λ w. list_any (λ r. stands w (formula_of r.next)) (take l.register-index l.registers));
}
