use Rattle.std.proofs.Common.{◌≡◌, not, ◌&&◌, length, take}
use Rattle.std.specs.List.{list_any}
use Rattle.agm_net.specs.Formula.{formula_of, stands}
use Rattle.annotations.specs.Clocked.{is_alone}
use Rattle.annotations.specs.Spread.{AreAdded}
use Rattle.annotations.proofs.reads.mark_equations.Given as goal

abbrev pub invariant-loop-equation : goal.invariant-loop-equation
invariant-loop-equation l = record {
  long : length l.read ≡ length l.fn.read;
  added : AreAdded l.fn.read l.read (λ w. list_any (λ e. stands w (formula_of e.expr) && not (is_alone w (formula_of e.expr))) (take l.equation-index l.equations));
}
