use Rattle.std.proofs.Common.{not, ◌&&◌, List, subst}
use Rattle.std.specs.List.{list_any}
use Rattle.std.specs.Prelude.{◌==◌}
use Rattle.agm_net.specs.Formula.{formula_of, stands}
use Rattle.agm_net.specs.Plain.{is_input}
use Rattle.agm_net.specs.declared.expr.Equation.{Equation}
use Rattle.agm_net.specs.declared.expr.Register.{Register}
use Rattle.agm_net.specs.declared.port.Port.{Port}
use Rattle.annotations.proofs.Marking.{added_net}
use Rattle.annotations.specs.Clocked.{is_alone}
use Rattle.annotations.specs.Spread.{AreAdded}
use Rattle.annotations.proofs.reads.mark_net.Goals as goal

pub returns : goal.returns
returns c =
    added_net c.args.net.now c.args.read.now c.mark_equations.new.read c.mark_registers.new.read c.mark_outputs.new.read c.mark_equations.auto.read c.mark_registers.auto.read
    (subst (λ (es : List Equation). AreAdded c.args.read.now c.mark_equations.new.read (λ w. list_any (λ e. stands w (formula_of e.expr) && not (is_alone w (formula_of e.expr))) es)) c.as_slice.ensures c.mark_equations.ensures)
    (subst (λ (rs : List Register). AreAdded c.mark_equations.new.read c.mark_registers.new.read (λ w. list_any (λ r. stands w (formula_of r.next)) rs)) c.as_slice-2.ensures c.mark_registers.ensures)
    (subst (λ (ps : List Port). AreAdded c.mark_registers.new.read c.mark_outputs.new.read (λ w. list_any (λ p. not (is_input p) && list_any (λ k. k == w) p.bits) ps)) c.as_slice-3.ensures c.mark_outputs.ensures)
