use Rattle.std.proofs.Common.{sym, ap, subst, ◌∙◌}
use Rattle.share_wiring.specs.Gates.{gate_formula}
use Rattle.agm_net.specs.Small.{IsCell}
use Rattle.share_wiring.proofs.builder.Builder.equate.Goals as goal

pub returns-clause-cells : goal.returns-clause-cells
returns-clause-cells c cell = c.in_ok-wire.ensures.cells (subst IsCell (sym (ap gate_formula c.of-gate.ensures ∙ c.requires.gate)) cell)
