use Rattle.std.proofs.Common.{◌&&◌, sym, ap, ◌∙◌}
use Rattle.std.specs.List.{list_any}
use Rattle.std.specs.Prelude.{codes}
use Rattle.std.proofs.lemmas.List.{take_all}
use Rattle.agm_net.specs.Plain.{is_input}
use Rattle.annotations.specs.Rules.{is_marked}
use Rattle.annotations.proofs.ports.has_secure.Goals as goal

pub returns : goal.returns
returns c top all =
    sym (c.loop-number.invariant top all) ∙ ap (list_any (λ p. is_input p && is_marked (codes "secure") top p)) (take_all c.loop-number.number c.args.ports.now c.loop-number-test.false)
