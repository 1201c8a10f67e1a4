use Rattle.std.proofs.Common.{[], ◌∷◌}
use Rattle.std.proofs.lemmas.Result.{err_from_is_err_and}
use Rattle.annotations.proofs.Verdict.{fault_left, rest_decides, handed_on}
use Rattle.annotations.specs.Rules.{reserved, Broken, clock_rules_of, rules_of, Passes}
use Rattle.annotations.proofs.ports.check_all.Goals as goal

pub returns-in_err-check_name : goal.returns-in_err-check_name
returns-in_err-check_name c top net same are =
    handed_on (Passes top net (rules_of (c.args.number, c.args.port.now))) c.from_residual.result c.in_err-check_name.field-0.0 (err_from_is_err_and c.from_residual.result c.from_residual.ensures.1)
    (fault_left (Broken top net) (reserved c.args.number c.args.port.now ∷ []) (clock_rules_of (c.args.number, c.args.port.now)) (λ (u : Unit {0}). Unit {0}) (λ (u : Unit {0}). Unit {0}) c.in_err-check_name.field-0.0 (c.in_err-check_name.ensures top net))

pub returns : goal.returns
returns c top net same are =
    rest_decides (Broken top net) (reserved c.args.number c.args.port.now ∷ []) (clock_rules_of (c.args.number, c.args.port.now)) (λ (u : Unit {0}). Unit {0}) c.check_marks.result (c.in_ok-check_name.ensures top net).0 (c.check_marks.ensures top net same are)
