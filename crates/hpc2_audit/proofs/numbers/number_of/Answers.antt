use Rattle.std.proofs.Common.{refl}
use Rattle.agm_net.proofs.Nets.{match_both}
use Rattle.agm_net.proofs.ShareIndex.{none_from_padded, none_from_value, written}
use Rattle.hpc2_audit.proofs.numbers.number_of.Goals as goal

pub returns-then-not-is_unpadded : goal.returns-then-not-is_unpadded
returns-then-not-is_unpadded c = none_from_padded c.args.digits.now (λ h. let wrong = c.if-not-is_unpadded.ensures.1 h in absurd (cc))

pub returns : goal.returns
returns c =
    let whole = c.if-not-is_unpadded.ensures.0 refl in
    match_both c.value_of.result c.value_of.ensures
    (none_from_value c.args.digits.now)
    (λ n h. (h.2, written c.args.digits.now n h.0 h.1 h.2 whole.0 whole.1))
