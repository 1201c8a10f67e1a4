use Rattle.std.proofs.Common.{sym, subst}
use Rattle.agm_net.specs.Label.{IsPartName}
use Rattle.agm_net.proofs.Nets.{match_both}
use Rattle.hpc2_audit.proofs.Texts.{part_gadget}
use Rattle.hpc2_audit.proofs.parts.part_of.Goals as goal

pub returns-in-Some : goal.returns-in-Some
returns-in-Some c =
    let d = c.args.order in
    let own = c.in-Some.ensures in
    match_both c.part_in.result c.part_in.ensures
    (λ none p is. none p (part_gadget d c.in-Some.gadget c.in-Some.text.now c.args.name.now p own.0 own.1 is) (subst (IsPartName d p) own.1 is))
    (λ p is. subst (IsPartName d p) (sym own.1) is)
