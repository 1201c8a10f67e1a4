use Rattle.std.proofs.Common.{◌∷◌, ◌∙◌, sym, arith}
use Rattle.agm_net.proofs.NameCuts.{cut_number, dot_ends}
use Rattle.hpc2_audit.proofs.parts.behind_number.Goals as goal

pub returns-in-None-behind_dot : goal.returns-in-None-behind_dot
returns-in-None-behind_dot c = λ g t small e.
    let own = c.in-Some.ensures in
    let few = own.0 in
    let cut = cut_number c.in-Some.gadget g c.in-Some.behind.now (46 ∷ t) (omega arith) (omega arith) own.1 (dot_ends t) (sym own.2 ∙ e) in
    c.in-None-behind_dot.ensures t cut.1
