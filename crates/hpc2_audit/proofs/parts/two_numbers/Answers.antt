use Rattle.std.proofs.Common.{◌∷◌, ◌∙◌, refl, sym, arith}
use Rattle.std.specs.Fmt.{decimal}
use Rattle.agm_net.proofs.NameCuts.{cut_number, line_ends}
use Rattle.hpc2_audit.proofs.parts.two_numbers.Goals as goal

pub returns-in-None-lined : goal.returns-in-None-lined
returns-in-None-lined c = λ i j is.
    let own = c.in-Some.ensures in
    let few = own.0 in
    let small = is.0 in
    let cut = cut_number c.in-Some.i i c.in-Some.rest.now (95 ∷ decimal j) (omega arith) (omega arith) own.1 (line_ends (decimal j)) (sym own.2 ∙ is.2) in
    c.in-None-lined.ensures j ((is.1, refl), cut.1)
