use Rattle.std.proofs.Common.{◌≡◌, ◌∷◌, [], ◌∙◌, sym, arith, true≢false}
use Rattle.std.proofs.lemmas.Slice.Eq.{bytes_eq-Decides}
use Rattle.agm_net.proofs.NameCuts.{cut_number, close_ends}
use Rattle.hpc2_audit.proofs.numbers.closed.Goals as goal

pub returns-else-eq : goal.returns-else-eq
returns-else-eq c = λ i small e.
    let own = c.in-Some.ensures in
    let few = own.0 in
    let rest = c.in-Some.rest.now in
    let cut = cut_number c.in-Some.number i rest (93 ∷ []) (omega arith) (omega arith) own.1 (close_ends []) (sym own.2 ∙ e) in
    let same : rest ≡ c.as_slice.result.now = cut.1 ∙ sym c.as_slice.ensures in
    true≢false (sym ((bytes_eq-Decides rest c.as_slice.result.now).1 same) ∙ sym c.if-eq.ensures)
