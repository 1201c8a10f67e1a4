use Rattle.std.proofs.Common.{◌≡◌, ◌∙◌, ℕ, List, get_or, subst, ap, sym}
use Rattle.std.proofs.lemmas.Option.{get_or_from_slice_get}
use Rattle.agm_net.specs.Role.{HasRole}
use Rattle.agm_net.specs.declared.port.Port.{Port}
use Rattle.agm_net.proofs.net.Net.role.Goals as goal

pub returns : goal.returns
returns c = λ p at.
    let same = get_or_from_slice_get c.args.self.now.ports c.args.port p c.index-as_slice-port.result at in
    let read : get_or c.as_slice.result.now c.args.port c.index-as_slice-port.result ≡ p =
    subst (λ (ps : List Port). get_or ps c.args.port c.index-as_slice-port.result ≡ p) (sym c.as_slice.ensures) same in
    subst (λ (n : List ℕ). HasRole n c.role_of.result) (c.as_slice-2.ensures ∙ ap (λ (q : Port). q.name) read) c.role_of.ensures
