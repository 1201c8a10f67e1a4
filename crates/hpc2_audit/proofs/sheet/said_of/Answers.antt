use Rattle.std.proofs.Common.{◌≡◌, ◌∙◌, [], get_or, sym, subst}
use Rattle.std.proofs.lemmas.List.{get_or_default}
use Rattle.agm_net.specs.Label.{name_of}
use Rattle.agm_net.specs.View.{plain_of}
use Rattle.hpc2_audit.specs.Places.{place_at}
use Rattle.hpc2_audit.specs.Spelled.{Spells}
use Rattle.hpc2_audit.specs.Standing.{Says}
use Rattle.hpc2_audit.proofs.Saying.{says_settled}
use Rattle.hpc2_audit.proofs.sheet.said_of.Goals as goal

pub returns : goal.returns
returns c =
    let net = plain_of c.args.net.now in
    let w = c.args.wire in
    let d = c.args.order in
    let item = c.index-as_slice-wire.result in
    let here : item ≡ get_or net.wires w item = subst (λ xs. item ≡ get_or xs w item) c.as_slice.ensures c.index-as_slice-wire.is in
    let name : c.as_slice-2.result.now ≡ name_of net w = c.as_slice-2.ensures ∙ (here ∙ get_or_default net.wires w item [] c.requires.within) in
    subst (Says net d w) (sym c.settled.ensures)
    (says_settled net d w c.read_label.result (place_at c.args.bits.now w) (subst (λ n. Spells d n c.read_label.result) name c.read_label.ensures) (c.requires.bits.told w c.requires.within))
