use Rattle.std.proofs.Common.{◌≡◌, ◌∙◌, ◌++◌, ◌↔◌, IsTrue, ap, sym, subst}
use Rattle.std.specs.Prelude.{position}
use Rattle.std.specs.Str.{bytes_eq}
use Rattle.agm_net.specs.Label.{gadget_name, part}
use Rattle.agm_net.specs.Network.{HasPart}
use Rattle.agm_net.specs.View.{plain_of}
use Rattle.agm_net.proofs.OnePart.{word}
use Rattle.hpc2_audit.specs.Gadgets.{first_number}
use Rattle.hpc2_audit.specs.Kinds.{shape, shaped}
use Rattle.hpc2_audit.proofs.Numbering.{part_tells}
use Rattle.hpc2_audit.proofs.gadgets.has_part.Goals as goal

pub returns : goal.returns
returns c =
    let net = plain_of c.args.net.now in
    let tables = c.args.sheet.now in
    let d = tables.order in
    let g = c.args.gadget in
    let k = c.args.kind in
    let i = c.args.i in
    let j = c.args.j in
    let name = c.in_ok-name.name in
    let is : name ≡ gadget_name g (word k ++ shaped (shape k) (first_number d k i j) j) =
    c.in_ok-name.ensures ∙ (ap (λ x. gadget_name g (x ++ shaped c.shape_of.result c.first_number-first.result j)) c.word_of.ensures
    ∙ (ap (λ x. gadget_name g (word k ++ shaped x c.first_number-first.result j)) c.shape_of.ensures ∙ ap (λ x. gadget_name g (word k ++ shaped (shape k) x j)) c.first_number-first.ensures)) in
    let at : c.find.result ≡ position (λ n. bytes_eq n name) tables.names = c.find.ensures ∙ ap (λ x. position (λ n. bytes_eq n x) tables.names) c.as_slice.ensures in
    subst (λ b. IsTrue b ↔ HasPart net d (part g k i j)) (sym c.is_some.ensures)
    (part_tells net d g k i j name tables.names c.requires.sheet.small c.requires.gadget c.requires.indices is c.requires.sheet.names c.find.result at)
