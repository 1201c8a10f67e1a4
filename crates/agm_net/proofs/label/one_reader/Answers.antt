use Rattle.std.proofs.Common.{subst}
use Rattle.agm_net.specs.Label.{HasLabel}
use Rattle.agm_net.proofs.OneLabel.{random_label}
use Rattle.agm_net.proofs.label.one_reader.Goals as goal

pub returns : goal.returns
returns c net order w keeps named =
    let (label, has) = keeps.labelled in
    let (g, i, j, read, is) = random_label net order w label has named in
    (g, i, j, subst (HasLabel net order w) is has)
