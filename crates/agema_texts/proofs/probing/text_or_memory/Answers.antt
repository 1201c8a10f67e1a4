use Rattle.std.proofs.Common.{List, subst}
use Rattle.agm_net.specs.View.{plain_of}
use Rattle.agm_net.specs.declared.label.Label.{Label}
use Rattle.probe_text.specs.Text.{IsConesText}
use Rattle.twin_tape.specs.Allowed.{label_at}
use Rattle.agema_texts.proofs.probing.text_or_memory.Goals as goal

pub returns-in-Ok-clause-ok : goal.returns-in-Ok-clause-ok
returns-in-Ok-clause-ok c =
    let net = plain_of c.args.network.now.net in
    let P : List Label → Type 0 = λ ls. IsConesText net c.args.network.now.order (label_at ls) c.args.asked.now c.in-Ok.text in
    subst P c.as_slice.ensures c.in-Ok.ensures
