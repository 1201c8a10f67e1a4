use Rattle.std.proofs.lemmas.Result.{err_from_is_err_and}
use Rattle.agm_net.specs.View.{plain_of}
use Rattle.agema_texts.specs.Auditing.{IsNoNetwork, IsUnaudited}
use Rattle.agema_texts.proofs.Audits.{no_network}
use Rattle.agema_texts.proofs.Ends.{handed_by}
use Rattle.agema_texts.proofs.probing.read_network.Goals as goal

pub returns-in_err-audited-clause-err : goal.returns-in_err-audited-clause-err
returns-in_err-audited-clause-err c =
    let bytes = c.args.bytes.now in
    let net = plain_of c.in_ok-net.net in
    handed_by (IsNoNetwork net c.args.order) (IsUnaudited bytes c.args.order) c.from_residual-in_err-audited.result c.in_err-audited.field-0.0
    (err_from_is_err_and c.from_residual-in_err-audited.result c.from_residual-in_err-audited.ensures.1) (no_network bytes c.args.order net (c.requires.short, c.in_ok-net.ensures.ok)) c.in_err-audited.ensures.err
