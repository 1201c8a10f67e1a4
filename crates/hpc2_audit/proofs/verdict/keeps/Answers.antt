use Rattle.std.proofs.Common.{◌↔◌, IsTrue, refl}
use Rattle.agm_net.specs.Network.{Keeps}
use Rattle.agm_net.specs.View.{plain_of}
use Rattle.hpc2_audit.specs.Rules.{KeepsWhole}
use Rattle.hpc2_audit.proofs.Verdicts.{keeps_tell, ok_map}
use Rattle.hpc2_audit.proofs.verdict.keeps.Goals as goal

pub returns-then-keeps_own-clause-told : goal.returns-then-keeps_own-clause-told
returns-then-keeps_own-clause-told c =
    let net = plain_of c.args.net.now in
    let d = c.args.sheet.now.order in
    let w = c.args.wire in
    ok_map c.keeps_whole.result (λ b. IsTrue b ↔ KeepsWhole net d w) (λ b. IsTrue b ↔ Keeps net d w) (λ b tells. keeps_tell net d w b (c.if-keeps_own.ensures.0 refl) tells) c.keeps_whole.ensures.told
