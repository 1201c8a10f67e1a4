use Rattle.std.proofs.Common.{MatchOption, refl, subst}
use Rattle.agm_net.specs.View.{plain_of}
use Rattle.hpc2_audit.specs.Audited.{AllKeep, AreLabels, IsFirstBroken}
use Rattle.hpc2_audit.specs.Gadgets.{IsNumbering}
use Rattle.hpc2_audit.proofs.Verdicts.{gadgets_are}
use Rattle.hpc2_audit.proofs.verdict.judged.Goals as goal

pub returns-clause-network : goal.returns-clause-network
returns-clause-network c =
    let net = plain_of c.args.net.now in
    let own = c.in_ok-sheet.sheet.order in
    let same = c.in_ok-sheet.ensures.1 in
    let m = c.in_ok-numbering.numbering.count in
    let behind = c.in_ok-numbering.numbering.behind_gap in
    let kept = subst (λ o. MatchOption o (AllKeep net own) (IsFirstBroken net own)) c.in-None.is c.in_ok-wire.ensures in
    let keep = subst (AllKeep net) same kept in
    let numbering = subst (λ d. IsNumbering net d m behind) same c.in_ok-numbering.ensures in
    record {
      network = record { no_loop = c.requires.no_loop; keeps = keep };
      order = refl;
      gadgets = gadgets_are net c.args.order m behind numbering keep;
      labels = subst (λ d. AreLabels net d c.in_ok-labels-in-None.labels) same c.in_ok-labels-in-None.ensures;
    }
