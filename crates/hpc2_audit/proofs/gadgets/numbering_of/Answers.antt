use Rattle.std.proofs.Common.{subst}
use Rattle.agm_net.specs.View.{plain_of}
use Rattle.hpc2_audit.specs.Gadgets.{AreGadgets, IsLowestAbove}
use Rattle.hpc2_audit.proofs.Numbering.{numbering_is}
use Rattle.hpc2_audit.proofs.gadgets.numbering_of.Goals as goal

pub returns : goal.returns
returns c =
    let net = plain_of c.args.net.now in
    let said = c.args.sheet.now.said in
    let m = c.first_missing-count.result in
    let behind = c.lowest_above-behind_gap.result in
    let keys = c.in_ok-gadgets.gadgets.keys in
    numbering_is net c.args.sheet.now.order said c.requires.said keys m behind
    (subst (λ xs. AreGadgets xs keys) c.as_slice-said.ensures c.in_ok-gadgets.ensures)
    c.first_missing-count.ensures
    (subst (λ xs. IsLowestAbove xs m behind) c.as_slice-said.ensures c.lowest_above-behind_gap.ensures)
