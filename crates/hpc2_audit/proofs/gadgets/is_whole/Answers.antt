use Rattle.std.proofs.Common.{◌≡◌, ◌↔◌, ℕ, IsTrue, Some, slice_get, sym, subst}
use Rattle.agm_net.specs.Network.{IsWhole}
use Rattle.agm_net.specs.View.{plain_of}
use Rattle.hpc2_audit.specs.Gadgets.{HasKinds}
use Rattle.hpc2_audit.proofs.Numbering.{kinds_to, kinds_from}
use Rattle.hpc2_audit.proofs.Texts.{has_kind}
use Rattle.hpc2_audit.proofs.Verdicts.{ok_map}
use Rattle.hpc2_audit.proofs.gadgets.is_whole.Goals as goal

pub returns : goal.returns
returns c =
    let net = plain_of c.args.net.now in
    let d = c.args.sheet.now.order in
    let g = c.args.gadget in
    let kinds = c.as_slice.result.now in
    ok_map c.has_kinds.result (λ b. IsTrue b ↔ HasKinds net d g kinds) (λ b. IsTrue b ↔ IsWhole net d g)
    (λ b tells. (
      λ h. kinds_to net d g kinds (λ k. subst (λ ks. (n : ℕ) × (slice_get ks n ≡ Some k)) (sym c.as_slice.ensures) (has_kind k)) (tells.0 h),
      λ whole. tells.1 (kinds_from net d g kinds c.requires.sheet.small whole),
    ))
    c.has_kinds.ensures
