-- Nets in which probes see both shares tell the secret.
use Rattle.std.proofs.Common.{◌≡◌, ℕ, zero, suc, true, false, [], ◌∷◌, refl, arith}
use Rattle.security_tests.proofs.Facts.{one_probe}
use Rattle.security_tests.proofs.Inputs.{tells}
use Rattle.security_tests.specs.Nets.{adds_to, always, joined_net, masked_net, probe, shares}
use Rattle.twin_tape.specs.Security.{AreProbes, Blind}

pub not_blind : Blind joined_net 1 → Prim.⊥
not_blind blind =
    let one : (◌≡◌ {A = ℕ} 1 0) =
    blind 1 1 [] (probe 4 0 ∷ []) (omega arith) one_probe (omega arith) (shares false false) (always false) (always true) refl (λ t u s a b e. refl) (λ t u s a b e. refl)
    (adds_to false) (adds_to true) (tells joined_net.wires joined_net.lines joined_net.registers false) (tells joined_net.wires joined_net.lines joined_net.registers true)
    (false ∷ false ∷ false ∷ []) in
    absurd (omega (arith, one))

two_probes : AreProbes masked_net 1 (probe 2 0 ∷ probe 3 0 ∷ [])
two_probes zero other h = (omega arith, omega arith)
two_probes (suc zero) other h = (omega arith, omega arith)
two_probes (suc (suc m)) other h = absurd (omega (arith, h))

pub not_blind_to_two : Blind masked_net 2 → Prim.⊥
not_blind_to_two blind =
    let two : (◌≡◌ {A = ℕ} 2 0) =
    blind 1 1 [] (probe 2 0 ∷ probe 3 0 ∷ []) (omega arith) two_probes (omega arith) (shares false false) (always false) (always true) refl (λ t u s a b e. refl) (λ t u s a b e. refl)
    (adds_to false) (adds_to true) (tells masked_net.wires masked_net.lines masked_net.registers false) (tells masked_net.wires masked_net.lines masked_net.registers true)
    (false ∷ false ∷ []) in
    absurd (omega (arith, two))
