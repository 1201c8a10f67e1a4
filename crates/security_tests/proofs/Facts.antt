-- A net in which a probe sees both shares isolates nothing.
use Rattle.std.proofs.Common.{◌≡◌, ◌≤◌, ℕ, zero, suc, Bool, true, false, List, [], ◌∷◌, ◌||◌, eqb-true, length, IsTrue, nat_eq, refl, sym, arith, true≢false}
use Rattle.agm_net.specs.Trace.{Row}
use Rattle.security_tests.specs.Nets.{joined_net, probe, shares}
use Rattle.twin_tape.specs.Security.{Agree, AreProbes, Pini, sees, seen}
use Rattle.probe_cones.specs.Inputs.{share_bit}
use Rattle.twin_tape.specs.Tapes.{IsTape}

abbrev count : List Row → ℕ
count inputs = seen joined_net 1 [] inputs (probe 4 0 ∷ []) [] (false ∷ false ∷ false ∷ [])

-- tapes that differ in share 1 agree on indices without 1, and so for 0
agree_but_1 : (B : List ℕ) → (IsTrue (sees B (share_bit 1 (120 ∷ [], 0))) → Prim.⊥) → Agree joined_net B (shares false false) (shares false true)
agree_but_1 B out zero zero h small e = refl
agree_but_1 B out zero (suc zero) h small e = absurd (out e)
agree_but_1 B out zero (suc (suc n)) h small e = absurd (omega arith)
agree_but_1 B out (suc t) n h small e = absurd (omega arith)

agree_but_0 : (B : List ℕ) → (IsTrue (sees B (share_bit 0 (120 ∷ [], 0))) → Prim.⊥) → Agree joined_net B (shares false false) (shares true false)
agree_but_0 B out zero zero h small e = absurd (out e)
agree_but_0 B out zero (suc zero) h small e = refl
agree_but_0 B out zero (suc (suc n)) h small e = absurd (omega arith)
agree_but_0 B out (suc t) n h small e = absurd (omega arith)

apart : (k : ℕ) → (nat_eq 0 (suc k) || false) ≡ true → Prim.⊥
apart k e = let same : 0 ≡ suc k = eqb-true 0 (suc k) (or_false (nat_eq 0 (suc k)) e) in absurd (omega (arith, same))
  where
    or_false : (b : Bool) → (b || false) ≡ true → b ≡ true
    or_false true e = refl
    or_false false e = e

pub one_probe : AreProbes joined_net 1 (probe 4 0 ∷ [])
one_probe zero other h = (omega arith, omega arith)
one_probe (suc m) other h = absurd (omega arith)

pub not_isolated : Pini joined_net 1 → Prim.⊥
not_isolated pini =
    let found = pini 1 (probe 4 0 ∷ []) [] one_probe (λ i j d a b. absurd (omega arith)) (λ k other h. absurd (omega arith)) (omega arith) in
    go found.0 found.1 (λ first second a b same. found.2 [] first second a b same (false ∷ false ∷ false ∷ []))
  where
    go : (B : List ℕ) → length B ≤ 1 → ((first second : List Row) → IsTape 2 1 first → IsTape 2 1 second → Agree joined_net B first second → count first ≡ count second) → Prim.⊥
    go [] few same = let one : (◌≡◌ {A = ℕ} 1 0) = same (shares false false) (shares false true) (refl, tt) (refl, tt) (agree_but_1 [] (λ e. true≢false (sym e))) in absurd (omega (arith, one))
    go (zero ∷ []) few same = let one : (◌≡◌ {A = ℕ} 1 0) = same (shares false false) (shares false true) (refl, tt) (refl, tt) (agree_but_1 (0 ∷ []) (λ e. true≢false (sym e))) in absurd (omega (arith, one))
    go (suc k ∷ []) few same = let one : (◌≡◌ {A = ℕ} 1 0) = same (shares false false) (shares true false) (refl, tt) (refl, tt) (agree_but_0 (suc k ∷ []) (λ e. apart k e)) in absurd (omega (arith, one))
    go (k ∷ l ∷ B) few same = absurd (omega arith)
