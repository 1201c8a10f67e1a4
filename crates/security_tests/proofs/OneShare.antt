-- One wire of one share isolates probes.
use Rattle.std.proofs.Common.{◌≡◌, ◌<◌, ℕ, zero, suc, Bool, true, List, [], ◌∷◌, ◌++◌, ◌||◌, length, IsTrue, nat_eq, refl, sym, ap, ap₂, arith, subst}
use Rattle.agm_net.specs.Trace.{Row, bit_at}
use Rattle.security_tests.proofs.Inputs.{long}
use Rattle.security_tests.specs.Nets.{share_net}
use Rattle.twin_tape.specs.Security.{Pini, seen, sees}
use Rattle.probe_cones.specs.Inputs.{share_bit}
use Rattle.twin_tape.specs.Tapes.{IsTape}

-- tapes of one bit a row are the same where their bits are
same_tapes : (T : ℕ) (first second : List Row) → IsTape 1 T first → IsTape 1 T second → ((t : ℕ) → t < T → bit_at first t 0 ≡ bit_at second t 0) → first ≡ second
same_tapes zero [] [] a b same = refl
same_tapes zero [] (row ∷ second) a b same = absurd b
same_tapes zero (row ∷ first) second a b same = absurd a
same_tapes (suc T) [] second a b same = absurd a
same_tapes (suc T) (row ∷ first) [] a b same = absurd b
same_tapes (suc T) (row ∷ first) (other ∷ second) a b same =
    ap₂ (λ r rs. r ∷ rs) (one row other a.0 b.0 (same 0 (omega arith))) (same_tapes T first second a.1 b.1 (λ t h. same (suc t) (omega arith)))
  where
    one : (row other : Row) → length row ≡ 1 → length other ≡ 1 → bit_at (row ∷ []) 0 0 ≡ bit_at (other ∷ []) 0 0 → row ≡ other
    one [] other a b e = absurd (omega arith)
    one (x ∷ []) [] a b e = absurd (omega arith)
    one (x ∷ []) (y ∷ []) a b e = ap (λ k. k ∷ []) e
    one (x ∷ []) (y ∷ z ∷ zs) a b e = absurd (omega arith)
    one (x ∷ w ∷ ws) other a b e = absurd (omega arith)

listed : (A : List ℕ) → IsTrue (sees (A ++ 0 ∷ []) (share_bit 0 (120 ∷ [], 0)))
listed [] = refl
listed (i ∷ A) = or_later (nat_eq 0 i) (sees (A ++ 0 ∷ []) (share_bit 0 (120 ∷ [], 0))) (listed A)
  where
    or_later : (a b : Bool) → b ≡ true → (a || b) ≡ true
    or_later a b e = grind arith

pub isolated : (d : ℕ) → Pini share_net d
isolated d T [] A inside distinct low few = ([], omega arith, λ power first second a b agree o. refl)
isolated d T (p ∷ probes) A inside distinct low few = (
  0 ∷ [],
  omega arith,
  λ power first second a b agree o.
      ap (λ tape. seen share_net T power tape (p ∷ probes) A o)
      (same_tapes T first second a b (λ t h. agree t 0 (subst (λ n. t < n) (sym (long 1 T first a)) h) (omega arith) (listed A))),
)
