-- Sharings of x, in nets with two shares of x.
use Rattle.std.proofs.Common.{◌≡◌, ◌≤◌, ◌<◌, ℕ, zero, suc, Bool, true, false, List, [], ◌∷◌, length, IsTrue, refl, sym, ap, subst, arith, true≢false}
use Rattle.std.specs.List.{count_by}
use Rattle.agm_net.specs.Plain.{Line, PlainNet, Stored}
use Rattle.agm_net.specs.Trace.{Row, bit_at, row_at}
use Rattle.security_tests.specs.Nets.{adds_to, always, on_inputs, shares}
use Rattle.twin_tape.specs.Security.{Agree, IsSharing, IsWhole, TellsSharings, is_the_share, recombined, role_at, step_of}
use Rattle.probe_cones.specs.Inputs.{BitRole, Secret, open_bit, random_bit, roles, share_bit}
use Rattle.twin_tape.specs.Tapes.{IsTape}

pub long : (R T : ℕ) (tape : List Row) → IsTape R T tape → length tape ≡ T
long R zero [] is = refl
long R zero (row ∷ tape) is = absurd is
long R (suc T) [] is = absurd is
long R (suc T) (row ∷ tape) is = ap suc (long R T tape is.1)

abbrev x : Secret
x = (120 ∷ [], 0)

abbrev secret_of : BitRole → Secret
secret_of (share_bit i s) = s
secret_of random_bit = x
secret_of open_bit = x

module _ (wires : List (List ℕ)) (lines : List Line) (registers : List Stored) where
  abbrev net : PlainNet
  net = on_inputs wires lines registers

  -- each bit is a share of x
  is_x : (n i : ℕ) (s : Secret) → n < 2 → role_at net n ≡ share_bit i s → x ≡ s
  is_x zero i s low e = ap secret_of e
  is_x (suc zero) i s low e = ap secret_of e
  is_x (suc (suc n)) i s low e = absurd (omega (arith, low))

  none_open : (first second : List Row) → Agree net [] first second
  none_open first second t zero h low e = absurd (true≢false (sym e))
  none_open first second t (suc zero) h low e = absurd (true≢false (sym e))
  none_open first second t (suc (suc n)) h low e = absurd (omega (arith, low))

  -- one input bit for each of the two shares
  pub is_whole : IsWhole net 1
  is_whole n i k s low e few = subst (λ s. count_by (is_the_share k s) (roles net) ≡ 1) (is_x n i s low e) (once k few)
    where
      once : (k : ℕ) → k ≤ 1 → count_by (is_the_share k x) (roles net) ≡ 1
      once zero few = refl
      once (suc zero) few = refl
      once (suc (suc k)) few = absurd (omega (arith, few))

  adds : (v a b : Bool) → IsTrue (adds_to v (shares a b)) → recombined (roles net) x (a ∷ b ∷ []) ≡ v
  adds true true true h = absurd (true≢false (sym h))
  adds true true false h = refl
  adds true false true h = refl
  adds true false false h = absurd (true≢false (sym h))
  adds false true true h = refl
  adds false true false h = absurd (true≢false (sym h))
  adds false false true h = absurd (true≢false (sym h))
  adds false false false h = refl

  added : (v a b : Bool) → recombined (roles net) x (a ∷ b ∷ []) ≡ v → IsTrue (adds_to v (shares a b))
  added true true true h = absurd (true≢false (sym h))
  added true true false h = refl
  added true false true h = refl
  added true false false h = absurd (true≢false (sym h))
  added false true true h = refl
  added false true false h = absurd (true≢false h)
  added false false true h = absurd (true≢false h)
  added false false false h = refl

  is_sharing : (v a b : Bool) → IsTrue (adds_to v (shares a b)) → IsSharing net 1 (shares false false) (always v) (shares a b)
  is_sharing v a b h = record {
    open_bits = none_open (shares false false) (shares a b);
    recombines = sums;
    held = stays;
  }
    where
      sums : (t n i : ℕ) (s : Secret) → t < 1 → n < 2 → role_at net n ≡ share_bit i s → recombined (roles net) s (row_at (shares a b) t) ≡ v
      sums zero n i s small low e = subst (λ s. recombined (roles net) s (a ∷ b ∷ []) ≡ v) (is_x n i s low e) (adds v a b h)
      sums (suc t) n i s small low e = absurd (omega arith)

      stays : (t u n i : ℕ) (s : Secret) → t < 1 → u < 1 → n < 2 → step_of 1 t ≡ step_of 1 u → role_at net n ≡ share_bit i s → bit_at (shares a b) t n ≡ bit_at (shares a b) u n
      stays zero zero n i s small low k e r = refl
      stays zero (suc u) n i s small low k e r = absurd (omega arith)
      stays (suc t) u n i s small low k e r = absurd (omega arith)

  pub tells : (v : Bool) → TellsSharings net 1 1 (shares false false) (always v) (adds_to v)
  tells v [] is = absurd is
  tells v ([] ∷ []) is = absurd (omega (arith, is.0))
  tells v ((a ∷ []) ∷ []) is = absurd (omega (arith, is.0))
  tells v ((a ∷ b ∷ []) ∷ []) is = (is_sharing v a b, λ sharing. added v a b (sharing.recombines 0 0 0 x (omega arith) (omega arith) refl))
  tells v ((a ∷ b ∷ c ∷ row) ∷ []) is = absurd (omega (arith, is.0))
  tells v (row ∷ next ∷ rows) is = absurd is.1
