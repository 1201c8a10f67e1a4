-- Modes and balances are read as they are written.
use Rattle.std.proofs.Common.{◌≡◌, ◌⊎◌, ℕ, Bool, true, false, cond, List, Some, None, codes, refl, ap, ◌∙◌, inl, inr}
use Rattle.std.specs.Str.{bytes_eq}
use Rattle.std.proofs.lemmas.Slice.Eq.{bytes_eq-Decides}
use Rattle.share_wiring.specs.declared.report.Mode.{Mode}
use Rattle.share_wiring.specs.declared.report.Mode.TheVariants.{Naive, Aig, Bdd}
use Rattle.share_wiring.specs.declared.report.Balance.{Balance}
use Rattle.share_wiring.specs.declared.report.Balance.TheVariants.{Pipe, Gate}
use Rattle.masked_writer.specs.Report.{mode_text, balance_text, mode_of, balance_of}

chosen : {X : Type 0} (b : Bool) (x y z : X) → cond b x y ≡ z → ((b ≡ true) × (x ≡ z)) ⊎ ((b ≡ false) × (y ≡ z))
chosen true x y z h = inl (refl, h)
chosen false x y z h = inr (refl, h)

same_bytes : (xs ys : List ℕ) → bytes_eq xs ys ≡ true → xs ≡ ys
same_bytes xs ys h = (bytes_eq-Decides xs ys).0 h

pub mode_read : (m : Mode) → mode_of (mode_text m) ≡ Some m
mode_read Naive = refl
mode_read Aig = refl
mode_read Bdd = refl

pub read_mode : (w : List ℕ) (m : Mode) → mode_of w ≡ Some m → w ≡ mode_text m
read_mode w m h = elim (chosen (bytes_eq w (codes "naive")) (Some Naive) (cond (bytes_eq w (codes "aig")) (Some Aig) (cond (bytes_eq w (codes "bdd")) (Some Bdd) None)) (Some m) h) [
  | inl y ↦ (let same : Naive ≡ m = (let e = y.1 in cc) in same_bytes w (codes "naive") y.0 ∙ ap mode_text same)
  | inr n ↦ elim (chosen (bytes_eq w (codes "aig")) (Some Aig) (cond (bytes_eq w (codes "bdd")) (Some Bdd) None) (Some m) n.1) [
    | inl y ↦ (let same : Aig ≡ m = (let e = y.1 in cc) in same_bytes w (codes "aig") y.0 ∙ ap mode_text same)
    | inr o ↦ elim (chosen (bytes_eq w (codes "bdd")) (Some Bdd) None (Some m) o.1) [
      | inl y ↦ (let same : Bdd ≡ m = (let e = y.1 in cc) in same_bytes w (codes "bdd") y.0 ∙ ap mode_text same)
      | inr p ↦ (let e = p.1 in cc)
    ]
  ]
]

pub balance_read : (b : Balance) → balance_of (balance_text b) ≡ Some b
balance_read Pipe = refl
balance_read Gate = refl

pub read_balance : (w : List ℕ) (b : Balance) → balance_of w ≡ Some b → w ≡ balance_text b
read_balance w b h = elim (chosen (bytes_eq w (codes "pipe")) (Some Pipe) (cond (bytes_eq w (codes "gate")) (Some Gate) None) (Some b) h) [
  | inl y ↦ (let same : Pipe ≡ b = (let e = y.1 in cc) in same_bytes w (codes "pipe") y.0 ∙ ap balance_text same)
  | inr n ↦ elim (chosen (bytes_eq w (codes "gate")) (Some Gate) None (Some b) n.1) [
    | inl y ↦ (let same : Gate ≡ b = (let e = y.1 in cc) in same_bytes w (codes "gate") y.0 ∙ ap balance_text same)
    | inr o ↦ (let e = o.1 in cc)
  ]
]
