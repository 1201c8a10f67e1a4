-- Two runs of one net agree where what they read agrees.
use Rattle.std.proofs.Common.{length, ◌≡◌, ℕ, zero, suc, ◌<◌, ◌≤◌, Bool, true, refl, sym, ap, ◌∙◌, arith}
use Rattle.agm_net.specs.Formula.{stands, value}
use Rattle.agm_net.specs.Plain.{PlainNet}
use Rattle.agm_net.proofs.Formulas.{same_value}
use Rattle.twin_tape.proofs.Sources.{Clock, Equation, Input, Random, Ranked, Register, Source, reads_now, source}

module _ (net : PlainNet) (ranked : Ranked net) (T : ℕ) (x y : ℕ → ℕ → Bool) (Must : ℕ → ℕ → Type 0) where
  abbrev pub Same : ℕ → Type 0
  Same c = (w : ℕ) → w < length net.wires → Must c w → x c w ≡ y c w

  -- what a wire of this driver needs in cycle c, where earlier cycles agree
  abbrev pub Needs : Source → ℕ → ℕ → Type 0
  Needs (Equation e) c w = (x c w ≡ value (x c) e) × (y c w ≡ value (y c) e) × ((v : ℕ) → stands v e ≡ true → Must c v)
  Needs _ c w = ((b : ℕ) → b < c → Same b) → x c w ≡ y c w

  within : (c : ℕ) → ((w : ℕ) → w < length net.wires → Must c w → Needs (source net w) c w) → ((b : ℕ) → b < c → Same b) → (m w : ℕ) → ranked.rank w < m → w < length net.wires → Must c w → x c w ≡ y c w
  within c needs earlier zero w below inside must = absurd (omega arith)
  within c needs earlier (suc m) w below inside must =
      go (source net w) refl (needs w inside must) (λ v v_below v_inside v_must. within c needs earlier m v v_below v_inside v_must)
    where
      go : (d : Source) → source net w ≡ d → Needs d c w → ((v : ℕ) → ranked.rank v < m → v < length net.wires → Must c v → x c v ≡ y c v) → x c w ≡ y c w
      go (Input n) is need lower = need earlier
      go (Random n) is need lower = need earlier
      go Clock is need lower = need earlier
      go (Register n next) is need lower = need earlier
      go (Equation e) is need lower =
          need.0 ∙ same_value (x c) (y c) e (λ v h.
          let low = ranked.lower w v inside (ap (λ d. reads_now d v) is ∙ h) in
          lower v (omega arith) low.0 (need.2 v h)) ∙ sym need.1

  agree : ((c w : ℕ) → c < T → w < length net.wires → Must c w → Needs (source net w) c w) → (n c : ℕ) → c < n → n ≤ T → Same c
  agree needs zero c below top w inside must = absurd (omega arith)
  agree needs (suc n) c below top w inside must =
      within c (λ v v_inside v_must. needs c v (omega arith) v_inside v_must) (λ b b_below. agree needs n b (omega arith) (omega arith)) (suc (ranked.rank w)) w (omega arith) inside must

  pub agrees : ((c w : ℕ) → c < T → w < length net.wires → Must c w → Needs (source net w) c w) → (c : ℕ) → c < T → Same c
  agrees needs c below = agree needs T c below (omega arith)
