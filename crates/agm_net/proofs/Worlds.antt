-- Two runs of one net agree where what they read agrees.
use Rattle.std.proofs.Common.{◌≡◌, ◌<◌, ◌≤◌, ℕ, zero, suc, Bool, IsTrue, refl, sym, ap, ◌∙◌, length, arith}
use Rattle.agm_net.specs.Formula.{value, stands}
use Rattle.agm_net.specs.Loop.{IsRanked}
use Rattle.agm_net.specs.Plain.{PlainNet}
use Rattle.agm_net.specs.Run.{Driver, d_input, d_clock, d_equation, d_register, d_nothing, driver, reads_now, reads_ever}
use Rattle.agm_net.specs.WellFormed.{WellFormed}
use Rattle.agm_net.proofs.Driving.{reads_are_wires, reads_is}
use Rattle.agm_net.proofs.Formulas.{same_value}

-- Bits x and y of wires in cycles before T. They agree on the wires that must, where each such wire has what it needs.
module _ (net : PlainNet) (well : WellFormed net) (ranked : IsRanked net) (T : ℕ) (x y : ℕ → ℕ → Bool) (Must : ℕ → ℕ → Type 0) where
  abbrev pub Same : ℕ → Type 0
  Same c = (w : ℕ) → w < length net.wires → Must c w → x c w ≡ y c w

  -- what a wire of this driver needs in cycle c: both keep its equation, and what it reads must agree; or they agree by earlier cycles
  abbrev pub Needs : Driver → ℕ → ℕ → Type 0
  Needs (d_equation f) c w = (x c w ≡ value (x c) f) × (y c w ≡ value (y c) f) × ((v : ℕ) → IsTrue (stands v f) → Must c v)
  Needs _ c w = ((b : ℕ) → b < c → Same b) → x c w ≡ y c w

  within : (c : ℕ) → ((w : ℕ) → w < length net.wires → Must c w → Needs (driver net w) c w) → ((b : ℕ) → b < c → Same b) → (m w : ℕ) → ranked.rank w < m → w < length net.wires → Must c w → x c w ≡ y c w
  within c needs earlier zero w below inside must = absurd (omega arith)
  within c needs earlier (suc m) w below inside must =
      go (driver net w) refl (needs w inside must) (λ v v_below v_inside v_must. within c needs earlier m v v_below v_inside v_must)
    where
      go : (d : Driver) → driver net w ≡ d → Needs d c w → ((v : ℕ) → ranked.rank v < m → v < length net.wires → Must c v → x c v ≡ y c v) → x c w ≡ y c w
      go (d_input n) is need lower = need earlier
      go d_clock is need lower = need earlier
      go (d_register n next) is need lower = need earlier
      go d_nothing is need lower = need earlier
      go (d_equation f) is need lower =
          need.0 ∙ (same_value (x c) (y c) f (λ v h.
          let low = ranked.lower w v (reads_is net well w v ∙ (ap (λ d. reads_now d v) is ∙ h)) in
          lower v (omega arith) (reads_are_wires net well w v inside (ap (λ d. reads_ever d v) is ∙ h)) (need.2 v h)) ∙ sym need.1)

  upto : ((c w : ℕ) → c < T → w < length net.wires → Must c w → Needs (driver net w) c w) → (n c : ℕ) → c < n → n ≤ T → Same c
  upto needs zero c below top w inside must = absurd (omega arith)
  upto needs (suc n) c below top w inside must =
      within c (λ v v_inside v_must. needs c v (omega arith) v_inside v_must) (λ b b_below. upto needs n b (omega arith) (omega arith)) (suc (ranked.rank w)) w (omega arith) inside must

  pub agrees : ((c w : ℕ) → c < T → w < length net.wires → Must c w → Needs (driver net w) c w) → (c : ℕ) → c < T → Same c
  agrees needs c below = upto needs T c below (omega arith)
