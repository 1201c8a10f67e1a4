-- The run of a net keeps what drives each wire, and looks back only.
use Rattle.std.proofs.Common.{◌≡◌, ◌<◌, ℕ, zero, suc, Bool, false, List, IsTrue, refl, sym, ap, ◌∙◌, length, slice_index_or, arith}
use Rattle.agm_net.specs.Loop.{IsRanked}
use Rattle.agm_net.specs.Plain.{PlainNet}
use Rattle.agm_net.specs.Run.{Driver, d_input, d_clock, d_equation, d_register, d_nothing, driver, asked, before, reads_now, reads_ever, settled, bit_in}
use Rattle.agm_net.specs.Trace.{Row, row_at}
use Rattle.agm_net.specs.WellFormed.{WellFormed}
use Rattle.agm_net.proofs.Driving.{now_is_ever, reads_are_wires, reads_is}
use Rattle.agm_net.proofs.Formulas.{same_value}
use Rattle.agm_net.proofs.Worlds.{Needs, agrees}

-- what a driver asks for depends on what it reads
pub asked_same : (d : Driver) (power : Row) (tape : List Row) (x y f g : ℕ → Bool) (t : ℕ) → ((v : ℕ) → IsTrue (reads_ever d v) → x v ≡ y v) → ((v : ℕ) → IsTrue (reads_now d v) → f v ≡ g v)
    → asked d power tape x f t ≡ asked d power tape y g t
asked_same (d_input n) power tape x y f g t past now = refl
asked_same d_clock power tape x y f g t past now = refl
asked_same (d_equation e) power tape x y f g t past now = same_value f g e now
asked_same (d_register n next) power tape x y f g zero past now = refl
asked_same (d_register n next) power tape x y f g (suc t) past now = same_value x y next past
asked_same d_nothing power tape x y f g t past now = refl

module _ (net : PlainNet) (well : WellFormed net) (ranked : IsRanked net) where
  -- from its rank on, a wire's bit stands still
  stands_still : (power : Row) (tape : List Row) (past : ℕ → Bool) (t n w : ℕ) → ranked.rank w < n → w < length net.wires → settled net power tape past t n w ≡ settled net power tape past t (suc n) w
  stands_still power tape past t zero w low inside = absurd (omega arith)
  stands_still power tape past t (suc n) w low inside =
      asked_same (driver net w) power tape past past (settled net power tape past t n) (settled net power tape past t (suc n)) t (λ v h. refl)
      (λ v h.
      let lower = ranked.lower w v (reads_is net well w v ∙ h) in
      stands_still power tape past t n v (omega arith) (reads_are_wires net well w v inside (now_is_ever (driver net w) v h)))

  -- the bit of a wire in the run is what its driver asks for
  pub bit_is : (power : Row) (tape : List Row) (t w : ℕ) → w < length net.wires → bit_in net power tape t w ≡ asked (driver net w) power tape (before (bit_in net power tape) t) (bit_in net power tape t) t
  bit_is power tape zero w inside = stands_still power tape (λ v. false) zero (length net.wires) w (ranked.few w inside) inside
  bit_is power tape (suc t) w inside = stands_still power tape (bit_in net power tape t) (suc t) (length net.wires) w (ranked.few w inside) inside

  -- two rows of bits that keep what drives each wire, by power-up contents and tapes that are the same up to T
  pub kept_alike : (power : Row) (first second : List Row) (x y : ℕ → ℕ → Bool) (T : ℕ) → ((s : ℕ) → s < T → row_at first s ≡ row_at second s)
      → ((t w : ℕ) → t < T → w < length net.wires → x t w ≡ asked (driver net w) power first (before x t) (x t) t)
      → ((t w : ℕ) → t < T → w < length net.wires → y t w ≡ asked (driver net w) power second (before y t) (y t) t)
      → (t w : ℕ) → t < T → w < length net.wires → x t w ≡ y t w
  kept_alike power first second x y T same kx ky t w below small =
      agrees net well ranked T x y (λ c v. Unit {0}) (λ c v h inside must. needs c v (driver net v) refl h inside (kx c v h inside) (ky c v h inside)) t below w small tt
    where
      needs : (c v : ℕ) (d : Driver) → driver net v ≡ d → c < T → v < length net.wires → x c v ≡ asked d power first (before x c) (x c) c → y c v ≡ asked d power second (before y c) (y c) c
          → Needs net well ranked T x y (λ c v. Unit {0}) d c v
      needs c v (d_input n) is h inside a b = λ earlier. a ∙ (ap (λ row. slice_index_or row n false) (same c h) ∙ sym b)
      needs c v d_clock is h inside a b = λ earlier. a ∙ sym b
      needs c v (d_equation f) is h inside a b = (a, b, λ u s. tt)
      needs zero v (d_register n next) is h inside a b = λ earlier. a ∙ sym b
      needs (suc c) v (d_register n next) is h inside a b =
          λ earlier. a ∙ (same_value (x c) (y c) next (λ u s. earlier c (omega arith) u (reads_are_wires net well v u inside (ap (λ d. reads_ever d u) is ∙ s)) tt) ∙ sym b)
      needs c v d_nothing is h inside a b = λ earlier. a ∙ sym b
