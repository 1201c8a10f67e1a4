-- Registers that are held while nodes are made, and closed behind them.
use Rattle.std.specs.Prelude.{◌≡◌, ◌≢◌, ◌<◌, ◌≤◌, ◌+◌, ℕ, Bool, List, length, map}
use Rattle.share_wiring.specs.Wiring.{Wiring, MayBeShare, IsPublicWire, share}
use Rattle.share_wiring.specs.Adds.{AddsFact, AreHeld}
use Rattle.share_wiring.specs.Networks.{AreNamed}
use Rattle.share_wiring.specs.declared.gate.Wire.{Wire}
use Rattle.pipeline_balance.specs.declared.values.Value.{Value}
use Rattle.pipeline_balance.specs.Sound.{KeepsSound}
use Rattle.pipeline_balance.specs.Signals.{Signal, selected}
use Rattle.pipeline_balance.specs.Valued.{is_secret, size_of, wires_of, signal}
use Rattle.pipeline_balance.specs.Chained.{value_at, AreSources}

-- registers whose next values are yet to be given, under the names of a builder's wires
pub record AreOpen (n : ℕ) (wires : List Wire) (z : List ℕ) : Type 0 where
  pub held : AreHeld n wires z
  pub named : AreNamed n wires z

-- a value of such registers
abbrev pub IsHeld : (n : ℕ) → Wiring → Value n → Type 0
IsHeld n net v = AreOpen (size_of n v) net.wires (wires_of v)

-- values without a wire in common
abbrev pub Apart : (n : ℕ) → Value n → Value n → Type 0
Apart n v u = (i j : ℕ) → i < size_of n v → j < size_of n u → share (wires_of v) i ≢ share (wires_of u) j

-- Registers for initial values: each is secret where its initial value is, and no two have a wire in common.
pub record AreRegisters (n : ℕ) (net : Wiring) (initial held : List (Value n)) : Type 0 where
  pub kinds : map is_secret held ≡ map is_secret initial
  pub values : AreSources n net held
  pub apart : (r q : ℕ) → r < length held → q < length held → r ≢ q → Apart n (value_at held r) (value_at held q)

-- those from number k on are held
abbrev pub HeldFrom : (n : ℕ) → Wiring → ℕ → List (Value n) → Type 0
HeldFrom n net k held = (r : ℕ) → k ≤ r → r < length held → IsHeld n net (value_at held r)

-- What calls do that may close registers, in a net on s shares: what may be a share still may be one, no gadget is begun and no random
-- bit given, the net stays sound, and each run of the new net is one of the old net and keeps a fact.
pub record Goes (s : ℕ) (old now : Wiring) (fact : ℕ → (ℕ → ℕ → Bool) → Type 0) : Type 0 where
  pub count : length old.wires ≤ length now.wires
  pub shares : (n i w : ℕ) → MayBeShare old.wires n i w → MayBeShare now.wires n i w
  pub publics : (w : ℕ) → IsPublicWire old.wires w → IsPublicWire now.wires w
  pub ports : now.ports ≡ old.ports
  pub begun : now.gadgets ≡ old.gadgets
  pub given : now.given ≡ old.given
  pub sound : KeepsSound s old now
  pub value : AddsFact old now fact

-- a register has in each cycle what was chosen in the cycle before: its next value, or the initial one where load was 1
abbrev pub IsChosen : ℕ → (ℕ → ℕ → Bool) → (load : ℕ) → (held initial next : Signal) → Type 0
IsChosen cycles bits load held initial next = (t : ℕ) → t + 1 < cycles → held (t + 1) ≡ selected (bits t load) (initial t) (next t)

-- other registers stay held
abbrev pub OthersStay : Wiring → Wiring → ℕ → List ℕ → Type 0
OthersStay old new m closed = (n : ℕ) (z : List ℕ) → AreOpen n old.wires z → ((i j : ℕ) → i < n → j < m → share z i ≢ share closed j) → AreOpen n new.wires z

-- the first registers are closed, and the others held
pub record AreClosed (n : ℕ) (old now : Wiring) (load : ℕ) (initial held nexts : List (Value n)) (k : ℕ) : Type 0 where
  pub open_ones : HeldFrom n now k held
  pub goes : Goes n old now (λ cycles bits. (r : ℕ) → r < k → IsChosen cycles bits load (signal n bits (value_at held r)) (signal n bits (value_at initial r)) (signal n bits (value_at nexts r)))
