-- Values that are public or secret.
use Rattle.std.specs.Prelude.{◌≡◌, ◌<◌, ℕ, Bool, true, false, not, List}
use Rattle.share_wiring.specs.Wiring.{Wiring, IsSharing}
use Rattle.pipeline_balance.specs.declared.values.Value.{Value}
use Rattle.pipeline_balance.specs.declared.values.Value.TheVariants.{Public, Secret}
use Rattle.pipeline_balance.specs.Signals.{Signal}
use Rattle.pipeline_balance.specs.Shared.{shared, Makes}

abbrev pub is_secret : {n : ℕ} → Value n → Bool
is_secret (Public x) = false
is_secret (Secret x) = true

-- a public value is a sharing of one share
abbrev pub size_of : (n : ℕ) → Value n → ℕ
size_of n (Public x) = 1
size_of n (Secret x) = n

abbrev pub wires_of : {n : ℕ} → Value n → List ℕ
wires_of (Public x) = x.shares
wires_of (Secret x) = x.shares

abbrev pub IsValue : (n : ℕ) → Wiring → Value n → Type 0
IsValue n net v = IsSharing net.wires (size_of n v) (wires_of v)

-- a value's bit in each cycle
abbrev pub signal : (n : ℕ) → (ℕ → ℕ → Bool) → Value n → Signal
signal n bits v = shared (size_of n v) bits (wires_of v)

-- what calls do that make a value
abbrev pub MakesValue : Wiring → Wiring → (n gadgets random : ℕ) → Value n → (ℕ → (ℕ → ℕ → Bool) → Type 0) → Type 0
MakesValue old now n gadgets random v fact = Makes n old now (size_of n v) gadgets random (wires_of v) fact

-- z is x in each cycle
abbrev pub Equals : ℕ → (x z : Signal) → Type 0
Equals cycles x z = (t : ℕ) → t < cycles → z t ≡ x t

-- and its inverse
abbrev pub IsInverse : ℕ → (x z : Signal) → Type 0
IsInverse cycles x z = (t : ℕ) → t < cycles → z t ≡ not (x t)
