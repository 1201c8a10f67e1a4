-- What a builder's call adds.
use Rattle.std.specs.Prelude.{◌≡◌, ◌≤◌, ◌<◌, ◌+◌, ◌++◌, ℕ, Bool, not, ◌&&◌, List, length, take, filter, codes}
use Rattle.std.specs.List.{flat_map}
use Rattle.std.specs.Str.{bytes_eq}
use Rattle.agm_net.specs.Formula.{xor}
use Rattle.agm_net.specs.declared.port.Port.{Port}
use Rattle.share_wiring.specs.Recombine.{xor_below}
use Rattle.share_wiring.specs.Wiring.{Wiring, IsRun, MayBeShare, IsPublicWire, share, source_at, net_of}
use Rattle.share_wiring.specs.Own.{own_wires, source_of, upto}
use Rattle.share_wiring.specs.declared.gate.Source.TheVariants.{Held}
use Rattle.share_wiring.specs.declared.gate.Step.{Step}
use Rattle.share_wiring.specs.declared.gate.Wire.{Wire}

-- The earlier wires stay, with their names and sources; so what may be a share of an index may still be one.
pub record Extends (old new : Wiring) : Type 0 where
  pub wires : take (length old.wires) new.wires ≡ old.wires
  pub count : length old.wires ≤ length new.wires
  pub gadgets : old.gadgets ≤ new.gadgets
  pub shares : (n i w : ℕ) → MayBeShare old.wires n i w → MayBeShare new.wires n i w
  pub publics : (w : ℕ) → IsPublicWire old.wires w → IsPublicWire new.wires w

-- nothing but wires was added
pub record Stays (old new : Wiring) : Type 0 where
  pub ports : new.ports ≡ old.ports
  pub gadgets : new.gadgets ≡ old.gadgets
  pub given : new.given ≡ old.given

-- The wires that were added are those that a step makes of the shares of x and y, and z has their numbers. Nothing else changed.
pub record AddsStep (step : Step) (n : ℕ) (old new : Wiring) (x y z : List ℕ) : Type 0 where
  pub made : new ≡ record old { wires = old.wires ++ own_wires n (length old.wires) (λ i. source_of step i (share x i) (share y i)) n }
  pub numbers : z ≡ upto n (λ i. length old.wires + i)

-- n wires, each another one, whose next values are yet to be given
pub record AreHeld (n : ℕ) (wires : List Wire) (z : List ℕ) : Type 0 where
  pub held : (i : ℕ) → i < n → source_at wires (share z i) ≡ Held
  pub apart : (i j : ℕ) → i < n → j < n → share z i ≡ share z j → i ≡ j

-- so many registers were added
abbrev pub AddsRegisters : ℕ → Wiring → Wiring → Type 0
AddsRegisters n old new = length (net_of new).registers ≡ length (net_of old).registers + n

-- Each trace of the new net is one of the old net, and keeps a fact. Each later call says so too: the fact holds in every trace of
-- each net that the builder stands for later.
abbrev pub AddsFact : Wiring → Wiring → (ℕ → (ℕ → ℕ → Bool) → Type 0) → Type 0
AddsFact old new fact = (cycles : ℕ) (bits : ℕ → ℕ → Bool) → IsRun new.wires cycles bits → IsRun old.wires cycles bits × fact cycles bits

-- what n shares recombine to, where each wire has the bit `bit w`
abbrev pub recombined : ℕ → (ℕ → Bool) → List ℕ → Bool
recombined n bit shares = xor_below n (λ i. bit (share shares i))

-- in every cycle z recombines to the exclusive or of x and y
abbrev pub Xors : ℕ → ℕ → (ℕ → ℕ → Bool) → List ℕ → List ℕ → List ℕ → Type 0
Xors n cycles bits x y z = (t : ℕ) → t < cycles → recombined n (bits t) z ≡ xor (recombined n (bits t) x) (recombined n (bits t) y)

-- to the inverse of x
abbrev pub Inverts : ℕ → ℕ → (ℕ → ℕ → Bool) → List ℕ → List ℕ → Type 0
Inverts n cycles bits x z = (t : ℕ) → t < cycles → recombined n (bits t) z ≡ not (recombined n (bits t) x)

-- to the product of a wire and x
abbrev pub Masks : ℕ → ℕ → (ℕ → ℕ → Bool) → ℕ → List ℕ → List ℕ → Type 0
Masks n cycles bits w x z = (t : ℕ) → t < cycles → recombined n (bits t) z ≡ bits t w && recombined n (bits t) x

-- to the bit of a wire
abbrev pub Holds : ℕ → ℕ → (ℕ → ℕ → Bool) → ℕ → List ℕ → Type 0
Holds n cycles bits w z = (t : ℕ) → t < cycles → recombined n (bits t) z ≡ bits t w

-- to a constant
abbrev pub IsAlways : ℕ → ℕ → (ℕ → ℕ → Bool) → Bool → List ℕ → Type 0
IsAlways n cycles bits bit z = (t : ℕ) → t < cycles → recombined n (bits t) z ≡ bit

-- each share of z has the bit of that of x
abbrev pub Copies : ℕ → ℕ → (ℕ → ℕ → Bool) → List ℕ → List ℕ → Type 0
Copies n cycles bits x z = (t : ℕ) → t < cycles → (i : ℕ) → i < n → bits t (share z i) ≡ bits t (share x i)

-- each share of z has the bit that that of x had in the cycle before
abbrev pub Delays : ℕ → ℕ → (ℕ → ℕ → Bool) → List ℕ → List ℕ → Type 0
Delays n cycles bits x z = (t : ℕ) → t + 1 < cycles → (i : ℕ) → i < n → bits (t + 1) (share z i) ≡ bits t (share x i)

-- the bits of the port `agm_r`, and those that were given
abbrev pub random_bits : List Port → List ℕ
random_bits ports = flat_map (λ p. p.bits) (filter (λ p. bytes_eq p.name (codes "agm_r")) ports)

abbrev pub given_bits : Wiring → List ℕ
given_bits net = take net.given (random_bits net.ports)
