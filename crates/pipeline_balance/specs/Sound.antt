-- What the calls that make a masked net keep of it.
use Rattle.std.specs.Prelude.{◌≡◌, ◌-◌, ℕ, length}
use Rattle.share_wiring.specs.Adds.{random_bits}
use Rattle.share_wiring.specs.Cells.{AreCells}
use Rattle.share_wiring.specs.Networks.{IsNetwork}
use Rattle.share_wiring.specs.Wiring.{Wiring}

-- A net on n shares whose wires the small form can state, and which is to be an HPC2 network of their order.
pub record IsSound (n : ℕ) (net : Wiring) : Type 0 where
  pub cells : AreCells net.wires
  pub network : IsNetwork (n - 1) net

-- where the earlier net is sound, the later one is
abbrev pub KeepsSound : ℕ → Wiring → Wiring → Type 0
KeepsSound n old now = IsSound n old → IsSound n now

-- A sound net with so many gadgets, all of whose random bits were given.
pub record IsComplete (n gadgets : ℕ) (net : Wiring) : Type 0 where
  pub sound : IsSound n net
  pub begun : net.gadgets ≡ gadgets
  pub given : net.given ≡ length (random_bits net.ports)

abbrev pub KeepsComplete : ℕ → Wiring → Wiring → Type 0
KeepsComplete n old now = (gadgets : ℕ) → IsComplete n gadgets old → IsComplete n gadgets now
