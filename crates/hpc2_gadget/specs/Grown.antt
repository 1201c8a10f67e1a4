-- What is kept while a gadget is made.
use Rattle.std.specs.Prelude.{◌≡◌, ◌<◌, ◌+◌, ℕ, zero, suc, Bool, List, length}
use Rattle.share_wiring.specs.Wiring.{Wiring, IsSharing, MayBeShare, names, share}
use Rattle.share_wiring.specs.Adds.{Extends, AddsFact}
use Rattle.hpc2_gadget.specs.Order.{Below}
use Rattle.share_wiring.specs.Cells.{AddsCells}

-- The earlier wires stay, the small form can state the new ones, so many random bits were given, and the parts of gadget g have numbers below r.
pub record Grown (n g r bits : ℕ) (old new : Wiring) : Type 0 where
  pub extends : Extends old new
  pub ports : new.ports ≡ old.ports
  pub gadgets : new.gadgets ≡ old.gadgets
  pub given : new.given ≡ old.given + bits
  pub cells : AddsCells old new
  pub below : Below n g r (names new.wires)

-- n shares are wires of the new net, and its traces keep a fact
pub record Makes (old new : Wiring) (n : ℕ) (shares : List ℕ) (fact : ℕ → (ℕ → ℕ → Bool) → Type 0) : Type 0 where
  pub full : length shares ≡ n
  pub sharing : IsSharing new.wires n shares
  pub facts : AddsFact old new fact

-- of n shares the first m are wires of the new net, and keep a fact in its traces
pub record Fills (old new : Wiring) (n m : ℕ) (shares : List ℕ) (fact : ℕ → (ℕ → ℕ → Bool) → ℕ → ℕ → Type 0) : Type 0 where
  pub full : length shares ≡ n
  pub sharing : (k : ℕ) → k < m → MayBeShare new.wires n k (share shares k)
  pub facts : AddsFact old new (λ cycles bits. (k : ℕ) → k < m → fact cycles bits k (share shares k))

-- how many pairs n indices have
abbrev pub triangle : ℕ → ℕ
triangle zero = 0
triangle (suc n) = triangle n + n
