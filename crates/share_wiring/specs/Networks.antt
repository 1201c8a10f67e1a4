-- Wires that keep the rules of HPC2 networks, told by their names and sources: those of `agm_net/specs/Network`.
use Rattle.std.specs.Prelude.{◌≡◌, ◌≤◌, ◌<◌, ◌^◌, ◌⊎◌, ℕ, List, [], ◌∷◌, length, slice_index_or, codes}
use Rattle.std.specs.List.{AllByRecursion}
use Rattle.agm_net.specs.Label.{part, IsBitOf, IsPublic, IsShareName, CountsAsShare, IsPartName, HasNumbers}
use Rattle.agm_net.specs.Network.{Recipe, the_clock, a_share, a_random_bit, inverse, product, sum, stored, recipe}
use Rattle.agm_net.specs.Role.{IsOfShare}
use Rattle.agm_net.specs.declared.label.Part.{Part}
use Rattle.agm_net.specs.declared.label.PartKind.{PartKind}
use Rattle.agm_net.specs.declared.label.PartKind.TheVariants.{Clk, R}
use Rattle.share_wiring.specs.Wiring.{Wiring, name_at, source_at, share, IsPublicWire}
use Rattle.share_wiring.specs.Own.{own_name}
use Rattle.share_wiring.specs.Adds.{random_bits}
use Rattle.share_wiring.specs.Built.{clock_port}
use Rattle.share_wiring.specs.declared.gate.Gate.{Gate}
use Rattle.share_wiring.specs.declared.gate.Gate.TheVariants.{Zero, One, Same, Not, And, Or, Xor, Mux}
use Rattle.share_wiring.specs.declared.gate.Source.{Source}
use Rattle.share_wiring.specs.declared.gate.Source.TheVariants.{Input, Equation, Register, Held}
use Rattle.share_wiring.specs.declared.gate.Wire.{Wire}

-- the wires that a gate reads, and those that a source reads or stores; a wire that is held stores itself
abbrev pub gate_reads : Gate → List ℕ
gate_reads Zero = []
gate_reads One = []
gate_reads (Same a) = a ∷ []
gate_reads (Not a) = a ∷ []
gate_reads (And a b) = a ∷ b ∷ []
gate_reads (Or a b) = a ∷ b ∷ []
gate_reads (Xor a b) = a ∷ b ∷ []
gate_reads (Mux s a b) = s ∷ a ∷ b ∷ []

abbrev pub source_reads : Source → List ℕ
source_reads Input = []
source_reads (Equation gate) = gate_reads gate
source_reads (Register next clock) = next ∷ []
source_reads Held = []

-- a register has the net's clock, which is wire 0
abbrev pub IsClocked : Source → Type 0
IsClocked Input = Unit {0}
IsClocked (Equation gate) = Unit {0}
IsClocked (Register next clock) = clock ≡ 0
IsClocked Held = Unit {0}

-- a wire that one of share i may read in a net of order d: it is public, or counts as share i
pub record Serves (d : ℕ) (wires : List Wire) (i w : ℕ) : Type 0 where
  pub within : w < length wires
  pub named : IsPublic (name_at wires w) ⊎ CountsAsShare d i (name_at wires w)

-- a wire that is this part
pub record IsPartWire (d : ℕ) (wires : List Wire) (p : Part) (w : ℕ) : Type 0 where
  pub within : w < length wires
  pub named : IsPartName d p (name_at wires w)

-- a bit of `agm_r`
pub record IsRandomWire (wires : List Wire) (w : ℕ) : Type 0 where
  pub within : w < length wires
  pub named : IsBitOf (codes "agm_r") (name_at wires w)

-- a source is by a recipe, over these wires; a register of a gadget has the gadget's clock
abbrev pub IsBy : ℕ → List Wire → Recipe → Source → Type 0
IsBy d wires the_clock s = s ≡ Equation (Same 0)
IsBy d wires (a_share i) s = (v : ℕ) × (s ≡ Equation (Same v)) × Serves d wires i v
IsBy d wires a_random_bit s = (v : ℕ) × (s ≡ Equation (Same v)) × IsRandomWire wires v
IsBy d wires (inverse p) s = (v : ℕ) × (s ≡ Equation (Not v)) × IsPartWire d wires p v
IsBy d wires (product p q) s = (u : ℕ) × (v : ℕ) × (s ≡ Equation (And u v)) × IsPartWire d wires p u × IsPartWire d wires q v
IsBy d wires (sum p q) s = (u : ℕ) × (v : ℕ) × (s ≡ Equation (Xor u v)) × IsPartWire d wires p u × IsPartWire d wires q v
IsBy d wires (stored p) s = (v : ℕ) × (c : ℕ) × (s ≡ Register v c) × IsPartWire d wires p v × IsPartWire d wires (part p.gadget Clk 0 0) c

-- The rule that a wire of this name and source keeps in a net of order d: that of the clock, of a random bit, of a public wire, which
-- reads public wires alone, of a wire of share i that is no part, which reads public ones and those of share i, or of a part.
pub data Rule (d : ℕ) (wires : List Wire) (name : List ℕ) (source : Source) : Type 0 where
  is_clock : name ≡ codes "agm_clk" → source ≡ Input → Rule d wires name source
  is_random : IsBitOf (codes "agm_r") name → source ≡ Input → Rule d wires name source
  is_public : IsPublic name → AllByRecursion (IsPublicWire wires) (source_reads source) → IsClocked source → Rule d wires name source
  is_share : (i : ℕ) → i ≤ d → IsShareName i name → AllByRecursion (Serves d wires i) (source_reads source) → IsClocked source → Rule d wires name source
  is_part : (p : Part) → IsPartName d p name → IsBy d wires (recipe d p.gadget p.kind p.i p.j) source → Rule d wires name source

-- the name of the part that a pair's random bit is for
abbrev pub IsPair : ℕ → List ℕ → Type 0
IsPair d name = (g : ℕ) × (i : ℕ) × (j : ℕ) × IsPartName d (part g R i j) name

-- The rules of these wires in a net of order d, of which the first m gadgets are whole, and which has these random bits, so many of
-- them given: each wire keeps its rule, each of those gadgets has all its parts, and each bit that was given is read by one pair's
-- part, `reader`. No pair's part reads another bit.
pub record Rules (d m : ℕ) (wires : List Wire) (given : ℕ) (bits : List ℕ) : Type 0 where
  pub ruled : (w : ℕ) → w < length wires → Rule d wires (name_at wires w) (source_at wires w)
  pub whole : (g : ℕ) → g < m → (kind : PartKind) (i j : ℕ) → HasNumbers d kind i j → (w : ℕ) × IsPartWire d wires (part g kind i j) w
  pub reader : ℕ → ℕ
  pub within : (k : ℕ) → k < given → reader k < length wires
  pub pairs : (k : ℕ) → k < given → IsPair d (name_at wires (reader k))
  pub reads : (k : ℕ) → k < given → source_at wires (reader k) ≡ Equation (Same (slice_index_or bits k 0))
  pub others : (w : ℕ) → w < length wires → IsPair d (name_at wires w) → (k : ℕ) × (k < given) × (w ≡ reader k)

-- The net of a builder is to be an HPC2 network of order d: its wires keep the rules, and all gadgets that were begun are whole.
abbrev pub IsNetwork : ℕ → Wiring → Type 0
IsNetwork d net = Rules d net.gadgets net.wires net.given (random_bits net.ports)

-- the net that a builder begins with
abbrev pub start : Wiring
start = record { ports = clock_port ∷ []; wires = (record { name = codes "agm_clk"; source = Input }) ∷ []; gadgets = 0; given = 0 }

-- where the earlier wires keep the rules, all do
abbrev pub KeepsNetwork : ℕ → Wiring → Wiring → Type 0
KeepsNetwork d old new = IsNetwork d old → IsNetwork d new

-- a port with a share is of an index that a net of order d has
abbrev pub FitsOrder : ℕ → List ℕ → Type 0
FitsOrder d name = (i : ℕ) → IsOfShare i name → i ≤ d

-- a port with a share is given wires that may stand for that share
abbrev pub IsServed : ℕ → List Wire → List ℕ → List ℕ → Type 0
IsServed d wires name bits = (i : ℕ) → IsOfShare i name → (i ≤ d) × AllByRecursion (Serves d wires i) bits

-- wires whose names are those that a builder's calls give the shares of n
abbrev pub AreNamed : ℕ → List Wire → List ℕ → Type 0
AreNamed n wires z = (i : ℕ) → i < n → (k : ℕ) × (k < 2 ^ 64) × (name_at wires (share z i) ≡ own_name n i k)
