-- What gives a wire its bit, as a list with one item for each wire.
use Rattle.std.specs.Prelude.{◌≡◌, ◌<◌, ℕ, Bool, true, false, List, Some, length, slice_get, slice_index_or, IsTrue}
use Rattle.agm_net.specs.Formula.{Formula}
use Rattle.agm_net.specs.Plain.{Line, PlainNet}
use Rattle.agm_net.specs.Run.{driver, d_clock}
use Rattle.probe_cones.specs.Cone.{is_source}
use Rattle.probe_cones.specs.declared.origins.Origin.{Origin}
use Rattle.probe_cones.specs.declared.origins.Origin.TheVariants.{Source, Equation, Clock}

abbrev pub origin_at : List Origin → ℕ → Origin
origin_at origins w = slice_index_or origins w Source

-- what an origin says of the wire that has it
abbrev pub Tells : PlainNet → Origin → ℕ → Type 0
Tells net Source w = IsTrue (is_source (driver net w))
Tells net (Equation k) w = (f : Formula) × (slice_get net.lines k ≡ Some (w, f))
Tells net Clock w = driver net w ≡ d_clock

pub record AreOrigins (net : PlainNet) (origins : List Origin) : Type 0 where
  pub one_each : length origins ≡ length net.wires
  pub tells : (w : ℕ) → w < length net.wires → Tells net (origin_at origins w) w

abbrev pub comes_from_source : Origin → Bool
comes_from_source Source = true
comes_from_source _ = false

abbrev pub is_clock : Origin → Bool
is_clock Clock = true
is_clock _ = false

-- the wires of these bits have the clock as origin, the others what they had
pub record HasMarkedClock (bits : List ℕ) (before now : List Origin) : Type 0 where
  pub as_many : length now ≡ length before
  pub marked : (k : ℕ) → k < length bits → origin_at now (slice_index_or bits k 0) ≡ Clock
  pub others : (w : ℕ) → ((k : ℕ) → k < length bits → slice_index_or bits k 0 ≡ w → Prim.⊥) → origin_at now w ≡ origin_at before w

-- what an equation's wire has as origin, after some are marked
abbrev pub IsOf : List Line → Origin → ℕ → Type 0
IsOf lines (Equation k) w = (f : Formula) × (slice_get lines k ≡ Some (w, f))
IsOf lines _ w = Prim.⊥

-- the wires of equations have one of their equations as origin, the others what they had
pub record HasMarkedEquations (lines : List Line) (before now : List Origin) : Type 0 where
  pub as_many : length now ≡ length before
  pub marked : (k w : ℕ) (f : Formula) → slice_get lines k ≡ Some (w, f) → IsOf lines (origin_at now w) w
  pub others : (w : ℕ) → ((k : ℕ) (f : Formula) → slice_get lines k ≡ Some (w, f) → Prim.⊥) → origin_at now w ≡ origin_at before w
