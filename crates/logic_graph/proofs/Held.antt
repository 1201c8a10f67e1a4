-- What registers hold from cycle to cycle.
use Rattle.std.proofs.Common.{◌≡◌, ◌<◌, ◌+◌, ℕ, Bool, List, [], ◌∷◌, map, length, refl, ap₂}
use Rattle.agm_net.specs.Formula.{value}
use Rattle.agm_net.specs.Plain.{Stored, PlainNet}
use Rattle.agm_net.specs.Trace.{Row, Steps, bit_at, IsTrace}
use Rattle.logic_graph.specs.Traces.{held}

-- what registers hold in the cycle behind
abbrev pub next_held : PlainNet → (ℕ → Bool) → Row
next_held net bit = map (λ r. value bit r.next) net.registers

held_steps : (before now : ℕ → Bool) (rs : List Stored) → Steps before now rs → map (λ r. now r.q) rs ≡ map (λ r. value before r.next) rs
held_steps before now [] h = refl
held_steps before now (r ∷ rs) h = ap₂ (λ b bs. b ∷ bs) h.0 (held_steps before now rs h.1)

-- what a trace holds in a cycle
pub held_at : (net : PlainNet) (power : Row) (tape table : List Row) → IsTrace net power tape table → (t : ℕ) → t + 1 < length table → held net (bit_at table (t + 1)) ≡ next_held net (bit_at table t)
held_at net power tape table trace t lt = held_steps (bit_at table t) (bit_at table (t + 1)) net.registers (trace.registers_step t lt)
