-- What the laws of this crate say.
use Rattle.std.specs.Prelude.{◌≡◌, ◌<◌, ◌^◌, ◌⊎◌, ℕ, List, [], length}
use Rattle.agm_net.specs.Loop.{reads, IsChain, last_of}
use Rattle.agm_net.specs.Plain.{PlainNet}
use Rattle.agm_net.specs.Role.{share_name, state_name}

-- A list of steps leads back from wire w to wire v: each wire reads the next one.
abbrev pub LeadsTo : PlainNet → ℕ → ℕ → Type 0
LeadsTo net w v = (ws : List ℕ) × IsChain (reads net) w ws × (last_of w ws ≡ v)

-- `share_of` finds an index and a text exactly where the name is `agm_s<i>_` with that text behind it, or `agm_q_s<i>` and no text.
abbrev pub IsNamed : List ℕ → ℕ × List ℕ → Type 0
IsNamed name s = (s.0 < 2 ^ 32) × (((0 < length s.1) × (name ≡ share_name s.0 s.1)) ⊎ ((s.1 ≡ []) × (name ≡ state_name s.0)))
