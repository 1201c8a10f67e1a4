-- What the naive mode costs for an original, and how wide the ports of the masked net are.
use Rattle.std.specs.Prelude.{◌≡◌, ◌≤◌, ◌+◌, ◌*◌, ◌/◌, ℕ, Bool, not, List, max, count_by}
use Rattle.agm_net.specs.Plain.{PlainNet}
use Rattle.agm_net.specs.declared.mark.Mark.{Mark}
use Rattle.logic_graph.specs.GraphOf.{IsGraphOf}
use Rattle.logic_graph.specs.declared.graphs.Graph.{Graph}
use Rattle.secrecy_spread.specs.Naive.{NaiveGadgets, NaiveDepth}
use Rattle.secrecy_spread.specs.SecretsOf.{SecretsOf}
use Rattle.secrecy_spread.specs.declared.secrets.Secrets.{Secrets}
use Rattle.share_wiring.specs.Same.{TellsSecrets}

-- the gadgets and the latency of the naive mode, read on a graph of the net
pub record NaiveCosts (net : PlainNet) (marks : List Mark) (gadgets latency : ℕ) : Type 0 where
  pub graph : Graph
  pub secrets : Secrets
  pub is_graph : IsGraphOf net graph
  pub are_secrets : SecretsOf net graph marks secrets
  pub gadgets_are : NaiveGadgets graph secrets gadgets
  pub latency_is : NaiveDepth graph secrets latency

-- the greatest width of a port of random bits or of initial states
abbrev pub width_limit : ℕ
width_limit = 65536

-- the greatest of the numbers of random bits, of public registers and of secret ones, where flags say which registers are secret
abbrev pub width_of : (order gadgets : ℕ) → List Bool → ℕ
width_of order gadgets secret = max (gadgets * order * (order + 1) / 2) (max (count_by not secret) (count_by (λ s. s) secret))

-- the same of an original
abbrev pub IsWidth : PlainNet → List Mark → (order bits : ℕ) → Type 0
IsWidth net marks order bits =
    (gadgets : ℕ) × (latency : ℕ) × (flags : List Bool) × NaiveCosts net marks gadgets latency × TellsSecrets net marks flags
    × (bits ≡ width_of order gadgets flags)

abbrev pub IsNarrow : PlainNet → List Mark → (order : ℕ) → Type 0
IsNarrow net marks order = (bits : ℕ) × IsWidth net marks order bits × (bits ≤ width_limit)
