-- The naive mode: each operator that an output or a register depends on is taken as it stands. A sum is the inversion of the product of
-- inversions, and a choice of `low` and `high` by `select` is `low ^ (select & (high ^ low))`.
use Rattle.std.specs.Prelude.{◌≡◌, ◌<◌, ◌↔◌, ℕ, Bool, false, ◌&&◌, ◌||◌, length, max, count_by, Some, slice_get, IsTrue}
use Rattle.std.specs.List.{enumerate_from}
use Rattle.logic_graph.specs.declared.nodes.Node.{Node}
use Rattle.logic_graph.specs.declared.nodes.Node.TheVariants.{Zero, One, Input, Q, Not, Xor, And, Or, Mux}
use Rattle.logic_graph.specs.declared.graphs.Graph.{Graph}
use Rattle.logic_graph.specs.Live.{IsLive}
use Rattle.logic_graph.specs.Settled.{bit_of}
use Rattle.secrecy_spread.specs.declared.secrets.Secrets.{Secrets}
use Rattle.secrecy_spread.specs.Levels.{product_level, depth_of}

-- whether an operator takes a gadget: a product or a sum of two secrets, and a choice by a secret where a branch is secret
abbrev pub takes_gadget : (secret : ℕ → Bool) → Node → Bool
takes_gadget secret (And a b) = secret a && secret b
takes_gadget secret (Or a b) = secret a && secret b
takes_gadget secret (Mux s a b) = secret s && (secret a || secret b)
takes_gadget secret _ = false

-- how many live operators take a gadget
abbrev pub NaiveGadgets : Graph → Secrets → ℕ → Type 0
NaiveGadgets graph s n =
    (live : ℕ → Bool) × ((k : ℕ) → k < length graph.nodes → IsTrue (live k) ↔ IsLive graph.nodes graph.sinks k)
    × (n ≡ count_by (λ e. live e.0 && takes_gadget (bit_of s.nodes) e.1) (enumerate_from 0 graph.nodes))

-- the level of a node, where `secret` and `level` tell of its operands
abbrev pub naive_level : (secret : ℕ → Bool) → (level : ℕ → ℕ) → Node → ℕ
naive_level secret level Zero = 0
naive_level secret level One = 0
naive_level secret level (Input i) = 0
naive_level secret level (Q r) = 0
naive_level secret level (Not a) = level a
naive_level secret level (Xor a b) = max (level a) (level b)
naive_level secret level (And a b) = product_level (secret a) (secret b) (level a) (level b)
naive_level secret level (Or a b) = product_level (secret a) (secret b) (level a) (level b)
naive_level secret level (Mux s a b) = max (level a) (product_level (secret s) (secret a || secret b) (level s) (max (level a) (level b)))

-- the greatest level of a secret sink
abbrev pub NaiveDepth : Graph → Secrets → ℕ → Type 0
NaiveDepth graph s n =
    (level : ℕ → ℕ) × ((k : ℕ) (m : Node) → slice_get graph.nodes k ≡ Some m → level k ≡ naive_level (bit_of s.nodes) level m)
    × (n ≡ depth_of (bit_of s.nodes) level graph.sinks)
