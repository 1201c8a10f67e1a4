-- Levels: after how many cycles a value is there. Sources and all that is public have level 0.
use Rattle.std.specs.Prelude.{◌≡◌, ◌+◌, ℕ, Bool, ◌&&◌, cond, List, [], ◌∷◌, map, max, min, Some, slice_get}
use Rattle.logic_graph.specs.declared.nodes.XanNode.{XanNode}
use Rattle.logic_graph.specs.declared.nodes.XanNode.TheVariants.{Zero, One, Input, Q, Not, Xor, And}

-- the level of a gadget that takes a late operand one cycle before its answer and an early one two cycles before
abbrev pub gadget_level : (late early : ℕ) → ℕ
gadget_level late early = max (late + 1) (early + 2)

-- The level of a product of factors that are secret or not: of two secret ones the later is the late operand of a gadget; else it is
-- the greater, which is that of the secret factor.
abbrev pub product_level : (secret secret' : Bool) → (level level' : ℕ) → ℕ
product_level s t p q = cond (s && t) (gadget_level (max p q) (min p q)) (max p q)

-- the level of a node, where `secret` and `level` tell of its operands
abbrev pub xan_level : (secret : ℕ → Bool) → (level : ℕ → ℕ) → XanNode → ℕ
xan_level secret level Zero = 0
xan_level secret level One = 0
xan_level secret level (Input i) = 0
xan_level secret level (Q r) = 0
xan_level secret level (Not a) = level a
xan_level secret level (Xor a b) = max (level a) (level b)
xan_level secret level (And a b) = product_level (secret a) (secret b) (level a) (level b)

-- `level k` is the level of node k, for all nodes
abbrev pub TellsLevels : List XanNode → (secret : ℕ → Bool) → (level : ℕ → ℕ) → Type 0
TellsLevels nodes secret level = (k : ℕ) (n : XanNode) → slice_get nodes k ≡ Some n → level k ≡ xan_level secret level n

abbrev pub greatest : List ℕ → ℕ
greatest [] = 0
greatest (n ∷ ns) = max n (greatest ns)

-- the greatest level of a secret sink, and 0 where no sink is secret
abbrev pub depth_of : (secret : ℕ → Bool) → (level : ℕ → ℕ) → (sinks : List ℕ) → ℕ
depth_of secret level sinks = greatest (map (λ s. cond (secret s) (level s) 0) sinks)
