-- The plan of a graph of inversions, products and exclusive ors.
use Rattle.std.specs.Prelude.{◌≡◌, ◌≤◌, ℕ, Bool, false, ◌&&◌, cond, nat_le, List, length, max, count_by, Some, slice_get, slice_index_or}
use Rattle.logic_graph.specs.declared.nodes.XanNode.{XanNode}
use Rattle.logic_graph.specs.declared.nodes.XanNode.TheVariants.{Zero, One, Input, Q, Not, Xor, And}
use Rattle.logic_graph.specs.declared.graphs.Xan.{Xan}
use Rattle.logic_graph.specs.Settled.{bit_of}
use Rattle.secrecy_spread.specs.declared.secrets.Secrets.{Secrets}
use Rattle.secrecy_spread.specs.NodeSecrets.{TellsNodes}
use Rattle.secrecy_spread.specs.Levels.{gadget_level, TellsLevels, depth_of}
use Rattle.secrecy_spread.specs.Costs.{is_gadget}
use Rattle.level_plan.specs.declared.plans.Plan.{Plan}

abbrev pub level_at : List ℕ → ℕ → ℕ
level_at levels k = slice_index_or levels k 0

-- the level of node k where `first k` says which operand of a gadget is late, whatever their levels
abbrev pub chosen_level : (secret first : ℕ → Bool) → (level : ℕ → ℕ) → ℕ → XanNode → ℕ
chosen_level secret first level k Zero = 0
chosen_level secret first level k One = 0
chosen_level secret first level k (Input i) = 0
chosen_level secret first level k (Q r) = 0
chosen_level secret first level k (Not a) = level a
chosen_level secret first level k (Xor a b) = max (level a) (level b)
chosen_level secret first level k (And a b) =
    cond (secret a && secret b)
    (cond (first k) (gadget_level (level a) (level b)) (gadget_level (level b) (level a)))
    (max (level a) (level b))

-- `level k` is the level of node k by a choice of late operands, for all nodes
abbrev pub TellsChosen : List XanNode → (secret first : ℕ → Bool) → (level : ℕ → ℕ) → Type 0
TellsChosen nodes secret first level = (k : ℕ) (n : XanNode) → slice_get nodes k ≡ Some n → level k ≡ chosen_level secret first level k n

-- whether the first operand of a node is the late one: of a gadget whose second operand is not later
abbrev pub is_late_first : (secret : ℕ → Bool) → (level : ℕ → ℕ) → XanNode → Bool
is_late_first secret level (And a b) = (secret a && secret b) && nat_le (level b) (level a)
is_late_first secret level _ = false

-- The plan of a graph: which nodes are secret, the level of each, the late operand of each gadget, which on a tie is the first, the
-- number of gadgets, and the depth. No choice of late operands gives a smaller depth.
pub record PlanOf (xan : Xan) (s : Secrets) (plan : Plan) : Type 0 where
  pub one_flag_each : length plan.secret ≡ length xan.nodes
  pub secret : TellsNodes xan.nodes s (bit_of plan.secret)
  pub one_level_each : length plan.levels ≡ length xan.nodes
  pub levels : TellsLevels xan.nodes (bit_of plan.secret) (level_at plan.levels)
  pub one_choice_each : length plan.late_first ≡ length xan.nodes
  pub late : (k : ℕ) (n : XanNode) → slice_get xan.nodes k ≡ Some n → bit_of plan.late_first k ≡ is_late_first (bit_of plan.secret) (level_at plan.levels) n
  pub gadgets : plan.gadgets ≡ count_by (is_gadget (bit_of plan.secret)) xan.nodes
  pub depth : plan.depth ≡ depth_of (bit_of plan.secret) (level_at plan.levels) xan.sinks
  pub least : (first : ℕ → Bool) (level : ℕ → ℕ) → TellsChosen xan.nodes (bit_of plan.secret) first level
      → plan.depth ≤ depth_of (bit_of plan.secret) level xan.sinks
