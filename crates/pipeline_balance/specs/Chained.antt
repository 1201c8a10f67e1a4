-- Nodes of a graph as chains of values, one for each level at which a node is read.
use Rattle.std.specs.Prelude.{◌≡◌, ◌<◌, ◌≤◌, ◌+◌, ◌-◌, ◌*◌, ◌/◌, ℕ, Bool, false, ◌&&◌, ◌||◌, cond, List, [], length, take, sum_by, slice_get, slice_index_or, Some, IsTrue}
use Rattle.logic_graph.specs.declared.nodes.XanNode.{XanNode}
use Rattle.logic_graph.specs.declared.nodes.XanNode.TheVariants.{Zero, One, Input, Q, Not, Xor, And}
use Rattle.share_wiring.specs.Wiring.{Wiring}
use Rattle.pipeline_balance.specs.declared.values.Value.{Value}
use Rattle.pipeline_balance.specs.declared.values.Value.TheVariants.{Public}
use Rattle.pipeline_balance.specs.declared.chains.Chain.{Chain}
use Rattle.pipeline_balance.specs.declared.chains.Layout.{Layout}
use Rattle.level_plan.specs.Passes.{has_source}
use Rattle.pipeline_balance.specs.Signals.{Carries}
use Rattle.pipeline_balance.specs.Pipelines.{Signals, IsMade}
use Rattle.pipeline_balance.specs.Shared.{Places, placed, Adds}
use Rattle.pipeline_balance.specs.Growing.{HasMore}
use Rattle.pipeline_balance.specs.Valued.{is_secret, size_of, wires_of, IsValue, signal}

-- the value of a number in a list
abbrev pub value_at : {n : ℕ} → List (Value n) → ℕ → Value n
value_at values i = slice_index_or values i (Public (record { shares = [] }))

abbrev pub chain_at : {n : ℕ} → List (Chain n) → ℕ → Chain n
chain_at table k = slice_index_or table k (record { level = 0; stages = [] })

-- stage i of a chain, which has at level + i what stage 0 has at the level
abbrev pub stage : {n : ℕ} → Chain n → ℕ → Value n
stage c i = value_at c.stages i

-- where the value of node k is found at level q
abbrev pub at_level : {n : ℕ} → List (Chain n) → ℕ → ℕ → Value n
at_level table k q = stage (chain_at table k) (q - (chain_at table k).level)

-- whether node k is secret
abbrev pub kind_at : {n : ℕ} → List (Chain n) → ℕ → Bool
kind_at table k = is_secret (stage (chain_at table k) 0)

-- Nodes stand where their chains begin.
abbrev pub places_of : (n : ℕ) → List (Chain n) → Places
places_of n table = record {
  shares = λ k. wires_of (stage (chain_at table k) 0);
  size = λ k. size_of n (stage (chain_at table k) 0);
  level = λ k. (chain_at table k).level;
}

-- a chain from one level to another of values that are all secret or all public
pub record IsChain (n : ℕ) (net : Wiring) (secret : Bool) (level last : ℕ) (c : Chain n) : Type 0 where
  pub level_is : c.level ≡ level
  pub in_order : level ≤ last
  pub reaches : level + length c.stages ≡ last + 1
  pub values : (i : ℕ) → i < length c.stages → IsValue n net (stage c i)
  pub kinds : (i : ℕ) → i < length c.stages → is_secret (stage c i) ≡ secret

-- a chain has values, all secret or all public
pub record HasValues (n : ℕ) (net : Wiring) (c : Chain n) : Type 0 where
  pub some : 0 < length c.stages
  pub values : (i : ℕ) → i < length c.stages → IsValue n net (stage c i)
  pub kinds : (i : ℕ) → i < length c.stages → is_secret (stage c i) ≡ is_secret (stage c 0)

abbrev pub AreValues : (n : ℕ) → Wiring → List (Chain n) → Type 0
AreValues n net table = (k : ℕ) → k < length table → HasValues n net (chain_at table k)

-- values of a list
abbrev pub AreSources : (n : ℕ) → Wiring → List (Value n) → Type 0
AreSources n net values = (i : ℕ) → i < length values → IsValue n net (value_at values i)

-- in a run each stage has at its level what the first has
abbrev pub IsCarried : (n : ℕ) → Chain n → ℕ → (ℕ → ℕ → Bool) → Type 0
IsCarried n c cycles bits = (i : ℕ) → i < length c.stages → Carries cycles c.level (c.level + i) (signal n bits (stage c 0)) (signal n bits (stage c i))

abbrev pub AreCarried : (n : ℕ) → List (Chain n) → ℕ → (ℕ → ℕ → Bool) → Type 0
AreCarried n table cycles bits = (k : ℕ) → k < length table → IsCarried n (chain_at table k) cycles bits

-- the chains of the first nodes
abbrev pub AreChains : (n : ℕ) → Wiring → (secret : ℕ → Bool) → (levels lasts : ℕ → ℕ) → List (Chain n) → Type 0
AreChains n net secret levels lasts table = (k : ℕ) → k < length table → IsChain n net (secret k) (levels k) (lasts k) (chain_at table k)

-- a chain can be read at a level
pub record IsRead (n : ℕ) (table : List (Chain n)) (k q : ℕ) : Type 0 where
  pub known : k < length table
  pub from : (chain_at table k).level ≤ q
  pub to : q < (chain_at table k).level + length (chain_at table k).stages

-- What the next node of a level wants of a table: sources stand at level 0, an inversion at its operand's level, and operands can be
-- read where they are wanted. A product of two secrets reads one factor one level below it, and the other two.
abbrev pub CanBeMade : (n : ℕ) → (inputs registers : ℕ) → List (Chain n) → (level : ℕ) → (late_first : Bool) → XanNode → Type 0
CanBeMade n inputs registers table level late_first Zero = Unit {0}
CanBeMade n inputs registers table level late_first One = Unit {0}
CanBeMade n inputs registers table level late_first (Input i) = (level ≡ 0) × (i < inputs)
CanBeMade n inputs registers table level late_first (Q r) = (level ≡ 0) × (r < registers)
CanBeMade n inputs registers table level late_first (Not a) = IsRead n table a level × (level ≡ (chain_at table a).level)
CanBeMade n inputs registers table level late_first (Xor a b) = IsRead n table a level × IsRead n table b level
CanBeMade n inputs registers table level late_first (And a b) =
    cond (kind_at table a && kind_at table b)
    ((2 ≤ level) × IsRead n table (cond late_first a b) (level - 1) × IsRead n table (cond late_first b a) (level - 2))
    (IsRead n table a level × IsRead n table b level)

-- whether a node is secret, and how many gadgets it wants
abbrev pub node_kind : (inputs registers at : ℕ → Bool) → XanNode → Bool
node_kind inputs registers at Zero = false
node_kind inputs registers at One = false
node_kind inputs registers at (Input i) = inputs i
node_kind inputs registers at (Q r) = registers r
node_kind inputs registers at (Not a) = at a
node_kind inputs registers at (Xor a b) = at a || at b
node_kind inputs registers at (And a b) = at a || at b

abbrev pub gadgets_in : (at : ℕ → Bool) → XanNode → ℕ
gadgets_in at (And a b) = cond (at a && at b) 1 0
gadgets_in at _ = 0

-- signals have the values of sources
pub record HasSources (n : ℕ) (inputs registers : List (Value n)) (bits : ℕ → ℕ → Bool) (s : Signals) : Type 0 where
  pub given : (i t : ℕ) → i < length inputs → s.given i t ≡ signal n bits (value_at inputs i) t
  pub state : (r t : ℕ) → r < length registers → s.state r t ≡ signal n bits (value_at registers r) t

-- Where the table's chains carry, and whatever else is placed, with this value as the next node's that node is made.
abbrev pub MakesNode : (n : ℕ) → (inputs registers : List (Value n)) → List (Chain n) → XanNode → ℕ → Value n → ℕ → (ℕ → ℕ → Bool) → Type 0
MakesNode n inputs registers table node level v cycles bits =
    AreCarried n table cycles bits → (q : Places) (s : Signals) → HasSources n inputs registers bits s
    → HasMore (length table) (places_of n table) q (size_of n v) level (wires_of v) → IsMade cycles q.level (placed bits q s) (length table) node

-- the same, whichever the sources are
abbrev pub MakesOperator : (n : ℕ) → List (Chain n) → XanNode → ℕ → Value n → ℕ → (ℕ → ℕ → Bool) → Type 0
MakesOperator n table node level v cycles bits = (inputs registers : List (Value n)) → MakesNode n inputs registers table node level v cycles bits

-- A node can be read from its level on up to its last one.
abbrev pub Within : (levels lasts : ℕ → ℕ) → (a q : ℕ) → Type 0
Within levels lasts a q = (levels a ≤ q) × (q ≤ lasts a)

-- What a plan says of node k: the levels of its operands, and that they are carried as far as it reads them.
abbrev pub IsPlanned : (secret : ℕ → Bool) → (levels lasts : ℕ → ℕ) → (late_first : Bool) → ℕ → XanNode → Type 0
IsPlanned secret levels lasts late_first k Zero = Unit {0}
IsPlanned secret levels lasts late_first k One = Unit {0}
IsPlanned secret levels lasts late_first k (Input i) = levels k ≡ 0
IsPlanned secret levels lasts late_first k (Q r) = levels k ≡ 0
IsPlanned secret levels lasts late_first k (Not a) = levels k ≡ levels a
IsPlanned secret levels lasts late_first k (Xor a b) = Within levels lasts a (levels k) × Within levels lasts b (levels k)
IsPlanned secret levels lasts late_first k (And a b) =
    cond (secret a && secret b)
    ((2 ≤ levels k) × Within levels lasts (cond late_first a b) (levels k - 1) × Within levels lasts (cond late_first b a) (levels k - 2))
    (Within levels lasts a (levels k) × Within levels lasts b (levels k))

-- what a layout says of nodes
abbrev pub secret_at : Layout → ℕ → Bool
secret_at layout k = slice_index_or layout.secret k false

abbrev pub first_at : Layout → ℕ → ℕ
first_at layout k = slice_index_or layout.levels k 0

abbrev pub last_at : Layout → ℕ → ℕ
last_at layout k = slice_index_or layout.lasts k 0

abbrev pub late_at : Layout → ℕ → Bool
late_at layout k = slice_index_or layout.late_first k false

-- A layout of all nodes, where `inputs` and `registers` say which sources are secret.
pub record IsLayout (nodes : List XanNode) (inputs registers : List Bool) (layout : Layout) : Type 0 where
  pub one_secret_each : length layout.secret ≡ length nodes
  pub one_level_each : length layout.levels ≡ length nodes
  pub one_last_each : length layout.lasts ≡ length nodes
  pub one_choice_each : length layout.late_first ≡ length nodes
  pub kinds : (k : ℕ) (n : XanNode) → slice_get nodes k ≡ Some n
      → secret_at layout k ≡ node_kind (λ i. slice_index_or inputs i false) (λ r. slice_index_or registers r false) (secret_at layout) n
  pub sourced : (k : ℕ) (n : XanNode) → slice_get nodes k ≡ Some n → IsTrue (has_source (length inputs) (length registers) n)
  pub planned : (k : ℕ) (n : XanNode) → slice_get nodes k ≡ Some n → IsPlanned (secret_at layout) (first_at layout) (last_at layout) (late_at layout k) k n
  pub in_order : (k : ℕ) → k < length nodes → first_at layout k ≤ last_at layout k

-- the nodes of a table are made
abbrev pub NodesMade : (n : ℕ) → List XanNode → (inputs registers : List (Value n)) → List (Chain n) → ℕ → (ℕ → ℕ → Bool) → Type 0
NodesMade n nodes inputs registers table cycles bits =
    (s : Signals) → HasSources n inputs registers bits s
    → (k : ℕ) (node : XanNode) → k < length table → slice_get nodes k ≡ Some node → IsMade cycles (places_of n table).level (placed bits (places_of n table) s) k node

-- how many gadgets the first nodes want
abbrev pub gadgets_before : (secret : ℕ → Bool) → List XanNode → ℕ → ℕ
gadgets_before secret nodes k = sum_by (gadgets_in secret) (take k nodes)

-- The first nodes are made: their chains, and what the calls say of every run.
pub record IsFilled (n : ℕ) (nodes : List XanNode) (inputs registers : List (Value n)) (layout : Layout) (old now : Wiring) (k : ℕ) (table : List (Chain n)) : Type 0 where
  pub count : length table ≡ k
  pub chains : AreChains n now (secret_at layout) (first_at layout) (last_at layout) table
  pub adds : Adds n old now (gadgets_before (secret_at layout) nodes k) (gadgets_before (secret_at layout) nodes k * (n * (n - 1) / 2))
      (λ cycles bits. AreCarried n table cycles bits × NodesMade n nodes inputs registers table cycles bits)
