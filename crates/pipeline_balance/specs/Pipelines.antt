-- What a pipelined net says of each of its runs, and what it is driven by.
use Rattle.std.specs.Prelude.{◌≡◌, ◌<◌, ◌+◌, ◌*◌, ℕ, Bool, true, false, not, ◌&&◌, Some, slice_get, nat_lt, ◌⊎◌}
use Rattle.agm_net.specs.Formula.{xor}
use Rattle.logic_graph.specs.declared.nodes.XanNode.{XanNode}
use Rattle.logic_graph.specs.declared.nodes.XanNode.TheVariants.{Zero, One, Input, Q, Not, Xor, And}
use Rattle.pipeline_balance.specs.Machines.{Machine, out_node, next_node}
use Rattle.pipeline_balance.specs.Signals.{Signal, Carries, Joins, Products, selected}

-- The signals of a run: of each node, of each input bit, of the output of each register, of the initial value that is given for it, of
-- the load signal, and of each output bit. A public value's signal is its wire's bit, a secret's what its shares recombine to.
pub record Signals : Type 0 where
  pub node : ℕ → Signal
  pub given : ℕ → Signal
  pub state : ℕ → Signal
  pub initial : ℕ → Signal
  pub load : Signal
  pub output : ℕ → Signal

-- node k is made of its operands in the cycle of its level, to which they are carried
pub record IsJoined (cycles : ℕ) (level : ℕ → ℕ) (node : ℕ → Signal) (op : Bool → Bool → Bool) (k a b : ℕ) : Type 0 where
  pub left : Signal
  pub right : Signal
  pub left_is : Carries cycles (level a) (level k) (node a) left
  pub right_is : Carries cycles (level b) (level k) (node b) right
  pub joins : Joins cycles op left right (node k)

-- Node k is the answer of a gadget: its late operand is carried to one level below it, its early operand to two.
pub record IsGadget (cycles : ℕ) (level : ℕ → ℕ) (node : ℕ → Signal) (k a b : ℕ) : Type 0 where
  pub base : ℕ
  pub two_above : level k ≡ base + 2
  pub late : Signal
  pub early : Signal
  pub late_is : Carries cycles (level a) (base + 1) (node a) late
  pub early_is : Carries cycles (level b) base (node b) early
  pub products : Products cycles late early (node k)

-- What a pipelined net says of node k. A source stands at level 0. A product is made in one cycle where a factor is public, else by a
-- gadget, whose late operand is the first or the second.
abbrev pub IsMade : ℕ → (ℕ → ℕ) → Signals → ℕ → XanNode → Type 0
IsMade cycles level s k Zero = (t : ℕ) → t < cycles → s.node k t ≡ false
IsMade cycles level s k One = (t : ℕ) → t < cycles → s.node k t ≡ true
IsMade cycles level s k (Input i) = (level k ≡ 0) × ((t : ℕ) → t < cycles → s.node k t ≡ s.given i t)
IsMade cycles level s k (Q r) = (level k ≡ 0) × ((t : ℕ) → t < cycles → s.node k t ≡ s.state r t)
IsMade cycles level s k (Not a) = (level k ≡ level a) × ((t : ℕ) → t < cycles → s.node k t ≡ not (s.node a t))
IsMade cycles level s k (Xor a b) = IsJoined cycles level s.node xor k a b
IsMade cycles level s k (And a b) = IsJoined cycles level s.node (λ x y. x && y) k a b ⊎ (IsGadget cycles level s.node k a b ⊎ IsGadget cycles level s.node k b a)

-- A register holds what its next value had in the cycle before, carried to the depth, or there the initial value where load was 1.
pub record IsClosed (cycles depth : ℕ) (level : ℕ → ℕ) (s : Signals) (next r : ℕ) : Type 0 where
  pub late : Signal
  pub late_is : Carries cycles (level next) depth (s.node next) late
  pub stores : (t : ℕ) → t + 1 < cycles → s.state r (t + 1) ≡ selected (s.load t) (s.initial r t) (late t)

-- What a pipelined net of a machine says of a run of so many cycles: how each node is made, each register closed, and each output
-- carried to the depth. Any levels will do to which the net carries its values.
pub record IsPipeline (m : Machine) (level : ℕ → ℕ) (depth cycles : ℕ) (s : Signals) : Type 0 where
  pub made : (k : ℕ) (n : XanNode) → slice_get m.nodes k ≡ Some n → IsMade cycles level s k n
  pub closed : (r : ℕ) → r < m.registers → IsClosed cycles depth level s (next_node m r) r
  pub led_out : (o : ℕ) → o < m.outputs → Carries cycles (level (out_node m o)) depth (s.node (out_node m o)) (s.output o)

-- the cycle in which the inputs of step k of a stream stand
abbrev pub input_cycle : (depth stream k : ℕ) → ℕ
input_cycle depth stream k = 1 + stream + (depth + 1) * k

-- A run is driven by one of the streams, of so many steps; there is one for each cycle of the period. Load is 1 in the first period
-- alone, in the cycle of its number the stream's initial values are given, and the inputs of its steps in their cycles. The run is as long
-- as to read all outputs.
pub record IsDriven (m : Machine) (depth cycles : ℕ) (s : Signals) (stream steps : ℕ) (initial : ℕ → Bool) (inputs : (k i : ℕ) → Bool) : Type 0 where
  pub one_of : stream < depth + 1
  pub load : (t : ℕ) → t < cycles → s.load t ≡ nat_lt t (depth + 1)
  pub starts : (r : ℕ) → 0 < steps → r < m.registers → s.initial r stream ≡ initial r
  pub feeds : (k i : ℕ) → k < steps → i < m.inputs → s.given i (input_cycle depth stream k) ≡ inputs k i
  pub is_read : (k : ℕ) → k < steps → input_cycle depth stream k + depth < cycles
