-- The pipeline of a machine, as a builder has it.
use Rattle.std.specs.Prelude.{◌≡◌, ◌<◌, ◌≤◌, ◌+◌, ◌*◌, ◌/◌, ◌-◌, ℕ, Bool, List, ◌++◌, length, slice_index_or}
use Rattle.logic_graph.specs.declared.nodes.XanNode.{XanNode}
use Rattle.share_wiring.specs.Wiring.{Wiring, MayBeShare, IsPublicWire}
use Rattle.share_wiring.specs.Adds.{AddsFact}
use Rattle.pipeline_balance.specs.declared.values.Value.{Value}
use Rattle.pipeline_balance.specs.declared.chains.Layout.{Layout}
use Rattle.pipeline_balance.specs.Machines.{Machine}
use Rattle.pipeline_balance.specs.Sound.{KeepsSound}
use Rattle.pipeline_balance.specs.Signals.{Signal}
use Rattle.pipeline_balance.specs.Pipelines.{Signals, IsPipeline}
use Rattle.pipeline_balance.specs.Valued.{signal}
use Rattle.pipeline_balance.specs.Chained.{value_at, AreSources, first_at, last_at}

-- the number of a node in a list
abbrev pub node_at : List ℕ → ℕ → ℕ
node_at nodes j = slice_index_or nodes j 0

-- a graph with the nodes of its outputs and of its registers' next values, for so many input bits
abbrev pub machine_of : (nodes : List XanNode) → (inputs : ℕ) → (outputs nexts : List ℕ) → Machine
machine_of nodes inputs outputs nexts = record { nodes = nodes; sinks = outputs ++ nexts; inputs = inputs; outputs = length outputs; registers = length nexts }

-- nodes that are carried to the depth
abbrev pub ReachDepth : (nodes : List XanNode) → Layout → (depth : ℕ) → List ℕ → Type 0
ReachDepth nodes layout depth sinks = (j : ℕ) → j < length sinks → (node_at sinks j < length nodes) × (first_at layout (node_at sinks j) ≤ depth) × (depth ≤ last_at layout (node_at sinks j))

-- The signals of a run where inputs, initial values, the load signal and outputs stand in these values and this wire.
abbrev pub built_signals : (n : ℕ) → (inputs initial outputs : List (Value n)) → (load : ℕ) → (bits : ℕ → ℕ → Bool) → (node state : ℕ → Signal) → Signals
built_signals n inputs initial outputs load bits node state = record {
  node = node;
  given = λ i. signal n bits (value_at inputs i);
  state = state;
  initial = λ r. signal n bits (value_at initial r);
  load = λ t. bits t load;
  output = λ o. signal n bits (value_at outputs o);
}

-- Calls that make the pipeline of a machine: every run of the new net is a run of the pipeline, with some levels and some signals of
-- nodes and of registers. The outputs are values, what may be a share still may be one, and the net stays sound.
pub record MakesPipeline (n : ℕ) (old now : Wiring) (m : Machine) (depth gadgets : ℕ) (inputs initial : List (Value n)) (load : ℕ) (outputs : List (Value n)) : Type 0 where
  pub level : ℕ → ℕ
  pub node : (ℕ → ℕ → Bool) → ℕ → Signal
  pub state : (ℕ → ℕ → Bool) → ℕ → Signal
  pub pipeline : AddsFact old now (λ cycles bits. IsPipeline m level depth cycles (built_signals n inputs initial outputs load bits (node bits) (state bits)))
  pub one_each : length outputs ≡ m.outputs
  pub values : AreSources n now outputs
  pub shares : (k i w : ℕ) → MayBeShare old.wires k i w → MayBeShare now.wires k i w
  pub publics : (w : ℕ) → IsPublicWire old.wires w → IsPublicWire now.wires w
  pub ports : now.ports ≡ old.ports
  pub begun : now.gadgets ≡ old.gadgets + gadgets
  pub given : now.given ≡ old.given + gadgets * (n * (n - 1) / 2)
  pub sound : KeepsSound n old now
