-- What a net, its graph and its plan must be, to be masked as a pipeline.
use Rattle.std.specs.Prelude.{◌≡◌, ◌≤◌, ◌+◌, ◌*◌, ◌/◌, ℕ, not, List, length, count_by}
use Rattle.agm_net.specs.Loop.{HasNoLoop}
use Rattle.agm_net.specs.Plain.{PlainNet}
use Rattle.agm_net.specs.declared.mark.Mark.{Mark}
use Rattle.logic_graph.specs.GraphOf.{IsGraphOf}
use Rattle.logic_graph.specs.Machines.{SameSinks, SourcesAmong}
use Rattle.logic_graph.specs.declared.graphs.Graph.{Graph}
use Rattle.logic_graph.specs.declared.graphs.Xan.{Xan}
use Rattle.secrecy_spread.specs.Mode.{StaysPublic}
use Rattle.secrecy_spread.specs.SecretsOf.{SecretsOf}
use Rattle.secrecy_spread.specs.declared.secrets.Secrets.{Secrets}
use Rattle.level_plan.specs.PlanOf.{PlanOf}
use Rattle.level_plan.specs.declared.plans.Plan.{Plan}
use Rattle.pipeline_balance.specs.Apart.{HasNames}
use Rattle.pipeline_balance.specs.Chained.{secret_at, IsLayout, gadgets_before}
use Rattle.pipeline_balance.specs.Piped.{ReachDepth}
use Rattle.pipeline_balance.specs.declared.chains.Layout.{Layout}

-- A graph of inversions, products and exclusive ors that computes what a net does, with the net's secrets and a plan: it reads no other
-- sources, and a sink without secrets stays without.
pub record CanBePiped (net : PlainNet) (marks : List Mark) (graph : Graph) (s : Secrets) (xan : Xan) (plan : Plan) : Type 0 where
  pub names : HasNames net
  pub no_loop : HasNoLoop net
  pub graph_of : IsGraphOf net graph
  pub marked : length marks ≡ length net.ports
  pub secrets : SecretsOf net graph marks s
  pub same : SameSinks graph xan
  pub among : SourcesAmong graph xan
  pub stays_public : StaysPublic graph s xan
  pub planned : PlanOf xan s plan

-- The order is one of 1 to 7, and the random bits in each cycle, the public registers and the secret registers are 65,536 at most.
pub record FitsOrder (s : Secrets) (plan : Plan) (order : ℕ) : Type 0 where
  pub within : (1 ≤ order) × (order ≤ 7)
  pub random : plan.gadgets * order * (order + 1) / 2 ≤ 65536
  pub publics : count_by not s.registers ≤ 65536
  pub secrets : count_by (λ b. b) s.registers ≤ 65536

-- the layout of a plan
pub record IsLaidOut (xan : Xan) (s : Secrets) (plan : Plan) (layout : Layout) : Type 0 where
  pub laid : IsLayout xan.nodes s.inputs s.registers layout
  pub depth : ReachDepth xan.nodes layout plan.depth xan.sinks
  pub secret : layout.secret ≡ plan.secret
  pub gadgets : gadgets_before (secret_at layout) xan.nodes (length xan.nodes) ≡ plan.gadgets
