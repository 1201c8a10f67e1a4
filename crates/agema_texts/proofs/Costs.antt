-- What the naive mode costs, by its graph and its plan.
use Rattle.std.proofs.Common.{◌≡◌, ◌<◌, ◌≤◌, ◌+◌, ◌*◌, ◌∙◌, ℕ, zero, suc, Bool, true, false, not, ◌&&◌, ◌||◌, cond, List, [], ◌∷◌, length, map, count_by, slice_get, Some, IsTrue, refl, sym, ap, subst, arith, ◌/◌, max}
use Rattle.std.specs.List.{enumerate_from}
use Rattle.std.specs.Option.{option_map}
use Rattle.std.specs.Prelude.{◌↔◌}
use Rattle.std.proofs.lemmas.Bool.{lt-ltb}
use Rattle.std.proofs.lemmas.List.{length-map}
use Rattle.std.proofs.lemmas.List.Sums.{sum_by-cons}
use Rattle.std.proofs.lemmas.Option.{slice_get-map}
use Rattle.agm_net.specs.Plain.{PlainNet, Stored, input_bits}
use Rattle.agm_net.specs.declared.mark.Mark.{Mark}
use Rattle.logic_graph.specs.GraphOf.{IsGraphOf}
use Rattle.logic_graph.specs.Machines.{SourcesAmong}
use Rattle.logic_graph.specs.Nodes.{is_operator}
use Rattle.logic_graph.specs.Operators.{operators_of}
use Rattle.logic_graph.specs.Settled.{bit_of}
use Rattle.logic_graph.specs.declared.graphs.Graph.{Graph}
use Rattle.logic_graph.specs.declared.graphs.Xan.{Xan}
use Rattle.logic_graph.specs.declared.nodes.Node.{Node}
use Rattle.logic_graph.specs.declared.nodes.Node.TheVariants as node
use Rattle.logic_graph.specs.declared.nodes.XanNode.{XanNode}
use Rattle.logic_graph.specs.declared.nodes.XanNode.TheVariants as xan
use Rattle.level_plan.specs.Passes.{has_source}
use Rattle.level_plan.specs.PlanOf.{PlanOf, level_at}
use Rattle.level_plan.specs.declared.plans.Plan.{Plan}
use Rattle.secrecy_spread.specs.Mode.{IsMadeBy}
use Rattle.secrecy_spread.specs.Naive.{NaiveGadgets, NaiveDepth, takes_gadget}
use Rattle.secrecy_spread.specs.SecretsOf.{SecretsOf}
use Rattle.secrecy_spread.specs.declared.secrets.Secrets.{Secrets}
use Rattle.share_wiring.specs.Same.{TellsSecrets}
use Rattle.agema_texts.specs.Masks.{size_of, size_limit}
use Rattle.agema_texts.specs.Planned.{HasEntries}
use Rattle.agema_texts.specs.Width.{NaiveCosts, width_of, width_limit}

-- the sources of a net's graph have their entries
pub entries_of : (net : PlainNet) (graph : Graph) (marks : List Mark) (s : Secrets) → IsGraphOf net graph → SecretsOf net graph marks s → HasEntries graph s
entries_of net graph marks s is secrets =
    record {
      inputs = λ k i at. (let within = is.input_nodes k i at in let same = secrets.inputs.one_each in omega arith);
      registers = λ k r at. (let within = is.register_nodes k r at in let same = secrets.registers.one_each ∙ length-map net.registers (λ (q : Stored). q.q) in omega arith);
    }

-- and so have those of a graph with no further sources
pub sources_told : (graph : Graph) (made : Xan) (s : Secrets) → HasEntries graph s → SourcesAmong graph made → (k : ℕ) (n : XanNode) → slice_get made.nodes k ≡ Some n → IsTrue (has_source (length s.inputs) (length s.registers) n)
sources_told graph made s has among k xan.Zero at = refl
sources_told graph made s has among k xan.One at = refl
sources_told graph made s has among k (xan.Input i) at = let there = among.inputs k i at in lt-ltb i (length s.inputs) (has.inputs there.0 i there.1)
sources_told graph made s has among k (xan.Q r) at = let there = among.registers k r at in lt-ltb r (length s.registers) (has.registers there.0 r there.1)
sources_told graph made s has among k (xan.Not a) at = refl
sources_told graph made s has among k (xan.Xor a b) at = refl
sources_told graph made s has among k (xan.And a b) at = refl

-- the plan's numbers are what the mode costs
pub costs_of : (net : PlainNet) (graph : Graph) (marks : List Mark) (s : Secrets) (made : Xan) (plan : Plan) → IsGraphOf net graph → SecretsOf net graph marks s
    → IsMadeBy NaiveGadgets NaiveDepth graph s made → PlanOf made s plan → NaiveCosts net marks plan.gadgets plan.depth
costs_of net graph marks s made plan is secrets by planned =
    record {
      graph = graph;
      secrets = s;
      is_graph = is;
      are_secrets = secrets;
      gadgets_are = by.gadgets plan.gadgets (bit_of plan.secret, planned.secret, planned.gadgets);
      latency_is = by.depth plan.depth (bit_of plan.secret, level_at plan.levels, planned.secret, planned.levels, planned.depth);
    }

-- the flags of registers
pub registers_told : (net : PlainNet) (graph : Graph) (marks : List Mark) (s : Secrets) → SecretsOf net graph marks s → TellsSecrets net marks s.registers
registers_told net graph marks s secrets =
    record {
      one_each = secrets.registers.one_each ∙ length-map net.registers (λ (q : Stored). q.q);
      tells = λ n r at. secrets.registers.tells n r.q (slice_get-map (λ (q : Stored). q.q) net.registers n ∙ ap (option_map (λ (q : Stored). q.q)) at);
    }

one_at_most : (b : Bool) → cond b 1 0 ≤ 1
one_at_most true = omega arith
one_at_most false = omega arith

-- what takes a gadget is an operator
gadget_le : (b : Bool) (secret : ℕ → Bool) (n : Node) → cond (b && takes_gadget secret n) 1 0 ≤ cond (is_operator n) 1 0
gadget_le false secret n = omega arith
gadget_le true secret node.Zero = omega arith
gadget_le true secret node.One = omega arith
gadget_le true secret (node.Input i) = omega arith
gadget_le true secret (node.Q r) = omega arith
gadget_le true secret (node.Not a) = omega arith
gadget_le true secret (node.Xor a b) = omega arith
gadget_le true secret (node.And a b) = one_at_most (secret a && secret b)
gadget_le true secret (node.Or a b) = one_at_most (secret a && secret b)
gadget_le true secret (node.Mux c a b) = one_at_most (secret c && (secret a || secret b))

count_le : (live : ℕ → Bool) (secret : ℕ → Bool) (k : ℕ) (ns : List Node) → count_by (λ (e : ℕ × Node). live e.0 && takes_gadget secret e.1) (enumerate_from k ns) ≤ count_by is_operator ns
count_le live secret k [] = omega arith
count_le live secret k (n ∷ ns) =
    let here = gadget_le (live k) secret n in
    let rest = count_le live secret (k + 1) ns in
    let left = sum_by-cons (λ (e : ℕ × Node). cond (live e.0 && takes_gadget secret e.1) 1 0) (k, n) (enumerate_from (k + 1) ns) in
    let right = sum_by-cons (λ (m : Node). cond (is_operator m) 1 0) n ns in
    omega arith

-- there are no more gadgets than operators
pub gadgets_few : (net : PlainNet) (graph : Graph) (s : Secrets) (n : ℕ) → IsGraphOf net graph → NaiveGadgets graph s n → n ≤ operators_of net
gadgets_few net graph s n is (live, tells, count) =
    let le = count_le live (bit_of s.nodes) 0 graph.nodes in
    let all = is.operator_nodes in
    omega arith

three_below : (a b c n : ℕ) → max a (max b c) ≤ n → (a ≤ n) × (b ≤ n) × (c ≤ n)
three_below a b c n h = (omega (arith, h), omega (arith, h), omega (arith, h))

-- where the greatest width is within the limit, all are
pub width_parts : (order gadgets : ℕ) (flags : List Bool) → width_of order gadgets flags ≤ width_limit
    → (gadgets * order * (order + 1) / 2 ≤ 65536) × (count_by not flags ≤ 65536) × (count_by (λ s. s) flags ≤ 65536)
width_parts order gadgets flags h = three_below (gadgets * order * (order + 1) / 2) (count_by not flags) (count_by (λ s. s) flags) 65536 h

le_times : (n k : ℕ) → 1 ≤ k → n ≤ n * k
le_times zero k h = omega arith
le_times (suc n) k h = (let less = le_times n k h in omega (arith, less, h))

-- a net that is not too large has few gadgets
pub few_enough : (net : PlainNet) (graph : Graph) (s : Secrets) (order n : ℕ) → IsGraphOf net graph → NaiveGadgets graph s n → size_of net order ≤ size_limit → n ≤ 65536
few_enough net graph s order n is gadgets fits =
    let few = gadgets_few net graph s n is gadgets in
    let shares = le_times (order + 1) (order + 1) (omega arith) in
    let all = le_times (operators_of net) ((order + 1) * (order + 1)) (omega (arith, shares)) in
    omega (arith, few, all, fits)

-- the plan's gadgets are those of the mode
pub planned_gadgets : (graph : Graph) (s : Secrets) (made : Xan) (plan : Plan) → IsMadeBy NaiveGadgets NaiveDepth graph s made → PlanOf made s plan → NaiveGadgets graph s plan.gadgets
planned_gadgets graph s made plan by planned = by.gadgets plan.gadgets (bit_of plan.secret, planned.secret, planned.gadgets)
