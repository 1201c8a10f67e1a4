-- A trace of a net is a run of each machine that computes what the net does.
use Rattle.std.proofs.Common.{◌≡◌, ◌<◌, ◌+◌, ◌&&◌, ℕ, zero, suc, Bool, false, not, List, map, length, slice_get, get_or, Some, IsTrue, nat_lt, refl, sym, ap, ap₂, subst, ◌∙◌, arith, inl, inr}
use Rattle.std.proofs.lemmas.Bool.{and_parts, ltb-true}
use Rattle.std.proofs.lemmas.Option.{slice_get-get_or, slice_get_within, get_or_from_slice_get, slice_get_cases}
use Rattle.agm_net.specs.Formula.{xor, value}
use Rattle.agm_net.specs.Loop.{HasNoLoop}
use Rattle.agm_net.specs.Plain.{PlainNet, Stored}
use Rattle.agm_net.specs.Trace.{Row, row_at, bit_at, IsTrace}
use Rattle.agm_net.specs.WellFormed.{WellFormed}
use Rattle.logic_graph.specs.Nodes.{xan_reads_before}
use Rattle.logic_graph.specs.Settled.{bit_of}
use Rattle.logic_graph.specs.GraphOf.{IsGraphOf, output_bits}
use Rattle.logic_graph.specs.Traces.{held, sink, TellsBits}
use Rattle.logic_graph.specs.declared.nodes.XanNode.{XanNode}
use Rattle.logic_graph.specs.declared.nodes.XanNode.TheVariants.{Zero, One, Input, Q, Not, Xor, And}
use Rattle.logic_graph.specs.declared.graphs.Graph.{Graph}
use Rattle.agm_net.proofs.Lists.{get_image}
use Rattle.logic_graph.proofs.Held.{held_at}
use Rattle.logic_graph.proofs.Values.{settled_row, is_settled, tells_bits, trace_cycle}
use Rattle.logic_graph.specs.Machines.{Solves, xan_value}
use Rattle.pipeline_balance.specs.Machines.{Machine, IsMachineRun, out_node, next_node}
use Rattle.pipeline_balance.specs.Originals.{IsMachineOf}

-- ---- a graph in order has values

-- the values of nodes, so many steps deep
abbrev deep : List XanNode → (inputs registers : ℕ → Bool) → ℕ → ℕ → Bool
deep nodes inputs registers zero k = false
deep nodes inputs registers (suc n) k = xan_value inputs registers (deep nodes inputs registers n) (get_or nodes k Zero)

abbrev pub evaluated : List XanNode → (inputs registers : ℕ → Bool) → ℕ → Bool
evaluated nodes inputs registers = deep nodes inputs registers (length nodes)

-- values that agree below a node give it one value
value_same : (inputs registers x y : ℕ → Bool) (k : ℕ) (n : XanNode) → IsTrue (xan_reads_before k n) → ((j : ℕ) → j < k → x j ≡ y j) → xan_value inputs registers x n ≡ xan_value inputs registers y n
value_same i r x y k Zero h a = refl
value_same i r x y k One h a = refl
value_same i r x y k (Input b) h a = refl
value_same i r x y k (Q b) h a = refl
value_same i r x y k (Not b) h a = ap not (a b (ltb-true b k h))
value_same i r x y k (Xor b c) h a = let both = and_parts (nat_lt b k) (nat_lt c k) h in ap₂ xor (a b (ltb-true b k both.0)) (a c (ltb-true c k both.1))
value_same i r x y k (And b c) h a = let both = and_parts (nat_lt b k) (nat_lt c k) h in ap₂ (λ p q. p && q) (a b (ltb-true b k both.0)) (a c (ltb-true c k both.1))

module _ (nodes : List XanNode) (in_order : (k : ℕ) (n : XanNode) → slice_get nodes k ≡ Some n → IsTrue (xan_reads_before k n)) (inputs registers : ℕ → Bool) where
  stays : (p q k : ℕ) → k < p → k < q → k < length nodes → deep nodes inputs registers p k ≡ deep nodes inputs registers q k
  stays zero q k lp lq within = absurd (omega arith)
  stays (suc p) zero k lp lq within = absurd (omega arith)
  stays (suc p) (suc q) k lp lq within =
      let n = get_or nodes k Zero in
      value_same inputs registers (deep nodes inputs registers p) (deep nodes inputs registers q) k n (in_order k n (slice_get-get_or nodes k Zero within))
      (λ j before. stays p q j (omega arith) (omega arith) (omega arith))

  pub solves : Solves nodes inputs registers (evaluated nodes inputs registers)
  solves k n at =
      let within = slice_get_within nodes k n at in
      stays (length nodes) (suc (length nodes)) k within (omega arith) within ∙ ap (xan_value inputs registers (evaluated nodes inputs registers)) (get_or_from_slice_get nodes k n Zero at)

-- ---- traces of a net

image_bit : {X : Type 0} (f : X → Bool) (xs : List X) (i : ℕ) (x : X) → slice_get xs i ≡ Some x → bit_of (map f xs) i ≡ f x
image_bit f xs i x at = get_or_from_slice_get (map f xs) i (f x) false (get_image f xs i x at)

pub found : {X : Type 0} (xs : List X) (i : ℕ) → i < length xs → (x : X) × (slice_get xs i ≡ Some x)
found xs i lt = elim (slice_get_cases xs i).1 [ inl here ↦ (here.0, here.2) | inr past ↦ absurd (let le = past.0 in omega arith) ]

module _ (net : PlainNet) (graph : Graph) (m : Machine) (well : WellFormed net) (none : HasNoLoop net) (graph_of : IsGraphOf net graph) (of : IsMachineOf net graph m)
    (power : Row) (tape table : List Row) (trace : IsTrace net power tape table) where
  abbrev pub inputs_in : ℕ → ℕ → Bool
  inputs_in k = bit_of (row_at tape k)

  abbrev pub states_in : ℕ → ℕ → Bool
  states_in k = bit_of (held net (bit_at table k))

  abbrev pub values_in : ℕ → ℕ → Bool
  values_in k = evaluated m.nodes (inputs_in k) (states_in k)

  abbrev row_in : ℕ → Row
  row_in k = settled_row graph.nodes graph.in_order (row_at tape k) (held net (bit_at table k))

  values_solve : (k : ℕ) → Solves m.nodes (inputs_in k) (states_in k) (values_in k)
  values_solve k = (let machine = of.machine in solves m.nodes machine.in_order (inputs_in k) (states_in k))

  tells : (k : ℕ) → k < length table → TellsBits net graph (bit_at table k) (bit_of (row_in k))
  tells k lt =
      tells_bits net graph well none graph_of (bit_at tape k) (states_in k) (bit_at table k) (bit_of (row_in k)) (trace_cycle net power tape table trace k lt)
      (is_settled graph.nodes graph.in_order (row_at tape k) (held net (bit_at table k))).is_value

  -- the values at the sinks
  at_sink : (k j : ℕ) → j < length graph.sinks → values_in k (get_or m.sinks j 0) ≡ bit_of (row_in k) (sink graph j)
  at_sink k j within =
      ap (λ sinks. values_in k (get_or sinks j 0)) (sym of.sinks)
      ∙ of.same.same (row_at tape k) (held net (bit_at table k)) (row_in k) (values_in k) (is_settled graph.nodes graph.in_order (row_at tape k) (held net (bit_at table k)))
      (subst (λ nodes. Solves nodes (inputs_in k) (states_in k) (values_in k)) (sym of.nodes) (values_solve k)) j within

  next_value : (k i : ℕ) (r : Stored) → k < length table → slice_get net.registers i ≡ Some r → values_in k (next_node m i) ≡ value (bit_at table k) r.next
  next_value k i r lt at =
      let next = graph_of.next i r at in
      let count = of.outputs in
      let place : m.outputs + i ≡ length (output_bits net) + i = omega arith in
      ap (λ j. values_in k (get_or m.sinks j 0)) place
      ∙ (at_sink k (length (output_bits net) + i) (slice_get_within graph.sinks (length (output_bits net) + i) next.0 next.1) ∙ (tells k lt).next i r at)

  pub trace_runs : IsMachineRun m (length table) (bit_of power) inputs_in states_in values_in
  trace_runs = record {
    begins = λ r some known. ap (λ row. bit_of row r) (trace.power_given some);
    solves = λ k lt. values_solve k;
    goes_on = λ k r lt known. (
        let count = of.registers in
        let stored = found net.registers r (omega arith) in
        ap (λ row. bit_of row r) (held_at net power tape table trace k lt)
        ∙ (image_bit (λ (x : Stored). value (bit_at table k) x.next) net.registers r stored.0 stored.1
        ∙ sym (next_value k r stored.0 (omega arith) stored.1)));
  }

  -- the outputs of the run are those of the trace
  pub trace_outputs : (k o : ℕ) → k < length table → o < length (output_bits net) → values_in k (out_node m o) ≡ bit_of (map (bit_at table k) (output_bits net)) o
  trace_outputs k o lt known =
      let wire = found (output_bits net) o known in
      let total = graph_of.sinks in
      at_sink k o (omega arith)
      ∙ ((tells k lt).outputs o wire.0 wire.1
      ∙ sym (image_bit (bit_at table k) (output_bits net) o wire.0 wire.1))
