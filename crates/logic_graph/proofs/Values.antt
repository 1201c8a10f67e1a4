-- Values of nodes, and the bits of cycles.
use Rattle.std.proofs.Common.{◌≡◌, ◌<◌, ◌+◌, ◌==◌, ℕ, zero, suc, Bool, false, not, ◌||◌, ◌&&◌, List, [], ◌∷◌, map, length, slice_get, get_or, Some, IsTrue, nat_lt, refl, sym, ap, ap₂, ◌∙◌, arith, zero-add, eq-eqb, inl, inr, ltb-true}
use Rattle.std.specs.List.{list_any, range_with_len}
use Rattle.std.proofs.lemmas.Bool.{eqb-true, or_cases, or_left, or_right, and_parts, and_from}
use Rattle.std.proofs.lemmas.List.FromFn.{length-map-range_with_len, get_or-map-range_with_len}
use Rattle.std.proofs.lemmas.Option.{slice_get-get_or, slice_get_within, get_or_from_slice_get}
use Rattle.agm_net.specs.Formula.{Formula, f_zero, f_one, f_wire, f_not, f_and, f_or, f_xor, f_mux, stands, reads_below, value, xor}
use Rattle.agm_net.specs.Loop.{reads, HasNoLoop, IsRanked}
use Rattle.agm_net.specs.Plain.{Line, Stored, PlainNet, input_bits, clock_bits, is_input}
use Rattle.agm_net.specs.Run.{Driver, d_input, d_clock, d_equation, d_register, d_nothing, HasDriver, driver}
use Rattle.agm_net.specs.Trace.{Row, row_at, bit_at, IsTrace}
use Rattle.agm_net.specs.WellFormed.{WellFormed}
use Rattle.agm_net.proofs.Driving.{is_driven}
use Rattle.agm_net.proofs.Formulas.{reads_are_below, same_value}
use Rattle.agm_net.proofs.InOrder.{place, reads_earlier}
use Rattle.agm_net.proofs.Lists.{all_of_one, any_at, found_of_all, items_same, place_of_any}
use Rattle.agm_net.proofs.Ranks.{no_loop, ranked, reads_within}
use Rattle.agm_net.proofs.Traces.{image_bit}
use Rattle.agm_net.proofs.Wires.{ports_bits, registers_fit, some_bits}
use Rattle.logic_graph.specs.declared.nodes.Node.{Node}
use Rattle.logic_graph.specs.declared.nodes.Node.TheVariants.{Zero, One, Input, Q, Not, Xor, And, Or, Mux}
use Rattle.logic_graph.specs.declared.graphs.Graph.{Graph}
use Rattle.logic_graph.specs.declared.drawing.Drawing.{Drawing}
use Rattle.logic_graph.specs.Nodes.{reads_before}
use Rattle.logic_graph.specs.Operators.{operators}
use Rattle.logic_graph.specs.Settled.{bit_of, node_value, AreValues, IsSettled}
use Rattle.logic_graph.specs.Searching.{IsOrder, is_unset, line_at}
use Rattle.logic_graph.specs.GraphOf.{Stands, HasNode, drawing_of, output_bits, IsGraphOf}
use Rattle.logic_graph.specs.Traces.{IsCycle, TellsBits, held, Computes}

-- the bits of wires, by the values of their nodes
abbrev pub wire_bit : List ℕ → (ℕ → Bool) → ℕ → Bool
wire_bit of_wire values w = values (get_or of_wire w 0)

-- the value of the node that stands for a formula is the formula's
pub stood : (d : Drawing) (inputs registers values : ℕ → Bool) → AreValues d.nodes inputs registers values → (f : Formula) (m k : ℕ) → Stands d m f k → value (wire_bit d.of_wire values) f ≡ values k
stood d i r v s f_zero m k h = sym (s k Zero h)
stood d i r v s f_one m k h = sym (s k One h)
stood d i r v s (f_wire w) m k h = ap v (get_or_from_slice_get d.of_wire w k 0 h)
stood d i r v s (f_not x) m k h = ap not (stood d i r v s x m h.0 h.2) ∙ sym (s k (Not h.0) h.1.0)
stood d i r v s (f_and x y) m k h = ap₂ (λ a b. a && b) (stood d i r v s x m h.0 h.3) (stood d i r v s y (m + operators x) h.1 h.4) ∙ sym (s k (And h.0 h.1) h.2.0)
stood d i r v s (f_or x y) m k h = ap₂ (λ a b. a || b) (stood d i r v s x m h.0 h.3) (stood d i r v s y (m + operators x) h.1 h.4) ∙ sym (s k (Or h.0 h.1) h.2.0)
stood d i r v s (f_xor x y) m k h = ap₂ xor (stood d i r v s x m h.0 h.3) (stood d i r v s y (m + operators x) h.1 h.4) ∙ sym (s k (Xor h.0 h.1) h.2.0)
stood d i r v s (f_mux c x y) m k h =
    let test = stood d i r v s c m h.0 h.4 in
    let low = stood d i r v s x (m + operators c) h.1 h.5 in
    let high = stood d i r v s y (m + operators c + operators x) h.2 h.6 in
    let own = s k (Mux h.0 h.1 h.2) h.3.0 in cc

-- values that agree below a node give it one value
pub node_same : (inputs registers x y : ℕ → Bool) (k : ℕ) (n : Node) → IsTrue (reads_before k n) → ((j : ℕ) → j < k → x j ≡ y j) → node_value inputs registers x n ≡ node_value inputs registers y n
node_same i r x y k Zero h a = refl
node_same i r x y k One h a = refl
node_same i r x y k (Input b) h a = refl
node_same i r x y k (Q b) h a = refl
node_same i r x y k (Not b) h a = ap not (a b (ltb-true b k h))
node_same i r x y k (Xor b c) h a = let both = and_parts (nat_lt b k) (nat_lt c k) h in ap₂ xor (a b (ltb-true b k both.0)) (a c (ltb-true c k both.1))
node_same i r x y k (And b c) h a = let both = and_parts (nat_lt b k) (nat_lt c k) h in ap₂ (λ p q. p && q) (a b (ltb-true b k both.0)) (a c (ltb-true c k both.1))
node_same i r x y k (Or b c) h a = let both = and_parts (nat_lt b k) (nat_lt c k) h in ap₂ (λ p q. p || q) (a b (ltb-true b k both.0)) (a c (ltb-true c k both.1))
node_same i r x y k (Mux s b c) h a =
    let all = and_parts (nat_lt s k) (nat_lt b k && nat_lt c k) h in
    let both = and_parts (nat_lt b k) (nat_lt c k) all.1 in
    let test = a s (ltb-true s k all.0) in
    let low = a b (ltb-true b k both.0) in
    let high = a c (ltb-true c k both.1) in cc

-- the values of nodes after n rounds; all are 0 before the first
abbrev settled : List Node → (inputs registers : ℕ → Bool) → ℕ → ℕ → Bool
settled nodes inputs registers zero k = false
settled nodes inputs registers (suc n) k = node_value inputs registers (settled nodes inputs registers n) (get_or nodes k Zero)

-- nodes that stand behind their operands
module _ (nodes : List Node) (order : (k : ℕ) (n : Node) → slice_get nodes k ≡ Some n → IsTrue (reads_before k n)) (inputs registers : ℕ → Bool) where
  -- a node's value stands still after as many rounds as there are nodes up to it
  stands_still : (n k : ℕ) → k < n → k < length nodes → settled nodes inputs registers n k ≡ settled nodes inputs registers (suc n) k
  stands_still zero k lt within = absurd (omega arith)
  stands_still (suc n) k lt within =
      node_same inputs registers (settled nodes inputs registers n) (settled nodes inputs registers (suc n)) k (get_or nodes k Zero) (order k (get_or nodes k Zero) (slice_get-get_or nodes k Zero within))
      (λ j lj. stands_still n j (omega arith) (omega arith))

  abbrev pub values_of : ℕ → Bool
  values_of = settled nodes inputs registers (length nodes)

  -- so nodes have values
  pub are_values : AreValues nodes inputs registers values_of
  are_values k n at =
      let within = slice_get_within nodes k n at in
      stands_still (length nodes) k within within ∙ ap (node_value inputs registers values_of) (get_or_from_slice_get nodes k n Zero at)

  -- and only these
  alike_below : (x y : ℕ → Bool) → AreValues nodes inputs registers x → AreValues nodes inputs registers y → (m k : ℕ) → k < m → k < length nodes → x k ≡ y k
  alike_below x y vx vy zero k lt within = absurd (omega arith)
  alike_below x y vx vy (suc m) k lt within =
      let n = get_or nodes k Zero in
      let at = slice_get-get_or nodes k Zero within in
      vx k n at ∙ (node_same inputs registers x y k n (order k n at) (λ j lj. alike_below x y vx vy m j (omega arith) (omega arith)) ∙ sym (vy k n at))

  pub values_alike : (x y : ℕ → Bool) → AreValues nodes inputs registers x → AreValues nodes inputs registers y → (k : ℕ) → k < length nodes → x k ≡ y k
  values_alike x y vx vy k within = alike_below x y vx vy (suc k) k (omega arith) within

-- the same as rows
module _ (nodes : List Node) (order : (k : ℕ) (n : Node) → slice_get nodes k ≡ Some n → IsTrue (reads_before k n)) (inputs registers : Row) where
  abbrev values : ℕ → Bool
  values = values_of nodes order (bit_of inputs) (bit_of registers)

  abbrev pub settled_row : Row
  settled_row = map values (range_with_len 0 (length nodes))

  row_bit : (k : ℕ) → k < length nodes → bit_of settled_row k ≡ values k
  row_bit k within = get_or-map-range_with_len values 0 (length nodes) k k false within (zero-add k)

  pub is_settled : IsSettled nodes inputs registers settled_row
  is_settled = record {
    one_each = length-map-range_with_len values 0 (length nodes);
    is_value = λ k n at.
        let within = slice_get_within nodes k n at in
        row_bit k within
        ∙ (are_values nodes order (bit_of inputs) (bit_of registers) k n at
        ∙ node_same (bit_of inputs) (bit_of registers) values (bit_of settled_row) k n (order k n at) (λ j lj. sym (row_bit j (omega arith))));
  }

  pub settled_alike : (x y : Row) → IsSettled nodes inputs registers x → IsSettled nodes inputs registers y → x ≡ y
  settled_alike x y sx sy =
      let long = sx.one_each in
      let other = sy.one_each in
      items_same false x y (long ∙ sym other) (λ k lt. values_alike nodes order (bit_of inputs) (bit_of registers) (bit_of x) (bit_of y) sx.is_value sy.is_value k (omega arith))

-- the bits of a cycle, and the values of nodes for the same input bits and registers
module _ (net : PlainNet) (g : Graph) (well : WellFormed net) (none : HasNoLoop net) (graph : IsGraphOf net g) (inputs registers bit values : ℕ → Bool) (cycle : IsCycle net inputs registers bit) (s : AreValues g.nodes inputs registers values) where
  abbrev ranks : IsRanked net
  ranks = ranked net well none

  at_node : (w k : ℕ) → slice_get g.of_wire w ≡ Some k → values k ≡ wire_bit g.of_wire values w
  at_node w k at = ap values (sym (get_or_from_slice_get g.of_wire w k 0 at))

  -- a wire has the value of its node, where those that it reads have
  by_driver : (w : ℕ) → ((v : ℕ) → IsTrue (reads net w v) → bit v ≡ wire_bit g.of_wire values v) → (d : Driver) → HasDriver net d w → bit w ≡ wire_bit g.of_wire values w
  by_driver w lower (d_input n) h =
      let node = graph.inputs n w h in
      cycle.inputs_given n w h ∙ (sym (s node.0 (Input n) node.2) ∙ at_node w node.0 node.1)
  by_driver w lower d_clock h =
      let node = found_of_all (λ v. HasNode (drawing_of g) v Zero) (clock_bits net) graph.clock w h in
      found_of_all (λ v. bit v ≡ false) (clock_bits net) cycle.clock_is_low w h ∙ (sym (s node.0 Zero node.2) ∙ at_node w node.0 node.1)
  by_driver w lower (d_register n next) h =
      let node = graph.registers n h.0 h.1 in
      ap bit (sym h.2) ∙ (cycle.registers_hold n h.0 h.1 ∙ (sym (s node.0 (Q n) node.2) ∙ (at_node h.0.q node.0 node.1 ∙ ap (wire_bit g.of_wire values) h.2)))
  by_driver w lower (d_equation f) h =
      let node = graph.equations h.0 (w, f) h.1 in
      let own = all_of_one (λ (l : Line). bit l.0 ≡ value bit l.1) net.lines h.0 (w, f) cycle.equations_hold h.1 in
      let read : (v : ℕ) → IsTrue (stands v f) → IsTrue (reads net w v) = λ v stood_v. any_at (λ (l : Line). (l.0 == w) && stands v l.1) net.lines h.0 (w, f) h.1 (and_from (w == w) (stands v f) (eq-eqb w w refl) stood_v) in
      own ∙ (same_value bit (wire_bit g.of_wire values) f (λ v stood_v. lower v (read v stood_v)) ∙ (stood (drawing_of g) inputs registers values s f _ node.0 node.2 ∙ at_node w node.0 node.1))
  by_driver w lower d_nothing h = absurd h

  agrees : (m w : ℕ) → ranks.rank w < m → w < length net.wires → bit w ≡ wire_bit g.of_wire values w
  agrees zero w lr lt = absurd (omega arith)
  agrees (suc m) w lr lt =
      by_driver w (λ v read. (let less = ranks.lower w v read in agrees m v (omega arith) (reads_within net well w v read).1)) (driver net w) (is_driven net well w lt)

  wires_tell : (w : ℕ) → w < length net.wires → wire_bit g.of_wire values w ≡ bit w
  wires_tell w lt = sym (agrees (suc (ranks.rank w)) w (omega arith) lt)

  pub tells_bits : TellsBits net g bit values
  tells_bits = record {
    wires = wires_tell;
    outputs = λ i w at.
        let n = length net.wires in
        let lt = all_of_one (λ v. v < n) (output_bits net) i w (some_bits n (λ p. not (is_input p)) net.ports (ports_bits net well)) at in
        let many = graph.wires in
        ap values (get_or_from_slice_get g.sinks i (get_or g.of_wire w 0) 0 (graph.outputs i w at ∙ slice_get-get_or g.of_wire w 0 (omega arith))) ∙ wires_tell w lt;
    next = λ i r at.
        let node = graph.next i r at in
        let fit = all_of_one (λ (x : Stored). (x.q < length net.wires) × IsTrue (reads_below (length net.wires) x.next)) net.registers i r (registers_fit net well) at in
        ap values (get_or_from_slice_get g.sinks (length (output_bits net) + i) node.0 0 node.1)
        ∙ (sym (stood (drawing_of g) inputs registers values s r.next _ node.0 node.2)
        ∙ same_value (wire_bit g.of_wire values) bit r.next (λ w stood_w. wires_tell w (reads_are_below (length net.wires) r.next fit.1 w stood_w)));
  }

-- a row of a trace is one of a cycle
pub trace_cycle : (net : PlainNet) (power : Row) (tape table : List Row) → IsTrace net power tape table → (t : ℕ) → t < length table → IsCycle net (bit_at tape t) (bit_of (held net (bit_at table t))) (bit_at table t)
trace_cycle net power tape table trace t lt = record {
  inputs_given = λ n w at. image_bit (bit_at table t) (input_bits net) (row_at tape t) n w (trace.inputs_given t lt) at;
  registers_hold = λ n r at. image_bit (λ (x : Stored). bit_at table t x.q) net.registers (held net (bit_at table t)) n r refl at;
  clock_is_low = trace.clock_is_low t lt;
  equations_hold = trace.equations_hold t lt;
}

pub computes : (net : PlainNet) (g : Graph) → WellFormed net → HasNoLoop net → IsGraphOf net g → Computes net g
computes net g well none graph power tape table trace t lt values s w lw =
    sym ((tells_bits net g well none graph (bit_at tape t) (bit_of (held net (bit_at table t))) (bit_at table t) (bit_of values) (trace_cycle net power tape table trace t lt) s.is_value).wires w lw)

-- what passes among numbers passes among their images
any_image : (test : Line → Bool) (f : ℕ → Line) (is : List ℕ) (i : ℕ) → IsTrue (list_any (λ j. j == i) is) → IsTrue (test (f i)) → IsTrue (list_any test (map f is))
any_image test f [] i any passes = any
any_image test f (j ∷ js) i any passes = elim (or_cases (j == i) (list_any (λ k. k == i) js) any) [
  | inl same ↦ or_left (test (f j)) (list_any test (map f js)) (ap (λ k. test (f k)) (eqb-true j i same) ∙ passes)
  | inr later ↦ or_right (test (f j)) (list_any test (map f js)) (any_image test f js i later passes)
]

-- an order of equations leaves no loop
pub ordered_no_loop : (net : PlainNet) (order : List ℕ) → IsOrder net.lines order → HasNoLoop net
ordered_no_loop net order h =
    let ls = map (line_at net.lines) order in
    no_loop net (place ls) (λ w v read. (
    let test = λ (l : Line). (l.0 == w) && stands v l.1 in
    let found = place_of_any test net.lines read in
    let lt = slice_get_within net.lines found.0 found.1 found.2 in
    let is : line_at net.lines found.0 ≡ found.1 = get_or_from_slice_get net.lines found.0 found.1 _ found.2 in
    reads_earlier (is_unset net.lines) ls w v h.fresh (any_image test (line_at net.lines) order found.0 (h.whole found.0 lt) (ap test is ∙ found.3))))
