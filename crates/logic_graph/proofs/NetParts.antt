-- What the parts of a net say for its graph.
use Rattle.std.proofs.Common.{◌≡◌, ◌<◌, ◌≤◌, ◌+◌, ◌++◌, ◌&&◌, ℕ, Bool, List, [], ◌∷◌, All, map, length, take, drop, IsTrue, nat_lt, refl, sym, ap, ap₂, ◌∙◌, subst, arith, get_or, inl, inr, not, filter, flat_map, ltb-true}
use Rattle.std.specs.List.{AllByRecursion, list_all}
use Rattle.std.proofs.lemmas.Bool.{cases_Bool, and_parts, and_from, lt-ltb}
use Rattle.std.proofs.Common.{zero, suc, true, false}
use Rattle.std.proofs.Math.ListN.{length-set}
use Rattle.std.proofs.lemmas.List.{length-map, length-replicate}
use Rattle.std.proofs.lemmas.Option.{slice_get-get_or}
use Rattle.agm_net.specs.Formula.{Formula, f_zero, f_one, f_wire, f_not, f_and, f_or, f_xor, f_mux, formula_of, reads_below}
use Rattle.agm_net.specs.Plain.{Line, Stored, PlainNet, line_of, stored_of, is_in, is_input, input_bits, ports_but}
use Rattle.agm_net.specs.View.{plain_of}
use Rattle.agm_net.specs.declared.net.Net.{Net}
use Rattle.agm_net.specs.declared.port.Port.{Port}
use Rattle.agm_net.specs.declared.port.Way.{Way}
use Rattle.agm_net.specs.declared.port.Way.TheVariants.{Input, Output}
use Rattle.agm_net.specs.declared.expr.Equation.{Equation}
use Rattle.agm_net.specs.declared.expr.Register.{Register}
use Rattle.logic_graph.specs.declared.drawing.Drawing.{Drawing}
use Rattle.logic_graph.specs.GraphOf.{output_bits}
use Rattle.logic_graph.specs.Searching.{fit, TellsLoopIn}
use Rattle.logic_graph.specs.Traces.{TellsLoop}
use Rattle.logic_graph.specs.declared.ordering.GraphFault.{GraphFault}
use Rattle.logic_graph.specs.declared.ordering.GraphFault.TheVariants.{Loop, Memory}
use Rattle.logic_graph.specs.declared.nodes.Node.{Node}
use Rattle.logic_graph.specs.declared.nodes.Node.TheVariants as node
use Rattle.logic_graph.specs.Sources.{bits_of, goes, with_source, with_sources}
use Rattle.logic_graph.specs.Drawn.{first_drawing, Job, jobs, next_jobs, with_jobs, with_line, behind, starts, line_formulas, next_formulas, net_drawing, operator_drawing, source_drawing}
use Rattle.logic_graph.specs.Made.{IsSound, AreParts, sinks_of}
use Rattle.logic_graph.specs.Operators.{operators}
use Rattle.agm_net.proofs.Lists.{all_joined, all_of_one}
use Rattle.agm_net.proofs.Wires.{inputs_are_wires, ports_bits, some_bits}
use Rattle.logic_graph.proofs.NetDrawing.{all_qs}

-- a formula over the wires below m is one over those below n
pub reads_wider : (m n : ℕ) (f : Formula) → m ≤ n → IsTrue (reads_below m f) → IsTrue (reads_below n f)
reads_wider m n f_zero le h = refl
reads_wider m n f_one le h = refl
reads_wider m n (f_wire w) le h = let lt = ltb-true w m h in lt-ltb w n (omega arith)
reads_wider m n (f_not x) le h = reads_wider m n x le h
reads_wider m n (f_and x y) le h = let both = and_parts (reads_below m x) (reads_below m y) h in and_from (reads_below n x) (reads_below n y) (reads_wider m n x le both.0) (reads_wider m n y le both.1)
reads_wider m n (f_or x y) le h = let both = and_parts (reads_below m x) (reads_below m y) h in and_from (reads_below n x) (reads_below n y) (reads_wider m n x le both.0) (reads_wider m n y le both.1)
reads_wider m n (f_xor x y) le h = let both = and_parts (reads_below m x) (reads_below m y) h in and_from (reads_below n x) (reads_below n y) (reads_wider m n x le both.0) (reads_wider m n y le both.1)
reads_wider m n (f_mux s x y) le h =
    let all = and_parts (reads_below m s) (reads_below m x && reads_below m y) h in
    let both = and_parts (reads_below m x) (reads_below m y) all.1 in
    and_from (reads_below n s) (reads_below n x && reads_below n y) (reads_wider m n s le all.0) (and_from (reads_below n x) (reads_below n y) (reads_wider m n x le both.0) (reads_wider m n y le both.1))

-- one spelling of all
pub all_items : {X : Type 0} (P : X → Type 0) (xs : List X) → AllByRecursion P xs → All P xs
all_items P xs h k d lt = all_of_one P xs k (get_or xs k d) h (slice_get-get_or xs k d lt)

pub all_below : (m n : ℕ) (ws : List ℕ) → m ≤ n → AllByRecursion (λ w. w < m) ws → AllByRecursion (λ w. w < n) ws
all_below m n [] le h = tt
all_below m n (w ∷ ws) le h = (let lt = h.0 in omega arith, all_below m n ws le h.1)

pub length-starts : (m : ℕ) (fs : List Formula) → length (starts m fs) ≡ length fs
length-starts m [] = refl
length-starts m (f ∷ fs) = ap suc (length-starts (m + operators f) fs)

pub fit_wider : (m n : ℕ) (lines : List Line) → m ≤ n → IsTrue (fit m lines) → IsTrue (fit n lines)
fit_wider m n [] le h = refl
fit_wider m n (l ∷ ls) le h =
    let parts = and_parts (nat_lt l.0 m && reads_below m l.1) (fit m ls) h in
    let both = and_parts (nat_lt l.0 m) (reads_below m l.1) parts.0 in
    let lt = ltb-true l.0 m both.0 in
    and_from (nat_lt l.0 n && reads_below n l.1) (fit n ls) (and_from (nat_lt l.0 n) (reads_below n l.1) (lt-ltb l.0 n (omega arith)) (reads_wider m n l.1 le both.1)) (fit_wider m n ls le parts.1)

next_wider : (m n : ℕ) (rs : List Register) → m ≤ n → IsTrue (list_all (λ r. nat_lt r.q m && (reads_below m r.next && nat_lt r.clock m)) (map stored_of rs)) → IsTrue (list_all (λ r. reads_below n (formula_of r.next)) rs)
next_wider m n [] le h = refl
next_wider m n (r ∷ rs) le h =
    let f = formula_of r.next in
    let parts = and_parts (nat_lt r.q m && (reads_below m f && nat_lt r.clock m)) (list_all (λ s. nat_lt s.q m && (reads_below m s.next && nat_lt s.clock m)) (map stored_of rs)) h in
    let own = and_parts (nat_lt r.q m) (reads_below m f && nat_lt r.clock m) parts.0 in
    let next = and_parts (reads_below m f) (nat_lt r.clock m) own.1 in
    and_from (reads_below n f) (list_all (λ s. reads_below n (formula_of s.next)) rs) (reads_wider m n f le next.0) (next_wider m n rs le parts.1)

-- all numbers of a net are those of wires
pub net_fits : (net : Net) → IsTrue (fit (length net.wires) (plain_of net).lines)
net_fits net =
    let p = plain_of net in let n = length net.wires in
    (and_parts (list_all (λ l. nat_lt l.0 n && reads_below n l.1) p.lines) (list_all (λ r. nat_lt r.q n && (reads_below n r.next && nat_lt r.clock n)) p.registers) net.well_formed.in_range).0

pub next_fits : (net : Net) (m : ℕ) → length net.wires ≤ m → IsTrue (list_all (λ r. reads_below m (formula_of r.next)) net.registers)
next_fits net m le =
    let p = plain_of net in let n = length net.wires in
    next_wider n m net.registers le (and_parts (list_all (λ l. nat_lt l.0 n && reads_below n l.1) p.lines) (list_all (λ r. nat_lt r.q n && (reads_below n r.next && nat_lt r.clock n)) p.registers) net.well_formed.in_range).1

-- the bits of one way
goes_in : (way : Way) → goes Input way ≡ is_in way
goes_in Input = refl
goes_in Output = refl

goes_out : (way : Way) → goes Output way ≡ not (is_in way)
goes_out Input = refl
goes_out Output = refl

filter_same : (f g : Port → Bool) → ((p : Port) → f p ≡ g p) → (ps : List Port) → filter f ps ≡ filter g ps
filter_same f g same [] = refl
filter_same f g same (p ∷ ps) = let one = same p in let rest = filter_same f g same ps in elim (cases_Bool (f p)) [
  | inl is ↦ (let is' : g p ≡ true = sym one ∙ is in rw (is, is') (ap (λ qs. p ∷ qs) rest))
  | inr is ↦ (let is' : g p ≡ false = sym one ∙ is in rw (is, is') rest)
]

pub input_bits_are : (ports : List Port) → bits_of Input ports ≡ flat_map (λ p. p.bits) (filter is_input ports)
input_bits_are ports = ap (flat_map (λ (p : Port). p.bits)) (filter_same (λ p. goes Input p.way) is_input (λ p. goes_in p.way) ports)

pub output_bits_are : (net : Net) → bits_of Output net.ports ≡ output_bits (plain_of net)
output_bits_are net = ap (flat_map (λ (p : Port). p.bits)) (filter_same (λ p. goes Output p.way) (λ p. not (is_input p)) (λ p. goes_out p.way) net.ports)

map_twice : {X Y Z : Type 0} (f : Y → Z) (g : X → Y) (xs : List X) → map (λ x. f (g x)) xs ≡ map f (map g xs)
map_twice f g [] = refl
map_twice f g (x ∷ xs) = ap (λ ys. f (g x) ∷ ys) (map_twice f g xs)

pub outputs_are : (net : Net) → map (λ (r : Register). r.q) net.registers ≡ map (λ r. r.q) (plain_of net).registers
outputs_are net = map_twice (λ (r : Stored). r.q) stored_of net.registers

-- a drawing of a net's equations and registers
pub operators_are : (net : Net) (order : List ℕ) (n : ℕ) (es : List Equation) (rs : List Register) (d : Drawing) → n ≡ length net.wires → es ≡ net.equations → rs ≡ net.registers → d ≡ source_drawing (plain_of net)
    → operator_drawing n order es rs d ≡ net_drawing (plain_of net) order
operators_are net order n es rs d en ee er ed =
    let eqs : map (λ (e : Equation). formula_of e.expr) es ≡ line_formulas (plain_of net) = ap (map (λ (e : Equation). formula_of e.expr)) ee ∙ map_twice (λ (l : Line). l.1) line_of net.equations in
    let nexts : map (λ (r : Register). formula_of r.next) rs ≡ next_formulas (plain_of net) = ap (map (λ (r : Register). formula_of r.next)) er ∙ map_twice (λ (r : Stored). r.next) stored_of net.registers in
    let lines : map line_of es ≡ (plain_of net).lines = ap (map line_of) ee in
    four n (length net.wires) _ _ _ _ _ _ d (source_drawing (plain_of net)) en eqs nexts lines ed
  where
    four : (n n' : ℕ) (a a' b b' : List Formula) (c c' : List Line) (d d' : Drawing) → n ≡ n' → a ≡ a' → b ≡ b' → c ≡ c' → d ≡ d'
        → with_jobs (next_jobs n b (starts (behind 0 a) b)) (with_jobs (jobs c (starts 0 a) order) d) ≡ with_jobs (next_jobs n' b' (starts (behind 0 a') b')) (with_jobs (jobs c' (starts 0 a') order) d')
    four n n' a a' b b' c c' d d' e f g h i = cc

-- the sources of a net
pub sources_are : (net : Net) (n : ℕ) (ins outs : List ℕ) → n ≡ length net.wires + length net.registers → ins ≡ bits_of Input (ports_but net.clock net.ports) → outs ≡ map (λ (r : Register). r.q) net.registers
    → with_sources (λ i. node.Q i) 0 outs (with_sources (λ i. node.Input i) 0 ins (first_drawing n)) ≡ source_drawing (plain_of net)
sources_are net n ins outs en ei eo =
    let size : n ≡ length (plain_of net).wires + length (plain_of net).registers = en ∙ ap (λ m. length net.wires + m) (sym (length-map net.registers stored_of)) in
    let ins' : ins ≡ input_bits (plain_of net) = ei ∙ input_bits_are (ports_but net.clock net.ports) in
    let outs' = eo ∙ outputs_are net in
    ap₂ (λ os d. with_sources (λ i. node.Q i) 0 os d) outs' (ap₂ (λ is m. with_sources (λ i. node.Input i) 0 is (first_drawing m)) ins' size)

-- input bits and outputs of registers are wires
pub inputs_fit : (net : Net) (n : ℕ) → length net.wires ≤ n → AllByRecursion (λ w. w < n) (bits_of Input (ports_but net.clock net.ports))
inputs_fit net n le = subst (AllByRecursion (λ w. w < n)) (sym (input_bits_are (ports_but net.clock net.ports))) (all_below (length net.wires) n (input_bits (plain_of net)) le (inputs_are_wires (plain_of net) net.well_formed))

pub outputs_fit : (net : Net) (n : ℕ) → length net.wires ≤ n → AllByRecursion (λ w. w < n) (map (λ (r : Register). r.q) net.registers)
outputs_fit net n le = subst (AllByRecursion (λ w. w < n)) (sym (outputs_are net)) (all_below (length net.wires) n (map (λ r. r.q) (plain_of net).registers) le (all_qs (plain_of net) net.well_formed))

pub sinks_fit : (net : Net) (n : ℕ) → length net.wires ≤ n → AllByRecursion (λ w. w < n) (bits_of Output net.ports)
sinks_fit net n le = subst (AllByRecursion (λ w. w < n)) (sym (output_bits_are net)) (all_below (length net.wires) n (output_bits (plain_of net)) le (some_bits (length net.wires) (λ p. not (is_input p)) net.ports (ports_bits (plain_of net) net.well_formed)))

-- drawing leaves the number of wires
pub length-sources : (kind : ℕ → Node) (i : ℕ) (ws : List ℕ) (d : Drawing) → length (with_sources kind i ws d).of_wire ≡ length d.of_wire
length-sources kind i [] d = refl
length-sources kind i (w ∷ ws) d = length-sources kind (i + 1) ws (with_source d w (kind i)) ∙ length-set d.of_wire w (length d.nodes)

pub length-jobs : (js : List Job) (d : Drawing) → length (with_jobs js d).of_wire ≡ length d.of_wire
length-jobs [] d = refl
length-jobs (j ∷ js) d = length-jobs js (with_line d j.0 j.1) ∙ length-set d.of_wire j.0.0 _

pub length-source_drawing : (net : Net) → length (source_drawing (plain_of net)).of_wire ≡ length net.wires + length net.registers
length-source_drawing net =
    let p = plain_of net in
    let zeros : length (first_drawing (length p.wires + length p.registers)).of_wire ≡ length p.wires + length p.registers = length-replicate (length p.wires + length p.registers) _ in
    let many = length-map net.registers stored_of in
    length-sources (λ i. node.Q i) 0 (map (λ r. r.q) p.registers) (with_sources (λ i. node.Input i) 0 (input_bits p) (first_drawing (length p.wires + length p.registers)))
    ∙ (length-sources (λ i. node.Input i) 0 (input_bits p) (first_drawing (length p.wires + length p.registers)) ∙ (zeros ∙ ap (λ m. length net.wires + m) many))

-- the parts of a graph
pub are_parts : (net : Net) (d : Drawing) (sinks of_wire : List ℕ) → IsSound (plain_of net) d → sinks ≡ sinks_of (plain_of net) d → of_wire ≡ take (length net.wires) d.of_wire → AreParts d.nodes sinks of_wire d.numbers
are_parts net d sinks of_wire sound es ew =
    let n = length net.wires in
    let below : (ks : List ℕ) → AllByRecursion (λ k. k < length d.nodes) (map (λ w. get_or d.of_wire w 0) ks) = all_nodes in
    let whole = taken_below d.of_wire sound.below in
    record {
      in_order = sound.in_order;
      sinks_fit = subst (All (λ k. k < length d.nodes)) (sym es) (all_items (λ k. k < length d.nodes) (sinks_of (plain_of net) d) (all_joined (λ k. k < length d.nodes) (map (λ w. get_or d.of_wire w 0) (output_bits (plain_of net))) (drop n d.of_wire) (below (output_bits (plain_of net))) (dropped n d.of_wire whole)));
      wires_fit = subst (All (λ k. k < length d.nodes)) (sym ew) (all_items (λ k. k < length d.nodes) (take n d.of_wire) (taken n d.of_wire whole));
      one_each = sound.one_each;
      numbered = sound.numbered;
      numbers_differ = sound.numbers_differ;
    }
  where
    all_nodes : (ks : List ℕ) → AllByRecursion (λ k. k < length d.nodes) (map (λ w. get_or d.of_wire w 0) ks)
    all_nodes [] = tt
    all_nodes (k ∷ ks) = (sound.below k, all_nodes ks)

    taken_below : (ws : List ℕ) → ((w : ℕ) → get_or ws w 0 < length d.nodes) → AllByRecursion (λ k. k < length d.nodes) ws
    taken_below [] h = tt
    taken_below (x ∷ xs) h = (h 0, taken_below xs (λ w. h (suc w)))

    taken : (k : ℕ) (ws : List ℕ) → AllByRecursion (λ k. k < length d.nodes) ws → AllByRecursion (λ k. k < length d.nodes) (take k ws)
    taken zero ws h = tt
    taken (suc k) [] h = tt
    taken (suc k) (w ∷ ws) h = (h.0, taken k ws h.1)

    dropped : (k : ℕ) (ws : List ℕ) → AllByRecursion (λ k. k < length d.nodes) ws → AllByRecursion (λ k. k < length d.nodes) (drop k ws)
    dropped zero ws h = h
    dropped (suc k) [] h = tt
    dropped (suc k) (w ∷ ws) h = dropped k ws h.1

-- a loop of a net's equations is one of the net
pub tells_loop : (net : PlainNet) (fault : GraphFault) → TellsLoopIn net.lines fault → TellsLoop net fault
tells_loop net (Loop []) h = h
tells_loop net (Loop (w ∷ ws)) h = h
tells_loop net Memory h = tt

-- the sinks of a drawing
pub sinks_are : (net : PlainNet) (d : Drawing) (outs ow : List ℕ) (n : ℕ) → outs ≡ output_bits net → ow ≡ d.of_wire → n ≡ length net.wires → map (λ w. get_or ow w 0) outs ++ drop n ow ≡ sinks_of net d
sinks_are net d outs ow n eo ew en = ap₂ (λ os ws. map (λ w. get_or ws w 0) os ++ drop n ws) eo ew ∙ ap (λ k. map (λ w. get_or d.of_wire w 0) (output_bits net) ++ drop k d.of_wire) en
