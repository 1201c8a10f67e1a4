-- The graph that is made of a net's drawing is that of the net.
use Rattle.std.proofs.Common.{◌≡◌, ◌<◌, ◌≤◌, ◌+◌, ◌==◌, ◌++◌, ℕ, zero, suc, Bool, true, false, not, ◌||◌, ◌&&◌, List, [], ◌∷◌, map, length, length-append, count_by, slice_get, get_or, Some, IsTrue, nat_lt, refl, sym, ap, ◌∙◌, subst, arith, append-nil, eq-eqb, inl, inr, zero-add, take, drop, ltb-true}
use Rattle.std.specs.List.{AllByRecursion, list_any, list_all}
use Rattle.std.proofs.lemmas.Bool.{eqb-true, ne_eqb, or_cases, or_right, and_parts, lt-ltb, le-ltb, false_from_ne_true}
use Rattle.std.proofs.lemmas.List.{length-map, length-take, length-drop, take-append-le}
use Rattle.std.proofs.lemmas.List.Sums.{sum_by-append, sum_by-cons}
use Rattle.std.proofs.Math.Seq.{take-append-add}
use Rattle.std.proofs.lemmas.Option.{slice_get-get_or, slice_get_within, get_or_from_slice_get}
use Rattle.agm_net.specs.Formula.{Formula, f_zero, stands, reads_below}
use Rattle.agm_net.specs.Plain.{Line, Stored, PlainNet, input_bits, clock_bits, is_input}
use Rattle.agm_net.specs.WellFormed.{WellFormed}
use Rattle.agm_net.specs.Small.{ReadsKnown, IsFresh}
use Rattle.agm_net.proofs.Lists.{all_of_one, any_at, count_some, get_image}
use Rattle.agm_net.proofs.Formulas.{reads_are_below}
use Rattle.agm_net.proofs.Wires.{clock_is_wire, inputs_are_wires, one_way, ports_bits, registers_fit, some_bits, times_outputs}
use Rattle.logic_graph.specs.declared.nodes.Node.{Node}
use Rattle.logic_graph.specs.declared.nodes.Node.TheVariants.{Zero, One, Input, Q}
use Rattle.logic_graph.specs.declared.graphs.Graph.{Graph}
use Rattle.logic_graph.specs.Nodes.{is_operator}
use Rattle.logic_graph.specs.Operators.{operators, first_number}
use Rattle.logic_graph.specs.Searching.{IsOrder, is_set, is_unset, line_at}
use Rattle.logic_graph.specs.GraphOf.{Stands, HasNode, drawing_of, output_bits, IsGraphOf}
use Rattle.logic_graph.specs.Drawn.{source_drawing, line_formulas, next_formulas, line_drawing, net_drawing, Job, jobs, next_jobs, starts, behind}
use Rattle.logic_graph.specs.Made.{IsMade}
use Rattle.logic_graph.proofs.Places.{get_front, get_back}
use Rattle.logic_graph.proofs.Jobs.{IsRead, jobs_add, jobs_stand, known_kept, lines_of, job_numbers}
use Rattle.logic_graph.proofs.Sums.{total}
use Rattle.logic_graph.proofs.Turns.{all_pass_at}
use Rattle.logic_graph.proofs.NetDrawing.{sourced, net_is_sound, behind_total, each_wire, among, all_qs}

-- the first items of a list
get_taken : (xs : List ℕ) (n w : ℕ) → w < n → w < length xs → slice_get (take n xs) w ≡ Some (get_or xs w 0)
get_taken xs zero w lt lx = absurd (omega arith)
get_taken [] (suc n) w lt lx = absurd (omega arith)
get_taken (x ∷ xs) (suc n) zero lt lx = refl
get_taken (x ∷ xs) (suc n) (suc w) lt lx = get_taken xs n w (omega arith) (omega arith)

get_dropped : (xs : List ℕ) (n i : ℕ) → slice_get (drop n xs) i ≡ slice_get xs (n + i)
get_dropped xs zero i = ap (slice_get xs) (sym (zero-add i))
get_dropped [] (suc n) i = refl
get_dropped (x ∷ xs) (suc n) i = let same : suc n + i ≡ suc (n + i) = omega arith in get_dropped xs n i ∙ ap (slice_get (x ∷ xs)) (sym same)

-- the first number of each formula
starts_at : (m : ℕ) (fs : List Formula) (i : ℕ) → i < length fs → slice_get (starts m fs) i ≡ Some (m + total (take i fs))
starts_at m [] i lt = absurd (omega arith)
starts_at m (f ∷ fs) zero lt = let same : m ≡ m + 0 = omega arith in ap Some same
starts_at m (f ∷ fs) (suc i) lt =
    let one = sum_by-cons operators f (take i fs) in
    let same : m + operators f + total (take i fs) ≡ m + total (f ∷ take i fs) = omega arith in
    starts_at (m + operators f) fs i (omega arith) ∙ ap Some same

-- the equations of jobs in an order
order_lines : (lines : List Line) (ms order : List ℕ) → lines_of (jobs lines ms order) ≡ map (line_at lines) order
order_lines lines ms [] = refl
order_lines lines ms (i ∷ is) = ap (λ ls. line_at lines i ∷ ls) (order_lines lines ms is)

-- what holds of each image holds of that of an item
all_images : {X : Type 0} (P : X → Type 0) (f : ℕ → X) (is : List ℕ) (i : ℕ) → AllByRecursion P (map f is) → IsTrue (list_any (λ j. j == i) is) → P (f i)
all_images P f [] i h any = absurd (let no : false ≡ true = any in cc)
all_images P f (j ∷ js) i h any = elim (or_cases (j == i) (list_any (λ k. k == i) js) any) [
  | inl same ↦ subst (λ k. P (f k)) (eqb-true j i same) h.0
  | inr later ↦ all_images P f js i h.1 later
]

-- what holds of each register's job
next_at : (P : Job → Type 0) (w : ℕ) (fs : List Formula) (ms : List ℕ) (i : ℕ) (f : Formula) (m : ℕ) → AllByRecursion P (next_jobs w fs ms) → slice_get fs i ≡ Some f → slice_get ms i ≡ Some m → P ((w + i, f), m)
next_at P w [] ms i f m h at at' = absurd (cc)
next_at P w (g ∷ gs) [] i f m h at at' = absurd (cc)
next_at P w (g ∷ gs) (n ∷ ns) zero f m h at at' =
    let same : g ≡ f = cc in let same' : n ≡ m = cc in let place : w ≡ w + 0 = omega arith in
    subst (λ v. P ((v, f), m)) place (subst (λ x. P ((w, x), m)) same (subst (λ k. P ((w, g), k)) same' h.0))
next_at P w (g ∷ gs) (n ∷ ns) (suc i) f m h at at' =
    let place : w + 1 + i ≡ w + suc i = omega arith in subst (λ v. P ((v, f), m)) place (next_at P (w + 1) gs ns i f m h.1 at at')

-- the registers' jobs are for new wires
next_fresh : (known : ℕ → Bool) (w : ℕ) (fs : List Formula) (ms : List ℕ) → ((v : ℕ) → w ≤ v → known v ≡ false) → AllByRecursion (λ f. ReadsKnown known f) fs → IsFresh known (lines_of (next_jobs w fs ms))
next_fresh known w [] ms new reads = tt
next_fresh known w (f ∷ fs) [] new reads = tt
next_fresh known w (f ∷ fs) (m ∷ ms) new reads = (
  new w (omega arith),
  reads.0,
  next_fresh (λ v. (v == w) || known v) (w + 1) fs ms (λ v le. rw (ne_eqb v w (λ same. absurd (omega arith)), new v (omega arith)) refl) (wider fs reads.1),
)
  where
    wider : (gs : List Formula) → AllByRecursion (λ g. ReadsKnown known g) gs → AllByRecursion (λ g. ReadsKnown (λ v. (v == w) || known v) g) gs
    wider [] h = tt
    wider (g ∷ gs) h = ((λ v s. or_right (v == w) (known v) (h.0 v s)), wider gs h.1)

-- jobs in an order are for wires and read wires
order_fits : (n size : ℕ) (lines : List Line) (ms order : List ℕ) → n ≤ size → IsTrue (list_all (λ l. nat_lt l.0 n && reads_below n l.1) lines) → AllByRecursion (λ i. i < length lines) order
    → AllByRecursion (λ (j : Job). (j.0.0 < size) × ((w : ℕ) → IsTrue (stands w j.0.1) → IsTrue (nat_lt w n))) (jobs lines ms order)
order_fits n size lines ms [] le fits within = tt
order_fits n size lines ms (i ∷ is) le fits within =
    let l = line_at lines i in
    let both = and_parts (nat_lt l.0 n) (reads_below n l.1) (all_pass_at (λ l. nat_lt l.0 n && reads_below n l.1) lines i (0, f_zero) within.0 fits) in
    ((let lt = ltb-true l.0 n both.0 in omega arith, (λ w s. lt-ltb w n (reads_are_below n l.1 both.1 w s))), order_fits n size lines ms is le fits within.1)

next_fits : (n size w : ℕ) (fs : List Formula) (ms : List ℕ) → w + length fs ≤ size → AllByRecursion (λ f. IsTrue (reads_below n f)) fs
    → AllByRecursion (λ (j : Job). (j.0.0 < size) × ((v : ℕ) → IsTrue (stands v j.0.1) → IsTrue (nat_lt v n))) (next_jobs w fs ms)
next_fits n size w [] ms le fits = tt
next_fits n size w (f ∷ fs) [] le fits = tt
next_fits n size w (f ∷ fs) (m ∷ ms) le fits = ((omega arith, (λ v s. lt-ltb v n (reads_are_below n f fits.0 v s))), next_fits n size (w + 1) fs ms (omega arith) fits.1)

-- the next values read wires
pub next_reads : (net : PlainNet) → WellFormed net → AllByRecursion (λ f. IsTrue (reads_below (length net.wires) f)) (next_formulas net)
next_reads net well =
    only (length net.wires) net.registers (registers_fit net well)
  where
    only : (n : ℕ) (rs : List Stored) → AllByRecursion (λ r. (r.q < n) × IsTrue (reads_below n r.next)) rs → AllByRecursion (λ f. IsTrue (reads_below n f)) (map (λ r. r.next) rs)
    only n [] h = tt
    only n (r ∷ rs) h = (h.0.1, only n rs h.1)

-- a wire that an input, the clock or a register drives has no equation
pub no_line : (lines : List Line) (w : ℕ) → count_by (λ l. l.0 == w) lines ≡ 0 → IsTrue (is_unset lines w)
no_line lines w none = ap not (false_from_ne_true (is_set lines w) (λ set. let some = count_some (λ l. l.0 == w) lines set in absurd (omega arith)))

-- what the graph of a net's drawing has
record IsLaid (net : PlainNet) (order : List ℕ) (g : Graph) : Type 0 where
  kept : (w : ℕ) → w < length net.wires → slice_get g.of_wire w ≡ Some (get_or (line_drawing net order).of_wire w 0)
  unset : (w : ℕ) → w < length net.wires → IsTrue (is_unset net.lines w) → slice_get g.of_wire w ≡ Some (get_or (source_drawing net).of_wire w 0)
  node : (k : ℕ) (n : Node) → slice_get (source_drawing net).nodes k ≡ Some n → slice_get g.nodes k ≡ Some n
  lines_stand : AllByRecursion (λ (j : Job). Stands (drawing_of g) j.1 j.0.1 (get_or (line_drawing net order).of_wire j.0.0 0)) (jobs net.lines (starts 0 (line_formulas net)) order)
  next_stand : AllByRecursion (λ (j : Job). Stands (drawing_of g) j.1 j.0.1 (get_or (net_drawing net order).of_wire j.0.0 0)) (next_jobs (length net.wires) (next_formulas net) (starts (behind 0 (line_formulas net)) (next_formulas net)))

laid : (net : PlainNet) (order : List ℕ) (g : Graph) → WellFormed net → IsOrder net.lines order → IsMade net (net_drawing net order) g → IsLaid net order g
laid net order g well h made =
    let n = length net.wires in
    let size = n + length net.registers in
    let s = source_drawing net in
    let d1 = line_drawing net order in
    let d = net_drawing net order in
    let e = drawing_of g in
    let js = jobs net.lines (starts 0 (line_formulas net)) order in
    let ks = next_jobs n (next_formulas net) (starts (behind 0 (line_formulas net)) (next_formulas net)) in
    let source = sourced net well in
    let first = jobs_add js s source.below in
    let second = jobs_add ks d1 first.below in
    let below_n = λ (v : ℕ). nat_lt v n in
    let fresh1 : IsFresh (is_unset net.lines) (lines_of js) = subst (IsFresh (is_unset net.lines)) (sym (order_lines net.lines (starts 0 (line_formulas net)) order)) h.fresh in
    let fresh2 : IsFresh below_n (lines_of ks) = next_fresh below_n n (next_formulas net) (starts (behind 0 (line_formulas net)) (next_formulas net)) (λ v le. le-ltb v n le) (known_reads n (next_formulas net) (next_reads net well)) in
    let source_wires = source.wires in
    let wires1 : length d1.of_wire ≡ size = first.wires ∙ source.wires in
    let wires2 : length d.of_wire ≡ size = second.wires ∙ wires1 in
    let old = λ (w : ℕ) (lt : w < n). known_kept below_n ks d1 fresh2 w (lt-ltb w n lt) in
    let own : (w : ℕ) → w < n → slice_get g.of_wire w ≡ Some (get_or d.of_wire w 0) = λ w lt. ap (λ ws. slice_get ws w) made.of_wire ∙ get_taken d.of_wire n w lt (omega arith) in
    let kept : (w : ℕ) → w < n → slice_get g.of_wire w ≡ Some (get_or d1.of_wire w 0) = λ w lt. own w lt ∙ ap Some (old w lt) in
    let nodes1 : g.nodes ≡ d1.nodes ++ second.rest = made.nodes ∙ second.nodes in
    let numbers1 : g.numbers ≡ d1.numbers ++ job_numbers ks = made.numbers ∙ second.numbers in
    let node : (k : ℕ) (x : Node) → slice_get s.nodes k ≡ Some x → slice_get g.nodes k ≡ Some x = λ k x at.
    ap (λ ns. slice_get ns k) nodes1 ∙ get_front d1.nodes second.rest k x (ap (λ ns. slice_get ns k) first.nodes ∙ get_front s.nodes first.rest k x at) in
    let read1 : IsRead d1.of_wire below_n e = record { low = node 0 Zero source.first; high = node 1 One source.second; wires = λ w lt. kept w (ltb-true w n lt) } in
    let read2 : IsRead d.of_wire below_n e = record { low = node 0 Zero source.first; high = node 1 One source.second; wires = λ w lt. own w (ltb-true w n lt) } in
    let parts = and_parts (list_all (λ l. nat_lt l.0 n && reads_below n l.1) net.lines) (list_all (λ r. nat_lt r.q n && (reads_below n r.next && nat_lt r.clock n)) net.registers) well.in_range in
    let many = length-map net.registers (λ r. r.next) in
    let numbered1 : length d1.numbers ≡ length d1.nodes = (let one = ap length first.numbers ∙ length-append s.numbers (job_numbers js) in let two = ap length first.nodes ∙ length-append s.nodes first.rest in let same = source.numbered in let rest = first.as_many in omega arith) in
    record {
      kept = kept;
      unset = λ w lt free. kept w lt ∙ ap Some (known_kept (is_unset net.lines) js s fresh1 w free);
      node = node;
      lines_stand = jobs_stand e (is_unset net.lines) below_n js s source.below source.numbered fresh1 (order_fits n (length s.of_wire) net.lines (starts 0 (line_formulas net)) order (omega arith) parts.0 h.within)
          second.rest (job_numbers ks) nodes1 numbers1 read1;
      next_stand = jobs_stand e below_n below_n ks d1 first.below numbered1 fresh2 (next_fits n (length d1.of_wire) n (next_formulas net) (starts (behind 0 (line_formulas net)) (next_formulas net)) (omega arith) (next_reads net well))
          [] [] (made.nodes ∙ sym (append-nil d.nodes)) (made.numbers ∙ sym (append-nil d.numbers)) read2;
    }
  where
    known_reads : (n : ℕ) (fs : List Formula) → AllByRecursion (λ f. IsTrue (reads_below n f)) fs → AllByRecursion (λ f. ReadsKnown (λ v. nat_lt v n) f) fs
    known_reads n [] h = tt
    known_reads n (f ∷ fs) h = ((λ w s. lt-ltb w n (reads_are_below n f h.0 w s)), known_reads n fs h.1)

pub made_graph : (net : PlainNet) (order : List ℕ) (g : Graph) → WellFormed net → IsOrder net.lines order → IsMade net (net_drawing net order) g → IsGraphOf net g
made_graph net order g well h made =
    let n = length net.wires in
    let s = source_drawing net in
    let d = net_drawing net order in
    let source = sourced net well in
    let sound = net_is_sound net order well h in
    let lay = laid net order g well h made in
    let bits = input_bits net in
    let outs = output_bits net in
    let wires = sound.wires in
    let eqs = line_formulas net in
    let nexts = next_formulas net in
    let eqs_long : length eqs ≡ length net.lines = length-map net.lines (λ l. l.1) in
    let nexts_long : length nexts ≡ length net.registers = length-map net.registers (λ r. r.next) in
    let outs_fit = some_bits n (λ p. not (is_input p)) net.ports (ports_bits net well) in
    let images = map (λ w. get_or d.of_wire w 0) outs in
    let images_long : length images ≡ length outs = length-map outs (λ w. get_or d.of_wire w 0) in
    let wires_kept : length (take n d.of_wire) ≡ n = length-take n d.of_wire ∙ omega arith in
    record {
      wires = ap length made.of_wire ∙ wires_kept;
      inputs = λ i w at. (
          let lt = all_of_one (λ v. v < n) bits i w (inputs_are_wires net well) at in
          let one = one_way net well w lt in
          let some = count_some (λ v. v == w) bits (any_at (λ v. v == w) bits i w at (eq-eqb w w refl)) in
          (2 + i, lay.unset w lt (no_line net.lines w (omega arith)) ∙ ap Some (source.of_input i w at), lay.node (2 + i) (Input i) (source.input i (slice_get_within bits i w at))));
      registers = λ i r at. (
          let qs = map (λ x. x.q) net.registers in
          let at' : slice_get qs i ≡ Some r.q = get_image (λ x. x.q) net.registers i r at in
          let w = r.q in
          let lt = all_of_one (λ v. v < n) qs i w (all_qs net well) at' in
          let one = one_way net well w lt in
          let some = count_some (λ v. v == w) qs (any_at (λ v. v == w) qs i w at' (eq-eqb w w refl)) in
          let same = times_outputs w net.registers in
          (2 + length bits + i, lay.unset w lt (no_line net.lines w (omega arith)) ∙ ap Some (source.of_q i w at'), lay.node (2 + length bits + i) (Q i) (source.q i (slice_get_within net.registers i r at))));
      clock = each_wire (λ w. HasNode (drawing_of g) w Zero) (clock_bits net) (λ w some.
          let lt = among n (clock_bits net) w (clock_is_wire net well) some in
          let one = one_way net well w lt in
          (0, lay.unset w lt (no_line net.lines w (omega arith)) ∙ ap Some (source.of_clock w some), lay.node 0 Zero source.first));
      equations = λ i l at. (
          let lt = slice_get_within net.lines i l at in
          let is : line_at net.lines i ≡ l = get_or_from_slice_get net.lines i l _ at in
          let k = get_or (line_drawing net order).of_wire l.0 0 in
          let fits = all_pass_at (λ x. nat_lt x.0 n && reads_below n x.1) net.lines i (0, f_zero) lt (and_parts (list_all (λ x. nat_lt x.0 n && reads_below n x.1) net.lines) (list_all (λ r. nat_lt r.q n && (reads_below n r.next && nat_lt r.clock n)) net.registers) well.in_range).0 in
          let below : l.0 < n = subst (λ (x : Line). x.0 < n) is (ltb-true (line_at net.lines i).0 n (and_parts (nat_lt (line_at net.lines i).0 n) (reads_below n (line_at net.lines i).1) fits).0) in
          let stood = all_images (λ (j : Job). Stands (drawing_of g) j.1 j.0.1 (get_or (line_drawing net order).of_wire j.0.0 0)) (λ p. (line_at net.lines p, get_or (starts 0 eqs) p 0)) order i lay.lines_stand (h.whole i lt) in
          let number : get_or (starts 0 eqs) i 0 ≡ first_number net i =
          get_or_from_slice_get (starts 0 eqs) i _ 0 (starts_at 0 eqs i (omega arith)) ∙ (zero-add (total (take i eqs)) ∙ ap total (sym (take-append-le i eqs nexts (omega arith)))) in
          (k, lay.kept l.0 below, subst (λ m. Stands (drawing_of g) m l.1 k) number (subst (λ (x : Line). Stands (drawing_of g) (get_or (starts 0 eqs) i 0) x.1 (get_or (line_drawing net order).of_wire x.0 0)) is stood)));
      sinks = ap length made.sinks ∙ (length-append images (drop n d.of_wire) ∙ (let rest = length-drop n d.of_wire in omega arith));
      outputs = λ i w at. (
          let lt = all_of_one (λ v. v < n) outs i w outs_fit at in
          ap (λ ks. slice_get ks i) made.sinks
          ∙ (get_front images (drop n d.of_wire) i (get_or d.of_wire w 0) (get_image (λ v. get_or d.of_wire v 0) outs i w at)
          ∙ sym (ap (λ ws. slice_get ws w) made.of_wire ∙ get_taken d.of_wire n w lt (omega arith))));
      next = λ i r at. (
          let k = get_or d.of_wire (n + i) 0 in
          let lt = slice_get_within net.registers i r at in
          let sink : slice_get g.sinks (length outs + i) ≡ Some k =
          ap (λ ks. slice_get ks (length outs + i)) made.sinks
          ∙ (ap (λ m. slice_get (images ++ drop n d.of_wire) (m + i)) (sym images_long) ∙ (get_back images (drop n d.of_wire) i ∙ (get_dropped d.of_wire n i ∙ slice_get-get_or d.of_wire (n + i) 0 (omega arith)))) in
          let start = behind 0 eqs in
          let number : start + total (take i nexts) ≡ first_number net (length net.lines + i) = (
          let base = behind_total 0 eqs in
          let split : take (length net.lines + i) (eqs ++ nexts) ≡ eqs ++ take i nexts = ap (λ m. take (m + i) (eqs ++ nexts)) (sym eqs_long) ∙ take-append-add eqs nexts i in
          let summed : first_number net (length net.lines + i) ≡ total eqs + total (take i nexts) = ap total split ∙ sum_by-append operators eqs (take i nexts) in
          omega arith) in
          let stood = next_at (λ (j : Job). Stands (drawing_of g) j.1 j.0.1 (get_or d.of_wire j.0.0 0)) n nexts (starts start nexts) i r.next (start + total (take i nexts)) lay.next_stand
          (get_image (λ x. x.next) net.registers i r at) (starts_at start nexts i (omega arith)) in
          (k, sink, subst (λ m. Stands (drawing_of g) m r.next k) number stood));
      operator_nodes = ap (count_by is_operator) made.nodes ∙ sound.operator_nodes;
      other_numbers = λ k x at other. ap (λ ms. slice_get ms k) made.numbers ∙ sound.other_numbers k x (ap (λ ns. slice_get ns k) (sym made.nodes) ∙ at) other;
      input_nodes = λ k i at. sound.input_nodes k i (ap (λ ns. slice_get ns k) (sym made.nodes) ∙ at);
      register_nodes = λ k i at. sound.register_nodes k i (ap (λ ns. slice_get ns k) (sym made.nodes) ∙ at);
    }
