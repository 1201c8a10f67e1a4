-- A masked net that is a pipeline computes the original.
use Rattle.std.proofs.Common.{◌≡◌, ◌<◌, ◌+◌, ◌*◌, ◌++◌, ℕ, zero, suc, Bool, true, false, not, cond, List, [], ◌∷◌, map, filter, length, length-append, flat_map, slice_get, Some, IsTrue, nat_lt, refl, sym, ap, ap₂, ◌∙◌, subst, arith, inl, inr}
use Rattle.std.proofs.lemmas.Bool.{cases_Bool, both_ways}
use Rattle.std.proofs.lemmas.List.{length-map}
use Rattle.agm_net.specs.Plain.{PlainNet, is_in, is_input}
use Rattle.agm_net.specs.Loop.{HasNoLoop}
use Rattle.agm_net.specs.Trace.{Row, row_at, bit_at, IsTrace}
use Rattle.agm_net.specs.WellFormed.{WellFormed}
use Rattle.agm_net.specs.declared.mark.Mark.{Mark}
use Rattle.agm_net.specs.declared.port.Way.TheVariants.{Output}
use Rattle.agm_net.specs.declared.port.Port.{Port}
use Rattle.logic_graph.specs.Settled.{bit_of}
use Rattle.logic_graph.specs.GraphOf.{IsGraphOf, output_bits}
use Rattle.agm_net.specs.Loop.{HasNoLoop}
use Rattle.logic_graph.specs.declared.graphs.Graph.{Graph}
use Rattle.share_wiring.specs.Recombine.{masked_value}
use Rattle.share_wiring.specs.Same.{TellsSecrets, Same}
use Rattle.share_wiring.specs.Schedule.{Stream, stream_at, load_cycles, IsInputCycle, reading_cycle, chosen, Drives}
use Rattle.share_wiring.specs.Shape.{Shape}
use Rattle.share_wiring.specs.declared.report.Report.{Report}
use Rattle.share_wiring.specs.declared.report.Balance.{Balance}
use Rattle.share_wiring.specs.declared.report.Balance.TheVariants.{Pipe}
use Rattle.share_wiring.proofs.Lists.{map_flat_map}
use Rattle.pipeline_balance.specs.Machines.{Machine}
use Rattle.pipeline_balance.specs.Signals.{Signal}
use Rattle.pipeline_balance.specs.Pipelines.{IsPipeline, IsDriven, input_cycle}
use Rattle.pipeline_balance.specs.Originals.{IsMachineOf}
use Rattle.pipeline_balance.specs.Masked.{merged, initial_values, output_values, signals_of, IsPipelined, HasWidths, IsPipeReport}
use Rattle.pipeline_balance.proofs.Solving.{outputs_right}
use Rattle.pipeline_balance.proofs.Originals.{inputs_in, states_in, values_in, trace_runs, trace_outputs}

-- ---- rows

-- the values of public and of secret registers, put together again
merged_chosen : (ks : List Bool) (v : Row) → length ks ≡ length v → merged ks (chosen false ks v) (chosen true ks v) ≡ v
merged_chosen [] [] long = refl
merged_chosen [] (x ∷ v) long = absurd (omega arith)
merged_chosen (k ∷ ks) [] long = absurd (omega arith)
merged_chosen (true ∷ ks) (x ∷ v) long = ap (λ row. x ∷ row) (merged_chosen ks v (omega arith))
merged_chosen (false ∷ ks) (x ∷ v) long = ap (λ row. x ∷ row) (merged_chosen ks v (omega arith))

-- rows of one length with the same bits
rows_same : (xs ys : Row) → length xs ≡ length ys → ((o : ℕ) → o < length ys → bit_of xs o ≡ bit_of ys o) → xs ≡ ys
rows_same [] [] long same = refl
rows_same [] (y ∷ ys) long same = absurd (omega arith)
rows_same (x ∷ xs) [] long same = absurd (omega arith)
rows_same (x ∷ xs) (y ∷ ys) long same = ap₂ (λ b bs. b ∷ bs) (same 0 (omega arith)) (rows_same xs ys (omega arith) (λ o lt. same (suc o) (omega arith)))

-- joined rows are equal piece by piece
apart : (xs ys us vs : Row) → length xs ≡ length ys → xs ++ us ≡ ys ++ vs → (xs ≡ ys) × (us ≡ vs)
apart [] [] us vs long same = (refl, same)
apart [] (y ∷ ys) us vs long same = absurd (omega arith)
apart (x ∷ xs) [] us vs long same = absurd (omega arith)
apart (x ∷ xs) (y ∷ ys) us vs long same =
    let head : x ≡ y = cc in
    let tail : xs ++ us ≡ ys ++ vs = cc in
    let rest = apart xs ys us vs (omega arith) tail in
    (ap₂ (λ b ws. b ∷ ws) head rest.0, rest.1)

module _ (f g : Port → Row) (test : Port → Bool) where
  widths : (ps : List Port) → ((n : ℕ) (p : Port) → slice_get ps n ≡ Some p → IsTrue (test p) → length (f p) ≡ length (g p)) → length (flat_map f (filter test ps)) ≡ length (flat_map g (filter test ps))
  widths [] wide = refl
  widths (p ∷ ps) wide =
      let rest = widths ps (λ n. wide (suc n)) in
      elim (cases_Bool (test p)) [
        | inl kept ↦ rw kept (length-append (f p) (flat_map f (filter test ps)) ∙ (ap₂ (λ a b. a + b) (wide 0 p refl kept) rest ∙ sym (length-append (g p) (flat_map g (filter test ps)))))
        | inr left ↦ rw left rest
      ]

  split : (q : Port) (qs : List Port) → (IsTrue (test q) → length (f q) ≡ length (g q)) → flat_map f (filter test (q ∷ qs)) ≡ flat_map g (filter test (q ∷ qs))
      → (IsTrue (test q) → f q ≡ g q) × (flat_map f (filter test qs) ≡ flat_map g (filter test qs))
  split q qs wide same =
      elim (cases_Bool (test q)) [
        | inl kept ↦ (
            let here : f q ++ flat_map f (filter test qs) ≡ g q ++ flat_map g (filter test qs) =
            subst (λ b. flat_map f (cond b (q ∷ filter test qs) (filter test qs)) ≡ flat_map g (cond b (q ∷ filter test qs) (filter test qs))) kept same in
            let parts = apart (f q) (g q) (flat_map f (filter test qs)) (flat_map g (filter test qs)) (wide kept) here in
            (λ passes. parts.0, parts.1))
        | inr left ↦ (
            let there : flat_map f (filter test qs) ≡ flat_map g (filter test qs) =
            subst (λ b. flat_map f (cond b (q ∷ filter test qs) (filter test qs)) ≡ flat_map g (cond b (q ∷ filter test qs) (filter test qs))) left same in
            (λ passes. absurd (both_ways (test q) left passes), there))
      ]

  each_same : (ps : List Port) → ((n : ℕ) (p : Port) → slice_get ps n ≡ Some p → IsTrue (test p) → length (f p) ≡ length (g p)) → flat_map f (filter test ps) ≡ flat_map g (filter test ps)
      → (n : ℕ) (p : Port) → slice_get ps n ≡ Some p → IsTrue (test p) → f p ≡ g p
  each_same [] wide same n p at passes = absurd (cc)
  each_same (q ∷ qs) wide same zero p at passes =
      let is : q ≡ p = cc in
      let parts = split q qs (wide 0 q refl) same in
      subst (λ r. f r ≡ g r) is (parts.0 (ap test is ∙ passes))
  each_same (q ∷ qs) wide same (suc n) p at passes =
      let parts = split q qs (wide 0 q refl) same in
      each_same qs (λ i. wide (suc i)) parts.1 n p at passes

-- ---- cycles

load_is : (balance : Balance) (period depth : ℕ) → balance ≡ Pipe → period ≡ depth + 1 → load_cycles balance period ≡ depth + 1
load_is balance period depth b p = ap (λ x. load_cycles x period) b ∙ p

fed_in : (balance : Balance) (period depth s k : ℕ) → balance ≡ Pipe → period ≡ depth + 1 → IsInputCycle balance period s k (input_cycle depth s k)
fed_in balance period depth s k b p = subst (λ x. IsInputCycle x period s k (input_cycle depth s k)) (sym b) (ap (λ x. 1 + s + x * k) (sym p))

read_in : (balance : Balance) (period latency depth s k : ℕ) → balance ≡ Pipe → period ≡ depth + 1 → latency ≡ depth → reading_cycle balance period latency s k ≡ input_cycle depth s k + depth
read_in balance period latency depth s k b p l = ap (λ x. reading_cycle x period latency s k) b ∙ ap₂ (λ x y. 1 + s + x * k + y) p l

module _ (original : PlainNet) (marks : List Mark) (graph : Graph) (m : Machine) (report : Report) (net : PlainNet) (level : ℕ → ℕ) (depth : ℕ)
    (well : WellFormed original) (graph_of : IsGraphOf original graph) (none : HasNoLoop original)
    (of : IsMachineOf original graph m)
    (pipe : IsPipeReport report depth) (widths_right : HasWidths original report net) where
  module _ (secrets : List Bool) (tells : TellsSecrets original marks secrets) (table : List Row) (streams : List Stream) (steps : ℕ)
      (drives : Drives original secrets report net streams steps table) (s : ℕ) (one_of : s < length streams)
      (first : List Row) (trace : IsTrace original (stream_at streams s).initial (stream_at streams s).steps first) where
    as_long : length first ≡ steps
    as_long = trace.as_long ∙ drives.as_long s one_of

    initials : 0 < length first → initial_values secrets report net (bit_at table s) ≡ (stream_at streams s).initial
    initials some =
        let power = trace.power_given some in
        let long : length secrets ≡ length (stream_at streams s).initial = tells.one_each ∙ (sym (length-map original.registers (λ r. bit_at first 0 r.q)) ∙ ap length power) in
        ap₂ (merged secrets) (drives.public_state s one_of) (drives.secret_state s one_of) ∙ merged_chosen secrets (stream_at streams s).initial long

    driven : (node state : ℕ → Signal)
        → IsDriven m depth (length table) (signals_of original secrets report net (bit_at table) node state) s (length first) (bit_of (stream_at streams s).initial) (λ k. bit_of (row_at (stream_at streams s).steps k))
    driven node state = record {
      one_of = subst (λ n. s < n) (drives.as_many ∙ pipe.streams_are) one_of;
      load = λ t lt. ap (λ row. bit_of row 0) (drives.load t lt) ∙ ap (nat_lt t) (load_is report.balance report.period depth pipe.balance_is pipe.period_is);
      starts = λ r some known. ap (λ row. bit_of row r) (initials some);
      feeds = λ k i lt known. ap (λ row. bit_of row i) (drives.inputs s k (input_cycle depth s k) one_of (subst (λ n. k < n) as_long lt) (fed_in report.balance report.period depth s k pipe.balance_is pipe.period_is));
      is_read = λ k lt. subst (λ t. t < length table) (read_in report.balance report.period report.latency depth s k pipe.balance_is pipe.period_is pipe.latency_is) (drives.is_read s k one_of (subst (λ n. k < n) as_long lt));
    }

    outputs_are : (node state : ℕ → Signal) → IsPipeline m level depth (length table) (signals_of original secrets report net (bit_at table) node state)
        → (k : ℕ) → k < length first → output_values original report net (bit_at table (input_cycle depth s k + depth)) ≡ map (bit_at first k) (output_bits original)
    outputs_are node state pipeline k lt =
        let count = of.outputs in
        rows_same (output_values original report net (bit_at table (input_cycle depth s k + depth))) (map (bit_at first k) (output_bits original))
        (widths (λ p. masked_value net report p.name (bit_at table (input_cycle depth s k + depth))) (λ p. map (bit_at first k) p.bits) (λ p. not (is_input p)) original.ports
        (λ n p at out. widths_right n p (bit_at table (input_cycle depth s k + depth)) at out ∙ sym (length-map p.bits (bit_at first k)))
        ∙ ap length (sym (map_flat_map (bit_at first k) (λ p. p.bits) (filter (λ p. not (is_input p)) original.ports))))
        (λ o lo. (
        let known : o < length (output_bits original) = subst (λ n. o < n) (length-map (output_bits original) (bit_at first k)) lo in
        outputs_right m level depth (length table) (signals_of original secrets report net (bit_at table) node state) s (length first) (bit_of (stream_at streams s).initial)
        (inputs_in original graph m well none graph_of of (stream_at streams s).initial (stream_at streams s).steps first trace)
        (states_in original graph m well none graph_of of (stream_at streams s).initial (stream_at streams s).steps first trace)
        (values_in original graph m well none graph_of of (stream_at streams s).initial (stream_at streams s).steps first trace)
        of.machine pipeline (driven node state)
        (trace_runs original graph m well none graph_of of (stream_at streams s).initial (stream_at streams s).steps first trace) k lt o (omega arith)
        ∙ trace_outputs original graph m well none graph_of of (stream_at streams s).initial (stream_at streams s).steps first trace k o lt known))

    port_is : (node state : ℕ → Signal) → IsPipeline m level depth (length table) (signals_of original secrets report net (bit_at table) node state)
        → (k : ℕ) → k < length first → (n : ℕ) (p : Port) → slice_get original.ports n ≡ Some p → p.way ≡ Output
        → masked_value net report p.name (bit_at table (reading_cycle report.balance report.period report.latency s k)) ≡ map (bit_at first k) p.bits
    port_is node state pipeline k lt n p at out =
        ap (λ t. masked_value net report p.name (bit_at table t)) (read_in report.balance report.period report.latency depth s k pipe.balance_is pipe.period_is pipe.latency_is)
        ∙ each_same (λ q. masked_value net report q.name (bit_at table (input_cycle depth s k + depth))) (λ q. map (bit_at first k) q.bits) (λ q. not (is_input q)) original.ports
        (λ i q here passes. widths_right i q (bit_at table (input_cycle depth s k + depth)) here passes ∙ sym (length-map q.bits (bit_at first k)))
        (outputs_are node state pipeline k lt ∙ map_flat_map (bit_at first k) (λ q. q.bits) (filter (λ q. not (is_input q)) original.ports))
        n p at (ap (λ way. not (is_in way)) out)

  pub is_same : Shape original report net → HasNoLoop net → ((secrets : List Bool) → TellsSecrets original marks secrets → IsPipelined original secrets report net m level depth) → Same original marks report net
  is_same shape no_loop pipelined = record {
    shape = shape;
    no_loop = no_loop;
    outputs = λ power tape table secrets streams steps trace tells drives s k first in_streams in_steps original_trace n p at out. (
        let made = pipelined secrets tells power tape table trace in
        port_is secrets tells table streams steps drives s in_streams first original_trace made.0 made.1 made.2 k
        (subst (λ n. k < n) (sym (as_long secrets tells table streams steps drives s in_streams first original_trace)) in_steps) n p at out);
  }
