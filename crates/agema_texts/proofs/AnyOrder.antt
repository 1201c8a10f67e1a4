-- The runs of two nets that are the same up to the numbers of their wires, and what is read of their ports.
use Rattle.std.proofs.Common.{◌≡◌, ◌<◌, ◌≤◌, ◌&&◌, ◌||◌, ◌++◌, ℕ, zero, suc, Bool, true, false, not, cond, List, [], ◌∷◌, length, map, filter, get_or, slice_index_or, bytes_eq, refl, sym, ap, ap₂, subst, ◌∙◌, inl, inr, arith, Some}
use Rattle.std.specs.List.{flat_map, enumerate_from, range_with_len}
use Rattle.std.proofs.lemmas.Bool.{cases_lt}
use Rattle.std.proofs.lemmas.List.{get_or_default, get_or_past, length-map, length-replicate}
use Rattle.std.proofs.lemmas.List.Elements.{recursion_from_All}
use Rattle.agm_net.specs.Formula.{Formula, f_zero, f_one, f_wire, f_not, f_and, f_or, f_xor, f_mux, value, xor}
use Rattle.agm_net.specs.Loop.{HasNoLoop}
use Rattle.agm_net.specs.Plain.{PlainNet, Stored, input_bits}
use Rattle.agm_net.specs.Renumbered.{renumbered, renumbered_port, renumbered_register, Renumbered}
use Rattle.agm_net.specs.Role.{share_name}
use Rattle.agm_net.specs.Run.{Driver, d_input, d_clock, d_equation, d_register, d_nothing, driver, asked, settled, bit_in, run_of}
use Rattle.agm_net.specs.Trace.{Row, row_at, bit_at, IsTrace}
use Rattle.agm_net.specs.WellFormed.{WellFormed}
use Rattle.agm_net.specs.declared.port.Port.{Port}
use Rattle.agm_net.proofs.Traces.{run_is_trace, trace_bits, trace_is_run}
use Rattle.logic_graph.specs.Traces.{HasOneTrace}
use Rattle.random_draws.specs.Draws.{random_rows}
use Rattle.share_wiring.specs.Recombine.{xor_rows, recombined_rows, port_value, is_shared, masked_value}
use Rattle.share_wiring.specs.Schedule.{reading_cycle}
use Rattle.share_wiring.specs.Shape.{indices}
use Rattle.share_wiring.specs.declared.report.Report.{Report}
use Rattle.shared_tape.specs.Driven.{whole_rows}
use Rattle.shared_tape.specs.Filled.{zeros}
use Rattle.side_by_side.specs.Beside.{AreColumns}
use Rattle.side_by_side.specs.Pairs.{port_rows, pair_of, numbered_outputs, step_pairs, stream_pairs}
use Rattle.side_by_side.specs.declared.pairs.Pair.{Pair}
use Rattle.stimulus.specs.declared.stimuli.Stream.{Stream}
use Rattle.whole_networks.proofs.Renumbering.{renumbered_driver, driver_there, wire_there, wire_back, inputs_are}

-- lists that are the same item by item
mapped_same : {X Y : Type 0} (f g : X → Y) (xs : List X) → ((x : X) → f x ≡ g x) → map f xs ≡ map g xs
mapped_same f g [] same = refl
mapped_same f g (x ∷ xs) same = ap₂ (λ y ys. y ∷ ys) (same x) (mapped_same f g xs same)

joined_same : {X Y : Type 0} (f g : X → List Y) (xs : List X) → ((x : X) → f x ≡ g x) → flat_map f xs ≡ flat_map g xs
joined_same f g [] same = refl
joined_same f g (x ∷ xs) same = ap₂ (λ ys zs. ys ++ zs) (same x) (joined_same f g xs same)

recombined_same : (d : ℕ) (f g : ℕ → List Bool) → ((i : ℕ) → f i ≡ g i) → recombined_rows d f ≡ recombined_rows d g
recombined_same zero f g same = same 0
recombined_same (suc d) f g same = ap₂ xor_rows (recombined_same d f g same) (same (suc d))

-- bits of the other net, where b has those of the net's wires by their numbers there
module _ (there : ℕ → ℕ) (b c : ℕ → Bool) (same : (w : ℕ) → b (there w) ≡ c w) where
  value_there : (f : Formula) → value b (renumbered there f) ≡ value c f
  value_there f_zero = refl
  value_there f_one = refl
  value_there (f_wire w) = same w
  value_there (f_not x) = ap not (value_there x)
  value_there (f_and x y) = ap₂ (λ p q. p && q) (value_there x) (value_there y)
  value_there (f_or x y) = ap₂ (λ p q. p || q) (value_there x) (value_there y)
  value_there (f_xor x y) = ap₂ xor (value_there x) (value_there y)
  value_there (f_mux s x y) = let p = value_there s in let q = value_there x in let r = value_there y in cc

  bits_there : (ws : List ℕ) → map b (map there ws) ≡ map c ws
  bits_there [] = refl
  bits_there (w ∷ ws) = ap₂ (λ x xs. x ∷ xs) (same w) (bits_there ws)

  ports_there : (name : List ℕ) (ps : List Port)
      → flat_map (λ p. map b p.bits) (filter (λ p. bytes_eq p.name name) (map (renumbered_port there) ps)) ≡ flat_map (λ p. map c p.bits) (filter (λ p. bytes_eq p.name name) ps)
  ports_there name [] = refl
  ports_there name (p ∷ ps) =
      let rest = ports_there name ps in
      elim (bytes_eq p.name name) as (λ t. flat_map (λ q. map b q.bits) (cond t (renumbered_port there p ∷ filter (λ q. bytes_eq q.name name) (map (renumbered_port there) ps)) (filter (λ q. bytes_eq q.name name) (map (renumbered_port there) ps)))
      ≡ flat_map (λ q. map c q.bits) (cond t (p ∷ filter (λ q. bytes_eq q.name name) ps) (filter (λ q. bytes_eq q.name name) ps))) [
        | true ↦ ap₂ (λ xs ys. xs ++ ys) (bits_there p.bits) rest
        | false ↦ rest
      ]

asked_there : (there : ℕ → ℕ) (d : Driver) (power : Row) (tape : List Row) (p q b c : ℕ → Bool) → ((w : ℕ) → p (there w) ≡ q w) → ((w : ℕ) → b (there w) ≡ c w) → (t : ℕ)
    → asked (renumbered_driver there d) power tape p b t ≡ asked d power tape q c t
asked_there there (d_input n) power tape p q b c before now t = refl
asked_there there d_clock power tape p q b c before now t = refl
asked_there there (d_equation f) power tape p q b c before now t = value_there there b c now f
asked_there there (d_register n next) power tape p q b c before now zero = refl
asked_there there (d_register n next) power tape p q b c before now (suc t) = value_there there p q before next
asked_there there d_nothing power tape p q b c before now t = refl

module _ (net other : PlainNet) (r : Renumbered net other) (power : Row) (tape : List Row) where
  settled_there : (p q : ℕ → Bool) → ((w : ℕ) → p (r.there w) ≡ q w) → (t n w : ℕ) → settled other power tape p t n (r.there w) ≡ settled net power tape q t n w
  settled_there p q same t zero w = refl
  settled_there p q same t (suc n) w =
      ap (λ (d : Driver). asked d power tape p (settled other power tape p t n) t) (driver_there net other r w)
      ∙ asked_there r.there (driver net w) power tape p q (settled other power tape p t n) (settled net power tape q t n) same (λ v. settled_there p q same t n v) t

  run_there : (t w : ℕ) → bit_in other power tape t (r.there w) ≡ bit_in net power tape t w
  run_there zero w =
      ap (λ n. settled other power tape (λ v. false) zero n (r.there w)) r.as_many ∙ settled_there (λ v. false) (λ v. false) (λ v. refl) zero (length net.wires) w
  run_there (suc t) w =
      ap (λ n. settled other power tape (bit_in other power tape t) (suc t) n (r.there w)) r.as_many
      ∙ settled_there (bit_in other power tape t) (bit_in net power tape t) (λ v. run_there t v) (suc t) (length net.wires) w

  module _ (well : WellFormed net) (none : HasNoLoop net) (other_well : WellFormed other) (other_none : HasNoLoop other) (table second : List Row) (first : IsTrace net power tape table) (traced : IsTrace other power tape second) where
    -- no bit outside of a row
    outside : (t w : ℕ) → t < length tape → length net.wires ≤ w → bit_at second t (r.there w) ≡ bit_at table t w
    outside t w lt le =
        let long = first.as_long in
        let tall = traced.as_long in
        let wide = first.as_wide t (omega (arith, lt, long)) in
        let broad = traced.as_wide t (omega (arith, lt, tall)) in
        elim (cases_lt (r.there w) (length other.wires)) [
          | inl small ↦ (let inside = wire_back net other r w small in absurd (omega (arith, inside, le)))
          | inr far ↦ get_or_past (row_at second t) (r.there w) false (omega (arith, broad, far)) ∙ sym (get_or_past (row_at table t) w false (omega (arith, wide, le)))
        ]

    -- each wire has the bits of its number in the other net
    same_bits : (t w : ℕ) → bit_at second t (r.there w) ≡ bit_at table t w
    same_bits t w =
        let long = first.as_long in
        let tall = traced.as_long in
        elim (cases_lt t (length tape)) [
          | inl lt ↦ elim (cases_lt w (length net.wires)) [
            | inl inside ↦ trace_bits other other_well other_none power tape second traced t (r.there w) (omega (arith, lt, tall)) (wire_there net other r w inside)
                ∙ (run_there t w ∙ sym (trace_bits net well none power tape table first t w (omega (arith, lt, long)) inside))
            | inr le ↦ outside t w lt le
          ]
          | inr le ↦ ap (λ row. slice_index_or row (r.there w) false) (get_or_past second t [] (omega (arith, le, tall)))
              ∙ sym (ap (λ row. slice_index_or row w false) (get_or_past table t [] (omega (arith, le, long))))
        ]

    value_same : (name : List ℕ) (t : ℕ) → port_value other name (bit_at second t) ≡ port_value net name (bit_at table t)
    value_same name t =
        ap (λ ps. flat_map (λ p. map (bit_at second t) p.bits) (filter (λ p. bytes_eq p.name name) ps)) r.same_ports
        ∙ ports_there r.there (bit_at second t) (bit_at table t) (same_bits t) name net.ports

    masked_same : (report : Report) (name : List ℕ) (t : ℕ) → masked_value other report name (bit_at second t) ≡ masked_value net report name (bit_at table t)
    masked_same report name t =
        ap₂ (λ xs ys. cond (is_shared report name) xs ys)
        (recombined_same report.order (λ i. port_value other (share_name i name) (bit_at second t)) (λ i. port_value net (share_name i name) (bit_at table t)) (λ i. value_same (share_name i name) t))
        (value_same name t)

    shares_same : (report : Report) (name : List ℕ) (t : ℕ) → port_rows other report name (bit_at second t) ≡ port_rows net report name (bit_at table t)
    shares_same report name t =
        ap₂ (λ (xs : List Row) (y : Row). cond (is_shared report name) xs (y ∷ []))
        (mapped_same (λ i. port_value other (share_name i name) (bit_at second t)) (λ i. port_value net (share_name i name) (bit_at table t)) (indices report.order) (λ i. value_same (share_name i name) t))
        (value_same name t)

    pair_same : (report : Report) (s k : ℕ) (own : ℕ → Bool) (t : ℕ) (item : ℕ × Port) → pair_of report other s k own (bit_at second t) item ≡ pair_of report net s k own (bit_at table t) item
    pair_same report s k own t item =
        let P : Row → List Row → Pair = λ m rows. record { stream = s; step = k; port = item.0; plain = map own item.1.bits; masked = m; shares = rows } in
        ap₂ P (masked_same report item.1.name t) (shares_same report item.1.name t)

    pairs_same : (original : PlainNet) (report : Report) (item : ℕ × List Row) → stream_pairs original report other second item ≡ stream_pairs original report net table item
    pairs_same original report item =
        joined_same (step_pairs original report other second item.0 item.1) (step_pairs original report net table item.0 item.1) (range_with_len 0 (length item.1))
        (λ k. (let t = reading_cycle report.balance report.period report.latency item.0 k in
        mapped_same (pair_of report other item.0 k (bit_at item.1 k) (bit_at second t)) (pair_of report net item.0 k (bit_at item.1 k) (bit_at table t)) (numbered_outputs original.ports)
        (λ p. pair_same report item.0 k (bit_at item.1 k) t p)))

-- a net without a loop has one trace
one_trace_of : (net : PlainNet) → WellFormed net → HasNoLoop net → HasOneTrace net
one_trace_of net well none = λ power tape powered wide. (
  run_of net power tape,
  run_is_trace net well none power tape (record { powered = powered; as_wide = wide }),
  trace_is_run net well none power tape,
)

-- what a trace is driven with has a bit for each input
tape_wide : (net : PlainNet) (power : Row) (tape table : List Row) → IsTrace net power tape table → (n : ℕ) → length (input_bits net) ≡ n → (k : ℕ) (d : Row) → k < length tape → length (get_or tape k d) ≡ n
tape_wide net power tape table trace n count k d lt =
    let long = trace.as_long in
    let given = trace.inputs_given k (omega (arith, lt, long)) in
    ap (λ (row : Row). length row) (get_or_default tape k d [] lt ∙ sym given) ∙ (length-map (input_bits net) (bit_at table k) ∙ count)

-- The columns of a net are those of a net that is the same up to the numbers of its wires.
pub columns_in_any_order : (original : PlainNet) (report : Report) (net other : PlainNet) (streams : List Stream) (seed : List ℕ) (pairs : List Pair) → WellFormed net → HasNoLoop net → WellFormed other → HasNoLoop other → Renumbered net other
    → AreColumns original report net streams seed pairs → AreColumns original report other streams seed pairs
columns_in_any_order original report net other streams seed pairs well none other_well other_none r h =
    let tape = whole_rows (random_rows seed (length h.rows) report.random) h.rows in
    let registers : length net.registers ≡ length other.registers = sym (ap (λ (rs : List Stored). length rs) r.same_registers ∙ length-map net.registers (renumbered_register r.there)) in
    let power = zeros (length other.registers) in
    let first : IsTrace net power tape h.table = subst (λ n. IsTrace net (zeros n) tape h.table) registers h.runs.trace in
    let inputs : length (input_bits net) ≡ length (input_bits other) = sym (ap (λ (ws : List ℕ). length ws) (inputs_are net other r) ∙ length-map (input_bits net) r.there) in
    let one = one_trace_of other other_well other_none in
    let run = one power tape (length-replicate (length other.registers) false) (recursion_from_All (λ (row : Row). length row ≡ length (input_bits other)) tape (λ k d lt. tape_wide net power tape h.table first (length (input_bits other)) inputs k d lt)) in
    let second = run.0 in
    record {
      rows = h.rows;
      shared = h.shared;
      table = second;
      runs = record { one_trace = one; trace = run.1 };
      tables = h.tables;
      traces = h.traces;
      pairs_are = h.pairs_are
          ∙ sym (joined_same (stream_pairs original report other second) (stream_pairs original report net h.table) (enumerate_from 0 h.tables)
          (λ item. pairs_same net other r power tape well none other_well other_none h.table second first run.1 original report item));
    }
