-- Traces cut short.
use Rattle.std.proofs.Common.{◌≡◌, ◌<◌, ◌≤◌, ◌+◌, ◌++◌, ◌∷◌, [], ℕ, Bool, false, List, length, length-append, map, take, sym, ap, ap₂, ◌∙◌, subst, arith}
use Rattle.std.specs.Prelude.{slice_index_or}
use Rattle.std.specs.List.{AllByRecursion}
use Rattle.std.proofs.lemmas.List.{length-take-le, get_or-take, take_more}
use Rattle.agm_net.specs.Plain.{PlainNet, input_bits, clock_bits}
use Rattle.agm_net.specs.Trace.{Row, row_at, bit_at, Holds, Steps, IsTrace}
use Rattle.cycle_sim.specs.HasRun.{HasRun}
use Rattle.cycle_sim.specs.declared.sim.Sim.{Sim}
use Rattle.sim_text.specs.Steps.{IsLastRow}

-- the first rows of a trace are a trace of the first rows of its tape
pub first_rows : (net : PlainNet) (power : Row) (tape table : List Row) (n : ℕ) → n ≤ length tape → IsTrace net power tape table → IsTrace net power (take n tape) (take n table)
first_rows net power tape table n le h =
    let long : length table ≡ length tape = h.as_long in
    let cut : length (take n table) ≡ n = length-take-le n table (omega arith) in
    record {
      as_long = cut ∙ sym (length-take-le n tape le);
      as_wide = λ t lt. subst (λ (r : Row). length r ≡ length net.wires) (sym (get_or-take n table t [] (omega arith))) (h.as_wide t (omega arith));
      equations_hold = λ t lt. subst (λ (r : Row). Holds (λ w. slice_index_or r w false) net.lines) (sym (get_or-take n table t [] (omega arith))) (h.equations_hold t (omega arith));
      inputs_given = λ t lt. subst (λ (r : Row). map (λ w. slice_index_or r w false) (input_bits net) ≡ row_at (take n tape) t) (sym (get_or-take n table t [] (omega arith))) (h.inputs_given t (omega arith) ∙ sym (get_or-take n tape t [] (omega arith)));
      clock_is_low = λ t lt. subst (λ (r : Row). AllByRecursion (λ w. slice_index_or r w false ≡ false) (clock_bits net)) (sym (get_or-take n table t [] (omega arith))) (h.clock_is_low t (omega arith));
      power_given = λ lt. subst (λ (r : Row). map (λ s. slice_index_or r s.q false) net.registers ≡ power) (sym (get_or-take n table 0 [] (omega arith))) (h.power_given (omega arith));
      registers_step = λ t lt.
          subst (λ (r : Row). Steps (λ w. slice_index_or r w false) (bit_at (take n table) (t + 1)) net.registers) (sym (get_or-take n table t [] (omega arith)))
          (subst (λ (r : Row). Steps (bit_at table t) (λ w. slice_index_or r w false) net.registers) (sym (get_or-take n table (t + 1) [] (omega arith))) (h.registers_step t (omega arith)));
    }

-- a simulator that has run one step more shows the row of that step
pub row_of_step : (net : PlainNet) (power : Row) (tape table : List Row) (k : ℕ) (row : Row) (sim : Sim) → k < length tape → take (k + 1) tape ≡ take k tape ++ row ∷ []
    → HasRun net power (take k tape ++ row ∷ []) sim → IsTrace net power tape table → IsLastRow net sim (row_at table k)
row_of_step net power tape table k row sim lt more ran trace =
    let long : length table ≡ length tape = trace.as_long in
    record {
      power = power;
      before = take k tape;
      last = row;
      table = take (k + 1) table;
      ran = ran;
      trace = subst (λ ts. IsTrace net power ts (take (k + 1) table)) more (first_rows net power tape table (k + 1) (omega arith) trace);
      row_is = sym (ap (row_at (take (k + 1) table)) (length-take-le k tape (omega arith)) ∙ get_or-take (k + 1) table k [] (omega arith));
    }

-- the row of the last cycle has a bit for each wire
pub wide_row : (net : PlainNet) (sim : Sim) (row : Row) → IsLastRow net sim row → length row ≡ length sim.graph.of_wire
wide_row net sim row h =
    let long : length h.table ≡ length h.before + 1 = h.trace.as_long ∙ length-append h.before (h.last ∷ []) in
    ap length h.row_is ∙ (h.trace.as_wide (length h.before) (omega arith) ∙ sym h.ran.graph_of.wires)

-- one more of its bits
pub value_more : (net : PlainNet) (sim : Sim) (row : Row) (k : ℕ) (bit : Bool) (old new : List Bool) → IsLastRow net sim row → k < length sim.graph.of_wire
    → ((power : Row) (before : List Row) (last : Row) (table : List Row) → HasRun net power (before ++ last ∷ []) sim → IsTrace net power (before ++ last ∷ []) table → bit ≡ bit_at table (length before) k)
    → old ≡ take k row → new ≡ old ++ bit ∷ [] → new ≡ take (k + 1) row
value_more net sim row k bit old new h lt is_bit before more =
    let wide = wide_row net sim row h in
    let same : bit ≡ slice_index_or row k false = is_bit h.power h.before h.last h.table h.ran h.trace ∙ ap (λ (r : Row). slice_index_or r k false) (sym h.row_is) in
    more ∙ (ap₂ (λ (bits : Row) (b : Bool). bits ++ b ∷ []) before same ∙ sym (take_more row k false (omega arith)))
