-- The output ports of an original in a step, with what a masked net has for them.
use Rattle.std.specs.Prelude.{ℕ, Bool, false, not, cond, List, [], ◌∷◌, length, map, filter, slice_index_or}
use Rattle.std.specs.List.{flat_map, range_with_len, enumerate_from}
use Rattle.std.specs.Str.{bytes_eq}
use Rattle.agm_net.specs.Plain.{PlainNet, is_input}
use Rattle.agm_net.specs.Role.{share_name}
use Rattle.agm_net.specs.Trace.{Row, bit_at}
use Rattle.agm_net.specs.declared.port.Port.{Port}
use Rattle.share_wiring.specs.Recombine.{is_shared, port_value, masked_value, xor_rows}
use Rattle.share_wiring.specs.Schedule.{reading_cycle}
use Rattle.share_wiring.specs.Shape.{indices}
use Rattle.share_wiring.specs.declared.report.Report.{Report}
use Rattle.side_by_side.specs.declared.pairs.Pair.{Pair}
use Rattle.side_by_side.specs.declared.watched.Watched.{Watched}

-- the rows of a port's shares 0 to d, or the one row of a public port
abbrev pub port_rows : PlainNet → Report → List ℕ → (ℕ → Bool) → List Row
port_rows net report name bit = cond (is_shared report name) (map (λ i. port_value net (share_name i name) bit) (indices report.order)) (port_value net name bit ∷ [])

-- An output port with its number, in step k of stream s: its value by the bits of the original's wires, and what the masked net has for
-- it by the bits of its own.
abbrev pub pair_of : Report → PlainNet → (s k : ℕ) → (own masked : ℕ → Bool) → ℕ × Port → Pair
pair_of report net s k own masked item = record {
  stream = s;
  step = k;
  port = item.0;
  plain = map own item.1.bits;
  masked = masked_value net report item.1.name masked;
  shares = port_rows net report item.1.name masked;
}

-- the output ports with their numbers among all ports
abbrev pub numbered_outputs : List Port → List (ℕ × Port)
numbered_outputs ports = filter (λ item. not (is_input item.1)) (enumerate_from 0 ports)

-- the pairs of a step: the masked net's outputs are read in the cycle that the schedule has for the step
abbrev pub step_pairs : PlainNet → Report → PlainNet → (table : List Row) → (s : ℕ) → (first : List Row) → ℕ → List Pair
step_pairs original report net table s first k =
    map (pair_of report net s k (bit_at first k) (bit_at table (reading_cycle report.balance report.period report.latency s k))) (numbered_outputs original.ports)

-- the pairs of a stream by the original's trace, step by step
abbrev pub stream_pairs : PlainNet → Report → PlainNet → List Row → ℕ × List Row → List Pair
stream_pairs original report net table item = flat_map (step_pairs original report net table item.0 item.1) (range_with_len 0 (length item.1))

-- ---- how they are made

-- the wires of the ports of a name
abbrev pub wires_named : PlainNet → List ℕ → List ℕ
wires_named net name = flat_map (λ p. p.bits) (filter (λ p. bytes_eq p.name name) net.ports)

-- the wires of a port's shares, or of the public port
abbrev pub share_wires : PlainNet → Report → List ℕ → List (List ℕ)
share_wires net report name = cond (is_shared report name) (map (λ i. wires_named net (share_name i name)) (indices report.order)) (wires_named net name ∷ [])

abbrev pub watched_of : Report → PlainNet → ℕ × Port → Watched
watched_of report net item = record { port = item.0; bits = item.1.bits; shares = share_wires net report item.1.name }

-- a wire's bit in a row, 0 outside
abbrev pub bit_in : Row → ℕ → Bool
bit_in row w = slice_index_or row w false

-- what a row has for the shares of a port
abbrev pub rows_in : (ℕ → Bool) → List (List ℕ) → List Row
rows_in bit shares = map (map bit) shares

-- the rest of rows added to one
abbrev pub added : Row → List Row → Row
added sum [] = sum
added sum (r ∷ rs) = added (xor_rows sum r) rs

-- all rows added, as shares recombine
abbrev pub recombine : List Row → Row
recombine [] = []
recombine (r ∷ rs) = added r rs

abbrev pub pair_by : (s k : ℕ) → (own masked : ℕ → Bool) → Watched → Pair
pair_by s k own masked w = record { stream = s; step = k; port = w.port; plain = map own w.bits; masked = recombine (rows_in masked w.shares); shares = rows_in masked w.shares }
