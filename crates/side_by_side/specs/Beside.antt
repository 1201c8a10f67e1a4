-- Two runs side by side: that of an original, and that of a net with the ports of a masked one.
use Rattle.std.specs.Prelude.{◌≡◌, ◌++◌, ℕ, List, length, map}
use Rattle.std.specs.List.{flat_map, enumerate_from}
use Rattle.agm_net.specs.Plain.{PlainNet}
use Rattle.agm_net.specs.Trace.{Row, IsTrace}
use Rattle.logic_graph.specs.Traces.{HasOneTrace}
use Rattle.random_draws.specs.Draws.{random_rows}
use Rattle.share_wiring.specs.declared.report.Report.{Report}
use Rattle.shared_tape.specs.Driven.{whole_rows}
use Rattle.shared_tape.specs.Filled.{zeros}
use Rattle.shared_tape.specs.SharedTape.{SharedTape}
use Rattle.sim_text.specs.Text.{AreTraces}
use Rattle.stimulus.specs.declared.stimuli.Stream.{Stream}
use Rattle.side_by_side.specs.Pairs.{stream_pairs, bit_in, rows_in}
use Rattle.side_by_side.specs.declared.pairs.Pair.{Pair}
use Rattle.side_by_side.specs.declared.watched.Watched.{Watched}

-- The run of a net from registers at 0, on the rows of a tape with random bits that are drawn from a seed.
pub record RunsOn (net : PlainNet) (random : ℕ) (seed : List ℕ) (rows table : List Row) : Type 0 where
  pub one_trace : HasOneTrace net
  pub trace : IsTrace net (zeros (length net.registers)) (whole_rows (random_rows seed (length rows) random) rows) table

-- The pairs of a stimulus. There is one for each stream, step and output port of the original, in this order. What stands in them for the
-- original is its trace for that stream, and what stands in them for the masked net is the trace of that net, whatever it computes, on
-- the tape for the stimulus with drawn shares and drawn random bits.
pub record AreColumns (original : PlainNet) (report : Report) (net : PlainNet) (streams : List Stream) (seed : List ℕ) (pairs : List Pair) : Type 0 where
  pub rows : List Row
  pub shared : SharedTape original report streams seed rows
  pub table : List Row
  pub runs : RunsOn net report.random seed rows table
  pub tables : List (List Row)
  pub traces : AreTraces original streams tables
  pub pairs_are : pairs ≡ flat_map (stream_pairs original report net table) (enumerate_from 0 tables)

-- ---- how they are made

-- what the rows of a table have for the watched ports
abbrev pub seen_in : List Watched → Row → List (List Row)
seen_in watched row = map (λ w. rows_in (bit_in row) w.shares) watched

-- a run of which the watched ports are kept
pub record HasSeen (net : PlainNet) (random : ℕ) (seed : List ℕ) (rows : List Row) (watched : List Watched) (seen : List (List (List Row))) : Type 0 where
  pub table : List Row
  pub runs : RunsOn net random seed rows table
  pub seen_is : seen ≡ map (seen_in watched) table

-- Pairs have become more by those of a stream.
pub record AddsPairs (original : PlainNet) (report : Report) (net : PlainNet) (table : List Row) (number : ℕ) (stream : Stream) (old new : List Pair) : Type 0 where
  pub first : List Row
  pub trace : IsTrace original stream.initial stream.steps first
  pub pairs_are : new ≡ old ++ stream_pairs original report net table (number, first)

-- the pairs of these streams, in order
pub record ArePairs (original : PlainNet) (report : Report) (net : PlainNet) (table : List Row) (streams : List Stream) (pairs : List Pair) : Type 0 where
  pub tables : List (List Row)
  pub traces : AreTraces original streams tables
  pub pairs_are : pairs ≡ flat_map (stream_pairs original report net table) (enumerate_from 0 tables)
