use Rattle.std.proofs.Common.{◌+◌, ◌*◌, List, length, ap, subst, ◌∙◌}
use Rattle.std.proofs.lemmas.List.{length-map}
use Rattle.std.proofs.lemmas.List.FromFn.{length-map-range_with_len}
use Rattle.agm_net.specs.Plain.{input_bits}
use Rattle.agm_net.specs.Trace.{Row}
use Rattle.agm_net.specs.View.{plain_of}
use Rattle.shared_tape.specs.Cycles.{cycles}
use Rattle.shared_tape.specs.Filled.{filled}
use Rattle.shared_tape.specs.Inputs.{inputs_of}
use Rattle.shared_tape.specs.Rows.{tape_row}
use Rattle.side_by_side.specs.Beside.{seen_in, RunsOn}
use Rattle.side_by_side.proofs.Streams.{one_length, seen_wide}
use Rattle.side_by_side.proofs.Whole.{tape_long}
use Rattle.side_by_side.proofs.sides.columns.Goals as goal

pub pairs_of-requires-clause-long : goal.pairs_of-requires-clause-long
pairs_of-requires-clause-long c = λ steps are. (
    let original = plain_of c.args.net.now in
    let report = c.args.masked.now.report in
    let seed = c.args.seed.now in
    let shared = c.in_ok-tape.ensures in
    let seen = c.in_ok-seen.ensures.seen in
    let many = ap length (c.as_slice-2.ensures ∙ seen.seen_is) ∙ length-map seen.table (seen_in c.as_slice-watched.result.now) in
    let tall = seen.runs.trace.as_long ∙ tape_long seed report.random c.as_slice.result.now in
    let row = tape_row seed report shared.secrets (inputs_of original report) (filled (length original.registers) (length (input_bits original)) report.streams shared.steps c.args.stimulus.now.streams) shared.steps in
    let rows = ap (λ (rs : List Row). length rs) (c.as_slice.ensures ∙ shared.rows_are) ∙ length-map-range_with_len row 0 (cycles report.period report.streams shared.steps) in
    many ∙ (tall ∙ (rows ∙ ap (λ n. report.period * n + report.streams) (one_length c.args.stimulus.now.streams shared.steps steps c.requires.fits.some_stream shared.as_long are))))

pub pairs_of-requires-clause-all_seen : goal.pairs_of-requires-clause-all_seen
pairs_of-requires-clause-all_seen c = λ k d lt. (
    let seen = c.in_ok-seen.ensures.seen in
    seen_wide c.as_slice-watched.result.now seen.table c.as_slice-2.result.now k d (c.as_slice-2.ensures ∙ seen.seen_is) lt)

pub returns-clause-pairs : goal.returns-clause-pairs
returns-clause-pairs c =
    let seen = c.in_ok-seen.ensures.seen in
    let pairs = c.in_ok-pairs_of.ensures (plain_of c.args.masked.now.net) seen.table (c.as_slice-watched.ensures ∙ c.in_ok-watched.ensures) (c.as_slice-2.ensures ∙ seen.seen_is) in
    record {
      rows = c.in_ok-tape.tape.rows;
      shared = c.in_ok-tape.ensures;
      table = seen.table;
      runs = subst (λ (rs : List Row). RunsOn (plain_of c.args.masked.now.net) c.args.masked.now.report.random c.args.seed.now rs seen.table) c.as_slice.ensures seen.runs;
      tables = pairs.tables;
      traces = pairs.traces;
      pairs_are = pairs.pairs_are;
    }
