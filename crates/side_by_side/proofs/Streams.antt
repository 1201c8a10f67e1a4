-- One step more, and one stream more.
use Rattle.std.proofs.Common.{◌≡◌, ◌<◌, ◌≤◌, ◌+◌, ◌*◌, ◌++◌, ℕ, List, [], ◌∷◌, All, length, map, get_or, refl, ap, ap₂, sym, ◌∙◌, arith, mul-le-mul_left, mul-suc, suc}
use Rattle.std.specs.List.{flat_map, enumerate_from, range_with_len}
use Rattle.std.proofs.lemmas.List.{flat_map_more, length-map, get_or-map}
use Rattle.logic_graph.proofs.Blocks.{range_more}
use Rattle.agm_net.specs.Plain.{PlainNet}
use Rattle.agm_net.specs.Trace.{Row, row_at, bit_at, IsTrace}
use Rattle.share_wiring.specs.ReportOf.{streams_of}
use Rattle.share_wiring.specs.Schedule.{reading_cycle}
use Rattle.share_wiring.specs.declared.report.Report.{Report}
use Rattle.share_wiring.specs.declared.report.Balance.{Balance}
use Rattle.share_wiring.specs.declared.report.Balance.TheVariants.{Pipe, Gate}
use Rattle.sim_text.specs.Text.{AreTraces}
use Rattle.stimulus.specs.declared.stimuli.Stream.{Stream}
use Rattle.side_by_side.specs.Beside.{ArePairs, AddsPairs, seen_in}
use Rattle.side_by_side.specs.Pairs.{numbered_outputs, watched_of, pair_by, bit_in, rows_in, step_pairs, stream_pairs}
use Rattle.side_by_side.specs.declared.pairs.Pair.{Pair}
use Rattle.side_by_side.specs.declared.watched.Watched.{Watched}
use Rattle.side_by_side.proofs.Made.{pairs_are}
use Rattle.side_by_side.proofs.More.{enumerate_more}

-- one step more of a stream
pub step_more : (original : PlainNet) (report : Report) (masked : PlainNet) (table : List Row) (s : ℕ) (first : List Row) (k : ℕ) (watched : List Watched) (row : Row) (old now new : List Pair)
    → watched ≡ map (watched_of report masked) (numbered_outputs original.ports) → row ≡ row_at first k
    → now ≡ old ++ flat_map (step_pairs original report masked table s first) (range_with_len 0 k)
    → new ≡ now ++ map (pair_by s k (bit_in row) (bit_in (row_at table (reading_cycle report.balance report.period report.latency s k)))) watched
    → new ≡ old ++ flat_map (step_pairs original report masked table s first) (range_with_len 0 (k + 1))
step_more original report masked table s first k watched row old now new by same before more =
    let t = reading_cycle report.balance report.period report.latency s k in
    let f = step_pairs original report masked table s first in
    let here : map (pair_by s k (bit_in row) (bit_in (row_at table t))) watched ≡ f k =
    ap₂ (λ (r : Row) (ws : List Watched). map (pair_by s k (bit_in r) (bit_in (row_at table t))) ws) same by
    ∙ pairs_are report masked s k (bit_at first k) (bit_at table t) (numbered_outputs original.ports) in
    let place : 0 + k ≡ k = omega arith in
    more
    ∙ (ap₂ (λ (ps qs : List Pair). ps ++ qs) before here
    ∙ (flat_map_more f old (range_with_len 0 k) k ∙ ap (λ ks. old ++ flat_map f ks) (ap (λ (n : ℕ). range_with_len 0 k ++ n ∷ []) (sym place) ∙ sym (range_more 0 k))))

as_many : (net : PlainNet) (ss : List Stream) (ts : List (List Row)) → AreTraces net ss ts → length ss ≡ length ts
as_many net [] [] h = refl
as_many net (s ∷ ss) (t ∷ ts) h = let rest = as_many net ss ts h.1 in omega arith
as_many net [] (t ∷ ts) h = absurd h
as_many net (s ∷ ss) [] h = absurd h

traces_more : (net : PlainNet) (ss : List Stream) (ts : List (List Row)) (s : Stream) (t : List Row) → AreTraces net ss ts → IsTrace net s.initial s.steps t → AreTraces net (ss ++ s ∷ []) (ts ++ t ∷ [])
traces_more net [] [] s t h trace = (trace, tt)
traces_more net (r ∷ ss) (u ∷ ts) s t h trace = (h.0, traces_more net ss ts s t h.1 trace)
traces_more net [] (u ∷ ts) s t h trace = absurd h
traces_more net (r ∷ ss) [] s t h trace = absurd h

-- one stream more
pub stream_more : (original : PlainNet) (report : Report) (masked : PlainNet) (table : List Row) (ss : List Stream) (k : ℕ) (s : Stream) (now new : List Pair) → k ≡ length ss
    → ArePairs original report masked table ss now → AddsPairs original report masked table k s now new → ArePairs original report masked table (ss ++ s ∷ []) new
stream_more original report masked table ss k s now new e h a =
    let f = stream_pairs original report masked table in
    let place : k ≡ 0 + length h.tables = (let many = as_many original ss h.tables h.traces in omega (arith, e, many)) in
    record {
      tables = h.tables ++ a.first ∷ [];
      traces = traces_more original ss h.tables s a.first h.traces a.trace;
      pairs_are = a.pairs_are
          ∙ (ap (λ (ps : List Pair). ps ++ f (k, a.first)) h.pairs_are
          ∙ (flat_map_more f [] (enumerate_from 0 h.tables) (k, a.first)
          ∙ ap (flat_map f) (ap (λ (i : ℕ). enumerate_from 0 h.tables ++ (i, a.first) ∷ []) place ∙ sym (enumerate_more 0 h.tables a.first))));
    }

-- outputs are read within the run
pub read_within : (balance : Balance) (period latency steps s k : ℕ) → period ≡ latency + 1 → s < streams_of balance period → k < steps → reading_cycle balance period latency s k < period * steps + streams_of balance period
read_within Pipe period latency steps s k long turn lt =
    let le : suc k ≤ steps = omega (arith, lt) in
    let more : period * suc k ≤ period * steps = mul-le-mul_left period le in
    let spread : period * suc k ≡ period * k + period = mul-suc period k in
    omega (arith, more, spread, turn, long)
read_within Gate period latency steps s k long turn lt =
    let le : suc k ≤ steps = omega (arith, lt) in
    let more : period * suc k ≤ period * steps = mul-le-mul_left period le in
    let next : period * (k + 1) ≡ period * suc k = ap (λ n. period * n) (omega arith) in
    omega (arith, more, next)

-- streams have one length
pub one_length : (ss : List Stream) (m n : ℕ) → 0 < length ss → All (λ s. length s.steps ≡ m) ss → All (λ s. length s.steps ≡ n) ss → m ≡ n
one_length ss m n some are also = sym (are 0 (record { initial = []; steps = [] }) some) ∙ also 0 (record { initial = []; steps = [] }) some

-- each row has something for each port
pub seen_wide : (watched : List Watched) (table : List Row) (seen : List (List (List Row))) (k : ℕ) (d : List (List Row)) → seen ≡ map (seen_in watched) table → k < length seen → length (get_or seen k d) ≡ length watched
seen_wide watched table seen k d is lt =
    let many : length seen ≡ length table = ap (λ (xs : List (List (List Row))). length xs) is ∙ length-map table (seen_in watched) in
    ap (λ (xs : List (List (List Row))). length (get_or xs k d)) is
    ∙ (ap (λ (xs : List (List Row)). length xs) (get_or-map (seen_in watched) table k [] d (omega (arith, lt, many))) ∙ length-map watched (λ (w : Watched). rows_in (bit_in (get_or table k [])) w.shares))
