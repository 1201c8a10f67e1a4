-- A stimulus with the streams that it lacks.
use Rattle.std.proofs.Common.{◌≡◌, ◌<◌, ◌≤◌, ◌-◌, ℕ, false, List, [], length, map, replicate, get_or, sym, ap, subst, ◌∙◌, arith, inl, inr}
use Rattle.std.proofs.lemmas.Bool.{cases_lt}
use Rattle.std.proofs.lemmas.List.{length-map, length-append, length-replicate, get_or_append_left, get_or-append_right, get_or-map, get_or-replicate}
use Rattle.agm_net.specs.Trace.{Row, row_at}
use Rattle.share_wiring.specs.Schedule as schedule
use Rattle.share_wiring.specs.Schedule.{stream_at}
use Rattle.stimulus.specs.declared.stimuli.Stream.{Stream}
use Rattle.shared_tape.specs.Filled.{stream_of, zeros, zero_stream, filled, AreStreams}

-- a stream of so many registers, steps and input bits
pub record IsWide (registers width steps : ℕ) (s : schedule.Stream) : Type 0 where
  pub initial : length s.initial ≡ registers
  pub long : length s.steps ≡ steps
  pub rows : (k : ℕ) → k < steps → length (row_at s.steps k) ≡ width

pub filled_long : (registers width count steps : ℕ) (streams : List Stream) → length streams ≤ count → length (filled registers width count steps streams) ≡ count
filled_long registers width count steps streams few =
    length-append (map stream_of streams) (replicate (count - length streams) (zero_stream registers width steps))
    ∙ (let own = length-map streams stream_of in let others = length-replicate (count - length streams) (zero_stream registers width steps) in omega (arith, own, others, few))

zero_wide : (registers width steps : ℕ) → IsWide registers width steps (zero_stream registers width steps)
zero_wide registers width steps =
    record {
      initial = length-replicate registers false;
      long = length-replicate steps (zeros width);
      rows = λ k lt. ap (λ (r : Row). length r) (get_or-replicate steps k (zeros width) [] lt) ∙ length-replicate width false;
    }

abbrev nothing : schedule.Stream
nothing = record { initial = []; steps = [] }

pub each_wide : (registers width count steps : ℕ) (streams : List Stream) → AreStreams registers width steps streams → (s : ℕ) → s < count → IsWide registers width steps (stream_at (filled registers width count steps streams) s)
each_wide registers width count steps streams are s lt = elim (cases_lt s (length streams)) [ inl own ↦ given own | inr other ↦ missing other ]
  where
    others : List schedule.Stream
    others = replicate (count - length streams) (zero_stream registers width steps)

    many : length (map stream_of streams) ≡ length streams
    many = length-map streams stream_of

    missing : length streams ≤ s → IsWide registers width steps (stream_at (filled registers width count steps streams) s)
    missing le =
        let at : stream_at (filled registers width count steps streams) s ≡ zero_stream registers width steps =
        get_or-append_right (map stream_of streams) others (length streams) s nothing many le ∙ get_or-replicate (count - length streams) (s - length streams) (zero_stream registers width steps) nothing (omega (arith, lt, le)) in
        subst (IsWide registers width steps) (sym at) (zero_wide registers width steps)

    given : s < length streams → IsWide registers width steps (stream_at (filled registers width count steps streams) s)
    given within =
        let own : Stream = get_or streams s (record { initial = []; steps = [] }) in
        let at : stream_at (filled registers width count steps streams) s ≡ stream_of own =
        get_or_append_left (map stream_of streams) others nothing s (omega (arith, within, many)) ∙ get_or-map stream_of streams s (record { initial = []; steps = [] }) nothing within in
        let fits = are s (record { initial = []; steps = [] }) within in
        subst (IsWide registers width steps) (sym at) (record { initial = fits.0; long = fits.1; rows = λ k less. fits.2 k [] (omega (arith, less, fits.1)) })
