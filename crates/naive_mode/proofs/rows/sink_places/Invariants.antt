use Rattle.std.proofs.Common.{◌≡◌, map, take}
use Rattle.naive_mode.specs.Rows.{place_at}
use Rattle.naive_mode.proofs.rows.sink_places.Given as goal

abbrev pub invariant-loop-sink : goal.invariant-loop-sink
invariant-loop-sink l = l.them ≡ map (place_at l.places) (take l.sink-index l.sinks)
