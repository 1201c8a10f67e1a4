-- What a sink on the standard output shows.
use Rattle.std.specs.Prelude.{ℕ}
use Rattle.agm_shelf.specs.declared.output.StdSink.{StdSink}

-- how often a call failed
abbrev pub failures : {R : Type 0} → StdSink R → ℕ
failures s = s.faults
