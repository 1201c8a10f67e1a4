-- What a sink in memory shows.
use Rattle.std.specs.Prelude.{◌≡◌, ◌==◌, ℕ, Bool, List, length}
use Rattle.std.specs.List.{list_any}
use Rattle.agm_shelf.specs.Turn.{next_number, count_after}
use Rattle.agm_shelf.specs.declared.memory_sink.MemorySink.{MemorySink}

-- the bytes that it has taken
abbrev pub taken_bytes : MemorySink → List ℕ
taken_bytes s = s.bytes

-- the number of the next call, counted from 0
abbrev pub call_number : MemorySink → ℕ
call_number s = s.calls

-- the numbers of the calls that were told to fail
abbrev pub told_calls : MemorySink → List ℕ
told_calls s = s.failing

-- whether the next call was told to fail
abbrev pub is_told : MemorySink → Bool
is_told s = list_any (λ k. k == call_number s) (told_calls s)

-- whether no call was told to fail
abbrev pub is_sound : MemorySink → Bool
is_sound s = length (told_calls s) == 0

-- how often a call failed
abbrev pub failures : MemorySink → ℕ
failures s = s.faults

-- one call more was made, and was counted where it fails
pub record TakesTurn (fails : Bool) (old new : MemorySink) : Type 0 where
  pub number : call_number new ≡ next_number (call_number old)
  pub told : told_calls new ≡ told_calls old
  pub faults : failures new ≡ count_after fails (failures old)
