-- What a shelf in memory shows.
use Rattle.std.specs.Prelude.{◌≡◌, ◌==◌, ℕ, Bool, Option, List, length, reverse, is_none, ◌||◌}
use Rattle.std.specs.List.{list_any}
use Rattle.agm_shelf.specs.Shelf.{Contents, AllStay}
use Rattle.agm_shelf.specs.Entry.{texts_in, stored_in, open_in}
use Rattle.agm_shelf.specs.Turn.{next_number, count_after}
use Rattle.agm_shelf.specs.declared.memory.MemoryShelf.{MemoryShelf}

-- the text that each name holds
abbrev pub texts : MemoryShelf → Contents
texts s = texts_in (reverse s.entries)

-- the text of each name that isn't blank
abbrev pub stored : MemoryShelf → Contents
stored s = stored_in (reverse s.entries)

-- the name of the pending output
abbrev pub open_name : MemoryShelf → Option (List ℕ)
open_name s = open_in s.is_open (reverse s.entries)

-- the number of the next call, counted from 0
abbrev pub call_number : MemoryShelf → ℕ
call_number s = s.calls

-- the numbers of the calls that were told to fail
abbrev pub told_calls : MemoryShelf → List ℕ
told_calls s = s.failing

-- whether the next call was told to fail
abbrev pub is_told : MemoryShelf → Bool
is_told s = list_any (λ k. k == call_number s) (told_calls s)

-- whether no call was told to fail
abbrev pub is_sound : MemoryShelf → Bool
is_sound s = length (told_calls s) == 0

-- how often a read failed
abbrev pub read_failures : MemoryShelf → ℕ
read_failures s = s.read_faults

-- how often a write failed
abbrev pub write_failures : MemoryShelf → ℕ
write_failures s = s.write_faults

-- whether a read of the name fails now: it was told to, or the name isn't held
abbrev pub read_fails : MemoryShelf → List ℕ → Bool
read_fails s name = is_told s || is_none (texts s name)

-- one call more was made, and those that fail were counted
pub record TakesTurn (a_read_fails a_write_fails : Bool) (old new : MemoryShelf) : Type 0 where
  pub number : call_number new ≡ next_number (call_number old)
  pub told : told_calls new ≡ told_calls old
  pub reads : read_failures new ≡ count_after a_read_fails (read_failures old)
  pub writes : write_failures new ≡ count_after a_write_fails (write_failures old)

-- each name holds what it held, blank or not
pub record KeepsTexts (old new : MemoryShelf) : Type 0 where
  pub texts_same : AllStay (texts old) (texts new)
  pub stored_same : AllStay (stored old) (stored new)

-- the call's number, the pending output and the counts of faults are as they were
pub record KeepsCounts (old new : MemoryShelf) : Type 0 where
  pub number_same : call_number new ≡ call_number old
  pub pending_same : open_name new ≡ open_name old
  pub reads_same : read_failures new ≡ read_failures old
  pub writes_same : write_failures new ≡ write_failures old

-- all but the entries and whether the newest is pending is as it was
pub record SameButEntries (old new : MemoryShelf) : Type 0 where
  pub alloc_same : new.alloc ≡ old.alloc
  pub told_same : told_calls new ≡ told_calls old
  pub number_same : call_number new ≡ call_number old
  pub reads_same : read_failures new ≡ read_failures old
  pub writes_same : write_failures new ≡ write_failures old
