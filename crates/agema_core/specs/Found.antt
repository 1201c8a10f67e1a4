-- What a command finds, and how the steps end that all commands have.
use Rattle.std.specs.Prelude.{◌≡◌, ◌≤◌, ◌<◌, ◌⊎◌, ℕ, List, [], Bool, true, false, IsTrue, Option, Some, None, length, map, codes}
use Rattle.agm_shelf.specs.Shelf.{Rose, Contents}
use Rattle.cell_library.specs.Judged.{PlainCell}
use Rattle.cell_library.specs.Spelled.{Spelled, cell_name, first_fault}
use Rattle.cell_library.specs.declared.types.CellCause.{CellCause}
use Rattle.agema_texts.specs.Original.{length_limit}
use Rattle.agema_answers.specs.declared.ended.Ended.{Ended}
use Rattle.agema_answers.specs.declared.ended.Ended.TheVariants.{Done, ReadFault, PrintFault, Memory, Refused}
use Rattle.agema_answers.specs.declared.refusal.Refusal.TheVariants.{TooLong, LibrarySyntax, Cell}

-- the faults' counts before or after a call
pub record Counts : Type 0 where
  pub reads : ℕ
  pub writes : ℕ
  pub prints : ℕ

abbrev pub counts : (reads writes prints : ℕ) → Counts
counts reads writes prints = record { reads = reads; writes = writes; prints = prints }

-- What a command finds: whether the shelf tells its contents and whether it is sound, whether the sink is sound, and the contents.
pub record Found : Type 0 where
  pub tells : Bool
  pub sound : Bool
  pub prints : Bool
  pub holds : Contents

abbrev pub found : (tells sound prints : Bool) → Contents → Found
found tells sound prints holds = record { tells = tells; sound = sound; prints = prints; holds = holds }

-- a text is held, of which this is true
abbrev pub Holds : Option (List ℕ) → (List ℕ → Type 0) → Type 0
Holds held Fact = (text : List ℕ) × (held ≡ Some text) × Fact text

-- the same where the shelf tells its contents
abbrev pub Told : (tells : Bool) → Option (List ℕ) → (List ℕ → Type 0) → Type 0
Told tells held Fact = IsTrue tells → Holds held Fact

-- a call of something failed: its count of faults rose, and it was not sound
abbrev pub Fails : Bool → (before now : ℕ) → Type 0
Fails sound before now = Rose before now × (IsTrue sound → Prim.⊥)

-- a read failed: the count of faults rose, and a sound shelf holds nothing by that name
abbrev pub ReadFails : (sound : Bool) → Option (List ℕ) → (before now : ℕ) → Type 0
ReadFails sound held before now = Rose before now × (IsTrue sound → held ≡ None)

-- the text is too long to be read
abbrev pub IsTooLong : List ℕ → Type 0
IsTooLong text = length_limit < length text

-- this word of a command stands for no library
abbrev pub IsDash : List ℕ → Type 0
IsDash name = name ≡ codes "-"

-- the text is not too long, and spells these cells, whose names are neither repeated nor reserved
abbrev pub IsLibrary : List PlainCell → List ℕ → Type 0
IsLibrary cells text = (length text ≤ length_limit) × Spelled text cells × (first_fault [] (map cell_name cells) ≡ None)

-- the text is not too long, and spells no cells; the place is in it or its end
abbrev pub IsNoLibrary : (at : ℕ) → List ℕ → Type 0
IsNoLibrary at text = (length text ≤ length_limit) × ((cells : List PlainCell) → Spelled text cells → Prim.⊥) × (at ≤ length text)

-- the text is not too long, and spells cells, of which this is the first whose name is repeated or reserved
abbrev pub HasWrongCell : List ℕ → CellCause → List ℕ → Type 0
HasWrongCell name cause text =
    (length text ≤ length_limit) × (cells : List PlainCell) × Spelled text cells × (first_fault [] (map cell_name cells) ≡ Some (name, cause))

-- the cells of LIB: none for `-`, else those of the library that its name holds
abbrev pub AreCells : (library : List ℕ) → Contents → List PlainCell → Type 0
AreCells library holds cells = (IsDash library × (cells ≡ [])) ⊎ ((IsDash library → Prim.⊥) × Holds (holds library) (IsLibrary cells))

-- LIB has cells, and NET's name holds a text; this is true of both
abbrev pub HoldsBoth : (library net : List ℕ) → Contents → (List PlainCell → List ℕ → Type 0) → Type 0
HoldsBoth library net holds Fact = (cells : List PlainCell) × AreCells library holds cells × Holds (holds net) (Fact cells)

-- the same where the shelf tells its contents
abbrev pub ToldBoth : (library net : List ℕ) → Found → (List PlainCell → List ℕ → Type 0) → Type 0
ToldBoth library net f Fact = IsTrue f.tells → HoldsBoth library net f.holds Fact

abbrev pub HasCells : (library : List ℕ) → Found → Type 0
HasCells library f = IsTrue f.tells → (cells : List PlainCell) × AreCells library f.holds cells

-- how the reading of a file may end without a text
abbrev pub IsReadEnd : List ℕ → (tells sound : Bool) → Option (List ℕ) → (before now : ℕ) → Ended → Type 0
IsReadEnd name tells sound held before now (ReadFault file) = (file ≡ name) × ReadFails sound held before now
IsReadEnd name tells sound held before now Memory = Unit {0}
IsReadEnd name tells sound held before now (Refused (TooLong file)) = (file ≡ name) × Told tells held IsTooLong
IsReadEnd name tells sound held before now _ = Prim.⊥

-- how the reading of a library may end a run
abbrev pub IsLibraryEnd : List ℕ → (tells sound : Bool) → Option (List ℕ) → (before now : ℕ) → Ended → Type 0
IsLibraryEnd name tells sound held before now (ReadFault file) = (file ≡ name) × ReadFails sound held before now
IsLibraryEnd name tells sound held before now Memory = Unit {0}
IsLibraryEnd name tells sound held before now (Refused (TooLong file)) = (file ≡ name) × Told tells held IsTooLong
IsLibraryEnd name tells sound held before now (Refused (LibrarySyntax at)) = Told tells held (IsNoLibrary at)
IsLibraryEnd name tells sound held before now (Refused (Cell cell cause)) = Told tells held (HasWrongCell cell cause)
IsLibraryEnd name tells sound held before now _ = Prim.⊥

-- the same of the bytes of a library that was read
abbrev pub IsWrongLibrary : List ℕ → Ended → Type 0
IsWrongLibrary text (Refused (LibrarySyntax at)) = IsNoLibrary at text
IsWrongLibrary text (Refused (Cell cell cause)) = HasWrongCell cell cause text
IsWrongLibrary text Memory = Unit {0}
IsWrongLibrary text _ = Prim.⊥

-- How the reading of LIB and NET may end a run: at a library that is named, or behind it.
abbrev pub IsInputEnd : (library net : List ℕ) → Found → (before now : ℕ) → Ended → Type 0
IsInputEnd library net f before now ended =
    ((IsDash library → Prim.⊥) × IsLibraryEnd library f.tells f.sound (f.holds library) before now ended)
    ⊎ (HasCells library f × IsReadEnd net f.tells f.sound (f.holds net) before now ended)

-- a read may have failed before these answers
abbrev pub may_follow_fault : Ended → Bool
may_follow_fault (ReadFault file) = true
may_follow_fault Memory = true
may_follow_fault _ = false

-- The count of failed reads stays as it was, unless the answer tells of one or of want of memory. So no file is read for `-`: a read of one
-- that isn't held would count.
abbrev pub NoReadFailed : (before now : ℕ) → Ended → Type 0
NoReadFailed before now ended = may_follow_fault ended ≡ false → now ≡ before

-- how the printing may end
abbrev pub IsPrintEnd : (sound : Bool) → (before now : ℕ) → Ended → Type 0
IsPrintEnd sound before now Done = Unit {0}
IsPrintEnd sound before now PrintFault = Fails sound before now
IsPrintEnd sound before now Memory = Unit {0}
IsPrintEnd sound before now _ = Prim.⊥
