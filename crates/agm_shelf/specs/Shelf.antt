-- What the calls of a shelf and of a sink leave.
use Rattle.std.specs.Prelude.{◌≡◌, ◌≢◌, ◌⊎◌, ◌+◌, ◌-◌, ◌^◌, ◌≤◌, ◌<◌, ◌++◌, ℕ, List, [], Bool, IsTrue, Option, Some, unwrap_or, length, take, min}
use Rattle.agm_shelf.specs.declared.shelf.ReadEnd.{ReadEnd}
use Rattle.agm_shelf.specs.declared.shelf.ReadEnd.TheVariants.{Failed, TooLong, Memory}

-- what each name holds, none for a name that isn't held
abbrev pub Contents : Type 0
Contents = List ℕ → Option (List ℕ)

-- a count of faults is greater than before, or stands at its last value
abbrev pub Rose : ℕ → ℕ → Type 0
Rose before now = min (before + 1) (2 ^ 64 - 1) ≤ now

-- names other than this one hold what they held
abbrev pub OthersStay : List ℕ → Contents → Contents → Type 0
OthersStay name old new = (other : List ℕ) → other ≢ name → new other ≡ old other

-- each name holds what it held
abbrev pub AllStay : Contents → Contents → Type 0
AllStay old new = (name : List ℕ) → new name ≡ old name

-- the text that a name holds, empty where it isn't held
abbrev pub text_of : Option (List ℕ) → List ℕ
text_of held = unwrap_or held []

-- a read that ends as too long saw one byte more than its limit, and a told text is longer than that limit
abbrev pub IsTooLong : ℕ → Bool → Option (List ℕ) → ReadEnd → Type 0
IsTooLong limit told held (TooLong seen) = (seen ≡ limit + 1) × (IsTrue told → limit < length (text_of held))
IsTooLong limit told held Failed = Unit {0}
IsTooLong limit told held Memory = Unit {0}

-- the name holds its text followed by some first bytes of these
abbrev pub GrowsByFront : List ℕ → Option (List ℕ) → Option (List ℕ) → Type 0
GrowsByFront bytes before now = (n : ℕ) × (now ≡ Some (text_of before ++ take n bytes))

-- the name holds what it held, or some first bytes of this text
abbrev pub IsFrontOrOld : List ℕ → Option (List ℕ) → Option (List ℕ) → Type 0
IsFrontOrOld text before now = (now ≡ before) ⊎ ((n : ℕ) × (now ≡ Some (take n text)))

-- the taken bytes are followed by some first bytes of these
abbrev pub TakesFront : List ℕ → List ℕ → List ℕ → Type 0
TakesFront bytes before now = (n : ℕ) × (now ≡ before ++ take n bytes)

-- what no call changes, and the two counts of faults, which never fall
pub record Continues {S : Type 0} (tells sound : S → Bool) (reads writes : S → ℕ) (old new : S) : Type 0 where
  pub same_telling : tells new ≡ tells old
  pub same_sound : sound new ≡ sound old
  pub reads_later : reads old ≤ reads new
  pub writes_later : writes old ≤ writes new
