-- What is found in a value.
use Rattle.std.specs.Prelude.{◌≡◌, ◌≢◌, ℕ, Option, Some, None}
use Rattle.serde_json.specs.Data.{Data, number, unsigned}

-- d is written so, or nothing is
abbrev pub Finds : {D X : Type 0} → (X → D) → D → Option X → Type 0
Finds {D} {X} written d None = (x : X) → d ≢ written x
Finds written d (Some x) = d ≡ written x

-- a whole number that is not negative
abbrev pub whole_number : ℕ → Data
whole_number n = number (unsigned n)
