-- Where wires stand in lists.
use Rattle.std.specs.Prelude.{◌≡◌, ◌≢◌, ◌<◌, ℕ, List, Some, length, slice_get, slice_index_or}
use Rattle.hpc2_audit.specs.declared.places.Place.{Place}
use Rattle.hpc2_audit.specs.declared.places.Place.TheVariants.{Nowhere, At}

abbrev pub place_at : List Place → ℕ → Place
place_at places w = slice_index_or places w Nowhere

-- wire w stands at no place below n of a list, or at this one
abbrev pub IsPlaceBelow : ℕ → List ℕ → ℕ → Place → Type 0
IsPlaceBelow n wires w Nowhere = (k : ℕ) → k < n → slice_get wires k ≢ Some w
IsPlaceBelow n wires w (At k) = slice_get wires k ≡ Some w

abbrev pub IsPlace : List ℕ → ℕ → Place → Type 0
IsPlace wires w Nowhere = (k : ℕ) → slice_get wires k ≢ Some w
IsPlace wires w (At k) = slice_get wires k ≡ Some w

-- the places of wires 0 to n-1 in a list
pub record ArePlaces (wires : List ℕ) (n : ℕ) (places : List Place) : Type 0 where
  pub as_many : length places ≡ n
  pub told : (w : ℕ) → w < n → IsPlace wires w (place_at places w)
