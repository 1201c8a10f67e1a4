-- How often wires stand in lists, in tables of counts.
use Rattle.std.specs.Prelude.{◌+◌, ◌++◌, ℕ, Bool, cond, List, [], ◌∷◌, Option, map, fold, length, count_by, nat_lt, replicate, slice_index, slice_index_or, slice_set}
use Rattle.std.specs.List.{flat_map, range_with_len, find}
use Rattle.wire_drivers.specs.Wiring.{is_wrong_count}

-- the counts after one more use of a wire
abbrev pub counted : List ℕ → ℕ → List ℕ
counted counts wire = slice_set counts wire (slice_index counts wire + 1)

-- how often each of n wires stands in a list
abbrev pub uses : ℕ → List ℕ → List ℕ
uses n wires = fold counted (replicate n 0) wires

abbrev pub wrong_at : (drivers readers : List ℕ) → ℕ → Bool
wrong_at drivers readers wire = is_wrong_count (slice_index drivers wire) (slice_index readers wire)

abbrev pub is_kept_at : List ℕ → ℕ → Bool
is_kept_at drivers wire = nat_lt 0 (slice_index drivers wire)

abbrev pub number_at : List ℕ → ℕ → ℕ
number_at drivers wire = count_by (is_kept_at drivers) (range_with_len 0 wire)

abbrev pub numbers_at : List ℕ → ℕ → List ℕ
numbers_at drivers n = map (number_at drivers) (range_with_len 0 n)

abbrev pub name_at : List ℕ → List (List ℕ) → ℕ → List (List ℕ)
name_at drivers wires wire = cond (is_kept_at drivers wire) (slice_index_or wires wire [] ∷ []) []
