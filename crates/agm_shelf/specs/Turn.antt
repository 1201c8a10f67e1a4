-- Numbers of calls, and counts of faults.
use Rattle.std.specs.Prelude.{◌+◌, ◌-◌, ◌^◌, ℕ, Bool, min, if◌then◌else◌}

-- the number after this one, which stays at the last
abbrev pub next_number : ℕ → ℕ
next_number n = min (n + 1) (2 ^ 64 - 1)

-- a count of faults after a call that fails or not
abbrev pub count_after : Bool → ℕ → ℕ
count_after fails n = (if fails then next_number n else n)
