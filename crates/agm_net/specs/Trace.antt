-- The cycle meaning of a net.
use Rattle.std.specs.Prelude.{◌≡◌, ◌<◌, ◌+◌, ℕ, Bool, false, List, [], length, slice_index_or, map}
use Rattle.std.specs.List.{AllByRecursion}
use Rattle.agm_net.specs.Formula.{value}
use Rattle.agm_net.specs.Plain.{Line, Stored, PlainNet, input_bits, clock_bits}

-- a row of bits, and a table: one row for each cycle
abbrev pub Row : Type 0
Row = List Bool

abbrev pub row_at : List Row → ℕ → Row
row_at table t = slice_index_or table t []

-- the bit of a wire in cycle t, 0 outside the table
abbrev pub bit_at : List Row → ℕ → ℕ → Bool
bit_at table t w = slice_index_or (row_at table t) w false

-- every equation holds
abbrev pub Holds : (ℕ → Bool) → List Line → Type 0
Holds bit lines = AllByRecursion (λ l. bit l.0 ≡ value bit l.1) lines

-- every register has the value that its next expression had in the cycle before
abbrev pub Steps : (before now : ℕ → Bool) → List Stored → Type 0
Steps before now registers = AllByRecursion (λ r. now r.q ≡ value before r.next) registers

-- A trace of a net for power-up contents and a tape: a table with one row for each row of the tape and one bit for each wire.
-- In every row each equation holds, the input bits are the tape's, and the clock's bit is 0, since the cycle number stands for it.
-- In the first row each register has its power-up bit, and in each later one the value that its next expression had in the row before.
pub record IsTrace (net : PlainNet) (power : Row) (tape table : List Row) : Type 0 where
  pub as_long : length table ≡ length tape
  pub as_wide : (t : ℕ) → t < length table → length (row_at table t) ≡ length net.wires
  pub equations_hold : (t : ℕ) → t < length table → Holds (bit_at table t) net.lines
  pub inputs_given : (t : ℕ) → t < length table → map (bit_at table t) (input_bits net) ≡ row_at tape t
  pub clock_is_low : (t : ℕ) → t < length table → AllByRecursion (λ w. bit_at table t w ≡ false) (clock_bits net)
  pub power_given : 0 < length table → map (λ r. bit_at table 0 r.q) net.registers ≡ power
  pub registers_step : (t : ℕ) → t + 1 < length table → Steps (bit_at table t) (bit_at table (t + 1)) net.registers
