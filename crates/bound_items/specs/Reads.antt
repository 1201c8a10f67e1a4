-- The pins that a cell reads, each as often as it does, and flags for them.
use Rattle.std.specs.Prelude.{◌≡◌, ◌<◌, ◌++◌, ℕ, Bool, true, false, List, [], ◌∷◌, Option, Some, None, fold, length, replicate, slice_index_or, slice_set}
use Rattle.agm_net.specs.Formula.{Formula}
use Rattle.form_bits.specs.declared.types.Bit.{Bit}
use Rattle.cell_library.specs.Judged.{PlainPin, PlainState, PlainCell}
use Rattle.wire_drivers.specs.Wiring.{wires_in}
use Rattle.bound_items.specs.Items.{pin_function, is_read}

-- those of the function of a connected output
abbrev pub function_pins : Option Bit → Option Formula → List ℕ
function_pins None f = []
function_pins (Some t) None = []
function_pins (Some t) (Some f) = wires_in f

abbrev pub output_pins : List (Option Bit) → List PlainPin → List ℕ
output_pins [] pins = []
output_pins (b ∷ bs) [] = []
output_pins (b ∷ bs) (p ∷ ps) = function_pins b (pin_function (Some p)) ++ output_pins bs ps

-- those of a register whose state has a bit
abbrev pub state_pins : Option PlainState → Option Bit → List ℕ
state_pins None q = []
state_pins (Some s) None = []
state_pins (Some s) (Some q) = wires_in s.next ++ s.clock ∷ []

-- the flags after one more pin that is read
abbrev pub marked : List Bool → ℕ → List Bool
marked flags k = slice_set flags k true

-- flags of the pins that a cell at these bits reads
abbrev pub read_flags : PlainCell → List (Option Bit) → Option Bit → List Bool
read_flags c bits q = fold marked (replicate (length c.pins) false) (output_pins bits c.pins ++ state_pins c.state q)

-- a flag for each pin tells whether the cell at these bits reads it
abbrev pub AreReads : List Bool → PlainCell → List (Option Bit) → Option Bit → Type 0
AreReads flags c bits q = (k : ℕ) → k < length c.pins → slice_index_or flags k false ≡ is_read c bits q k
