-- What a library keeps of each of its cells, as tests.
use Rattle.std.specs.Prelude.{◌||◌, ◌&&◌, ◌==◌, ℕ, Bool, true, false, List, [], ◌∷◌, Option, Some, None, map, length, is_none, slice_get}
use Rattle.std.specs.List.{list_all}
use Rattle.std.specs.Option.{is_some}
use Rattle.agm_net.specs.Formula.{Formula, f_zero, f_one, f_wire, f_not, f_and, f_or, f_xor, f_mux}
use Rattle.agm_net.specs.Plain.{is_in}
use Rattle.cell_library.specs.Texts.{Text}
use Rattle.cell_library.specs.Judged.{PlainPin, PlainState, PlainCell, all_new}

-- the pin of a number is an input pin
abbrev pub is_input_pin : Option PlainPin → Bool
is_input_pin None = false
is_input_pin (Some p) = is_in p.way

-- the wires that the functions of a cell may read: input pins, and the state, which is the wire behind the pins
abbrev pub may_read : List PlainPin → Option PlainState → ℕ → Bool
may_read pins state w = is_input_pin (slice_get pins w) || (is_some state && w == length pins)

-- a formula reads nothing but wires that pass
abbrev pub reads_only : (ℕ → Bool) → Formula → Bool
reads_only passes f_zero = true
reads_only passes f_one = true
reads_only passes (f_wire w) = passes w
reads_only passes (f_not x) = reads_only passes x
reads_only passes (f_and x y) = reads_only passes x && reads_only passes y
reads_only passes (f_or x y) = reads_only passes x && reads_only passes y
reads_only passes (f_xor x y) = reads_only passes x && reads_only passes y
reads_only passes (f_mux s x y) = reads_only passes s && (reads_only passes x && reads_only passes y)

-- a function that is there reads nothing else
abbrev pub function_fits : (ℕ → Bool) → Option Formula → Bool
function_fits passes None = true
function_fits passes (Some f) = reads_only passes f

-- an output pin has a function, and what a pin has fits
abbrev pub pin_fits : (ℕ → Bool) → PlainPin → Bool
pin_fits passes p = (is_in p.way || is_some p.function) && function_fits passes p.function

-- the clock of a state is an input pin, and the next state fits
abbrev pub state_fits : List PlainPin → (ℕ → Bool) → Option PlainState → Bool
state_fits pins passes None = true
state_fits pins passes (Some s) = is_input_pin (slice_get pins s.clock) && reads_only passes s.next

abbrev pub plain_name : PlainPin → Text
plain_name p = p.name

abbrev pub is_empty : List PlainPin → Bool
is_empty [] = true
is_empty (p ∷ ps) = false

-- A barred cell has no pins and no state. The pins of a cell have different names, each output pin has a function, the clock is an
-- input pin, and functions and the next state read nothing but input pins and, where there is one, the state.
abbrev pub is_kept : PlainCell → Bool
is_kept c =
    (is_none c.barred || (is_empty c.pins && is_none c.state))
    && (all_new [] (map plain_name c.pins) && (list_all (pin_fits (may_read c.pins c.state)) c.pins && state_fits c.pins (may_read c.pins c.state) c.state))
