-- The cells that instances may name: those that are known without a library, and a library's.
use Rattle.std.specs.Prelude.{ℕ, List, [], ◌∷◌, ◌++◌, Option, Some, None, map, length, position, slice_get, codes}
use Rattle.std.specs.List.{range_with_len}
use Rattle.std.specs.Str.{bytes_eq}
use Rattle.agm_net.specs.Formula.{Formula, f_wire, f_not, f_and, f_or, f_xor, f_mux}
use Rattle.agm_net.specs.declared.port.Way.TheVariants.{Input, Output}
use Rattle.cell_library.specs.Judged.{PlainPin, PlainState, PlainCell}
use Rattle.form_bits.specs.Forms.{Text, Look, look_in}
use Rattle.form_bits.specs.declared.types.Spot.{Spot}

abbrev pub in_pin : Text → PlainPin
in_pin name = record { name = name; way = Input; function = None }

abbrev pub out_pin : Text → Formula → PlainPin
out_pin name f = record { name = name; way = Output; function = Some f }

-- the output pin at which a register known without a library has its state
abbrev pub state_pin : Text → PlainPin
state_pin name = record { name = name; way = Output; function = None }

abbrev pub gate : Text → List PlainPin → PlainCell
gate name pins = record { name = name; pins = pins; state = None; barred = None }

-- A register known without a library: its clock is the first pin, and its state is at its last pin. In its next value the wire behind the pins is the state.
abbrev pub flip_flop : Text → List PlainPin → Formula → PlainCell
flip_flop name pins next = record { name = name; pins = pins; state = Some (record { name = []; clock = 0; next = next }); barred = None }

-- those without a state
abbrev pub known_gates : List PlainCell
known_gates =
    gate (codes "AGM_NOT") (in_pin (codes "A") ∷ out_pin (codes "Y") (f_not (f_wire 0)) ∷ [])
    ∷ gate (codes "AGM_AND2") (in_pin (codes "A") ∷ in_pin (codes "B") ∷ out_pin (codes "Y") (f_and (f_wire 0) (f_wire 1)) ∷ [])
    ∷ gate (codes "AGM_XOR2") (in_pin (codes "A") ∷ in_pin (codes "B") ∷ out_pin (codes "Y") (f_xor (f_wire 0) (f_wire 1)) ∷ [])
    ∷ gate (codes "AGM_OR2") (in_pin (codes "A") ∷ in_pin (codes "B") ∷ out_pin (codes "Y") (f_or (f_wire 0) (f_wire 1)) ∷ [])
    ∷ gate (codes "AGM_MUX2") (in_pin (codes "A") ∷ in_pin (codes "B") ∷ in_pin (codes "S") ∷ out_pin (codes "Y") (f_mux (f_wire 2) (f_wire 0) (f_wire 1)) ∷ [])
    ∷ []

-- The cells that are known without a library. AGM_MUX2 is B where S is 1, else A. AGM_DFFE keeps its state where E is 0, and else takes D.
abbrev pub known_cells : List PlainCell
known_cells =
    known_gates
    ++ flip_flop (codes "AGM_DFF") (in_pin (codes "C") ∷ in_pin (codes "D") ∷ state_pin (codes "Q") ∷ []) (f_wire 1)
    ∷ flip_flop (codes "AGM_DFFE") (in_pin (codes "C") ∷ in_pin (codes "D") ∷ in_pin (codes "E") ∷ state_pin (codes "Q") ∷ []) (f_mux (f_wire 2) (f_wire 4) (f_wire 1))
    ∷ []

abbrev pub cell_at : List PlainCell → Option ℕ → Option PlainCell
cell_at cells None = None
cell_at cells (Some k) = slice_get cells k

abbrev pub cell_name : PlainCell → Text
cell_name c = c.name

-- the first cell of a name
abbrev pub find_cell : List PlainCell → Text → Option PlainCell
find_cell cells name = cell_at cells (position (λ n. bytes_eq n name) (map cell_name cells))

abbrev pub pin_name : PlainPin → Text
pin_name p = p.name

abbrev pub pin_spot : ℕ → Spot
pin_spot k = record { first = k; range = None }

-- the pins of a cell, by their names: each one bit, with its number
abbrev pub cell_pins : PlainCell → Look
cell_pins c = look_in (map pin_name c.pins) (map pin_spot (range_with_len 0 (length c.pins)))
