-- What a walk over a design comes to, and what becomes of it.
use Rattle.std.specs.Prelude.{◌+◌, ◌++◌, ℕ, Bool, cond, List, [], ◌∷◌, Option, Some, None, length}
use Rattle.std.specs.List.{flat_map}
use Rattle.agm_net.specs.Formula.{Formula}
use Rattle.form_bits.specs.Forms.{Text}
use Rattle.form_bits.specs.declared.types.Bit.{Bit}
use Rattle.module_rules.specs.Items.{is_among}
use Rattle.wire_drivers.specs.Wiring.{PlainLine, PlainFlop}
use Rattle.bound_items.specs.declared.pin.Pin.{Pin}
use Rattle.bound_items.specs.declared.fault.BindFault.{BindFault}
use Rattle.bound_items.specs.declared.fault.BindFault.TheVariants.{Clash}

-- a wire with its bound name, a rule that is broken, an equation, a register, and a pin that counts as a wire with so many drivers
pub data Event : Type 0 where
  wire : Text → Event
  broken : BindFault → Event
  line : PlainLine → Event
  flop : PlainFlop → Event
  pin : Text → ℕ → Event

-- the first rule that is broken behind wires with earlier names; no two wires have one name
abbrev pub first_broken : List Text → List Event → Option BindFault
first_broken earlier [] = None
first_broken earlier (wire n ∷ es) = cond (is_among earlier n) (Some (Clash n)) (first_broken (earlier ++ n ∷ []) es)
first_broken earlier (broken f ∷ es) = Some f
first_broken earlier (line l ∷ es) = first_broken earlier es
first_broken earlier (flop f ∷ es) = first_broken earlier es
first_broken earlier (pin n d ∷ es) = first_broken earlier es

abbrev pub wire_of : Event → List Text
wire_of (wire n) = n ∷ []
wire_of (broken f) = []
wire_of (line l) = []
wire_of (flop f) = []
wire_of (pin n d) = []

abbrev pub line_of : Event → List PlainLine
line_of (wire n) = []
line_of (broken f) = []
line_of (line l) = l ∷ []
line_of (flop f) = []
line_of (pin n d) = []

abbrev pub flop_of : Event → List PlainFlop
flop_of (wire n) = []
flop_of (broken f) = []
flop_of (line l) = []
flop_of (flop f) = f ∷ []
flop_of (pin n d) = []

abbrev pub wires_in : List Event → List Text
wires_in es = flat_map wire_of es

abbrev pub lines_in : List Event → List PlainLine
lines_in es = flat_map line_of es

abbrev pub flops_in : List Event → List PlainFlop
flops_in es = flat_map flop_of es

-- the first pin that counts as a wire
abbrev pub first_pin : List Event → Option Pin
first_pin [] = None
first_pin (wire n ∷ es) = first_pin es
first_pin (broken f ∷ es) = first_pin es
first_pin (line l ∷ es) = first_pin es
first_pin (flop f ∷ es) = first_pin es
first_pin (pin n d ∷ es) = Some (record { name = n; drivers = d })

abbrev pub count_wires : List Event → ℕ
count_wires es = length (wires_in es)
