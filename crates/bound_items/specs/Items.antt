-- What assigns and instances give, in the order in which a walk comes to it.
use Rattle.std.specs.Prelude.{◌+◌, ◌-◌, ◌^◌, ◌==◌, ◌&&◌, ◌||◌, ◌++◌, ℕ, zero, suc, Bool, true, false, not, cond, min, List, [], ◌∷◌, Option, Some, None, map, length, position, slice_get, slice_index_or, nat_le, is_some}
use Rattle.std.specs.List.{flat_map, list_any, range_with_len}
use Rattle.std.specs.Str.{bytes_eq}
use Rattle.agm_net.specs.Formula.{Formula, f_zero, f_one, f_wire, f_not, f_and, f_or, f_xor, f_mux, stands}
use Rattle.agm_net.specs.Plain.{is_in}
use Rattle.agm_net.specs.declared.port.Way.{Way}
use Rattle.agm_net.specs.declared.port.Way.TheVariants.{Input, Output}
use Rattle.cell_library.specs.Judged.{PlainPin, PlainState, PlainCell}
use Rattle.cell_library.specs.declared.types.Bar.{Bar}
use Rattle.verilog_reader.specs.Plain.{PlainForm, PlainConnection, PlainItem, declare, assign, instance, PlainModule, PlainDesign}
use Rattle.form_bits.specs.Forms.{Text, Look, or_else, form_fault, form_width, form_bits, range_width, run}
use Rattle.form_bits.specs.declared.types.Bit.{Bit}
use Rattle.form_bits.specs.declared.types.Bit.TheVariants.{Constant, Wire}
use Rattle.form_bits.specs.declared.types.Spot.{Spot}
use Rattle.module_rules.specs.Items.{is_among}
use Rattle.cell_faces.specs.Cells.{find_cell, cell_pins, pin_name}
use Rattle.module_outlines.specs.Outlines.{wides, module_bits, module_names, module_ports, port_way}
use Rattle.bound_items.specs.Events.{Event, wire, broken, line, flop, pin, count_wires}
use Rattle.bound_items.specs.declared.fault.BindFault.{BindFault}
use Rattle.bound_items.specs.declared.fault.BindFault.TheVariants.{UnknownCell, UnknownPin, UnknownWire, Width, Recursive, BarredCell, Clash}

-- names inside an instance
abbrev pub dotted : Text → Text → Text
dotted site name = site ++ 46 ∷ name

-- forms

-- the greatest width that is told
abbrev pub most : ℕ
most = 2 ^ 64 - 1

abbrev pub width_fault : (left right : ℕ) → Option BindFault
width_fault left right = cond (left == right) None (Some (Width (min left most) (min right most)))

abbrev pub unknown_fault : Option Text → Option BindFault
unknown_fault None = None
unknown_fault (Some name) = Some (UnknownWire name)

-- a form at something of a width
abbrev pub form_broken : Look → ℕ → PlainForm → Option BindFault
form_broken look left f = or_else (unknown_fault (form_fault look f)) (width_fault left (form_width look f))

abbrev pub assign_broken : Look → (left right : PlainForm) → Option BindFault
assign_broken look left right = or_else (unknown_fault (form_fault look left)) (form_broken look (form_width look left) right)

-- the events of a part, or the rule that it breaks
abbrev pub unless : Option BindFault → List Event → List Event
unless None es = es
unless (Some f) es = broken f ∷ []

-- bits as formulas

abbrev pub constant_formula : Bool → Formula
constant_formula false = f_zero
constant_formula true = f_one

abbrev pub bit_formula : Bit → Formula
bit_formula (Constant b) = constant_formula b
bit_formula (Wire w) = f_wire w

-- plain equations, bit by bit
abbrev pub plain_lines : (targets values : List Bit) → List Event
plain_lines [] values = []
plain_lines (t ∷ ts) [] = []
plain_lines (t ∷ ts) (v ∷ vs) = line (t, bit_formula v) ∷ plain_lines ts vs

-- an assign in a module whose wires stand from `base` on
abbrev pub assign_events : Look → ℕ → (left right : PlainForm) → List Event
assign_events look base left right = unless (assign_broken look left right) (plain_lines (form_bits look base left) (form_bits look base right))

-- connections

abbrev pub connected_form : Option PlainForm → Look → ℕ → Option (List Bit)
connected_form None look base = None
connected_form (Some f) look base = Some (form_bits look base f)

abbrev pub connection_found : Option PlainConnection → Look → ℕ → Option (List Bit)
connection_found None look base = None
connection_found (Some c) look base = connected_form c.form look base

abbrev pub connection_at : List PlainConnection → Option ℕ → Look → ℕ → Option (List Bit)
connection_at pins None look base = None
connection_at pins (Some k) look base = connection_found (slice_get pins k) look base

abbrev pub pin_of : PlainConnection → Text
pin_of c = c.pin

-- what is connected to the pin of a name, where something is
abbrev pub connected : List PlainConnection → Look → ℕ → Text → Option (List Bit)
connected pins look base name = connection_at pins (position (λ n. bytes_eq n name) (map pin_of pins)) look base

abbrev pub pin_form_broken : Look → Spot → Option PlainForm → Option BindFault
pin_form_broken look s None = None
pin_form_broken look s (Some f) = form_broken look (range_width s.range) f

abbrev pub unknown_pin : (site pin : Text) → BindFault
unknown_pin site name = UnknownPin site name

abbrev pub pin_broken : (site : Text) → Option Spot → Look → (earlier : List Text) → PlainConnection → Option BindFault
pin_broken site None look earlier c = Some (unknown_pin site c.pin)
pin_broken site (Some s) look earlier c = cond (is_among earlier c.pin) (Some (Clash (dotted site c.pin))) (pin_form_broken look s c.form)

-- the first rule that a connection of an instance breaks; the pins of what it is an instance of have these spots
abbrev pub pins_broken : (site : Text) → (face look : Look) → (earlier : List Text) → List PlainConnection → Option BindFault
pins_broken site face look earlier [] = None
pins_broken site face look earlier (c ∷ cs) = or_else (pin_broken site (face c.pin) look earlier c) (pins_broken site face look (earlier ++ c.pin ∷ []) cs)

-- instances of cells

abbrev pub first_bit : Option (List Bit) → Option Bit
first_bit None = None
first_bit (Some []) = None
first_bit (Some (b ∷ bs)) = Some b

-- the bit at each pin of a cell, where one is connected
abbrev pub pin_bits : PlainCell → List PlainConnection → Look → ℕ → List (Option Bit)
pin_bits c pins look base = map (λ p. first_bit (connected pins look base (pin_name p))) c.pins

abbrev pub operand : Option Bit → Formula
operand None = f_zero
operand (Some b) = bit_formula b

-- a function over what is connected; the 0 of a pin that is not connected is not used
abbrev pub over : List (Option Bit) → Formula → Formula
over bits f_zero = f_zero
over bits f_one = f_one
over bits (f_wire k) = operand (slice_index_or bits k None)
over bits (f_not x) = f_not (over bits x)
over bits (f_and x y) = f_and (over bits x) (over bits y)
over bits (f_or x y) = f_or (over bits x) (over bits y)
over bits (f_xor x y) = f_xor (over bits x) (over bits y)
over bits (f_mux s x y) = f_mux (over bits s) (over bits x) (over bits y)

-- an output pin without a function is where a register known without a library has its state
abbrev pub is_state_pin : PlainPin → Bool
is_state_pin p = not (is_in p.way) && not (is_some p.function)

-- the bit of a cell's state: that at its pin, where it has one, else the wire of the state
abbrev pub place_bit : List (Option Bit) → ℕ → Option ℕ → Option Bit
place_bit bits n None = Some (Wire n)
place_bit bits n (Some k) = slice_index_or bits k None

abbrev pub state_place : PlainCell → Option ℕ
state_place c = position is_state_pin c.pins

abbrev pub state_bit : PlainCell → List (Option Bit) → ℕ → Option PlainState → Option Bit
state_bit c bits n None = None
state_bit c bits n (Some s) = place_bit bits n (state_place c)

-- the wire of a state that is at no pin
abbrev pub place_wires : Text → Option ℕ → List Event
place_wires name None = wire name ∷ []
place_wires name (Some k) = []

abbrev pub state_wires : (site : Text) → PlainCell → Option PlainState → List Event
state_wires site c None = []
state_wires site c (Some s) = place_wires (dotted site s.name) (state_place c)

abbrev pub bit_or_zero : Option Bit → Bit
bit_or_zero None = Constant false
bit_or_zero (Some b) = b

-- the register of a cell with a state, where the state has a bit
abbrev pub state_flops : List (Option Bit) → Option PlainState → Option Bit → List Event
state_flops bits None q = []
state_flops bits (Some s) None = []
state_flops bits (Some s) (Some q) = flop (record { q = q; next = over (bits ++ Some q ∷ []) s.next; clock = bit_or_zero (slice_index_or bits s.clock None) }) ∷ []

abbrev pub function_lines : List (Option Bit) → Option Bit → Option Formula → List Event
function_lines bits None f = []
function_lines bits (Some t) None = []
function_lines bits (Some t) (Some f) = line (t, over bits f) ∷ []

abbrev pub pin_function : Option PlainPin → Option Formula
pin_function None = None
pin_function (Some p) = cond (is_in p.way) None p.function

abbrev pub output_lines : PlainCell → (bits operands : List (Option Bit)) → Option ℕ → List Event
output_lines c bits operands None = []
output_lines c bits operands (Some k) = function_lines operands (slice_index_or bits k None) (pin_function (slice_get c.pins k))

-- the equation of a connection, where it connects an output pin
abbrev pub cell_lines : PlainCell → (bits operands : List (Option Bit)) → PlainConnection → List Event
cell_lines c bits operands connection = output_lines c bits operands (position (λ n. bytes_eq n connection.pin) (map pin_name c.pins))

-- whether a connected output's function reads pin k
abbrev pub function_reads : ℕ → Option Bit → Option Formula → Bool
function_reads k None f = false
function_reads k (Some t) None = false
function_reads k (Some t) (Some f) = stands k f

abbrev pub outputs_read : ℕ → List (Option Bit) → List PlainPin → Bool
outputs_read k [] pins = false
outputs_read k (b ∷ bs) [] = false
outputs_read k (b ∷ bs) (p ∷ ps) = function_reads k b (pin_function (Some p)) || outputs_read k bs ps

abbrev pub is_clock_of : Option PlainState → Option Bit → ℕ → Bool
is_clock_of None q k = false
is_clock_of (Some s) None k = false
is_clock_of (Some s) (Some q) k = s.clock == k

abbrev pub state_reads : Option PlainState → Option Bit → ℕ → Bool
state_reads None q k = false
state_reads (Some s) None k = false
state_reads (Some s) (Some q) k = stands k s.next || s.clock == k

abbrev pub is_read : PlainCell → List (Option Bit) → Option Bit → ℕ → Bool
is_read c bits q k = outputs_read k bits c.pins || state_reads c.state q k

-- Pins that count as wires: an input pin that is read and not connected, and a clock pin at a constant, without driver; an output pin at a constant, with 2 drivers.
abbrev pub input_counts : Bool → Bool → Text → Option Bit → List Event
input_counts read clocks name None = cond read (pin name 0 ∷ []) []
input_counts read clocks name (Some (Constant b)) = cond clocks (pin name 0 ∷ []) []
input_counts read clocks name (Some (Wire w)) = []

abbrev pub output_counts : Text → Option Bit → List Event
output_counts name None = []
output_counts name (Some (Constant b)) = pin name 2 ∷ []
output_counts name (Some (Wire w)) = []

abbrev pub pin_counts : (site : Text) → PlainCell → List (Option Bit) → Option Bit → ℕ → PlainPin → List Event
pin_counts site c bits q k p =
    cond (is_in p.way) (input_counts (is_read c bits q k) (is_clock_of c.state q k) (dotted site p.name) (slice_index_or bits k None))
    (output_counts (dotted site p.name) (slice_index_or bits k None))

abbrev pub pins_count : (site : Text) → PlainCell → List (Option Bit) → Option Bit → ℕ → List PlainPin → List Event
pins_count site c bits q k [] = []
pins_count site c bits q k (p ∷ ps) = pin_counts site c bits q k p ++ pins_count site c bits q (k + 1) ps

abbrev pub state_events : (site : Text) → PlainCell → List PlainConnection → List (Option Bit) → Option Bit → List Event
state_events site c pins bits q =
    flat_map (cell_lines c bits (bits ++ q ∷ [])) pins ++ (state_flops bits c.state q ++ pins_count site c bits q 0 c.pins)

-- an instance of a cell, where n wires stand before it
abbrev pub cell_events : (site : Text) → PlainCell → Look → (base n : ℕ) → List PlainConnection → List Event
cell_events site c look base n pins =
    unless (pins_broken site (cell_pins c) look [] pins)
    (state_wires site c c.state ++ state_events site c pins (pin_bits c pins look base) (state_bit c (pin_bits c pins look base) n c.state))

-- instances of modules

abbrev pub is_constant : Bit → Bool
is_constant (Constant b) = true
is_constant (Wire w) = false

abbrev pub spot_run : ℕ → Spot → List Bit
spot_run n s = run (n + s.first) (range_width s.range)

abbrev pub in_lines_at : (way : Way) → ℕ → Option Spot → Option (List Bit) → List Event
in_lines_at Input n (Some s) (Some bits) = plain_lines (spot_run n s) bits
in_lines_at _ n s bits = []

abbrev pub out_lines_at : (way : Way) → ℕ → Option Spot → Option (List Bit) → List Event
out_lines_at Output n (Some s) (Some bits) = plain_lines bits (spot_run n s)
out_lines_at _ n s bits = []

-- the equations of a connection of an input port of a module whose wires stand from n on, and those of an output port
abbrev pub in_lines : PlainModule → ℕ → Look → ℕ → PlainConnection → List Event
in_lines m n look base c = in_lines_at (port_way m c.pin) n (module_ports m c.pin) (connected_form c.form look base)

abbrev pub out_lines : PlainModule → ℕ → Look → ℕ → PlainConnection → List Event
out_lines m n look base c = out_lines_at (port_way m c.pin) n (module_ports m c.pin) (connected_form c.form look base)

-- an output port at which a constant stands counts as a wire with 2 drivers
abbrev pub constant_counts : Text → Option (List Bit) → List Event
constant_counts name None = []
constant_counts name (Some bits) = cond (list_any is_constant bits) (pin name 2 ∷ []) []

abbrev pub way_counts : Way → Text → Option (List Bit) → List Event
way_counts Input name bits = []
way_counts Output name bits = constant_counts name bits

abbrev pub port_counts : (site : Text) → PlainModule → Look → ℕ → List PlainConnection → Text → List Event
port_counts site m look base pins port = way_counts (port_way m port) (dotted site port) (connected pins look base port)

-- what an instance of a module, where n wires stand before it, gives before the walk inside it
abbrev pub before_events : (site : Text) → PlainModule → Look → (base n : ℕ) → List PlainConnection → List Event
before_events site m look base n pins =
    unless (pins_broken site (module_ports m) look [] pins)
    (flat_map (in_lines m n look base) pins ++ flat_map (port_counts site m look base pins) m.ports)

-- the wires of a module that a walk enters
abbrev pub entered : (prefix : Text) → PlainModule → List Event
entered prefix m = map (λ t. wire (prefix ++ t)) (module_bits m)
