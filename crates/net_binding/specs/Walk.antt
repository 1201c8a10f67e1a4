-- The walk over a design, from its top module on: what it comes to, in order.
use Rattle.std.specs.Prelude.{◌+◌, ◌-◌, ◌^◌, ◌==◌, ◌&&◌, ◌||◌, ◌++◌, ℕ, zero, suc, Bool, true, false, not, cond, min, List, [], ◌∷◌, Option, Some, None, map, length, position, slice_get, slice_index_or, nat_le, is_some}
use Rattle.std.specs.List.{flat_map, list_any, range_with_len}
use Rattle.std.specs.Str.{bytes_eq}
use Rattle.agm_net.specs.Formula.{Formula, f_zero, f_one, f_wire, f_not, f_and, f_or, f_xor, f_mux, stands}
use Rattle.agm_net.specs.Plain.{is_in}
use Rattle.agm_net.specs.declared.port.Way.{Way}
use Rattle.agm_net.specs.declared.port.Way.TheVariants.{Input, Output}
use Rattle.cell_library.specs.Judged.{PlainPin, PlainState, PlainCell}
use Rattle.cell_library.specs.declared.types.Bar.{Bar}
use Rattle.verilog_reader.specs.Plain.{PlainForm, PlainConnection, PlainItem, declare, assign, instance, PlainModule, PlainDesign}
use Rattle.form_bits.specs.Forms.{Text, Look, or_else, form_fault, form_width, form_bits, range_width, run}
use Rattle.form_bits.specs.declared.types.Bit.{Bit}
use Rattle.form_bits.specs.declared.types.Bit.TheVariants.{Constant, Wire}
use Rattle.form_bits.specs.declared.types.Spot.{Spot}
use Rattle.module_rules.specs.Items.{is_among}
use Rattle.cell_faces.specs.Cells.{find_cell, cell_pins, pin_name}
use Rattle.module_outlines.specs.Outlines.{wides, module_bits, module_names, module_ports, port_way}
use Rattle.bound_items.specs.Events.{Event, wire, broken, line, flop, pin, count_wires}
use Rattle.bound_items.specs.Items.{dotted, unless, pins_broken, pin_of, connected_form, in_lines, out_lines, port_counts, cell_events, assign_events, entered}
use Rattle.bound_items.specs.declared.fault.BindFault.{BindFault}
use Rattle.bound_items.specs.declared.fault.BindFault.TheVariants.{UnknownCell, UnknownPin, UnknownWire, Width, Recursive, BarredCell, Clash}

-- items

-- the cells of a library and those known without one, and the modules
pub record Parts : Type 0 where
  pub cells : List PlainCell
  pub modules : PlainDesign

abbrev pub module_name : PlainModule → Text
module_name m = m.name

-- the walk inside: the numbers of the modules on the path, the innermost first, the names before its own, and how many wires stand before it
abbrev pub Walk : Type 0
Walk = (path : List ℕ) → (prefix : Text) → ℕ → List Event

abbrev pub inside_events : Walk → (path : List ℕ) → (site : Text) → PlainModule → ℕ → Look → (base n : ℕ) → List PlainConnection → List Event
inside_events inner path site m k look base n pins =
    unless (pins_broken site (module_ports m) look [] pins)
    (flat_map (in_lines m n look base) pins
    ++ (flat_map (port_counts site m look base pins) m.ports
    ++ (inner (k ∷ path) (dotted site []) n
    ++ flat_map (out_lines m n look base) pins)))

-- A module that is on the path already is recursive, and so is one that is deeper than there are modules, since some module is then on the path twice.
abbrev pub is_recursive : Parts → List ℕ → ℕ → Bool
is_recursive parts path k = list_any (λ j. j == k) path || nat_le (length parts.modules) (length path)

abbrev pub module_at : Parts → Walk → (path : List ℕ) → (site cell : Text) → ℕ → Look → (base n : ℕ) → List PlainConnection → Option PlainModule → List Event
module_at parts inner path site cell k look base n pins None = []
module_at parts inner path site cell k look base n pins (Some m) =
    cond (is_recursive parts path k) (broken (Recursive cell) ∷ []) (inside_events inner path site m k look base n pins)

abbrev pub bar_events : (site cell : Text) → Option Bar → List Event → List Event
bar_events site cell None es = es
bar_events site cell (Some bar) es = broken (BarredCell site cell bar) ∷ []

abbrev pub cell_found : (site cell : Text) → Look → (base n : ℕ) → List PlainConnection → Option PlainCell → List Event
cell_found site cell look base n pins None = broken (UnknownCell site cell) ∷ []
cell_found site cell look base n pins (Some c) = bar_events site cell c.barred (cell_events site c look base n pins)

abbrev pub thing_events : Parts → Walk → (path : List ℕ) → (site cell : Text) → Look → (base n : ℕ) → List PlainConnection → Option ℕ → List Event
thing_events parts inner path site cell look base n pins None = cell_found site cell look base n pins (find_cell parts.cells cell)
thing_events parts inner path site cell look base n pins (Some k) = module_at parts inner path site cell k look base n pins (slice_get parts.modules k)

abbrev pub module_number : PlainDesign → Text → Option ℕ
module_number modules name = position (λ n. bytes_eq n name) (map module_name modules)

-- an item of a module whose wires stand from `base` on, where n wires stand before it
abbrev pub item_events : Parts → Walk → (path : List ℕ) → (prefix : Text) → Look → (base n : ℕ) → PlainItem → List Event
item_events parts inner path prefix look base n (declare attributes way range names) = []
item_events parts inner path prefix look base n (assign attributes left right) =
    assign_events look base left right
item_events parts inner path prefix look base n (instance attributes cell name pins) =
    thing_events parts inner path (prefix ++ name) cell look base n pins (module_number parts.modules cell)

abbrev pub items_events : (ℕ → PlainItem → List Event) → ℕ → List PlainItem → List Event
items_events item n [] = []
items_events item n (i ∷ is) = item n i ++ items_events item (n + count_wires (item n i)) is

abbrev pub top_of : List ℕ → Option ℕ
top_of [] = None
top_of (k ∷ ks) = Some k

abbrev pub module_on : PlainDesign → Option ℕ → Option PlainModule
module_on modules None = None
module_on modules (Some k) = slice_get modules k

abbrev pub body_events : Parts → Walk → (path : List ℕ) → (prefix : Text) → ℕ → Option PlainModule → List Event
body_events parts inner path prefix n None = []
body_events parts inner path prefix n (Some m) =
    entered prefix m ++ items_events (item_events parts inner path prefix (module_names m) n) (n + length (module_bits m)) m.items

-- The walk over the innermost module of a path: its ports and declarations, then its items in the order of the text. So many modules may stand on it.
abbrev pub walk : Parts → ℕ → Walk
walk parts zero path prefix n = []
walk parts (suc depth) path prefix n = body_events parts (walk parts depth) path prefix n (module_on parts.modules (top_of path))

-- the walk over a design from its top module on
abbrev pub design_events : Parts → ℕ → List Event
design_events parts top = walk parts (length parts.modules) (top ∷ []) [] 0
