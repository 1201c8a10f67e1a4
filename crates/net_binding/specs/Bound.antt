-- What binding a design over a library answers.
use Rattle.std.specs.Prelude.{◌≡◌, ◌+◌, ◌∷◌, ◌++◌, ℕ, List, [], Option, Some, None, Result, Ok, Err, map, length, slice_get, slice_index_or}
use Rattle.std.specs.List.{range_with_len}
use Rattle.agm_net.specs.Plain.{PlainNet}
use Rattle.agm_net.specs.View.{plain_of}
use Rattle.agm_net.specs.declared.net.Net.{Net}
use Rattle.agm_net.specs.declared.port.Port.{Port}
use Rattle.cell_library.specs.Judged.{PlainCell}
use Rattle.verilog_reader.specs.Plain.{PlainModule, PlainDesign}
use Rattle.form_bits.specs.Forms.{Text, range_width}
use Rattle.module_rules.specs.Rules.{first_fault}
use Rattle.module_rules.specs.declared.fault.NameFault.{NameFault}
use Rattle.module_rules.specs.declared.fault.NameFault.TheVariants as names
use Rattle.top_module.specs.Top.{candidates}
use Rattle.top_module.specs.Ports.{kind_of, clock_of}
use Rattle.wire_drivers.specs.Wiring.{Wiring, first_wrong, kept_net}
use Rattle.wire_drivers.specs.declared.types.Wrong.{Wrong}
use Rattle.cell_faces.specs.Cells.{known_cells, cell_name}
use Rattle.module_outlines.specs.Outlines.{kind_range, port_way}
use Rattle.bound_items.specs.Events.{Event, first_broken, wires_in, lines_in, flops_in, first_pin}
use Rattle.net_binding.specs.Walk.{Parts, design_events}
use Rattle.bound_items.specs.State.{UnlessMemory}
use Rattle.bound_items.specs.declared.pin.Pin.{Pin}
use Rattle.bound_items.specs.declared.fault.BindFault.{BindFault}
use Rattle.bound_items.specs.declared.fault.BindFault.TheVariants.{UnknownWire, Driven, Top, Clash}

-- the top's ports, whose bits are the first wires
abbrev pub ports_from : PlainModule → ℕ → List Text → List Port
ports_from m first [] = []
ports_from m first (p ∷ ps) =
    record { name = p; way = port_way m p; range = kind_range (kind_of m p); bits = range_with_len first (range_width (kind_range (kind_of m p))) }
    ∷ ports_from m (first + range_width (kind_range (kind_of m p))) ps

-- the wires that a walk comes to, with what drives and reads them
abbrev pub wiring_of : PlainModule → List Event → Wiring
wiring_of m es = record { ports = ports_from m 0 m.ports; wires = wires_in es; lines = lines_in es; flops = flops_in es }

abbrev pub Outcome : Type 0
Outcome = Result PlainNet BindFault

-- the wires come before the pins that count as wires
abbrev pub pin_outcome : PlainNet → Option Pin → Outcome
pin_outcome net None = Ok net
pin_outcome net (Some p) = Err (Driven p.name p.drivers)

abbrev pub wire_outcome : Wiring → Option ℕ → Option Pin → Option Wrong → Outcome
wire_outcome w clock pin None = pin_outcome (kept_net w clock) pin
wire_outcome w clock pin (Some wrong) = Err (Driven (slice_index_or w.wires wrong.wire []) wrong.drivers)

abbrev pub walk_outcome : PlainModule → List Event → Option BindFault → Outcome
walk_outcome m es None = wire_outcome (wiring_of m es) (clock_of m) (first_pin es) (first_wrong (wiring_of m es))
walk_outcome m es (Some f) = Err f

abbrev pub module_outcome : Parts → ℕ → Option PlainModule → Outcome
module_outcome parts top None = Err (Top 0)
module_outcome parts top (Some m) = walk_outcome m (design_events parts top) (first_broken [] (design_events parts top))

abbrev pub top_outcome : Parts → List ℕ → Outcome
top_outcome parts (k ∷ []) = module_outcome parts k (slice_get parts.modules k)
top_outcome parts ks = Err (Top (length ks))

abbrev pub fault_of : NameFault → BindFault
fault_of (names.Clash n) = Clash n
fault_of (names.UnknownWire n) = UnknownWire n

abbrev pub name_outcome : Parts → Option NameFault → Outcome
name_outcome parts None = top_outcome parts (candidates parts.modules)
name_outcome parts (Some f) = Err (fault_of f)

abbrev pub parts_of : List PlainCell → PlainDesign → Parts
parts_of library design = record { cells = known_cells ++ library; modules = design }

-- The bound net, or the first rule that is broken: a rule for the names in modules, the choice of the top, a rule that the walk comes to, the drivers of a wire.
abbrev pub bound : (library : List PlainCell) → PlainDesign → Outcome
bound library design = name_outcome (parts_of library design) (first_fault (map cell_name library) [] design)

-- an answer is the outcome, or want of memory
abbrev pub Answers : Outcome → Result Net BindFault → Type 0
Answers o (Ok net) = o ≡ Ok (plain_of net)
Answers o (Err f) = UnlessMemory f (o ≡ Err f)
