-- What a walk that stands somewhere has still to come to.
use Rattle.std.specs.Prelude.{◌≡◌, ◌+◌, ◌-◌, ◌++◌, ℕ, suc, List, [], ◌∷◌, Option, Some, None, Result, Ok, Err, map, length, drop, reverse, slice_get}
use Rattle.std.specs.List.{flat_map}
use Rattle.verilog_reader.specs.Plain.{PlainConnection, PlainItem, declare, assign, instance, PlainModule}
use Rattle.form_bits.specs.Forms.{Text, Look}
use Rattle.cell_faces.specs.Cells.{find_cell}
use Rattle.module_outlines.specs.Outlines.{module_names}
use Rattle.bound_items.specs.Events.{Event, first_broken, count_wires}
use Rattle.bound_items.specs.Items.{assign_events, out_lines}
use Rattle.bound_items.specs.State.{State, state_of, after, UnlessMemory}
use Rattle.bound_items.specs.declared.fault.BindFault.{BindFault}
use Rattle.net_binding.specs.Walk.{Parts, walk, item_events, items_events, cell_found, module_number}
use Rattle.net_binding.specs.declared.frame.Frame.{Frame}
use Rattle.net_binding.specs.declared.frame.Walker.{Walker}
use Rattle.net_binding.specs.declared.frame.Step.{Step}
use Rattle.net_binding.specs.declared.frame.Step.TheVariants.{On, Done}

abbrev pub frame_number : Frame → ℕ
frame_number f = f.number

-- the modules of frames, the innermost first
abbrev pub path_of : List Frame → List ℕ
path_of fs = map frame_number fs

-- behind an item
abbrev pub next_frame : Frame → Frame
next_frame f = record { number = f.number; item = f.item + 1; base = f.base; prefix = f.prefix }

-- an item of the module of a frame inside others, where n wires stand before it
abbrev pub frame_events : Parts → Frame → List Frame → PlainModule → ℕ → PlainItem → List Event
frame_events parts f fs m n i = item_events parts (walk parts (length parts.modules - length (path_of (f ∷ fs)))) (path_of (f ∷ fs)) f.prefix (module_names m) f.base n i

abbrev pub own_of : Parts → Frame → List Frame → (from n : ℕ) → Option PlainModule → List Event
own_of parts f fs from n None = []
own_of parts f fs from n (Some m) = items_events (frame_events parts f fs m) n (drop from m.items)

-- the items of the module of a frame from one on
abbrev pub own : Parts → Frame → List Frame → (from n : ℕ) → List Event
own parts f fs from n = own_of parts f fs from n (slice_get parts.modules f.number)

abbrev pub pins_of : PlainItem → List PlainConnection
pins_of (declare attributes way range names) = []
pins_of (assign attributes left right) = []
pins_of (instance attributes cell name pins) = pins

abbrev pub behind_item : (inner f : Frame) → (inside m : PlainModule) → Option PlainItem → List Event
behind_item inner f inside m None = []
behind_item inner f inside m (Some i) = flat_map (out_lines inside inner.base (module_names m) f.base) (pins_of i)

abbrev pub behind_in : (inner f : Frame) → (inside m : Option PlainModule) → List Event
behind_in inner f None m = []
behind_in inner f (Some inside) None = []
behind_in inner f (Some inside) (Some m) = behind_item inner f inside m (slice_get m.items f.item)

-- what the instance at which a frame stands gives behind the walk inside it, which stood in another
abbrev pub behind : Parts → (inner f : Frame) → List Event
behind parts inner f = behind_in inner f (slice_get parts.modules inner.number) (slice_get parts.modules f.number)

-- what comes behind the module of a frame, in those around it
abbrev pub outside : Parts → Frame → List Frame → ℕ → List Event
outside parts inner [] n = []
outside parts inner (f ∷ fs) n = behind parts inner f ++ (own parts f fs (f.item + 1) n ++ outside parts f fs (n + count_wires (own parts f fs (f.item + 1) n)))

abbrev pub pending : Parts → Frame → List Frame → ℕ → List Event
pending parts f fs n = own parts f fs f.item n ++ outside parts f fs (n + count_wires (own parts f fs f.item n))

-- what a walk has still to come to
abbrev pub rest_of : Parts → Walker → List Event
rest_of parts w = pending parts w.frame (reverse w.outer.items) (length (state_of w.netlist).names)

-- what becomes of events is what becomes of fewer later
abbrev pub Goes : State → List Event → State → List Event → Type 0
Goes s es t fs = (first_broken s.names es ≡ first_broken t.names fs) × (after s es ≡ after t fs)

-- a step of a walk
abbrev pub Steps : Parts → State → List Event → Result Step BindFault → Type 0
Steps parts s es (Ok (On w)) = Goes s es (state_of w.netlist) (rest_of parts w)
Steps parts s es (Ok (Done n)) = Goes s es (state_of n) []
Steps parts s es (Err f) = UnlessMemory f (first_broken s.names es ≡ Some f)

abbrev pub Begins : Parts → State → List Event → Result Walker BindFault → Type 0
Begins parts s es (Ok w) = Goes s es (state_of w.netlist) (rest_of parts w)
Begins parts s es (Err f) = UnlessMemory f (first_broken s.names es ≡ Some f)

-- the module that an item is an instance of, by its number
abbrev pub item_module : Parts → PlainItem → Option ℕ
item_module parts (declare attributes way range names) = None
item_module parts (assign attributes left right) = None
item_module parts (instance attributes cell name pins) = module_number parts.modules cell

-- an item that is no instance of a module
abbrev pub plain_events : Parts → (prefix : Text) → Look → (base n : ℕ) → PlainItem → List Event
plain_events parts prefix look base n (declare attributes way range names) = []
plain_events parts prefix look base n (assign attributes left right) = assign_events look base left right
plain_events parts prefix look base n (instance attributes cell name pins) = cell_found (prefix ++ name) cell look base n pins (find_cell parts.cells cell)
