-- What has become of a walk so far, and what becomes of it by more events.
use Rattle.std.specs.Prelude.{◌≡◌, ◌++◌, ℕ, List, [], ◌∷◌, Option, Some, None, Result, Ok, Err, map}
use Rattle.form_bits.specs.Forms.{Text}
use Rattle.wire_drivers.specs.Wiring.{PlainLine, PlainFlop}
use Rattle.wire_drivers.specs.View.{line_view, flop_view}
use Rattle.bound_items.specs.Events.{Event, wire, broken, line, flop, pin, first_broken}
use Rattle.bound_items.specs.declared.pin.Pin.{Pin}
use Rattle.bound_items.specs.declared.netlist.Netlist.{Netlist}
use Rattle.bound_items.specs.declared.fault.BindFault.{BindFault}
use Rattle.bound_items.specs.declared.fault.BindFault.TheVariants.{UnknownCell, UnknownPin, UnknownWire, Driven, Width, Top, Recursive, BarredCell, Clash, Memory}

-- wires, equations and registers, and the first pin that counts as a wire
pub record State : Type 0 where
  pub names : List Text
  pub lines : List PlainLine
  pub flops : List PlainFlop
  pub pin : Option Pin

abbrev pub state_of : Netlist → State
state_of n = record { names = n.wires; lines = map line_view n.lines; flops = map flop_view n.flops; pin = n.pin }

abbrev pub nothing : State
nothing = record { names = []; lines = []; flops = []; pin = None }

abbrev pub with_wire : State → Text → State
with_wire s n = record { names = s.names ++ n ∷ []; lines = s.lines; flops = s.flops; pin = s.pin }

abbrev pub with_line : State → PlainLine → State
with_line s l = record { names = s.names; lines = s.lines ++ l ∷ []; flops = s.flops; pin = s.pin }

abbrev pub with_flop : State → PlainFlop → State
with_flop s f = record { names = s.names; lines = s.lines; flops = s.flops ++ f ∷ []; pin = s.pin }

abbrev pub first_of : Option Pin → Text → ℕ → Option Pin
first_of None n d = Some (record { name = n; drivers = d })
first_of (Some p) n d = Some p

abbrev pub with_pin : State → Text → ℕ → State
with_pin s n d = record { names = s.names; lines = s.lines; flops = s.flops; pin = first_of s.pin n d }

abbrev pub after : State → List Event → State
after s [] = s
after s (wire n ∷ es) = after (with_wire s n) es
after s (broken f ∷ es) = after s es
after s (line l ∷ es) = after (with_line s l) es
after s (flop f ∷ es) = after (with_flop s f) es
after s (pin n d ∷ es) = after (with_pin s n d) es

-- a fact, but for want of memory
abbrev pub UnlessMemory : BindFault → Type 0 → Type 0
UnlessMemory (UnknownCell i c) P = P
UnlessMemory (UnknownPin i p) P = P
UnlessMemory (UnknownWire n) P = P
UnlessMemory (Driven n d) P = P
UnlessMemory (Width l r) P = P
UnlessMemory (Top n) P = P
UnlessMemory (Recursive m) P = P
UnlessMemory (BarredCell i c b) P = P
UnlessMemory (Clash n) P = P
UnlessMemory Memory P = Unit {0}

-- a check for a broken rule
abbrev pub Checks : {X : Type 0} → Option BindFault → Result X BindFault → Type 0
Checks o (Ok x) = o ≡ None
Checks o (Err f) = UnlessMemory f (o ≡ Some f)

-- what becomes of events: where no rule is broken among them, what the walk has come to behind them
abbrev pub Gives : State → List Event → Result Netlist BindFault → Type 0
Gives s es (Ok n) = (first_broken s.names es ≡ None) × (state_of n ≡ after s es)
Gives s es (Err f) = UnlessMemory f (first_broken s.names es ≡ Some f)
