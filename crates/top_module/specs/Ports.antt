-- What the declarations of a module say of its ports.
use Rattle.std.specs.Prelude.{ℕ, Bool, false, ◌&&◌, if◌then◌else◌, List, Option, Some, None, slice_get, position, is_none}
use Rattle.std.specs.List.{filter_map}
use Rattle.std.specs.Option.{option_map_or}
use Rattle.agm_net.specs.Plain.{is_in}
use Rattle.verilog_reader.specs.Plain.{PlainItem, declare, assign, instance, PlainModule}
use Rattle.top_module.specs.Marks.{is_among, marks_before, mark_set}
use Rattle.top_module.specs.declared.facts.Kind.{Kind}
use Rattle.top_module.specs.declared.facts.PortFacts.{PortFacts}

-- the way and range that an item gives a name, if it is a declaration with a way that names it
abbrev pub kind_at : List ℕ → PlainItem → Option Kind
kind_at name (declare attributes (Some way) range names) = if is_among name names then Some (record { way = way; range = range }) else None
kind_at name (declare attributes None range names) = None
kind_at name (assign attributes left right) = None
kind_at name (instance attributes cell own pins) = None

-- the way and range of a name, by the first declaration with a way that names it
abbrev pub kind_of : PlainModule → List ℕ → Option Kind
kind_of m name = slice_get (filter_map (kind_at name) m.items) 0

abbrev pub facts_of : PlainModule → List ℕ → PortFacts
facts_of m name = record { kind = kind_of m name; marks = mark_set (marks_before m name) }

-- an input without a range
abbrev pub is_single_input : Kind → Bool
is_single_input k = is_in k.way && is_none k.range

-- an input without a range that has the mark `clock`
abbrev pub is_clock : PortFacts → Bool
is_clock f = option_map_or is_single_input f.kind false && f.marks.clock

-- The clock of a module: its first listed port that is an input without a range and has the mark `clock`, by its place in the list.
abbrev pub clock_of : PlainModule → Option ℕ
clock_of m = position (λ name. is_clock (facts_of m name)) m.ports
