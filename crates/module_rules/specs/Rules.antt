-- The rules for the names in modules, and the first that is broken.
use Rattle.std.specs.Prelude.{◌==◌, ◌&&◌, ◌||◌, ◌++◌, ℕ, Bool, true, false, not, cond, List, [], ◌∷◌, Option, Some, None, map, filter, position, slice_get, is_some, codes, nat_eq}
use Rattle.std.specs.List.{list_any, starts_with}
use Rattle.std.specs.Option.{option_map_or, option_map}
use Rattle.std.specs.Str.{bytes_eq}
use Rattle.agm_net.specs.declared.port.Way.{Way}
use Rattle.agm_net.specs.declared.port.Range.{Range}
use Rattle.verilog_reader.specs.Plain.{PlainModule, PlainDesign}
use Rattle.module_rules.specs.Items.{Text, is_among, Declared, declared_name, declared_range, declared_in, instances_in, ports_in}
use Rattle.module_rules.specs.declared.fault.NameFault.{NameFault}
use Rattle.module_rules.specs.declared.fault.NameFault.TheVariants.{Clash, UnknownWire}

abbrev pub or_else : {X : Type 0} → Option X → Option X → Option X
or_else (Some x) y = Some x
or_else None y = y

-- the first of these names that is repeated, or is among the earlier ones
abbrev pub first_repeated : (earlier names : List Text) → Option Text
first_repeated earlier [] = None
first_repeated earlier (n ∷ ns) = cond (is_among earlier n) (Some n) (first_repeated (earlier ++ n ∷ []) ns)

-- the first of these names that is not among others
abbrev pub first_unknown : (others names : List Text) → Option Text
first_unknown others [] = None
first_unknown others (n ∷ ns) = cond (is_among others n) (first_unknown others ns) (Some n)

abbrev pub same_ends : Range → Range → Bool
same_ends r s = (r.msb == s.msb) && (r.lsb == s.lsb)

abbrev pub same_range : Option Range → Option Range → Bool
same_range None None = true
same_range None (Some s) = false
same_range (Some r) None = false
same_range (Some r) (Some s) = same_ends r s

abbrev pub range_at : List (Option Range) → Option ℕ → Option (Option Range)
range_at ranges None = None
range_at ranges (Some k) = slice_get ranges k

-- the range with which a name is declared, where these names are declared with these ranges
abbrev pub range_in : List Text → List (Option Range) → Text → Option (Option Range)
range_in names ranges name = range_at ranges (position (λ n. bytes_eq n name) names)

abbrev pub differs : Option Range → Option (Option Range) → Bool
differs range None = false
differs range (Some other) = not (same_range other range)

-- What is declared so far: the names of ports with their ranges, and those of wires with theirs. A name may be declared once as a port and once as a wire, if the ranges are the same.
pub record Scope : Type 0 where
  pub ports : List Text
  pub port_ranges : List (Option Range)
  pub wires : List Text
  pub wire_ranges : List (Option Range)

abbrev pub nothing : Scope
nothing = record { ports = []; port_ranges = []; wires = []; wire_ranges = [] }

abbrev pub add_port : Scope → Text → Option Range → Scope
add_port s name range = record { ports = s.ports ++ name ∷ []; port_ranges = s.port_ranges ++ range ∷ []; wires = s.wires; wire_ranges = s.wire_ranges }

abbrev pub add_wire : Scope → Text → Option Range → Scope
add_wire s name range = record { ports = s.ports; port_ranges = s.port_ranges; wires = s.wires ++ name ∷ []; wire_ranges = s.wire_ranges ++ range ∷ [] }

-- whether a port's name is declared as one already, or as a wire with another range
abbrev pub port_clashes : Scope → Text → Option Range → Bool
port_clashes s name range = is_among s.ports name || differs range (range_in s.wires s.wire_ranges name)

abbrev pub wire_clashes : Scope → Text → Option Range → Bool
wire_clashes s name range = is_among s.wires name || differs range (range_in s.ports s.port_ranges name)

abbrev pub clashes : Scope → Option Way → Text → Option Range → Bool
clashes s (Some way) name range = port_clashes s name range
clashes s None name range = wire_clashes s name range

abbrev pub more : Scope → Option Way → Text → Option Range → Scope
more s (Some way) name range = add_port s name range
more s None name range = add_wire s name range

-- the first declared name that clashes with what is declared before it
abbrev pub first_clash : Scope → List Declared → Option Text
first_clash s [] = None
first_clash s (d ∷ ds) = cond (clashes s d.way d.name d.range) (Some d.name) (first_clash (more s d.way d.name d.range) ds)

-- what declarations declare, where none clashes
abbrev pub declared_after : Scope → List Declared → Scope
declared_after s [] = s
declared_after s (d ∷ ds) = declared_after (more s d.way d.name d.range) ds

abbrev pub scope_of : PlainModule → Scope
scope_of m = declared_after nothing (declared_in m.items)

-- the first instance whose name is that of a declared name or of an earlier instance
abbrev pub first_taken : Scope → (earlier names : List Text) → Option Text
first_taken s earlier [] = None
first_taken s earlier (n ∷ ns) = cond (is_among s.ports n || (is_among s.wires n || is_among earlier n)) (Some n) (first_taken s (earlier ++ n ∷ []) ns)

abbrev pub clash_of : Option Text → Option NameFault
clash_of None = None
clash_of (Some name) = Some (Clash name)

abbrev pub unknown_of : Option Text → Option NameFault
unknown_of None = None
unknown_of (Some name) = Some (UnknownWire name)

-- whether a module may not have its name: an earlier module has it, a cell of the library has it, or it begins as those of the cells that are known without a library
abbrev pub is_taken : (cells earlier : List Text) → Text → Bool
is_taken cells earlier name = is_among earlier name || (is_among cells name || starts_with nat_eq name (codes "AGM_"))

-- The first rule that is broken behind a module's name and its list of ports: a declared name clashes, an instance's name is taken, a listed port is not declared with a way, a name that is not listed is.
abbrev pub body_fault : PlainModule → Option NameFault
body_fault m =
    or_else (clash_of (first_clash nothing (declared_in m.items)))
    (or_else (clash_of (first_taken (scope_of m) [] (instances_in m.items)))
    (or_else (unknown_of (first_unknown (scope_of m).ports m.ports)) (unknown_of (first_unknown m.ports (ports_in m.items)))))

-- The first rule for names that is broken in a module, behind modules with earlier names: its own name is taken, a port is listed twice, or one of those behind.
abbrev pub module_fault : (cells earlier : List Text) → PlainModule → Option NameFault
module_fault cells earlier m =
    or_else (cond (is_taken cells earlier m.name) (Some (Clash m.name)) None) (or_else (clash_of (first_repeated [] m.ports)) (body_fault m))

-- the first rule for names that is broken in a design
abbrev pub first_fault : (cells earlier : List Text) → PlainDesign → Option NameFault
first_fault cells earlier [] = None
first_fault cells earlier (m ∷ ms) = or_else (module_fault cells earlier m) (first_fault cells (earlier ++ m.name ∷ []) ms)
