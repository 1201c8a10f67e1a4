-- The declared names of a module in the order of a walk.
use Rattle.std.specs.Prelude.{◌+◌, ◌++◌, ℕ, Bool, not, List, [], ◌∷◌, Option, Some, None, map, filter, length, take}
use Rattle.std.specs.List.{flat_map}
use Rattle.agm_net.specs.Plain.{bit_names}
use Rattle.agm_net.specs.declared.port.Way.{Way}
use Rattle.agm_net.specs.declared.port.Way.TheVariants.{Input}
use Rattle.agm_net.specs.declared.port.Range.{Range}
use Rattle.verilog_reader.specs.Plain.{PlainItem, declare, assign, instance, PlainModule}
use Rattle.form_bits.specs.Forms.{Text, Look, look_in, range_width}
use Rattle.form_bits.specs.declared.types.Spot.{Spot}
use Rattle.top_module.specs.Ports.{kind_of}
use Rattle.top_module.specs.declared.facts.Kind.{Kind}
use Rattle.module_rules.specs.Items.{is_among}

-- a declared name with its range
pub record Wide : Type 0 where
  pub name : Text
  pub range : Option Range

abbrev pub kind_range : Option Kind → Option Range
kind_range None = None
kind_range (Some k) = k.range

abbrev pub kind_way : Option Kind → Way
kind_way None = Input
kind_way (Some k) = k.way

abbrev pub wide : Option Range → Text → Wide
wide range name = record { name = name; range = range }

abbrev pub port_wide : PlainModule → Text → Wide
port_wide m name = wide (kind_range (kind_of m name)) name

-- the names of a declaration that are not listed as ports
abbrev pub own_wides : List Text → PlainItem → List Wide
own_wides ports (declare attributes way range names) = map (wide range) (filter (λ n. not (is_among ports n)) names)
own_wides ports (assign attributes left right) = []
own_wides ports (instance attributes cell name pins) = []

-- A walk that enters a module comes to its listed ports and then to its declarations. The bits of a listed port come with the list.
abbrev pub wides : PlainModule → List Wide
wides m = map (port_wide m) m.ports ++ flat_map (own_wides m.ports) m.items

abbrev pub wide_name : Wide → Text
wide_name w = w.name

-- where the bits of each name stand among all bits
abbrev pub spots_from : ℕ → List Wide → List Spot
spots_from first [] = []
spots_from first (w ∷ ws) = record { first = first; range = w.range } ∷ spots_from (first + range_width w.range) ws

-- the bits by their names
abbrev pub wide_bits : Wide → List Text
wide_bits w = bit_names w.name w.range

abbrev pub module_bits : PlainModule → List Text
module_bits m = flat_map wide_bits (wides m)

-- the spots of the declared names, and those of the ports
abbrev pub module_names : PlainModule → Look
module_names m = look_in (map wide_name (wides m)) (spots_from 0 (wides m))

abbrev pub module_ports : PlainModule → Look
module_ports m = look_in m.ports (spots_from 0 (map (port_wide m) m.ports))

abbrev pub port_way : PlainModule → Text → Way
port_way m name = kind_way (kind_of m name)

-- how many bits there are
abbrev pub total_width : List Wide → ℕ
total_width [] = 0
total_width (w ∷ ws) = range_width w.range + total_width ws

-- the bits of a module inside an instance
abbrev pub inner_bits : Text → List Wide → List Text
inner_bits prefix ws = map (λ t. prefix ++ t) (flat_map wide_bits ws)
