-- What the declarations of a module declare, name by name.
use Rattle.std.specs.Prelude.{◌==◌, ◌&&◌, ◌++◌, ℕ, Bool, true, false, not, List, [], ◌∷◌, Option, Some, None, map, position, slice_get, is_some}
use Rattle.std.specs.List.{list_any, flat_map}
use Rattle.std.specs.Option.{option_map_or}
use Rattle.std.specs.Str.{bytes_eq}
use Rattle.agm_net.specs.declared.port.Way.{Way}
use Rattle.agm_net.specs.declared.port.Range.{Range}
use Rattle.verilog_reader.specs.Plain.{PlainItem, declare, assign, instance, PlainModule}

abbrev pub Text : Type 0
Text = List ℕ

abbrev pub is_among : List Text → Text → Bool
is_among names name = list_any (λ n. bytes_eq n name) names

-- a name that a declaration declares: a port's where there is a way, and else a wire's
pub record Declared : Type 0 where
  pub name : Text
  pub way : Option Way
  pub range : Option Range

abbrev pub declared_name : Declared → Text
declared_name d = d.name

abbrev pub declared_range : Declared → Option Range
declared_range d = d.range

abbrev pub declaration : Option Way → Option Range → Text → Declared
declaration way range name = record { name = name; way = way; range = range }

abbrev pub declarations : Option Way → Option Range → List Text → List Declared
declarations way range names = map (declaration way range) names

-- the names that an item declares
abbrev pub declared_by : PlainItem → List Declared
declared_by (declare attributes way range names) = declarations way range names
declared_by (assign attributes left right) = []
declared_by (instance attributes cell name pins) = []

-- the declared names of a module, in the order of the text
abbrev pub declared_in : List PlainItem → List Declared
declared_in items = flat_map declared_by items

-- the names of the instances that an item makes
abbrev pub instance_of : PlainItem → List Text
instance_of (declare attributes way range names) = []
instance_of (assign attributes left right) = []
instance_of (instance attributes cell name pins) = name ∷ []

abbrev pub instances_in : List PlainItem → List Text
instances_in items = flat_map instance_of items

-- the names that an item declares with a way
abbrev pub ports_of : PlainItem → List Text
ports_of (declare attributes (Some way) range names) = names
ports_of (declare attributes None range names) = []
ports_of (assign attributes left right) = []
ports_of (instance attributes cell name pins) = []

abbrev pub ports_in : List PlainItem → List Text
ports_in items = flat_map ports_of items
