-- What the groups and attributes of a cell say, as texts.
use Rattle.std.specs.Prelude.{◌||◌, ℕ, Bool, false, cond, List, [], ◌∷◌, Option, Some, None, map, codes}
use Rattle.std.specs.List.{flat_map}
use Rattle.std.specs.Str.{bytes_eq}
use Rattle.liberty_statements.specs.Grammar.{group, complex, simple, Statements, none, first, names_of, text_of}

abbrev pub Text : Type 0
Text = List ℕ

-- the text of the first simple attribute of a name that stands directly among the statements
abbrev pub first_text : Text → Statements → Option Text
first_text name none = None
first_text name (first (simple n v) ss) = cond (bytes_eq n name) (Some (text_of v)) (first_text name ss)
first_text name (first (complex n xs e) ss) = first_text name ss
first_text name (first (group n xs inner e) ss) = first_text name ss

-- whether a simple attribute of a name stands directly among the statements
abbrev pub has_text : Text → Statements → Bool
has_text name none = false
has_text name (first (simple n v) ss) = bytes_eq n name || has_text name ss
has_text name (first (complex n xs e) ss) = has_text name ss
has_text name (first (group n xs inner e) ss) = has_text name ss

-- the names that a group's arguments give, and the statements in its braces
pub record Group : Type 0 where
  pub names : List Text
  pub inner : Statements

-- the groups of a name that stand directly among the statements
abbrev pub groups : Text → Statements → List Group
groups name none = []
groups name (first (simple n v) ss) = groups name ss
groups name (first (complex n xs e) ss) = groups name ss
groups name (first (group n xs inner e) ss) = cond (bytes_eq n name) (record { names = names_of xs; inner = inner } ∷ groups name ss) (groups name ss)

-- whether there is one
abbrev pub has_group : Text → Statements → Bool
has_group name none = false
has_group name (first (simple n v) ss) = has_group name ss
has_group name (first (complex n xs e) ss) = has_group name ss
has_group name (first (group n xs inner e) ss) = bytes_eq n name || has_group name ss

-- what a `pin` group says of each of its pins
pub record PinTexts : Type 0 where
  pub direction : Option Text
  pub function : Option Text
  pub is_three_state : Bool

abbrev pub pin_texts : Statements → PinTexts
pin_texts ss = record { direction = first_text (codes "direction") ss; function = first_text (codes "function") ss; is_three_state = has_text (codes "three_state") ss }

-- a pin by its name
pub record NamedPin : Type 0 where
  pub name : Text
  pub texts : PinTexts

abbrev pub named_pin : PinTexts → Text → NamedPin
named_pin texts name = record { name = name; texts = texts }

abbrev pub pins_of_group : Group → List NamedPin
pins_of_group g = map (named_pin (pin_texts g.inner)) g.names

-- what an `ff` group says
pub record FlipTexts : Type 0 where
  pub clocked_on : Option Text
  pub next_state : Option Text
  pub is_async : Bool
  pub has_second_clock : Bool

abbrev pub flip_texts : Statements → FlipTexts
flip_texts ss = record {
  clocked_on = first_text (codes "clocked_on") ss;
  next_state = first_text (codes "next_state") ss;
  is_async = has_text (codes "clear") ss || has_text (codes "preset") ss;
  has_second_clock = has_text (codes "clocked_on_also") ss;
}

-- a flip-flop by the names of its states
pub record NamedFlip : Type 0 where
  pub names : List Text
  pub texts : FlipTexts

abbrev pub flip_of_group : Group → NamedFlip
flip_of_group g = record { names = g.names; texts = flip_texts g.inner }

-- the groups of a cell that are not understood
pub record Kinds : Type 0 where
  pub has_bus : Bool
  pub has_latch : Bool
  pub has_table : Bool
  pub has_bank : Bool

abbrev pub kinds_of : Statements → Kinds
kinds_of ss = record {
  has_bus = has_group (codes "bus") ss || has_group (codes "bundle") ss;
  has_latch = has_group (codes "latch") ss || has_group (codes "latch_bank") ss;
  has_table = has_group (codes "statetable") ss;
  has_bank = has_group (codes "ff_bank") ss;
}

-- what a cell's group says
pub record CellTexts : Type 0 where
  pub kinds : Kinds
  pub flips : List NamedFlip
  pub pins : List NamedPin

abbrev pub cell_texts : Statements → CellTexts
cell_texts ss = record {
  kinds = kinds_of ss;
  flips = map flip_of_group (groups (codes "ff") ss);
  pins = flat_map pins_of_group (groups (codes "pin") ss);
}

-- a cell by its name, which is its first argument; a `cell` group without one is none
pub record NamedCell : Type 0 where
  pub name : Text
  pub texts : CellTexts

abbrev pub cells_by : List Text → Statements → List NamedCell
cells_by [] inner = []
cells_by (name ∷ more) inner = record { name = name; texts = cell_texts inner } ∷ []

abbrev pub cells_of_group : Group → List NamedCell
cells_of_group g = cells_by g.names g.inner

-- the cells of a library, in the order of the text
abbrev pub cells_of : Statements → List NamedCell
cells_of ss = flat_map cells_of_group (groups (codes "cell") ss)
