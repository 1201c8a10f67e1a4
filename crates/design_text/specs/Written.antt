-- The text of a design, for people to read: a declaration, an assign or an instance a line.
use Rattle.std.specs.Prelude.{ℕ, cond, List, [], ◌∷◌, ◌++◌, Option, Some, None, codes}
use Rattle.std.specs.List.{flat_map}
use Rattle.agm_net.specs.declared.port.Way.{Way}
use Rattle.agm_net.specs.declared.port.Way.TheVariants.{Input, Output}
use Rattle.agm_net.specs.declared.port.Range.{Range}
use Rattle.small_text.specs.Layout.{is_simple_name}
use Rattle.verilog_tokens.specs.Token.{Name, Key, Number, Constant, Text, Open, Close}
use Rattle.verilog_reader.specs.Plain.{PlainForm, whole, bit, part, constant, join, repeat, PlainForms, no_forms, a_form, PlainConnection, PlainItem, declare, assign, instance, PlainModule, PlainDesign}
use Rattle.verilog_reader.specs.declared.design.Attribute.{Attribute}
use Rattle.verilog_reader.specs.declared.design.Value.{Value}
use Rattle.verilog_reader.specs.declared.design.Value.TheVariants as value
use Rattle.design_text.specs.Parts.{Part, word, symbol, blank, space, next_line, parts_text}

-- a name, and a blank behind it where it is escaped
abbrev pub name_parts : List ℕ → List Part
name_parts name = word (Name name) ∷ cond (is_simple_name name) [] (blank ∷ [])

-- `, name`
abbrev pub next_name : List ℕ → List Part
next_name name = symbol 44 ∷ blank ∷ name_parts name

abbrev pub names_parts : List (List ℕ) → List Part
names_parts [] = []
names_parts (n ∷ ns) = name_parts n ++ flat_map next_name ns

abbrev pub value_parts : Value → List Part
value_parts (value.Text text) = word (Text text) ∷ []
value_parts (value.Number n) = word (Number n) ∷ []
value_parts (value.Bits bits) = word (Constant bits) ∷ []

-- ` = value`
abbrev pub set_parts : Option Value → List Part
set_parts None = []
set_parts (Some v) = blank ∷ symbol 61 ∷ blank ∷ value_parts v

-- `(* name = value *) `
abbrev pub attribute_parts : Attribute → List Part
attribute_parts a = word Open ∷ blank ∷ (name_parts a.name ++ (set_parts a.value ++ blank ∷ word Close ∷ blank ∷ []))

abbrev pub attributes_parts : List Attribute → List Part
attributes_parts attributes = flat_map attribute_parts attributes

abbrev pub port_way_parts : Way → List Part
port_way_parts Input = word (Key (codes "input")) ∷ blank ∷ []
port_way_parts Output = word (Key (codes "output")) ∷ blank ∷ []

abbrev pub way_parts : Option Way → List Part
way_parts None = word (Key (codes "wire")) ∷ blank ∷ []
way_parts (Some way) = port_way_parts way

-- `[msb:lsb] `
abbrev pub range_parts : Option Range → List Part
range_parts None = []
range_parts (Some r) = symbol 91 ∷ word (Number r.msb) ∷ symbol 58 ∷ word (Number r.lsb) ∷ symbol 93 ∷ blank ∷ []

-- `x[3]` and `x[3:0]`
abbrev pub bit_parts : List ℕ → ℕ → List Part
bit_parts n k = name_parts n ++ symbol 91 ∷ word (Number k) ∷ symbol 93 ∷ []

abbrev pub part_parts : List ℕ → (high low : ℕ) → List Part
part_parts n h l = name_parts n ++ symbol 91 ∷ word (Number h) ∷ symbol 58 ∷ word (Number l) ∷ symbol 93 ∷ []

abbrev mutual
  pub form_parts : PlainForm → List Part
  form_parts (whole n) = name_parts n
  form_parts (bit n k) = bit_parts n k
  form_parts (part n h l) = part_parts n h l
  form_parts (constant bits) = word (Constant bits) ∷ []
  form_parts (join fs) = symbol 123 ∷ (forms_parts fs ++ symbol 125 ∷ [])
  form_parts (repeat k f) = symbol 123 ∷ word (Number k) ∷ symbol 123 ∷ (form_parts f ++ symbol 125 ∷ symbol 125 ∷ [])

  pub forms_parts : PlainForms → List Part
  forms_parts no_forms = []
  forms_parts (a_form f fs) = form_parts f ++ more_parts fs

  -- `, form` for each
  pub more_parts : PlainForms → List Part
  more_parts no_forms = []
  more_parts (a_form f fs) = symbol 44 ∷ blank ∷ (form_parts f ++ more_parts fs)

abbrev pub content_parts : Option PlainForm → List Part
content_parts None = []
content_parts (Some f) = form_parts f

-- `.pin(form)`
abbrev pub pin_parts : PlainConnection → List Part
pin_parts c = symbol 46 ∷ (name_parts c.pin ++ symbol 40 ∷ (content_parts c.form ++ symbol 41 ∷ []))

-- `, .pin(form)`
abbrev pub next_pin : PlainConnection → List Part
next_pin c = symbol 44 ∷ blank ∷ pin_parts c

abbrev pub pins_parts : List PlainConnection → List Part
pins_parts [] = []
pins_parts (c ∷ cs) = pin_parts c ++ flat_map next_pin cs

-- a declaration, an assign and an instance behind their attributes
abbrev pub declared_parts : Option Way → Option Range → List (List ℕ) → List Part
declared_parts way range names = way_parts way ++ (range_parts range ++ (names_parts names ++ symbol 59 ∷ []))

abbrev pub assigned_parts : (left right : PlainForm) → List Part
assigned_parts left right = word (Key (codes "assign")) ∷ blank ∷ (form_parts left ++ blank ∷ symbol 61 ∷ blank ∷ (form_parts right ++ symbol 59 ∷ []))

abbrev pub placed_parts : (cell name : List ℕ) → List PlainConnection → List Part
placed_parts cell name pins = name_parts cell ++ blank ∷ (name_parts name ++ blank ∷ symbol 40 ∷ (pins_parts pins ++ symbol 41 ∷ symbol 59 ∷ []))

-- the line of each
abbrev pub item_parts : PlainItem → List Part
item_parts (declare attributes way range names) = next_line ∷ (attributes_parts attributes ++ declared_parts way range names)
item_parts (assign attributes left right) = next_line ∷ (attributes_parts attributes ++ assigned_parts left right)
item_parts (instance attributes cell name pins) = next_line ∷ (attributes_parts attributes ++ placed_parts cell name pins)

-- `module name(ports);`
abbrev pub head_parts : List Attribute → List ℕ → List (List ℕ) → List Part
head_parts attributes name ports = attributes_parts attributes ++ word (Key (codes "module")) ∷ blank ∷ (name_parts name ++ symbol 40 ∷ (names_parts ports ++ symbol 41 ∷ symbol 59 ∷ []))

-- a line `endmodule`
abbrev pub last_parts : List Part
last_parts = space (10 ∷ []) ∷ word (Key (codes "endmodule")) ∷ space (10 ∷ []) ∷ []

abbrev pub module_parts : PlainModule → List Part
module_parts m = head_parts m.attributes m.name m.ports ++ (flat_map item_parts m.items ++ last_parts)

-- the modules in their order
abbrev pub design_parts : PlainDesign → List Part
design_parts d = flat_map module_parts d

abbrev pub design_text : PlainDesign → List ℕ
design_text d = parts_text (design_parts d)
