-- The text of a module, for people to read: a declaration, an assign or an instance a line.
use Rattle.std.specs.Prelude.{ℕ, cond, List, [], ◌∷◌, ◌++◌, Option, Some, None, codes}
use Rattle.std.specs.List.{flat_map}
use Rattle.agm_net.specs.declared.mark.Mark.{Mark}
use Rattle.agm_net.specs.declared.mark.Mark.TheVariants as kind
use Rattle.agm_net.specs.declared.port.Way.{Way}
use Rattle.agm_net.specs.declared.port.Way.TheVariants.{Input, Output}
use Rattle.agm_net.specs.declared.port.Range.{Range}
use Rattle.small_text.specs.declared.token.Token.{Token}
use Rattle.small_text.specs.declared.token.Token.TheVariants.{Name, Key, Number, Constant, Text, Symbol, Open, Close}
use Rattle.small_text.specs.declared.small.Bit.{Bit}
use Rattle.small_text.specs.declared.small.Source.{Source}
use Rattle.small_text.specs.declared.small.Source.TheVariants as source
use Rattle.small_text.specs.declared.small.Declaration.{Declaration}
use Rattle.small_text.specs.declared.small.Declaration.TheVariants.{Port, Wires}
use Rattle.small_text.specs.declared.small.Item.{Item}
use Rattle.small_text.specs.declared.small.Item.TheVariants.{Assign, Not, Xor, And, Register}
use Rattle.small_text.specs.declared.small.Small.{Small}
use Rattle.small_text.specs.Layout.{is_simple_name, token_text}

-- a token, or white space
pub data Part : Type 0 where
  word : Token → Part
  space : List ℕ → Part

abbrev pub part_text : Part → List ℕ
part_text (word t) = token_text t
part_text (space bytes) = bytes

abbrev pub parts_text : List Part → List ℕ
parts_text parts = flat_map part_text parts

abbrev pub symbol : ℕ → Part
symbol s = word (Symbol s)

abbrev pub blank : Part
blank = space (32 ∷ [])

-- a line feed and the indent of the next line
abbrev pub next_line : Part
next_line = space (10 ∷ 32 ∷ 32 ∷ [])

-- a name, and a blank behind it where it is escaped
abbrev pub name_parts : List ℕ → List Part
name_parts name = word (Name name) ∷ cond (is_simple_name name) [] (blank ∷ [])

abbrev pub select_parts : Option ℕ → List Part
select_parts None = []
select_parts (Some k) = symbol 91 ∷ word (Number k) ∷ symbol 93 ∷ []

abbrev pub bit_parts : Bit → List Part
bit_parts b = name_parts b.name ++ select_parts b.index

abbrev pub source_parts : Source → List Part
source_parts (source.Bit b) = bit_parts b
source_parts (source.Constant v) = word (Constant v) ∷ []

-- `, ident`
abbrev pub next_parts : List ℕ → List Part
next_parts name = symbol 44 ∷ blank ∷ name_parts name

abbrev pub names_parts : List (List ℕ) → List Part
names_parts [] = []
names_parts (n ∷ ns) = name_parts n ++ flat_map next_parts ns

-- `(* AGEMA = "secure" *) `
abbrev pub kind_parts : List ℕ → List Part
kind_parts text = word Open ∷ blank ∷ word (Name (codes "AGEMA")) ∷ blank ∷ symbol 61 ∷ blank ∷ word (Text text) ∷ blank ∷ word Close ∷ blank ∷ []

abbrev pub mark_parts : Mark → List Part
mark_parts kind.Unmarked = []
mark_parts kind.Secure = kind_parts (codes "secure")
mark_parts kind.Public = kind_parts (codes "public")
mark_parts kind.Clock = kind_parts (codes "clock")

abbrev pub way_parts : Way → List Part
way_parts Input = word (Key (codes "input")) ∷ blank ∷ []
way_parts Output = word (Key (codes "output")) ∷ blank ∷ []

-- `[msb:lsb] `
abbrev pub range_parts : Option Range → List Part
range_parts None = []
range_parts (Some r) = symbol 91 ∷ word (Number r.msb) ∷ symbol 58 ∷ word (Number r.lsb) ∷ symbol 93 ∷ blank ∷ []

-- a line of a declaration
abbrev pub declaration_parts : Declaration → List Part
declaration_parts (Port mark way range name) = next_line ∷ (mark_parts mark ++ (way_parts way ++ (range_parts range ++ (name_parts name ++ symbol 59 ∷ []))))
declaration_parts (Wires names) = next_line ∷ word (Key (codes "wire")) ∷ blank ∷ (names_parts names ++ symbol 59 ∷ [])

-- `.pin(bit)`
abbrev pub pin_parts : List ℕ → Bit → List Part
pin_parts pin bit = symbol 46 ∷ word (Name pin) ∷ symbol 40 ∷ (bit_parts bit ++ symbol 41 ∷ [])

-- `, .pin(bit)`
abbrev pub next_pin_parts : List ℕ → Bit → List Part
next_pin_parts pin bit = symbol 44 ∷ blank ∷ pin_parts pin bit

-- a line `cell name (`
abbrev pub cell_parts : (cell name : List ℕ) → List Part
cell_parts cell name = next_line ∷ word (Name cell) ∷ blank ∷ (name_parts name ++ blank ∷ symbol 40 ∷ [])

-- `);`
abbrev pub end_parts : List Part
end_parts = symbol 41 ∷ symbol 59 ∷ []

abbrev pub two_parts : (cell name first : List ℕ) → Bit → (second : List ℕ) → Bit → List Part
two_parts cell name first a second b = cell_parts cell name ++ (pin_parts first a ++ (next_pin_parts second b ++ end_parts))

abbrev pub three_parts : (cell name first : List ℕ) → Bit → (second : List ℕ) → Bit → (third : List ℕ) → Bit → List Part
three_parts cell name first a second b third c = cell_parts cell name ++ (pin_parts first a ++ (next_pin_parts second b ++ (next_pin_parts third c ++ end_parts)))

-- a line of an assign or an instance
abbrev pub item_parts : Item → List Part
item_parts (Assign target from) = next_line ∷ word (Key (codes "assign")) ∷ blank ∷ (bit_parts target ++ blank ∷ symbol 61 ∷ blank ∷ (source_parts from ++ symbol 59 ∷ []))
item_parts (Not name a y) = two_parts (codes "AGM_NOT") name (codes "A") a (codes "Y") y
item_parts (Xor name a b y) = three_parts (codes "AGM_XOR2") name (codes "A") a (codes "B") b (codes "Y") y
item_parts (And name a b y) = three_parts (codes "AGM_AND2") name (codes "A") a (codes "B") b (codes "Y") y
item_parts (Register name c d q) = three_parts (codes "AGM_DFF") name (codes "C") c (codes "D") d (codes "Q") q

-- `module name(ports);`
abbrev pub head_parts : List ℕ → List (List ℕ) → List Part
head_parts name ports = word (Key (codes "module")) ∷ blank ∷ (name_parts name ++ symbol 40 ∷ (names_parts ports ++ end_parts))

-- a line `endmodule`
abbrev pub last_parts : List Part
last_parts = space (10 ∷ []) ∷ word (Key (codes "endmodule")) ∷ space (10 ∷ []) ∷ []

-- the whole text
abbrev pub small_parts : Small → List Part
small_parts s = head_parts s.name s.ports ++ (flat_map declaration_parts s.declarations ++ (flat_map item_parts s.items ++ last_parts))
