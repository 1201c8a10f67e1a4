-- The grammar of the small form: the tokens of each of its parts.
use Rattle.std.specs.Prelude.{◌≢◌, ◌≤◌, ◌<◌, ℕ, List, [], ◌∷◌, ◌++◌, length, Option, Some, None, codes}
use Rattle.std.specs.List.{flat_map, AllByRecursion}
use Rattle.agm_net.specs.declared.mark.Mark.{Mark}
use Rattle.agm_net.specs.declared.mark.Mark.TheVariants as kind
use Rattle.agm_net.specs.declared.port.Way.{Way}
use Rattle.agm_net.specs.declared.port.Way.TheVariants.{Input, Output}
use Rattle.agm_net.specs.declared.port.Range.{Range}
use Rattle.agm_net.specs.Writable.{IsWritable}
use Rattle.small_text.specs.Cuts.{Cuts}
use Rattle.small_text.specs.declared.token.Token.{Token}
use Rattle.small_text.specs.declared.token.Token.TheVariants.{Name, Key, Number, Constant, Text, Symbol, Open, Close}
use Rattle.small_text.specs.declared.small.Bit.{Bit}
use Rattle.small_text.specs.declared.small.Source.{Source}
use Rattle.small_text.specs.declared.small.Source.TheVariants as source
use Rattle.small_text.specs.declared.small.Declaration.{Declaration}
use Rattle.small_text.specs.declared.small.Declaration.TheVariants.{Port, Wires}
use Rattle.small_text.specs.declared.small.Item.{Item}
use Rattle.small_text.specs.declared.small.Item.TheVariants.{Assign, Not, Xor, And, Register}
use Rattle.small_text.specs.declared.small.Small.{Small}

-- `[ number ]` where there is a select
abbrev pub select_tokens : Option ℕ → List Token
select_tokens None = []
select_tokens (Some k) = Symbol 91 ∷ Number k ∷ Symbol 93 ∷ []

abbrev pub bit_tokens : Bit → List Token
bit_tokens b = Name b.name ∷ select_tokens b.index

abbrev pub source_tokens : Source → List Token
source_tokens (source.Bit b) = bit_tokens b
source_tokens (source.Constant v) = Constant v ∷ []

-- `, ident` for each name
abbrev pub more_names : List (List ℕ) → List Token
more_names names = flat_map (λ n. Symbol 44 ∷ Name n ∷ []) names

-- `ident { , ident }`
abbrev pub names_tokens : List (List ℕ) → List Token
names_tokens [] = []
names_tokens (n ∷ ns) = Name n ∷ more_names ns

-- `(* AGEMA = mark *)` where there is a mark
abbrev pub mark_tokens : Mark → List Token
mark_tokens kind.Unmarked = []
mark_tokens kind.Secure = Open ∷ Name (codes "AGEMA") ∷ Symbol 61 ∷ Text (codes "secure") ∷ Close ∷ []
mark_tokens kind.Public = Open ∷ Name (codes "AGEMA") ∷ Symbol 61 ∷ Text (codes "public") ∷ Close ∷ []
mark_tokens kind.Clock = Open ∷ Name (codes "AGEMA") ∷ Symbol 61 ∷ Text (codes "clock") ∷ Close ∷ []

abbrev pub way_token : Way → Token
way_token Input = Key (codes "input")
way_token Output = Key (codes "output")

-- `[ number : number ]` where there is a range
abbrev pub range_tokens : Option Range → List Token
range_tokens None = []
range_tokens (Some r) = Symbol 91 ∷ Number r.msb ∷ Symbol 58 ∷ Number r.lsb ∷ Symbol 93 ∷ []

abbrev pub declaration_tokens : Declaration → List Token
declaration_tokens (Port mark way range name) = mark_tokens mark ++ (way_token way ∷ (range_tokens range ++ Name name ∷ Symbol 59 ∷ []))
declaration_tokens (Wires names) = Key (codes "wire") ∷ (names_tokens names ++ Symbol 59 ∷ [])

-- `. pin ( bit )`
abbrev pub pin_tokens : List ℕ → Bit → List Token
pin_tokens pin bit = Symbol 46 ∷ Name pin ∷ Symbol 40 ∷ (bit_tokens bit ++ Symbol 41 ∷ [])

-- `cell ident ( pin , pin ) ;`
abbrev pub two_pins : (cell name first : List ℕ) → Bit → (second : List ℕ) → Bit → List Token
two_pins cell name first a second b =
    Name cell ∷ Name name ∷ Symbol 40 ∷ (pin_tokens first a ++ Symbol 44 ∷ (pin_tokens second b ++ Symbol 41 ∷ Symbol 59 ∷ []))

-- `cell ident ( pin , pin , pin ) ;`
abbrev pub three_pins : (cell name first : List ℕ) → Bit → (second : List ℕ) → Bit → (third : List ℕ) → Bit → List Token
three_pins cell name first a second b third c =
    Name cell ∷ Name name ∷ Symbol 40 ∷ (pin_tokens first a ++ Symbol 44 ∷ (pin_tokens second b ++ Symbol 44 ∷ (pin_tokens third c ++ Symbol 41 ∷ Symbol 59 ∷ [])))

abbrev pub item_tokens : Item → List Token
item_tokens (Assign target from) = Key (codes "assign") ∷ (bit_tokens target ++ Symbol 61 ∷ (source_tokens from ++ Symbol 59 ∷ []))
item_tokens (Not name a y) = two_pins (codes "AGM_NOT") name (codes "A") a (codes "Y") y
item_tokens (Xor name a b y) = three_pins (codes "AGM_XOR2") name (codes "A") a (codes "B") b (codes "Y") y
item_tokens (And name a b y) = three_pins (codes "AGM_AND2") name (codes "A") a (codes "B") b (codes "Y") y
item_tokens (Register name c d q) = three_pins (codes "AGM_DFF") name (codes "C") c (codes "D") d (codes "Q") q

-- `module ident ( ports ) ; declarations items endmodule`
abbrev pub small_tokens : Small → List Token
small_tokens s =
    Key (codes "module") ∷ Name s.name ∷ Symbol 40 ∷ (names_tokens s.ports ++ Symbol 41 ∷ Symbol 59 ∷
    (flat_map declaration_tokens s.declarations ++ (flat_map item_tokens s.items ++ Key (codes "endmodule") ∷ [])))

-- the numbers that ranges and selects may have
abbrev pub IsIndex : Option ℕ → Type 0
IsIndex None = Unit {0}
IsIndex (Some k) = k ≤ 65535

abbrev pub IsRange : Option Range → Type 0
IsRange None = Unit {0}
IsRange (Some r) = (r.msb ≤ 65535) × (r.lsb ≤ 65535)

abbrev pub IsBit : Bit → Type 0
IsBit b = IsIndex b.index

abbrev pub IsSource : Source → Type 0
IsSource (source.Bit b) = IsBit b
IsSource (source.Constant v) = Unit {0}

abbrev pub IsDeclaration : Declaration → Type 0
IsDeclaration (Port mark way range name) = (mark ≢ kind.Public) × IsRange range
IsDeclaration (Wires names) = 0 < length names

abbrev pub IsItem : Item → Type 0
IsItem (Assign target from) = IsBit target × IsSource from
IsItem (Not name a y) = IsBit a × IsBit y
IsItem (Xor name a b y) = IsBit a × IsBit b × IsBit y
IsItem (And name a b y) = IsBit a × IsBit b × IsBit y
IsItem (Register name c d q) = IsBit c × IsBit d × IsBit q

-- the lists that the grammar wants are not empty, the marks are secure and clock alone, and numbers are at most 65,535
pub record IsSmall (s : Small) : Type 0 where
  pub has_port : 0 < length s.ports
  pub declarations_fit : AllByRecursion IsDeclaration s.declarations
  pub items_fit : AllByRecursion IsItem s.items

-- The bytes are a small text, which spells s: white space and tokens alone, without comments and directives.
abbrev pub Spelled : List ℕ → Small → Type 0
Spelled bytes s = Cuts bytes (small_tokens s) × IsSmall s

abbrev pub IsWritableBit : Bit → Type 0
IsWritableBit b = IsWritable b.name

abbrev pub IsWritableSource : Source → Type 0
IsWritableSource (source.Bit b) = IsWritableBit b
IsWritableSource (source.Constant v) = Unit {0}

abbrev pub IsWritableDeclaration : Declaration → Type 0
IsWritableDeclaration (Port mark way range name) = IsWritable name
IsWritableDeclaration (Wires names) = AllByRecursion IsWritable names

abbrev pub IsWritableItem : Item → Type 0
IsWritableItem (Assign target from) = IsWritableBit target × IsWritableSource from
IsWritableItem (Not name a y) = IsWritable name × IsWritableBit a × IsWritableBit y
IsWritableItem (Xor name a b y) = IsWritable name × IsWritableBit a × IsWritableBit b × IsWritableBit y
IsWritableItem (And name a b y) = IsWritable name × IsWritableBit a × IsWritableBit b × IsWritableBit y
IsWritableItem (Register name c d q) = IsWritable name × IsWritableBit c × IsWritableBit d × IsWritableBit q

-- all its names can be written
pub record HasWritableNames (s : Small) : Type 0 where
  pub module_name : IsWritable s.name
  pub port_names : AllByRecursion IsWritable s.ports
  pub declared_names : AllByRecursion IsWritableDeclaration s.declarations
  pub item_names : AllByRecursion IsWritableItem s.items
