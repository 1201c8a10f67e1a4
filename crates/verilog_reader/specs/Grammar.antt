-- The grammar of structural Verilog, by IEEE 1364-2005, annex A, in the profile of the README: which tokens spell a part, where a rest stands behind them.
use Rattle.std.specs.Prelude.{◌≡◌, ◌≤◌, ◌<◌, ◌⊎◌, ◌^◌, ℕ, true, List, [], ◌∷◌, ◌++◌, length, map, Option, Some, None, codes}
use Rattle.std.specs.List.{flat_map}
use Rattle.agm_net.specs.declared.port.Way.{Way}
use Rattle.agm_net.specs.declared.port.Way.TheVariants.{Input, Output}
use Rattle.agm_net.specs.declared.port.Range.{Range}
use Rattle.verilog_tokens.specs.Cuts.{Cuts}
use Rattle.verilog_tokens.specs.Token.{Token, Name, Key, Number, Constant, Text, Symbol, Open, Close}
use Rattle.verilog_reader.specs.Plain.{PlainForm, whole, bit, part, constant, join, repeat, PlainForms, no_forms, a_form, depth_of, PlainConnection, PlainItem, declare, assign, instance, PlainModule, PlainDesign}
use Rattle.verilog_reader.specs.declared.design.Attribute.{Attribute}
use Rattle.verilog_reader.specs.declared.design.Value.{Value}
use Rattle.verilog_reader.specs.declared.design.Value.TheVariants as value
use Rattle.verilog_reader.specs.declared.port.PortKind.{PortKind}
use Rattle.verilog_reader.specs.declared.port.PortEntry.{PortEntry}

-- the tokens in front spell a value of a kind, and a rest stands behind them
abbrev pub Spelling : Type 0 → Type 1
Spelling X = X → (ts rest : List Token) → Type 0

-- { x }
abbrev pub Row : {X : Type 0} → Spelling X → Spelling (List X)
Row P [] ts rest = ts ≡ rest
Row P (x ∷ xs) ts rest = (mid : List Token) × P x ts mid × Row P xs mid rest

-- "," x
abbrev pub Next : {X : Type 0} → Spelling X → Spelling X
Next P x ts rest = (mid : List Token) × (ts ≡ Symbol 44 ∷ mid) × P x mid rest

-- x { "," x }
abbrev pub Listed : {X : Type 0} → Spelling X → Spelling (List X)
Listed P [] ts rest = Prim.⊥
Listed P (x ∷ xs) ts rest = (mid : List Token) × P x ts mid × Row (Next P) xs mid rest

-- [ x { "," x } ]
abbrev pub Perhaps : {X : Type 0} → Spelling X → Spelling (List X)
Perhaps P [] ts rest = ts ≡ rest
Perhaps P (x ∷ xs) ts rest = Listed P (x ∷ xs) ts rest

abbrev pub IsIdent : Spelling (List ℕ)
IsIdent name ts rest = ts ≡ Name name ∷ rest

-- a value of an attribute; a number is below 2^128
abbrev pub IsValue : Spelling Value
IsValue (value.Text text) ts rest = ts ≡ Text text ∷ rest
IsValue (value.Number n) ts rest = (ts ≡ Number n ∷ rest) × (n < 2 ^ 128)
IsValue (value.Bits bits) ts rest = ts ≡ Constant bits ∷ rest

-- [ "=" value ]
abbrev pub IsSet : Spelling (Option Value)
IsSet None ts rest = ts ≡ rest
IsSet (Some v) ts rest = (mid : List Token) × (ts ≡ Symbol 61 ∷ mid) × IsValue v mid rest

-- ident [ "=" value ]
abbrev pub IsAttribute : Spelling Attribute
IsAttribute a ts rest = (mid : List Token) × (ts ≡ Name a.name ∷ mid) × IsSet a.value mid rest

-- "(*" attribute { "," attribute } "*)"
abbrev pub IsBlock : Spelling (List Attribute)
IsBlock attributes ts rest = (mid : List Token) × (ts ≡ Open ∷ mid) × Listed IsAttribute attributes mid (Close ∷ rest)

-- the attributes of blocks, one behind the other
abbrev pub AreAttributes : Spelling (List Attribute)
AreAttributes attributes ts rest = (blocks : List (List Attribute)) × (attributes ≡ flat_map (λ b. b) blocks) × Row IsBlock blocks ts rest

-- [ "[" number ":" number "]" ]
abbrev pub IsRange : Spelling (Option Range)
IsRange None ts rest = ts ≡ rest
IsRange (Some r) ts rest =
    (ts ≡ Symbol 91 ∷ Number r.msb ∷ Symbol 58 ∷ Number r.lsb ∷ Symbol 93 ∷ rest) × (r.msb ≤ 65535) × (r.lsb ≤ 65535)

abbrev pub way_token : Way → Token
way_token Input = Key (codes "input")
way_token Output = Key (codes "output")

-- way [ "wire" ], or "wire"
abbrev pub IsWay : Spelling (Option Way)
IsWay None ts rest = ts ≡ Key (codes "wire") ∷ rest
IsWay (Some way) ts rest = (ts ≡ way_token way ∷ rest) ⊎ (ts ≡ way_token way ∷ Key (codes "wire") ∷ rest)

-- A name with a select or without, a constant, "{" form { "," form } "}", or "{" number "{" form "}" "}"
abbrev mutual
  pub IsForm : Spelling PlainForm
  IsForm (whole n) ts rest = ts ≡ Name n ∷ rest
  IsForm (bit n k) ts rest = (ts ≡ Name n ∷ Symbol 91 ∷ Number k ∷ Symbol 93 ∷ rest) × (k ≤ 65535)
  IsForm (part n h l) ts rest = (ts ≡ Name n ∷ Symbol 91 ∷ Number h ∷ Symbol 58 ∷ Number l ∷ Symbol 93 ∷ rest) × (h ≤ 65535) × (l ≤ 65535)
  IsForm (constant bits) ts rest = ts ≡ Constant bits ∷ rest
  IsForm (join fs) ts rest = (mid : List Token) × (ts ≡ Symbol 123 ∷ mid) × AreForms fs mid (Symbol 125 ∷ rest)
  IsForm (repeat k f) ts rest =
      (mid : List Token) × (ts ≡ Symbol 123 ∷ Number k ∷ Symbol 123 ∷ mid) × ((1 ≤ k) × (k ≤ 65535)) × IsForm f mid (Symbol 125 ∷ Symbol 125 ∷ rest)

  -- form { "," form }
  pub AreForms : Spelling PlainForms
  AreForms no_forms ts rest = Prim.⊥
  AreForms (a_form f fs) ts rest = (mid : List Token) × IsForm f ts mid × AreMoreForms fs mid rest

  -- { "," form }
  pub AreMoreForms : Spelling PlainForms
  AreMoreForms no_forms ts rest = ts ≡ rest
  AreMoreForms (a_form f fs) ts rest = (mid : List Token) × (behind : List Token) × (ts ≡ Symbol 44 ∷ mid) × IsForm f mid behind × AreMoreForms fs behind rest

-- a target of an assign: names and concatenations of targets
abbrev mutual
  pub IsTarget : PlainForm → Type 0
  IsTarget (whole n) = Unit {0}
  IsTarget (bit n k) = Unit {0}
  IsTarget (part n h l) = Unit {0}
  IsTarget (constant bits) = Prim.⊥
  IsTarget (join fs) = AreTargets fs
  IsTarget (repeat k f) = Prim.⊥

  pub AreTargets : PlainForms → Type 0
  AreTargets no_forms = Unit {0}
  AreTargets (a_form f fs) = IsTarget f × AreTargets fs

-- a form within the limit of nesting
abbrev pub IsSource : Spelling PlainForm
IsSource f ts rest = IsForm f ts rest × (depth_of f ≤ 100)

-- [ form ]
abbrev pub IsContent : Spelling (Option PlainForm)
IsContent None ts rest = ts ≡ rest
IsContent (Some f) ts rest = IsSource f ts rest

-- "." ident "(" [ form ] ")"
abbrev pub IsPin : Spelling PlainConnection
IsPin c ts rest = (mid : List Token) × (ts ≡ Symbol 46 ∷ Name c.pin ∷ Symbol 40 ∷ mid) × IsContent c.form mid (Symbol 41 ∷ rest)

-- an item behind its attributes
abbrev pub IsBare : Spelling PlainItem
IsBare (declare attributes way range names) ts rest =
    (a : List Token) × (b : List Token) × IsWay way ts a × IsRange range a b × Listed IsIdent names b (Symbol 59 ∷ rest)
IsBare (assign attributes left right) ts rest =
    (a : List Token) × (b : List Token) × (ts ≡ Key (codes "assign") ∷ a) × (IsSource left a (Symbol 61 ∷ b) × IsTarget left) × IsSource right b (Symbol 59 ∷ rest)
IsBare (instance attributes cell name pins) ts rest =
    (a : List Token) × (ts ≡ Name cell ∷ Name name ∷ Symbol 40 ∷ a) × Perhaps IsPin pins a (Symbol 41 ∷ Symbol 59 ∷ rest)

abbrev pub attributes_of : PlainItem → List Attribute
attributes_of (declare attributes way range names) = attributes
attributes_of (assign attributes left right) = attributes
attributes_of (instance attributes cell name pins) = attributes

abbrev pub IsItem : Spelling PlainItem
IsItem item ts rest = (mid : List Token) × AreAttributes (attributes_of item) ts mid × IsBare item mid rest

-- attributes way [ "wire" ] [ range ], before the name of an ANSI port
abbrev pub IsPortKind : Spelling PortKind
IsPortKind k ts rest = (a : List Token) × (b : List Token) × AreAttributes k.attributes ts a × IsWay (Some k.way) a b × IsRange k.range b rest

-- an entry with a kind of its own, or a name alone
abbrev pub IsPortEntryOf : Option PortKind → List ℕ → (ts rest : List Token) → Type 0
IsPortEntryOf None name ts rest = ts ≡ Name name ∷ rest
IsPortEntryOf (Some k) name ts rest = IsPortKind k ts (Name name ∷ rest)

abbrev pub IsPortEntry : Spelling PortEntry
IsPortEntry e ts rest = IsPortEntryOf e.kind e.name ts rest

abbrev pub kind_from : PortKind → Option PortKind → PortKind
kind_from before None = before
kind_from before (Some own) = own

-- the declaration that an ANSI port is
abbrev pub port_item : PortKind → List ℕ → PlainItem
port_item k name = declare k.attributes (Some k.way) k.range (name ∷ [])

-- the declarations of further entries: a name alone takes the attributes, way and range of the entry before it
abbrev pub port_items : PortKind → List PortEntry → List PlainItem
port_items before [] = []
port_items before (e ∷ es) = port_item (kind_from before e.kind) e.name ∷ port_items (kind_from before e.kind) es

abbrev pub entry_name : PortEntry → List ℕ
entry_name e = e.name

-- ANSI ports: their names, and the declarations that they are
pub record ArePorts (ports : List (List ℕ)) (items : List PlainItem) (ts rest : List Token) : Type 0 where
  pub kind : PortKind
  pub name : List ℕ
  pub more : List PortEntry
  pub behind : List Token
  pub first : IsPortKind kind ts (Name name ∷ behind)
  pub others : Row (Next IsPortEntry) more behind rest
  pub names : ports ≡ name ∷ map entry_name more
  pub declared : items ≡ port_item kind name ∷ port_items kind more

-- the ports between parentheses: none, names, or ANSI ports
abbrev pub AreInside : (ports : List (List ℕ)) (items : List PlainItem) (ts rest : List Token) → Type 0
AreInside ports items ts rest = (Perhaps IsIdent ports ts rest × (items ≡ [])) ⊎ ArePorts ports items ts rest

-- [ "(" [ ports ] ")" ]
abbrev pub AreListed : (ports : List (List ℕ)) (items : List PlainItem) (ts rest : List Token) → Type 0
AreListed ports items ts rest =
    ((ts ≡ rest) × (ports ≡ []) × (items ≡ []))
    ⊎ ((mid : List Token) × (ts ≡ Symbol 40 ∷ mid) × AreInside ports items mid (Symbol 41 ∷ rest))

-- attributes "module" ident [ "(" [ ports ] ")" ] ";" { item } "endmodule"
pub record IsModule (m : PlainModule) (ts rest : List Token) : Type 0 where
  pub head : List Token
  pub listed : List Token
  pub body : List Token
  -- the declarations of ANSI ports, and the other items
  pub declared : List PlainItem
  pub items : List PlainItem
  pub has_attributes : AreAttributes m.attributes ts head
  pub has_name : head ≡ Key (codes "module") ∷ Name m.name ∷ listed
  pub has_ports : AreListed m.ports declared listed (Symbol 59 ∷ body)
  pub has_items : Row IsItem items body (Key (codes "endmodule") ∷ rest)
  pub all_items : m.items ≡ declared ++ items

-- module { module }
abbrev pub IsDesign : PlainDesign → List Token → Type 0
IsDesign d ts = (0 < length d) × Row IsModule d ts []

-- the bytes are cut into tokens that spell a design
abbrev pub Spelled : List ℕ → PlainDesign → Type 0
Spelled bytes d = (ts : List Token) × Cuts true bytes ts × IsDesign d ts
