-- What stands in front of a rest: how many tokens at least, and that each is one.
use Rattle.std.proofs.Common.{◌≡◌, ◌≤◌, ℕ, Bool, length, List, [], ◌∷◌, Option, Some, None, codes, sym, ap, subst, inl, inr, arith}
use Rattle.agm_net.specs.declared.port.Way.TheVariants.{Input, Output}
use Rattle.verilog_tokens.specs.Token.{Token, Name, Key, Number, Constant, Text, Symbol, Open, Close}
use Rattle.verilog_reader.specs.declared.design.Value.TheVariants as value
use Rattle.verilog_reader.specs.declared.port.PortKind.{PortKind}
use Rattle.verilog_reader.specs.Plain.{whole, bit, part, constant, join, repeat, no_forms, a_form, PlainItem, declare, assign, instance, PlainDesign}
use Rattle.verilog_reader.specs.Grammar.{Row, Next, Listed, Perhaps, IsIdent, IsValue, IsSet, IsAttribute, IsBlock, AreAttributes, IsRange, IsWay, IsForm, AreForms, AreMoreForms, IsSource, IsContent, IsPin, IsBare, attributes_of, IsItem, IsPortKind, IsPortEntryOf, IsPortEntry, AreInside, AreListed, IsModule, IsDesign}
use Rattle.verilog_reader.specs.Reading.{Read}
use Rattle.std.proofs.Common.{◌+◌}
use Rattle.verilog_tokens.specs.Row.{AllTokens}
use Rattle.verilog_reader.proofs.FoundLists.{Right}
use Rattle.verilog_reader.proofs.FoundForms.{IsGood}
use Rattle.verilog_reader.proofs.Many.{Shrinks}

-- so many tokens at least stand before the rest, and each is a token where those of the rest are
pub record Before (least : ℕ) (ts rest : List Token) : Type 0 where
  pub count : least + length rest ≤ length ts
  pub clean : AllTokens rest → AllTokens ts

abbrev pub Solid : {X : Type 0} → ℕ → (X → List Token → List Token → Type 0) → Type 0
Solid {X} least P = (x : X) (ts rest : List Token) → P x ts rest → Before least ts rest

direct : (least : ℕ) (ts us rest : List Token) → ts ≡ us → least + length rest ≤ length us → (AllTokens rest → AllTokens us) → Before least ts rest
direct least ts us rest e count clean = record { count = omega (arith, ap length e, count); clean = λ h. subst AllTokens (sym e) (clean h) }

both : (m n k : ℕ) (a b c : List Token) → Before m a b → Before n b c → k ≤ m + n → Before k a c
both m n k a b c x y h = record { count = omega (arith, x.count, y.count); clean = λ e. x.clean (y.clean e) }

none : (ts rest : List Token) → ts ≡ rest → Before 0 ts rest
none ts rest e = direct 0 ts rest rest e (omega arith) (λ h. h)

fewer : (ts rest : List Token) → Before 1 ts rest → Before 0 ts rest
fewer ts rest b = record { count = omega (arith, b.count); clean = b.clean }

-- lists
pub solid_row : {X : Type 0} (P : X → List Token → List Token → Type 0) → Solid 1 P → Solid 0 (Row P)
solid_row P s [] ts rest h = none ts rest h
solid_row P s (x ∷ xs) ts rest h = both 1 0 0 ts h.0 rest (s x ts h.0 h.1) (solid_row P s xs h.0 rest h.2) (omega arith)

pub solid_next : {X : Type 0} (P : X → List Token → List Token → Type 0) → Solid 1 P → Solid 1 (Next P)
solid_next P s x ts rest h = both 1 1 1 ts h.0 rest (direct 1 ts (Symbol 44 ∷ h.0) h.0 h.1 (omega arith) (λ c. c)) (s x h.0 rest h.2) (omega arith)

pub solid_listed : {X : Type 0} (P : X → List Token → List Token → Type 0) → Solid 1 P → Solid 1 (Listed P)
solid_listed P s [] ts rest h = absurd h
solid_listed P s (x ∷ xs) ts rest h = both 1 0 1 ts h.0 rest (s x ts h.0 h.1) (solid_row (Next P) (solid_next P s) xs h.0 rest h.2) (omega arith)

solid_perhaps : {X : Type 0} (P : X → List Token → List Token → Type 0) → Solid 1 P → Solid 0 (Perhaps P)
solid_perhaps P s [] ts rest h = none ts rest h
solid_perhaps P s (x ∷ xs) ts rest h = fewer ts rest (solid_listed P s (x ∷ xs) ts rest h)

pub solid_ident : Solid 1 IsIdent
solid_ident name ts rest h = direct 1 ts (Name name ∷ rest) rest h (omega arith) (λ c. c)

-- attributes
solid_value : Solid 1 IsValue
solid_value (value.Text text) ts rest h = direct 1 ts (Text text ∷ rest) rest h (omega arith) (λ c. c)
solid_value (value.Number n) ts rest h = direct 1 ts (Number n ∷ rest) rest h.0 (omega arith) (λ c. c)
solid_value (value.Bits bits) ts rest h = direct 1 ts (Constant bits ∷ rest) rest h (omega arith) (λ c. c)

solid_set : Solid 0 IsSet
solid_set None ts rest h = none ts rest h
solid_set (Some v) ts rest h = both 1 1 0 ts h.0 rest (direct 1 ts (Symbol 61 ∷ h.0) h.0 h.1 (omega arith) (λ c. c)) (solid_value v h.0 rest h.2) (omega arith)

pub solid_attribute : Solid 1 IsAttribute
solid_attribute a ts rest h = both 1 0 1 ts h.0 rest (direct 1 ts (Name a.name ∷ h.0) h.0 h.1 (omega arith) (λ c. c)) (solid_set a.value h.0 rest h.2) (omega arith)

closed : (rest : List Token) → Before 1 (Close ∷ rest) rest
closed rest = record { count = omega arith; clean = λ c. c }

pub solid_block : Solid 1 IsBlock
solid_block attributes ts rest h =
    both 1 1 1 ts h.0 rest (direct 1 ts (Open ∷ h.0) h.0 h.1 (omega arith) (λ c. c))
    (both 1 1 1 h.0 (Close ∷ rest) rest (solid_listed IsAttribute solid_attribute attributes h.0 (Close ∷ rest) h.2) (closed rest) (omega arith)) (omega arith)

pub solid_attributes : Solid 0 AreAttributes
solid_attributes attributes ts rest h = solid_row IsBlock solid_block h.0 ts rest h.2

-- ranges and ways
solid_range : Solid 0 IsRange
solid_range None ts rest h = none ts rest h
solid_range (Some r) ts rest h = direct 0 ts (Symbol 91 ∷ Number r.msb ∷ Symbol 58 ∷ Number r.lsb ∷ Symbol 93 ∷ rest) rest h.0 (omega arith) (λ c. c)

solid_way : Solid 1 IsWay
solid_way None ts rest h = direct 1 ts (Key (codes "wire") ∷ rest) rest h (omega arith) (λ c. c)
solid_way (Some Input) ts rest (inl h) = direct 1 ts (Key (codes "input") ∷ rest) rest h (omega arith) (λ c. c)
solid_way (Some Output) ts rest (inl h) = direct 1 ts (Key (codes "output") ∷ rest) rest h (omega arith) (λ c. c)
solid_way (Some Input) ts rest (inr h) = direct 1 ts (Key (codes "input") ∷ Key (codes "wire") ∷ rest) rest h (omega arith) (λ c. c)
solid_way (Some Output) ts rest (inr h) = direct 1 ts (Key (codes "output") ∷ Key (codes "wire") ∷ rest) rest h (omega arith) (λ c. c)

-- forms
symbol_front : (s : ℕ) (rest : List Token) → Before 1 (Symbol s ∷ rest) rest
symbol_front s rest = record { count = omega arith; clean = λ c. c }

mutual
  pub solid_form : Solid 1 IsForm
  solid_form (whole n) ts rest h = direct 1 ts (Name n ∷ rest) rest h (omega arith) (λ c. c)
  solid_form (bit n k) ts rest h = direct 1 ts (Name n ∷ Symbol 91 ∷ Number k ∷ Symbol 93 ∷ rest) rest h.0 (omega arith) (λ c. c)
  solid_form (part n a b) ts rest h = direct 1 ts (Name n ∷ Symbol 91 ∷ Number a ∷ Symbol 58 ∷ Number b ∷ Symbol 93 ∷ rest) rest h.0 (omega arith) (λ c. c)
  solid_form (constant bits) ts rest h = direct 1 ts (Constant bits ∷ rest) rest h (omega arith) (λ c. c)
  solid_form (join fs) ts rest h =
      both 1 1 1 ts h.0 rest (direct 1 ts (Symbol 123 ∷ h.0) h.0 h.1 (omega arith) (λ c. c))
      (both 1 1 1 h.0 (Symbol 125 ∷ rest) rest (solid_forms fs h.0 (Symbol 125 ∷ rest) h.2) (symbol_front 125 rest) (omega arith)) (omega arith)
  solid_form (repeat k f) ts rest h =
      both 1 1 1 ts h.0 rest (direct 1 ts (Symbol 123 ∷ Number k ∷ Symbol 123 ∷ h.0) h.0 h.1 (omega arith) (λ c. c))
      (both 1 1 1 h.0 (Symbol 125 ∷ Symbol 125 ∷ rest) rest (solid_form f h.0 (Symbol 125 ∷ Symbol 125 ∷ rest) h.3)
      (both 1 1 1 (Symbol 125 ∷ Symbol 125 ∷ rest) (Symbol 125 ∷ rest) rest (symbol_front 125 (Symbol 125 ∷ rest)) (symbol_front 125 rest) (omega arith)) (omega arith)) (omega arith)

  solid_forms : Solid 1 AreForms
  solid_forms no_forms ts rest h = absurd h
  solid_forms (a_form f fs) ts rest h = both 1 0 1 ts h.0 rest (solid_form f ts h.0 h.1) (solid_more fs h.0 rest h.2) (omega arith)

  pub solid_more : Solid 0 AreMoreForms
  solid_more no_forms ts rest h = none ts rest h
  solid_more (a_form f fs) ts rest h =
      both 1 1 0 ts h.0 rest (direct 1 ts (Symbol 44 ∷ h.0) h.0 h.2 (omega arith) (λ c. c))
      (both 1 0 1 h.0 h.1 rest (solid_form f h.0 h.1 h.3) (solid_more fs h.1 rest h.4) (omega arith)) (omega arith)

-- pins and items
solid_source : Solid 1 IsSource
solid_source f ts rest h = solid_form f ts rest h.0

solid_content : Solid 0 IsContent
solid_content None ts rest h = none ts rest h
solid_content (Some f) ts rest h = fewer ts rest (solid_source f ts rest h)

pub solid_pin : Solid 1 IsPin
solid_pin c ts rest h =
    both 1 0 1 ts h.0 rest (direct 1 ts (Symbol 46 ∷ Name c.pin ∷ Symbol 40 ∷ h.0) h.0 h.1 (omega arith) (λ c. c))
    (both 0 1 0 h.0 (Symbol 41 ∷ rest) rest (solid_content c.form h.0 (Symbol 41 ∷ rest) h.2) (symbol_front 41 rest) (omega arith)) (omega arith)

solid_bare : Solid 1 IsBare
solid_bare (declare attributes way range names) ts rest h =
    both 1 0 1 ts h.0 rest (solid_way way ts h.0 h.2)
    (both 0 1 0 h.0 h.1 rest (solid_range range h.0 h.1 h.3)
    (both 1 1 1 h.1 (Symbol 59 ∷ rest) rest (solid_listed IsIdent solid_ident names h.1 (Symbol 59 ∷ rest) h.4) (symbol_front 59 rest) (omega arith)) (omega arith)) (omega arith)
solid_bare (assign attributes left right) ts rest h =
    both 1 1 1 ts h.0 rest (direct 1 ts (Key (codes "assign") ∷ h.0) h.0 h.2 (omega arith) (λ c. c))
    (both 1 1 1 h.0 (Symbol 61 ∷ h.1) rest (solid_source left h.0 (Symbol 61 ∷ h.1) h.3.0)
    (both 1 1 1 (Symbol 61 ∷ h.1) h.1 rest (symbol_front 61 h.1)
    (both 1 1 1 h.1 (Symbol 59 ∷ rest) rest (solid_source right h.1 (Symbol 59 ∷ rest) h.4) (symbol_front 59 rest) (omega arith)) (omega arith)) (omega arith)) (omega arith)
solid_bare (instance attributes cell name pins) ts rest h =
    both 1 0 1 ts h.0 rest (direct 1 ts (Name cell ∷ Name name ∷ Symbol 40 ∷ h.0) h.0 h.1 (omega arith) (λ c. c))
    (both 0 1 0 h.0 (Symbol 41 ∷ Symbol 59 ∷ rest) rest (solid_perhaps IsPin solid_pin pins h.0 (Symbol 41 ∷ Symbol 59 ∷ rest) h.2)
    (both 1 1 1 (Symbol 41 ∷ Symbol 59 ∷ rest) (Symbol 59 ∷ rest) rest (symbol_front 41 (Symbol 59 ∷ rest)) (symbol_front 59 rest) (omega arith)) (omega arith)) (omega arith)

pub solid_item : Solid 1 IsItem
solid_item item ts rest h = both 0 1 1 ts h.0 rest (solid_attributes (attributes_of item) ts h.0 h.1) (solid_bare item h.0 rest h.2) (omega arith)

-- ports
solid_port_kind : Solid 1 IsPortKind
solid_port_kind k ts rest h =
    both 0 1 1 ts h.0 rest (solid_attributes k.attributes ts h.0 h.2)
    (both 1 0 1 h.0 h.1 rest (solid_way (Some k.way) h.0 h.1 h.3) (solid_range k.range h.1 rest h.4) (omega arith)) (omega arith)

name_front : (n : List ℕ) (rest : List Token) → Before 1 (Name n ∷ rest) rest
name_front n rest = record { count = omega arith; clean = λ c. c }

solid_entry_of : (kind : Option PortKind) (name : List ℕ) (ts rest : List Token) → IsPortEntryOf kind name ts rest → Before 1 ts rest
solid_entry_of None name ts rest h = solid_ident name ts rest h
solid_entry_of (Some k) name ts rest h = both 1 1 1 ts (Name name ∷ rest) rest (solid_port_kind k ts (Name name ∷ rest) h) (name_front name rest) (omega arith)

pub solid_entry : Solid 1 IsPortEntry
solid_entry e ts rest h = solid_entry_of e.kind e.name ts rest h

solid_inside : (ports : List (List ℕ)) (items : List PlainItem) (ts rest : List Token) → AreInside ports items ts rest → Before 0 ts rest
solid_inside ports items ts rest (inl h) = solid_perhaps IsIdent solid_ident ports ts rest h.0
solid_inside ports items ts rest (inr a) =
    both 1 0 0 ts a.behind rest (both 1 1 1 ts (Name a.name ∷ a.behind) a.behind (solid_port_kind a.kind ts (Name a.name ∷ a.behind) a.first) (name_front a.name a.behind) (omega arith))
    (solid_row (Next IsPortEntry) (solid_next IsPortEntry solid_entry) a.more a.behind rest a.others) (omega arith)

solid_ports : (ports : List (List ℕ)) (items : List PlainItem) (ts rest : List Token) → AreListed ports items ts rest → Before 0 ts rest
solid_ports ports items ts rest (inl h) = none ts rest h.0
solid_ports ports items ts rest (inr h) =
    both 1 0 0 ts h.0 rest (direct 1 ts (Symbol 40 ∷ h.0) h.0 h.1 (omega arith) (λ c. c))
    (both 0 1 0 h.0 (Symbol 41 ∷ rest) rest (solid_inside ports items h.0 (Symbol 41 ∷ rest) h.2) (symbol_front 41 rest) (omega arith)) (omega arith)

key_front : (word : List ℕ) (rest : List Token) → Before 1 (Key word ∷ rest) rest
key_front word rest = record { count = omega arith; clean = λ c. c }

pub solid_module : Solid 1 IsModule
solid_module m ts rest h =
    both 0 1 1 ts h.head rest (solid_attributes m.attributes ts h.head h.has_attributes)
    (both 1 0 1 h.head h.listed rest (direct 1 h.head (Key (codes "module") ∷ Name m.name ∷ h.listed) h.listed h.has_name (omega arith) (λ c. c))
    (both 0 1 0 h.listed (Symbol 59 ∷ h.body) rest (solid_ports m.ports h.declared h.listed (Symbol 59 ∷ h.body) h.has_ports)
    (both 1 0 1 (Symbol 59 ∷ h.body) h.body rest (symbol_front 59 h.body)
    (both 0 1 0 h.body (Key (codes "endmodule") ∷ rest) rest (solid_row IsItem solid_item h.items h.body (Key (codes "endmodule") ∷ rest) h.has_items) (key_front (codes "endmodule") rest) (omega arith)) (omega arith)) (omega arith)) (omega arith)) (omega arith)

-- each piece of a design is a token
pub clean_design : (d : PlainDesign) (ts : List Token) → IsDesign d ts → AllTokens ts
clean_design d ts h = (solid_row IsModule solid_module d ts [] h.1).clean tt

-- what a reader leaves is shorter, where what it reads stands there
pub shrinks : {X : Type 0} (P : X → List Token → List Token → Type 0) (p : List Token → Read X) → Solid 1 P → Right P p → Shrinks p
shrinks P p s r ts y h = let b = s y.0 ts y.1 (r ts y h) in omega (arith, b.count)

pub solid_good : (values : Bool) (n : ℕ) → Solid 1 (IsGood values n)
solid_good values n f ts rest h = solid_form f ts rest h.0
