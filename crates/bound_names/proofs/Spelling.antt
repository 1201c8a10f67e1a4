-- What tokens spell has names that can be written, and ranges with small numbers.
use Rattle.std.proofs.Common.{◌≡◌, ℕ, List, [], ◌∷◌, map, Option, Some, None, codes, sym, subst, inl, inr}
use Rattle.std.specs.List.{AllByRecursion}
use Rattle.agm_net.specs.Writable.{IsWritable}
use Rattle.agm_net.specs.declared.port.Way.TheVariants.{Input, Output}
use Rattle.agm_net.specs.declared.port.Range.{Range}
use Rattle.verilog_tokens.specs.Token.{Token, Name, Key, Number, Constant, Text, Symbol, Open, Close}
use Rattle.verilog_reader.specs.declared.design.Value.TheVariants as value
use Rattle.verilog_reader.specs.declared.port.PortKind.{PortKind}
use Rattle.verilog_reader.specs.declared.port.PortEntry.{PortEntry}
use Rattle.verilog_reader.specs.Plain.{whole, bit, part, constant, join, repeat, no_forms, a_form, PlainItem, declare, assign, instance, PlainModule, PlainDesign}
use Rattle.verilog_reader.specs.Grammar.{Row, Next, Listed, Perhaps, IsIdent, IsValue, IsSet, IsAttribute, IsBlock, AreAttributes, IsRange, IsWay, IsForm, AreForms, AreMoreForms, IsSource, IsContent, IsPin, IsBare, attributes_of, IsItem, IsPortKind, IsPortEntryOf, IsPortEntry, kind_from, port_items, entry_name, AreInside, AreListed, IsModule}
use Rattle.agm_net.proofs.Lists.{all_joined}
use Rattle.bound_names.specs.Named.{HasSmallNumbers}
use Rattle.bound_names.proofs.Tokens.{AreRight}

-- where all tokens are right, those behind a value are
abbrev Passes : {X : Type 0} → (X → List Token → List Token → Type 0) → Type 0
Passes {X} P = (x : X) (ts rest : List Token) → P x ts rest → AreRight ts → AreRight rest

over : (ts us : List Token) → ts ≡ us → AreRight ts → AreRight us
over ts us e r = subst AreRight e r

pass_row : {X : Type 0} (P : X → List Token → List Token → Type 0) → Passes P → Passes (Row P)
pass_row P k [] ts rest h r = over ts rest h r
pass_row P k (x ∷ xs) ts rest h r = pass_row P k xs h.0 rest h.2 (k x ts h.0 h.1 r)

pass_next : {X : Type 0} (P : X → List Token → List Token → Type 0) → Passes P → Passes (Next P)
pass_next P k x ts rest h r = k x h.0 rest h.2 (over ts (Symbol 44 ∷ h.0) h.1 r).1

pass_listed : {X : Type 0} (P : X → List Token → List Token → Type 0) → Passes P → Passes (Listed P)
pass_listed P k [] ts rest h r = absurd h
pass_listed P k (x ∷ xs) ts rest h r = pass_row (Next P) (pass_next P k) xs h.0 rest h.2 (k x ts h.0 h.1 r)

pass_perhaps : {X : Type 0} (P : X → List Token → List Token → Type 0) → Passes P → Passes (Perhaps P)
pass_perhaps P k [] ts rest h r = over ts rest h r
pass_perhaps P k (x ∷ xs) ts rest h r = pass_listed P k (x ∷ xs) ts rest h r

pass_ident : Passes IsIdent
pass_ident name ts rest h r = (over ts (Name name ∷ rest) h r).1

-- attributes
pass_value : Passes IsValue
pass_value (value.Text text) ts rest h r = (over ts (Text text ∷ rest) h r).1
pass_value (value.Number n) ts rest h r = (over ts (Number n ∷ rest) h.0 r).1
pass_value (value.Bits bits) ts rest h r = (over ts (Constant bits ∷ rest) h r).1

pass_set : Passes IsSet
pass_set None ts rest h r = over ts rest h r
pass_set (Some v) ts rest h r = pass_value v h.0 rest h.2 (over ts (Symbol 61 ∷ h.0) h.1 r).1

pass_attribute : Passes IsAttribute
pass_attribute a ts rest h r = pass_set a.value h.0 rest h.2 (over ts (Name a.name ∷ h.0) h.1 r).1

pass_block : Passes IsBlock
pass_block attributes ts rest h r = (pass_listed IsAttribute pass_attribute attributes h.0 (Close ∷ rest) h.2 (over ts (Open ∷ h.0) h.1 r).1).1

pass_attributes : Passes AreAttributes
pass_attributes attributes ts rest h r = pass_row IsBlock pass_block h.0 ts rest h.2 r

-- ranges and ways
pass_range : Passes IsRange
pass_range None ts rest h r = over ts rest h r
pass_range (Some g) ts rest h r = (over ts (Symbol 91 ∷ Number g.msb ∷ Symbol 58 ∷ Number g.lsb ∷ Symbol 93 ∷ rest) h.0 r).1.1.1.1.1

pass_way : Passes IsWay
pass_way None ts rest h r = (over ts (Key (codes "wire") ∷ rest) h r).1
pass_way (Some Input) ts rest (inl h) r = (over ts (Key (codes "input") ∷ rest) h r).1
pass_way (Some Output) ts rest (inl h) r = (over ts (Key (codes "output") ∷ rest) h r).1
pass_way (Some Input) ts rest (inr h) r = (over ts (Key (codes "input") ∷ Key (codes "wire") ∷ rest) h r).1.1
pass_way (Some Output) ts rest (inr h) r = (over ts (Key (codes "output") ∷ Key (codes "wire") ∷ rest) h r).1.1

-- forms
mutual
  pass_form : Passes IsForm
  pass_form (whole n) ts rest h r = (over ts (Name n ∷ rest) h r).1
  pass_form (bit n k) ts rest h r = (over ts (Name n ∷ Symbol 91 ∷ Number k ∷ Symbol 93 ∷ rest) h.0 r).1.1.1.1
  pass_form (part n a b) ts rest h r = (over ts (Name n ∷ Symbol 91 ∷ Number a ∷ Symbol 58 ∷ Number b ∷ Symbol 93 ∷ rest) h.0 r).1.1.1.1.1.1
  pass_form (constant bits) ts rest h r = (over ts (Constant bits ∷ rest) h r).1
  pass_form (join fs) ts rest h r = (pass_forms fs h.0 (Symbol 125 ∷ rest) h.2 (over ts (Symbol 123 ∷ h.0) h.1 r).1).1
  pass_form (repeat k f) ts rest h r = (pass_form f h.0 (Symbol 125 ∷ Symbol 125 ∷ rest) h.3 (over ts (Symbol 123 ∷ Number k ∷ Symbol 123 ∷ h.0) h.1 r).1.1.1).1.1

  pass_forms : Passes AreForms
  pass_forms no_forms ts rest h r = absurd h
  pass_forms (a_form f fs) ts rest h r = pass_more fs h.0 rest h.2 (pass_form f ts h.0 h.1 r)

  pass_more : Passes AreMoreForms
  pass_more no_forms ts rest h r = over ts rest h r
  pass_more (a_form f fs) ts rest h r = pass_more fs h.1 rest h.4 (pass_form f h.0 h.1 h.3 (over ts (Symbol 44 ∷ h.0) h.2 r).1)

-- pins and items
pass_source : Passes IsSource
pass_source f ts rest h r = pass_form f ts rest h.0 r

pass_content : Passes IsContent
pass_content None ts rest h r = over ts rest h r
pass_content (Some f) ts rest h r = pass_source f ts rest h r

pass_pin : Passes IsPin
pass_pin c ts rest h r = (pass_content c.form h.0 (Symbol 41 ∷ rest) h.2 (over ts (Symbol 46 ∷ Name c.pin ∷ Symbol 40 ∷ h.0) h.1 r).1.1.1).1

pass_bare : Passes IsBare
pass_bare (declare attributes way range names) ts rest h r =
    (pass_listed IsIdent pass_ident names h.1 (Symbol 59 ∷ rest) h.4 (pass_range range h.0 h.1 h.3 (pass_way way ts h.0 h.2 r))).1
pass_bare (assign attributes left right) ts rest h r =
    (pass_source right h.1 (Symbol 59 ∷ rest) h.4 (pass_source left h.0 (Symbol 61 ∷ h.1) h.3.0 (over ts (Key (codes "assign") ∷ h.0) h.2 r).1).1).1
pass_bare (instance attributes cell name pins) ts rest h r =
    (pass_perhaps IsPin pass_pin pins h.0 (Symbol 41 ∷ Symbol 59 ∷ rest) h.2 (over ts (Name cell ∷ Name name ∷ Symbol 40 ∷ h.0) h.1 r).1.1.1).1.1

pass_item : Passes IsItem
pass_item item ts rest h r = pass_bare item h.0 rest h.2 (pass_attributes (attributes_of item) ts h.0 h.1 r)

-- ports
pass_port_kind : Passes IsPortKind
pass_port_kind k ts rest h r = pass_range k.range h.1 rest h.4 (pass_way (Some k.way) h.0 h.1 h.3 (pass_attributes k.attributes ts h.0 h.2 r))

-- an entry's name stands in front of what stands behind it
entry_right : (kind : Option PortKind) (name : List ℕ) (ts rest : List Token) → IsPortEntryOf kind name ts rest → AreRight ts → AreRight (Name name ∷ rest)
entry_right None name ts rest h r = over ts (Name name ∷ rest) h r
entry_right (Some k) name ts rest h r = pass_port_kind k ts (Name name ∷ rest) h r

pass_entry : Passes IsPortEntry
pass_entry e ts rest h r = (entry_right e.kind e.name ts rest h r).1

pass_inside : (ports : List (List ℕ)) (items : List PlainItem) (ts rest : List Token) → AreInside ports items ts rest → AreRight ts → AreRight rest
pass_inside ports items ts rest (inl h) r = pass_perhaps IsIdent pass_ident ports ts rest h.0 r
pass_inside ports items ts rest (inr a) r =
    pass_row (Next IsPortEntry) (pass_next IsPortEntry pass_entry) a.more a.behind rest a.others (pass_port_kind a.kind ts (Name a.name ∷ a.behind) a.first r).1

pass_ports : (ports : List (List ℕ)) (items : List PlainItem) (ts rest : List Token) → AreListed ports items ts rest → AreRight ts → AreRight rest
pass_ports ports items ts rest (inl h) r = over ts rest h.0 r
pass_ports ports items ts rest (inr h) r = (pass_inside ports items h.0 (Symbol 41 ∷ rest) h.2 (over ts (Symbol 40 ∷ h.0) h.1 r).1).1

-- the tokens from a module's list of ports on
from_list : (m : PlainModule) (ts rest : List Token) (h : IsModule m ts rest) → AreRight ts → AreRight h.listed
from_list m ts rest h r = (over h.head (Key (codes "module") ∷ Name m.name ∷ h.listed) h.has_name (pass_attributes m.attributes ts h.head h.has_attributes r)).1.1

pass_module : Passes IsModule
pass_module m ts rest h r =
    (pass_row IsItem pass_item h.items h.body (Key (codes "endmodule") ∷ rest) h.has_items
    (pass_ports m.ports h.declared h.listed (Symbol 59 ∷ h.body) h.has_ports (from_list m ts rest h r)).1).1

-- names
abbrev AreWritable : List (List ℕ) → Type 0
AreWritable names = AllByRecursion IsWritable names

ident_right : (n : List ℕ) (ts rest : List Token) → IsIdent n ts rest → AreRight ts → IsWritable n
ident_right n ts rest h r = (over ts (Name n ∷ rest) h r).0

next_names : (names : List (List ℕ)) (ts rest : List Token) → Row (Next IsIdent) names ts rest → AreRight ts → AreWritable names
next_names [] ts rest h r = tt
next_names (n ∷ ns) ts rest h r =
    (ident_right n h.1.0 h.0 h.1.2 (over ts (Symbol 44 ∷ h.1.0) h.1.1 r).1, next_names ns h.0 rest h.2 (pass_next IsIdent pass_ident n ts h.0 h.1 r))

perhaps_names : (names : List (List ℕ)) (ts rest : List Token) → Perhaps IsIdent names ts rest → AreRight ts → AreWritable names
perhaps_names [] ts rest h r = tt
perhaps_names (n ∷ ns) ts rest h r = (ident_right n ts h.0 h.1 r, next_names ns h.0 rest h.2 (pass_ident n ts h.0 h.1 r))

entry_names : (es : List PortEntry) (ts rest : List Token) → Row (Next IsPortEntry) es ts rest → AreRight ts → AreWritable (map entry_name es)
entry_names [] ts rest h r = tt
entry_names (e ∷ es) ts rest h r =
    ((entry_right e.kind e.name h.1.0 h.0 h.1.2 (over ts (Symbol 44 ∷ h.1.0) h.1.1 r).1).0, entry_names es h.0 rest h.2 (pass_next IsPortEntry pass_entry e ts h.0 h.1 r))

inside_names : (ports : List (List ℕ)) (items : List PlainItem) (ts rest : List Token) → AreInside ports items ts rest → AreRight ts → AreWritable ports
inside_names ports items ts rest (inl h) r = perhaps_names ports ts rest h.0 r
inside_names ports items ts rest (inr a) r =
    let at = pass_port_kind a.kind ts (Name a.name ∷ a.behind) a.first r in
    subst AreWritable (sym a.names) (at.0, entry_names a.more a.behind rest a.others at.1)

port_names : (ports : List (List ℕ)) (items : List PlainItem) (ts rest : List Token) → AreListed ports items ts rest → AreRight ts → AreWritable ports
port_names ports items ts rest (inl h) r = subst AreWritable (sym h.1) tt
port_names ports items ts rest (inr h) r = inside_names ports items h.0 (Symbol 41 ∷ rest) h.2 (over ts (Symbol 40 ∷ h.0) h.1 r).1

-- ranges
abbrev pub HasSmallRange : PlainItem → Type 0
HasSmallRange (declare attributes way range names) = HasSmallNumbers range
HasSmallRange (assign attributes left right) = Unit {0}
HasSmallRange (instance attributes cell name pins) = Unit {0}

abbrev AreSmall : List PlainItem → Type 0
AreSmall items = AllByRecursion HasSmallRange items

small_range : (range : Option Range) (ts rest : List Token) → IsRange range ts rest → HasSmallNumbers range
small_range None ts rest h = tt
small_range (Some g) ts rest h = (h.1, h.2)

small_bare : (item : PlainItem) (ts rest : List Token) → IsBare item ts rest → HasSmallRange item
small_bare (declare attributes way range names) ts rest h = small_range range h.0 h.1 h.3
small_bare (assign attributes left right) ts rest h = tt
small_bare (instance attributes cell name pins) ts rest h = tt

small_items : (items : List PlainItem) (ts rest : List Token) → Row IsItem items ts rest → AreSmall items
small_items [] ts rest h = tt
small_items (i ∷ is) ts rest h = (small_bare i h.1.0 h.0 h.1.2, small_items is h.0 rest h.2)

small_kind : (k : PortKind) (ts rest : List Token) → IsPortKind k ts rest → HasSmallNumbers k.range
small_kind k ts rest h = small_range k.range h.1 rest h.4

small_entry : (before : PortKind) (kind : Option PortKind) (name : List ℕ) (ts rest : List Token) → HasSmallNumbers before.range → IsPortEntryOf kind name ts rest → HasSmallNumbers (kind_from before kind).range
small_entry before None name ts rest b h = b
small_entry before (Some k) name ts rest b h = small_kind k ts (Name name ∷ rest) h

small_entries : (before : PortKind) (es : List PortEntry) (ts rest : List Token) → HasSmallNumbers before.range → Row (Next IsPortEntry) es ts rest → AreSmall (port_items before es)
small_entries before [] ts rest b h = tt
small_entries before (e ∷ es) ts rest b h =
    let own = small_entry before e.kind e.name h.1.0 h.0 b h.1.2 in
    (own, small_entries (kind_from before e.kind) es h.0 rest own h.2)

small_inside : (ports : List (List ℕ)) (items : List PlainItem) (ts rest : List Token) → AreInside ports items ts rest → AreSmall items
small_inside ports items ts rest (inl h) = subst AreSmall (sym h.1) tt
small_inside ports items ts rest (inr a) =
    let own = small_kind a.kind ts (Name a.name ∷ a.behind) a.first in
    subst AreSmall (sym a.declared) (own, small_entries a.kind a.more a.behind rest own a.others)

small_ports : (ports : List (List ℕ)) (items : List PlainItem) (ts rest : List Token) → AreListed ports items ts rest → AreSmall items
small_ports ports items ts rest (inl h) = subst AreSmall (sym h.2) tt
small_ports ports items ts rest (inr h) = small_inside ports items h.0 (Symbol 41 ∷ rest) h.2

-- a module whose ports' names can be written, and whose ranges have small numbers
pub record IsNamedModule (m : PlainModule) : Type 0 where
  pub names : AllByRecursion IsWritable m.ports
  pub ranges : AllByRecursion HasSmallRange m.items

named_module : (m : PlainModule) (ts rest : List Token) → IsModule m ts rest → AreRight ts → IsNamedModule m
named_module m ts rest h r = record {
  names = port_names m.ports h.declared h.listed (Symbol 59 ∷ h.body) h.has_ports (from_list m ts rest h r);
  ranges =
      subst AreSmall (sym h.all_items)
      (all_joined HasSmallRange h.declared h.items (small_ports m.ports h.declared h.listed (Symbol 59 ∷ h.body) h.has_ports) (small_items h.items h.body (Key (codes "endmodule") ∷ rest) h.has_items));
}

pub named_modules : (d : PlainDesign) (ts rest : List Token) → Row IsModule d ts rest → AreRight ts → AllByRecursion IsNamedModule d
named_modules [] ts rest h r = tt
named_modules (m ∷ ms) ts rest h r = (named_module m ts h.0 h.1 r, named_modules ms h.0 rest h.2 (pass_module m ts h.0 h.1 r))
