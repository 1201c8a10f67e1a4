-- What stands there is read: ports, modules and designs.
use Rattle.std.proofs.Common.{◌≡◌, ℕ, true, false, cond, map, List, [], ◌∷◌, Option, Some, None, codes, refl, sym, ap, ◌∙◌, inl, inr, arith}
use Rattle.verilog_tokens.specs.Token.{Token, Name, Key, Symbol}
use Rattle.verilog_reader.specs.declared.design.Attribute.{Attribute}
use Rattle.verilog_reader.specs.declared.port.PortKind.{PortKind}
use Rattle.verilog_reader.specs.declared.port.PortEntry.{PortEntry}
use Rattle.verilog_reader.specs.Plain.{PlainItem, PlainModule, PlainDesign}
use Rattle.verilog_reader.specs.Grammar.{Row, Next, Listed, Perhaps, IsIdent, IsBlock, IsPortKind, IsPortEntryOf, IsPortEntry, port_item, port_items, entry_name, AreInside, AreListed, IsModule, IsDesign}
use Rattle.verilog_reader.specs.Reading.{◌>>=◌, begins, begins_name, begins_open, is_more, ident_at, with_front, single, port_kind_at, kind_entry_at, name_entry_at, entry_at, ansi_at, plain_ports_at, inside_at, parenthesis_at, ports_at, module_at, ended, modules_at, design_at}
use Rattle.verilog_reader.proofs.OneToken.{hit}
use Rattle.verilog_reader.proofs.Ahead.{solid_ident, solid_entry, solid_module}
use Rattle.verilog_reader.proofs.AgainLists.{Again, never, Begins, again_row, again_more, again_listed, again_ident}
use Rattle.verilog_reader.proofs.AgainParts.{again_attributes, again_range, again_port_way, way_start, range_follow}
use Rattle.verilog_reader.proofs.AgainItems.{again_items}
use Rattle.verilog_reader.proofs.Steps.{port_kind_1, port_kind_2, port_kind_3, kind_entry_1, ansi_1, ansi_3, plain_ports_1, parenthesis_1, module_1, module_4, module_6, modules_1}

port_kind_found : (k : PortKind) (name : List ℕ) (ts behind : List Token) → IsPortKind k ts (Name name ∷ behind) → port_kind_at ts ≡ hit k (Name name ∷ behind)
unfolding port_kind_at
port_kind_found k name ts behind h =
    ap (λ r. r >>= port_kind_1) (again_attributes k.attributes ts h.0 h.2 (way_start (Some k.way) h.0 h.1 h.3).no_open)
    ∙ (ap (λ r. r >>= port_kind_2 (k.attributes, h.0)) (again_port_way k.way h.0 h.1 h.3 (range_follow k.range h.1 name behind h.4))
    ∙ ap (λ r. r >>= port_kind_3 (k.attributes, h.0) (k.way, h.1)) (again_range k.range h.1 (Name name ∷ behind) h.4 refl))

blocks_start : (blocks : List (List Attribute)) (ts mid : List Token) → Row IsBlock blocks ts mid → (begins_name mid ≡ false) × (begins 41 mid ≡ false) → (begins_name ts ≡ false) × (begins 41 ts ≡ false)
blocks_start [] ts mid h e = (ap begins_name h ∙ e.0, ap (begins 41) h ∙ e.1)
blocks_start (b ∷ bs) ts mid h e = (ap begins_name h.1.1, ap (begins 41) h.1.1)

kind_start : (k : PortKind) (ts rest : List Token) → IsPortKind k ts rest → (begins_name ts ≡ false) × (begins 41 ts ≡ false)
kind_start k ts rest h =
    let start = way_start (Some k.way) h.0 h.1 h.3 in
    blocks_start h.2.0 ts h.0 h.2.2 (start.no_name, start.no_paren)

abbrev entry_of : Option PortKind → List ℕ → PortEntry
entry_of kind name = record { kind = kind; name = name }

name_entry_found : (name : List ℕ) (rest : List Token) → name_entry_at (Name name ∷ rest) ≡ hit (entry_of None name) rest
unfolding name_entry_at
name_entry_found name rest = refl

kind_entry_found : (k : PortKind) (name : List ℕ) (ts rest : List Token) → IsPortKind k ts (Name name ∷ rest) → kind_entry_at ts ≡ hit (entry_of (Some k) name) rest
unfolding kind_entry_at
kind_entry_found k name ts rest h = ap (λ r. r >>= kind_entry_1) (port_kind_found k name ts rest h)

entry_found : (kind : Option PortKind) (name : List ℕ) (ts rest : List Token) → IsPortEntryOf kind name ts rest → entry_at ts ≡ hit (entry_of kind name) rest
entry_found None name ts rest h = ap entry_at h ∙ name_entry_found name rest
entry_found (Some k) name ts rest h =
    ap (λ b. cond b (name_entry_at ts) (kind_entry_at ts)) (kind_start k ts (Name name ∷ rest) h).0 ∙ kind_entry_found k name ts rest h

again_entry : Again never IsPortEntry entry_at
again_entry e ts rest h q = entry_found e.kind e.name ts rest h

plain_ports_found : (names : List (List ℕ)) (ts rest : List Token) → Listed IsIdent names ts (Symbol 41 ∷ rest) → plain_ports_at ts ≡ hit (names, []) (Symbol 41 ∷ rest)
unfolding plain_ports_at
plain_ports_found names ts rest h = ap (λ r. r >>= plain_ports_1) (again_listed never IsIdent ident_at solid_ident again_ident (λ mid. refl) names ts (Symbol 41 ∷ rest) h refl refl)

ansi_found : (kind : PortKind) (name : List ℕ) (more : List PortEntry) (ts behind rest : List Token) → IsPortKind kind ts (Name name ∷ behind) → Row (Next IsPortEntry) more behind (Symbol 41 ∷ rest) →
    ansi_at ts ≡ hit (name ∷ map entry_name more, port_item kind name ∷ port_items kind more) (Symbol 41 ∷ rest)
unfolding ansi_at
ansi_found kind name more ts behind rest h g =
    ap (λ r. r >>= ansi_1) (port_kind_found kind name ts behind h)
    ∙ ap (λ r. r >>= ansi_3 (kind, Name name ∷ behind) (name, behind)) (again_more never IsPortEntry entry_at solid_entry again_entry (λ mid. refl) more behind (Symbol 41 ∷ rest) g refl refl)

perhaps_inside : (names : List (List ℕ)) (ts rest : List Token) → Perhaps IsIdent names ts (Symbol 41 ∷ rest) → inside_at ts ≡ hit (names, []) (Symbol 41 ∷ rest)
perhaps_inside [] ts rest h = ap inside_at h
perhaps_inside (n ∷ ns) ts rest h = ap inside_at h.1 ∙ (ap plain_ports_at (sym h.1) ∙ plain_ports_found (n ∷ ns) ts rest h)

inside_found : (ports : List (List ℕ)) (items : List PlainItem) (ts rest : List Token) → AreInside ports items ts (Symbol 41 ∷ rest) → inside_at ts ≡ hit (ports, items) (Symbol 41 ∷ rest)
inside_found ports items ts rest (inl h) = perhaps_inside ports ts rest h.0 ∙ ap (λ (w : List PlainItem). hit (ports, w) (Symbol 41 ∷ rest)) (sym h.1)
inside_found ports items ts rest (inr a) =
    let start = kind_start a.kind ts (Name a.name ∷ a.behind) a.first in
    ap (λ b. cond b (hit ([], []) ts) (cond (begins_name ts) (plain_ports_at ts) (ansi_at ts))) start.1
    ∙ (ap (λ b. cond b (plain_ports_at ts) (ansi_at ts)) start.0
    ∙ (ansi_found a.kind a.name a.more ts a.behind rest a.first a.others
    ∙ (ap (λ (w : List (List ℕ)). hit (w, port_item a.kind a.name ∷ port_items a.kind a.more) (Symbol 41 ∷ rest)) (sym a.names)
    ∙ ap (λ (w : List PlainItem). hit (ports, w) (Symbol 41 ∷ rest)) (sym a.declared))))

parenthesis_found : (ports : List (List ℕ)) (items : List PlainItem) (ts rest : List Token) → AreInside ports items ts (Symbol 41 ∷ rest) → parenthesis_at ts ≡ hit (ports, items) rest
unfolding parenthesis_at
parenthesis_found ports items ts rest h = ap (λ r. r >>= parenthesis_1) (inside_found ports items ts rest h)

ports_found : (ports : List (List ℕ)) (items : List PlainItem) (ts rest : List Token) → AreListed ports items ts (Symbol 59 ∷ rest) → ports_at ts ≡ hit (ports, items) (Symbol 59 ∷ rest)
ports_found ports items ts rest (inl h) =
    ap ports_at h.0 ∙ (ap (λ (w : List (List ℕ)). hit (w, []) (Symbol 59 ∷ rest)) (sym h.1) ∙ ap (λ (w : List PlainItem). hit (ports, w) (Symbol 59 ∷ rest)) (sym h.2))
ports_found ports items ts rest (inr h) = ap ports_at h.1 ∙ parenthesis_found ports items h.0 (Symbol 59 ∷ rest) h.2

abbrev module_of : List ℕ → List Attribute → List (List ℕ) → List PlainItem → PlainModule
module_of name attributes ports items = record { name = name; attributes = attributes; ports = ports; items = items }

again_module : Again never IsModule module_at
unfolding module_at
again_module m ts rest h e =
    let head : List Token = Key (codes "module") ∷ Name m.name ∷ h.listed in
    let own = again_attributes m.attributes ts h.head h.has_attributes (ap begins_open h.has_name) ∙ ap (hit m.attributes) h.has_name in
    ap (λ r. r >>= module_1) own
    ∙ (ap (λ r. r >>= module_4 (m.attributes, head) (Name m.name ∷ h.listed) (m.name, h.listed)) (ports_found m.ports h.declared h.listed h.body h.has_ports)
    ∙ (ap (λ r. with_front h.declared r >>= module_6 (m.attributes, head) (Name m.name ∷ h.listed) (m.name, h.listed) ((m.ports, h.declared), Symbol 59 ∷ h.body) h.body) (again_items h.items h.body rest h.has_items)
    ∙ ap (λ (w : List PlainItem). hit (module_of m.name m.attributes m.ports w) rest) (sym h.all_items)))

blocks_more : (blocks : List (List Attribute)) (ts mid : List Token) → Row IsBlock blocks ts mid → is_more mid ≡ true → is_more ts ≡ true
blocks_more [] ts mid h e = ap is_more h ∙ e
blocks_more (b ∷ bs) ts mid h e = ap is_more h.1.1

begins_module : Begins is_more never IsModule
begins_module m ts rest h = (blocks_more h.has_attributes.0 ts h.head h.has_attributes.2 (ap is_more h.has_name), refl)

modules_found : (d : PlainDesign) (ts : List Token) → IsDesign d ts → modules_at ts ≡ hit d []
unfolding modules_at
modules_found [] ts h = absurd (omega (arith, h.0))
modules_found (m ∷ ms) ts h =
    ap (λ r. r >>= modules_1) (again_module m ts h.1.0 h.1.1 refl)
    ∙ ap (with_front (single m)) (again_row is_more never IsModule module_at solid_module again_module begins_module ms h.1.0 [] h.1.2 refl refl)

-- a design that stands there is read
pub again_design : (d : PlainDesign) (ts : List Token) → IsDesign d ts → design_at ts ≡ Some d
unfolding design_at
again_design d ts h = ap (λ r. r >>= ended) (modules_found d ts h)
