-- What stands there is read: pins and items.
use Rattle.std.proofs.Common.{◌≡◌, ℕ, true, false, cond, drop, List, [], ◌∷◌, Option, Some, None, codes, refl, ap, ◌∙◌, subst}
use Rattle.agm_net.specs.declared.port.Way.{Way}
use Rattle.agm_net.specs.declared.port.Range.{Range}
use Rattle.verilog_tokens.specs.Token.{Token, Name, Key, Symbol}
use Rattle.verilog_reader.specs.declared.design.Attribute.{Attribute}
use Rattle.verilog_reader.specs.Plain.{PlainForm, PlainConnection, PlainItem, declare, assign, instance}
use Rattle.verilog_reader.specs.Grammar.{Row, Listed, Perhaps, IsIdent, IsBlock, IsRange, IsTarget, IsSource, IsContent, IsPin, IsBare, attributes_of, IsItem}
use Rattle.verilog_reader.specs.Reading.{◌>>=◌, begins, begins_key, begins_open, ident_at, listed_at, some_form_at, content_at, pin_at, pins_at, declare_at, assign_at, instance_at, bare_at, item_at, goes_on, items_at}
use Rattle.verilog_reader.proofs.OneToken.{hit}
use Rattle.verilog_reader.proofs.Ahead.{solid_ident, solid_pin, solid_item}
use Rattle.verilog_reader.proofs.AgainLists.{Again, never, Begins, again_row, again_listed, again_ident}
use Rattle.verilog_reader.proofs.AgainParts.{again_attributes, again_range, way_start, again_any_way, range_follow}
use Rattle.verilog_reader.proofs.AgainForms.{form_start, impossible, again_form}
use Rattle.verilog_reader.proofs.Steps.{some_form_1, pin_4, declare_1, declare_2, declare_3, assign_1, assign_3, instance_4, item_1}

some_form_found : (f : PlainForm) (ts rest : List Token) → IsSource f ts rest → begins 91 rest ≡ false → some_form_at ts ≡ hit (Some f) rest
unfolding some_form_at
some_form_found f ts rest h e = ap (λ r. r >>= some_form_1) (again_form f true 100 ts rest h.1 h.0 (λ q. impossible q) e)

content_found : (form : Option PlainForm) (ts rest : List Token) → IsContent form ts (Symbol 41 ∷ rest) → content_at ts ≡ hit form (Symbol 41 ∷ rest)
content_found None ts rest h = ap content_at h
content_found (Some f) ts rest h =
    ap (λ b. cond b (hit None ts) (some_form_at ts)) (form_start f ts (Symbol 41 ∷ rest) h.0).no_paren ∙ some_form_found f ts (Symbol 41 ∷ rest) h refl

pub again_pin : Again never IsPin pin_at
unfolding pin_at
again_pin c ts rest h e =
    ap pin_at h.1 ∙ ap (λ r. r >>= pin_4 (Name c.pin ∷ Symbol 40 ∷ h.0) (c.pin, Symbol 40 ∷ h.0) h.0) (content_found c.form h.0 rest h.2)

pins_found : (pins : List PlainConnection) (ts rest : List Token) → Perhaps IsPin pins ts (Symbol 41 ∷ rest) → pins_at ts ≡ hit pins (Symbol 41 ∷ rest)
pins_found [] ts rest h = ap pins_at h
pins_found (p ∷ ps) ts rest h =
    ap (λ b. cond b (hit [] ts) (listed_at pin_at ts)) (ap (begins 41) h.1.1)
    ∙ again_listed never IsPin pin_at solid_pin again_pin (λ mid. refl) (p ∷ ps) ts (Symbol 41 ∷ rest) h refl refl

-- what names begin with
names_start : (names : List (List ℕ)) (ts rest : List Token) → Listed IsIdent names ts rest → (name : List ℕ) × (behind : List Token) × (ts ≡ Name name ∷ behind)
names_start [] ts rest h = absurd h
names_start (n ∷ ns) ts rest h = (n, h.0, h.1)

declare_found : (attributes : List Attribute) (way : Option Way) (range : Option Range) (names : List (List ℕ)) (ts rest : List Token) → IsBare (declare attributes way range names) ts rest → declare_at attributes ts ≡ hit (declare attributes way range names) rest
unfolding declare_at
declare_found attributes way range names ts rest h =
    let n = names_start names h.1 (Symbol 59 ∷ rest) h.4 in
    let follow = range_follow range h.0 n.0 n.1 (subst (λ w. IsRange range h.0 w) n.2 h.3) in
    ap (λ r. r >>= declare_1 attributes) (again_any_way way ts h.0 h.2 follow)
    ∙ (ap (λ r. r >>= declare_2 attributes (way, h.0)) (again_range range h.0 h.1 h.3 (ap (begins 91) n.2))
    ∙ ap (λ r. r >>= declare_3 attributes (way, h.0) (range, h.1)) (again_listed never IsIdent ident_at solid_ident again_ident (λ mid. refl) names h.1 (Symbol 59 ∷ rest) h.4 refl refl))

assign_found : (attributes : List Attribute) (left right : PlainForm) (a b rest : List Token) → IsSource left a (Symbol 61 ∷ b) × IsTarget left → IsSource right b (Symbol 59 ∷ rest) → assign_at attributes a ≡ hit (assign attributes left right) rest
unfolding assign_at
assign_found attributes left right a b rest l r =
    ap (λ q. q >>= assign_1 attributes) (again_form left false 100 a (Symbol 61 ∷ b) l.0.1 l.0.0 (λ q. l.1) refl)
    ∙ ap (λ q. q >>= assign_3 attributes (left, Symbol 61 ∷ b) b) (again_form right true 100 b (Symbol 59 ∷ rest) r.1 r.0 (λ q. impossible q) refl)

instance_found : (attributes : List Attribute) (cell name : List ℕ) (pins : List PlainConnection) (a rest : List Token) → Perhaps IsPin pins a (Symbol 41 ∷ Symbol 59 ∷ rest) →
    instance_at attributes (Name cell ∷ Name name ∷ Symbol 40 ∷ a) ≡ hit (instance attributes cell name pins) rest
unfolding instance_at
instance_found attributes cell name pins a rest h =
    ap (λ r. r >>= instance_4 attributes (cell, Name name ∷ Symbol 40 ∷ a) (name, Symbol 40 ∷ a) a) (pins_found pins a (Symbol 59 ∷ rest) h)

bare_found : (item : PlainItem) (ts rest : List Token) → IsBare item ts rest → bare_at (attributes_of item) ts ≡ hit item rest
bare_found (declare attributes way range names) ts rest h =
    let start = way_start way ts h.0 h.2 in
    ap (λ b. cond b (instance_at attributes ts) (cond (begins_key (codes "assign") ts) (assign_at attributes (drop 1 ts)) (declare_at attributes ts))) start.no_name
    ∙ (ap (λ b. cond b (assign_at attributes (drop 1 ts)) (declare_at attributes ts)) start.no_assign ∙ declare_found attributes way range names ts rest h)
bare_found (assign attributes left right) ts rest h = ap (bare_at attributes) h.2 ∙ assign_found attributes left right h.0 h.1 rest h.3 h.4
bare_found (instance attributes cell name pins) ts rest h = ap (bare_at attributes) h.1 ∙ instance_found attributes cell name pins h.0 rest h.2

-- what an item behind its attributes begins with
bare_start : (item : PlainItem) (ts rest : List Token) → IsBare item ts rest → (begins_open ts ≡ false) × (goes_on ts ≡ true)
bare_start (declare attributes way range names) ts rest h = let start = way_start way ts h.0 h.2 in (start.no_open, start.goes)
bare_start (assign attributes left right) ts rest h = (ap begins_open h.2, ap goes_on h.2)
bare_start (instance attributes cell name pins) ts rest h = (ap begins_open h.1, ap goes_on h.1)

pub again_item : Again never IsItem item_at
unfolding item_at
again_item item ts rest h e =
    ap (λ r. r >>= item_1) (again_attributes (attributes_of item) ts h.0 h.1 (bare_start item h.0 rest h.2).0) ∙ bare_found item h.0 rest h.2

blocks_go : (blocks : List (List Attribute)) (ts mid : List Token) → Row IsBlock blocks ts mid → goes_on mid ≡ true → goes_on ts ≡ true
blocks_go [] ts mid h e = ap goes_on h ∙ e
blocks_go (b ∷ bs) ts mid h e = ap goes_on h.1.1

begins_item : Begins goes_on never IsItem
begins_item item ts rest h = (blocks_go h.1.0 ts h.0 h.1.2 (bare_start item h.0 rest h.2).1, refl)

pub again_items : (items : List PlainItem) (ts rest : List Token) → Row IsItem items ts (Key (codes "endmodule") ∷ rest) → items_at ts ≡ hit items (Key (codes "endmodule") ∷ rest)
again_items items ts rest h = again_row goes_on never IsItem item_at solid_item again_item begins_item items ts (Key (codes "endmodule") ∷ rest) h refl refl
