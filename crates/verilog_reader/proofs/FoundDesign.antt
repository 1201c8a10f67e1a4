-- What is read stands there: ports, modules and designs.
use Rattle.std.proofs.Common.{◌≡◌, ◌<◌, ◌++◌, false, cond, length, drop, map, List, [], ◌∷◌, Some, None, codes, refl, sym, ap, ◌∙◌, subst, inl, inr, arith}
use Rattle.verilog_tokens.specs.Token.{Token, Key, Symbol}
use Rattle.verilog_reader.specs.Plain.{PlainItem, PlainModule, PlainDesign}
use Rattle.verilog_reader.specs.Grammar.{Row, IsIdent, IsItem, IsPortKind, IsPortEntry, port_item, port_items, entry_name, AreInside, AreListed, IsModule, IsDesign}
use Rattle.verilog_reader.specs.Reading.{Read, begins, begins_name, is_more, symbol_at, key_at, ident_at, with_front, single, many_at, more_at, listed_at, attributes_at, optional_range_at, port_way_at, items_at, port_kind_at, kind_entry_at, name_entry_at, entry_at, Ports, ansi_at, plain_ports_at, inside_at, parenthesis_at, ports_at, module_at, ended, modules_at, design_at}
use Rattle.verilog_reader.proofs.OneToken.{hit, chosen, bind_some, got, begins_is, symbol_is, key_is, ident_is}
use Rattle.verilog_reader.proofs.FoundLists.{Right, moved, right_row, right_more, right_listed, perhaps}
use Rattle.verilog_reader.proofs.FoundParts.{right_attributes, right_optional_range, right_port_way}
use Rattle.verilog_reader.proofs.FoundItems.{right_items}
use Rattle.verilog_reader.proofs.Steps.{port_kind_1, port_kind_2, port_kind_3, kind_entry_1, kind_entry_2, name_entry_1, ansi_1, ansi_2, ansi_3, plain_ports_1, parenthesis_1, parenthesis_2, module_1, module_2, module_3, module_4, module_5, module_6, module_7, modules_1}

pub right_port_kind : Right IsPortKind port_kind_at
unfolding port_kind_at
right_port_kind ts y h =
    let attributes = bind_some (attributes_at ts) (port_kind_1) y h in
    let way = bind_some (port_way_at attributes.0.1) (port_kind_2 attributes.0) y attributes.2 in
    let range = bind_some (optional_range_at way.0.1) (port_kind_3 attributes.0 way.0) y way.2 in
    moved IsPortKind ts (record { attributes = attributes.0.0; way = way.0.0; range = range.0.0 }) range.0.1 y
    (attributes.0.1, way.0.1, right_attributes ts attributes.0 attributes.1, right_port_way attributes.0.1 way.0 way.1, right_optional_range way.0.1 range.0 range.1) range.2

right_kind_entry : Right IsPortEntry kind_entry_at
unfolding kind_entry_at
right_kind_entry ts y h =
    let kind = bind_some (port_kind_at ts) (kind_entry_1) y h in
    let n = bind_some (ident_at kind.0.1) (kind_entry_2 kind.0) y kind.2 in
    moved IsPortEntry ts (record { kind = Some kind.0.0; name = n.0.0 }) n.0.1 y (subst (λ w. IsPortKind kind.0.0 ts w) (ident_is kind.0.1 n.0 n.1) (right_port_kind ts kind.0 kind.1)) n.2

right_name_entry : Right IsPortEntry name_entry_at
unfolding name_entry_at
right_name_entry ts y h =
    let n = bind_some (ident_at ts) (name_entry_1) y h in
    moved IsPortEntry ts (record { kind = None; name = n.0.0 }) n.0.1 y (ident_is ts n.0 n.1) n.2

pub right_entry : Right IsPortEntry entry_at
right_entry ts y h =
    elim (chosen (begins_name ts) (name_entry_at ts) (kind_entry_at ts) (Some y) h) [
      | inl e ↦ right_name_entry ts y e.1
      | inr e ↦ right_kind_entry ts y e.1
    ]

abbrev AreInsideOf : Ports → List Token → List Token → Type 0
AreInsideOf p ts rest = AreInside p.0 p.1 ts rest

right_ansi : Right AreInsideOf ansi_at
unfolding ansi_at
right_ansi ts y h =
    let kind = bind_some (port_kind_at ts) (ansi_1) y h in
    let n = bind_some (ident_at kind.0.1) (ansi_2 kind.0) y kind.2 in
    let more = bind_some (more_at entry_at n.0.1) (ansi_3 kind.0 n.0) y n.2 in
    moved AreInsideOf ts (n.0.0 ∷ map entry_name more.0.0, port_item kind.0.0 n.0.0 ∷ port_items kind.0.0 more.0.0) more.0.1 y (inr (record {
      kind = kind.0.0;
      name = n.0.0;
      more = more.0.0;
      behind = n.0.1;
      first = subst (λ w. IsPortKind kind.0.0 ts w) (ident_is kind.0.1 n.0 n.1) (right_port_kind ts kind.0 kind.1);
      others = right_more IsPortEntry entry_at right_entry n.0.1 more.0 more.1;
      names = refl;
      declared = refl;
    })) more.2

right_plain_ports : Right AreInsideOf plain_ports_at
unfolding plain_ports_at
right_plain_ports ts y h =
    let names = bind_some (listed_at ident_at ts) (plain_ports_1) y h in
    moved AreInsideOf ts (names.0.0, []) names.0.1 y (inl (perhaps IsIdent names.0.0 ts names.0.1 (right_listed IsIdent ident_at ident_is ts names.0 names.1), refl)) names.2

right_inside : Right AreInsideOf inside_at
right_inside ts y h =
    elim (chosen (begins 41 ts) (hit ([], []) ts) (cond (begins_name ts) (plain_ports_at ts) (ansi_at ts)) (Some y) h) [
      | inl e ↦ moved AreInsideOf ts ([], []) ts y (inl (refl, refl)) e.1
      | inr e ↦ elim (chosen (begins_name ts) (plain_ports_at ts) (ansi_at ts) (Some y) e.1) [
        | inl f ↦ right_plain_ports ts y f.1
        | inr f ↦ right_ansi ts y f.1
      ]
    ]

abbrev AreListedOf : Ports → List Token → List Token → Type 0
AreListedOf p ts rest = AreListed p.0 p.1 ts rest

right_parenthesis : (ts mid : List Token) (y : Ports × List Token) → ts ≡ Symbol 40 ∷ mid → parenthesis_at mid ≡ Some y → AreListedOf y.0 ts y.1
unfolding parenthesis_at
right_parenthesis ts mid y e h =
    let ports = bind_some (inside_at mid) (parenthesis_1) y h in
    let rest = bind_some (symbol_at 41 ports.0.1) (parenthesis_2 ports.0) y ports.2 in
    moved AreListedOf ts ports.0.0 rest.0 y (inr (mid, e, subst (λ w. AreInside ports.0.0.0 ports.0.0.1 mid w) (symbol_is 41 ports.0.1 rest.0 rest.1) (right_inside mid ports.0 ports.1))) rest.2

pub right_ports : (ts : List Token) (y : Ports × List Token) → ports_at ts ≡ Some y → AreListed y.0.0 y.0.1 ts y.1
right_ports ts y h =
    elim (chosen (begins 40 ts) (parenthesis_at (drop 1 ts)) (hit ([], []) ts) (Some y) h) [
      | inl e ↦ right_parenthesis ts (drop 1 ts) y (begins_is 40 ts e.0) e.1
      | inr e ↦ moved AreListedOf ts ([], []) ts y (inl (refl, refl, refl)) e.1
    ]

abbrev fronted : List PlainItem → List PlainItem × List Token → Read (List PlainItem)
fronted front xs = Some (front ++ xs.0, xs.1)

pub right_module : Right IsModule module_at
unfolding module_at
right_module ts y h =
    let attributes = bind_some (attributes_at ts) (module_1) y h in
    let a = bind_some (key_at (codes "module") attributes.0.1) (module_2 attributes.0) y attributes.2 in
    let n = bind_some (ident_at a.0) (module_3 attributes.0 a.0) y a.2 in
    let ports = bind_some (ports_at n.0.1) (module_4 attributes.0 a.0 n.0) y n.2 in
    let b = bind_some (symbol_at 59 ports.0.1) (module_5 attributes.0 a.0 n.0 ports.0) y ports.2 in
    let items = bind_some (with_front ports.0.0.1 (items_at b.0)) (module_6 attributes.0 a.0 n.0 ports.0 b.0) y b.2 in
    let rest = bind_some (key_at (codes "endmodule") items.0.1) (module_7 attributes.0 a.0 n.0 ports.0 b.0 items.0) y items.2 in
    let own = bind_some (items_at b.0) (fronted ports.0.0.1) items.0 items.1 in
    let same = got (ports.0.0.1 ++ own.0.0) own.0.1 items.0 own.2 in
    let listed = right_ports n.0.1 ports.0 ports.1 in
    let body = right_items b.0 own.0 own.1 in
    let ends = same.1 ∙ key_is (codes "endmodule") items.0.1 rest.0 rest.1 in
    moved IsModule ts (record { name = n.0.0; attributes = attributes.0.0; ports = ports.0.0.0; items = items.0.0 }) rest.0 y (record {
      head = attributes.0.1;
      listed = n.0.1;
      body = b.0;
      declared = ports.0.0.1;
      items = own.0.0;
      has_attributes = right_attributes ts attributes.0 attributes.1;
      has_name = key_is (codes "module") attributes.0.1 a.0 a.1 ∙ ap (λ w. Key (codes "module") ∷ w) (ident_is a.0 n.0 n.1);
      has_ports = subst (λ w. AreListed ports.0.0.0 ports.0.0.1 n.0.1 w) (symbol_is 59 ports.0.1 b.0 b.1) listed;
      has_items = subst (λ w. Row IsItem own.0.0 b.0 w) ends body;
      all_items = sym same.0;
    }) rest.2

abbrev modules_2 : PlainModule × List Token → List PlainModule × List Token → Read (List PlainModule)
modules_2 m ms = Some (single m.0 ++ ms.0, ms.1)

abbrev AreModules : List PlainModule → List Token → List Token → Type 0
AreModules ms ts rest = (0 < length ms) × Row IsModule ms ts rest

right_modules : Right AreModules modules_at
unfolding modules_at
right_modules ts y h =
    let m = bind_some (module_at ts) (modules_1) y h in
    let more = bind_some (many_at single is_more module_at m.0.1) (modules_2 m.0) y m.2 in
    let others = right_row IsModule is_more module_at (length m.0.1) right_module m.0.1 more.0 more.1 in
    moved AreModules ts (m.0.0 ∷ more.0.0) more.0.1 y (omega arith, (m.0.1, right_module ts m.0 m.1, others)) more.2

nothing_behind : (ts : List Token) → is_more ts ≡ false → ts ≡ []
nothing_behind [] h = refl
nothing_behind (t ∷ ts) h = absurd (cc)

ended_is : (y : List PlainModule × List Token) (d : PlainDesign) → ended y ≡ Some d → (y.0 ≡ d) × (y.1 ≡ [])
ended_is y d h =
    elim (chosen (is_more y.1) None (Some y.0) (Some d) h) [
      | inl e ↦ absurd (cc (e.1))
      | inr e ↦ let same : y.0 ≡ d = cc (e.1) in (same, nothing_behind y.1 e.0)
    ]

-- a design that is read stands there
pub right_design : (ts : List Token) (d : PlainDesign) → design_at ts ≡ Some d → IsDesign d ts
unfolding design_at
right_design ts d h =
    let m = bind_some (modules_at ts) ended d h in
    let e = ended_is m.0 d m.2 in
    let r = right_modules ts m.0 m.1 in
    subst (λ (w : List Token). AreModules d ts w) e.1 (subst (λ (w : List PlainModule). AreModules w ts m.0.1) e.0 r)
