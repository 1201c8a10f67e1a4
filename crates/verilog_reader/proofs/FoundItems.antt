-- What is read stands there: pins and items.
use Rattle.std.proofs.Common.{◌≡◌, true, false, cond, length, drop, List, [], ◌∷◌, Some, None, codes, refl, sym, ap, ◌∙◌, subst, inl, inr}
use Rattle.verilog_tokens.specs.Token.{Token, Name, Key, Symbol}
use Rattle.verilog_reader.specs.declared.design.Attribute.{Attribute}
use Rattle.verilog_reader.specs.Plain.{PlainItem, declare, assign, instance}
use Rattle.verilog_reader.specs.Grammar.{Row, Listed, Perhaps, IsIdent, AreAttributes, IsForm, IsContent, IsPin, IsBare, attributes_of, IsItem}
use Rattle.verilog_reader.specs.Reading.{begins, begins_key, begins_name, symbol_at, ident_at, listed_at, attributes_at, optional_range_at, any_way_at, form_at, some_form_at, content_at, pin_at, pins_at, declare_at, assign_at, instance_at, bare_at, item_at, goes_on, items_at}
use Rattle.verilog_reader.proofs.OneToken.{hit, chosen, bind_some, begins_key_is, symbol_is, ident_is}
use Rattle.verilog_reader.proofs.FoundLists.{Right, moved, right_row, right_listed, perhaps}
use Rattle.verilog_reader.proofs.FoundParts.{right_attributes, right_optional_range, right_any_way}
use Rattle.verilog_reader.proofs.FoundForms.{right_form}
use Rattle.verilog_reader.proofs.Steps.{some_form_1, pin_1, pin_2, pin_3, pin_4, pin_5, declare_1, declare_2, declare_3, declare_4, assign_1, assign_2, assign_3, assign_4, instance_1, instance_2, instance_3, instance_4, instance_5, instance_6, item_1}

right_some_form : Right IsContent some_form_at
unfolding some_form_at
right_some_form ts y h =
    let f = bind_some (form_at true 100 ts) (some_form_1) y h in
    let good = right_form true 100 ts f.0 f.1 in
    moved IsContent ts (Some f.0.0) f.0.1 y (good.0, good.1) f.2

right_content : Right IsContent content_at
right_content ts y h =
    elim (chosen (begins 41 ts) (hit None ts) (some_form_at ts) (Some y) h) [
      | inl e ↦ moved IsContent ts None ts y refl e.1
      | inr e ↦ right_some_form ts y e.1
    ]

pub right_pin : Right IsPin pin_at
unfolding pin_at
right_pin ts y h =
    let a = bind_some (symbol_at 46 ts) (pin_1) y h in
    let n = bind_some (ident_at a.0) (pin_2 a.0) y a.2 in
    let b = bind_some (symbol_at 40 n.0.1) (pin_3 a.0 n.0) y n.2 in
    let form = bind_some (content_at b.0) (pin_4 a.0 n.0 b.0) y b.2 in
    let rest = bind_some (symbol_at 41 form.0.1) (pin_5 a.0 n.0 b.0 form.0) y form.2 in
    let front = symbol_is 46 ts a.0 a.1 ∙ (ap (λ w. Symbol 46 ∷ w) (ident_is a.0 n.0 n.1) ∙ ap (λ w. Symbol 46 ∷ Name n.0.0 ∷ w) (symbol_is 40 n.0.1 b.0 b.1)) in
    let ends = symbol_is 41 form.0.1 rest.0 rest.1 in
    moved IsPin ts (record { pin = n.0.0; form = form.0.0 }) rest.0 y (b.0, front, subst (λ w. IsContent form.0.0 b.0 w) ends (right_content b.0 form.0 form.1)) rest.2

right_pins : Right (Perhaps IsPin) pins_at
right_pins ts y h =
    elim (chosen (begins 41 ts) (hit [] ts) (listed_at pin_at ts) (Some y) h) [
      | inl e ↦ moved (Perhaps IsPin) ts [] ts y refl e.1
      | inr e ↦ perhaps IsPin y.0 ts y.1 (right_listed IsPin pin_at right_pin ts y e.1)
    ]

-- an item behind its attributes
abbrev IsBareOf : List Attribute → PlainItem → List Token → List Token → Type 0
IsBareOf attributes item ts rest = IsBare item ts rest × (attributes_of item ≡ attributes)

right_declare : (attributes : List Attribute) → Right (IsBareOf attributes) (declare_at attributes)
unfolding declare_at
right_declare attributes ts y h =
    let way = bind_some (any_way_at ts) (declare_1 attributes) y h in
    let range = bind_some (optional_range_at way.0.1) (declare_2 attributes way.0) y way.2 in
    let names = bind_some (listed_at ident_at range.0.1) (declare_3 attributes way.0 range.0) y range.2 in
    let rest = bind_some (symbol_at 59 names.0.1) (declare_4 attributes way.0 range.0 names.0) y names.2 in
    let ends = symbol_is 59 names.0.1 rest.0 rest.1 in
    let listed = right_listed IsIdent ident_at ident_is range.0.1 names.0 names.1 in
    moved (IsBareOf attributes) ts (declare attributes way.0.0 range.0.0 names.0.0) rest.0 y
    ((way.0.1, range.0.1, right_any_way ts way.0 way.1, right_optional_range way.0.1 range.0 range.1, subst (λ w. Listed IsIdent names.0.0 range.0.1 w) ends listed), refl) rest.2

right_assign : (attributes : List Attribute) (ts mid : List Token) (y : PlainItem × List Token) → ts ≡ Key (codes "assign") ∷ mid → assign_at attributes mid ≡ Some y → IsBareOf attributes y.0 ts y.1
unfolding assign_at
right_assign attributes ts mid y e h =
    let left = bind_some (form_at false 100 mid) (assign_1 attributes) y h in
    let a = bind_some (symbol_at 61 left.0.1) (assign_2 attributes left.0) y left.2 in
    let right = bind_some (form_at true 100 a.0) (assign_3 attributes left.0 a.0) y a.2 in
    let rest = bind_some (symbol_at 59 right.0.1) (assign_4 attributes left.0 a.0 right.0) y right.2 in
    let target = right_form false 100 mid left.0 left.1 in
    let equals = symbol_is 61 left.0.1 a.0 a.1 in
    let source = right_form true 100 a.0 right.0 right.1 in
    let ends = symbol_is 59 right.0.1 rest.0 rest.1 in
    moved (IsBareOf attributes) ts (assign attributes left.0.0 right.0.0) rest.0 y
    ((mid, a.0, e, ((subst (λ w. IsForm left.0.0 mid w) equals target.0, target.1), target.2 refl), (subst (λ w. IsForm right.0.0 a.0 w) ends source.0, source.1)), refl) rest.2

right_instance : (attributes : List Attribute) → Right (IsBareOf attributes) (instance_at attributes)
unfolding instance_at
right_instance attributes ts y h =
    let cell = bind_some (ident_at ts) (instance_1 attributes) y h in
    let n = bind_some (ident_at cell.0.1) (instance_2 attributes cell.0) y cell.2 in
    let a = bind_some (symbol_at 40 n.0.1) (instance_3 attributes cell.0 n.0) y n.2 in
    let pins = bind_some (pins_at a.0) (instance_4 attributes cell.0 n.0 a.0) y a.2 in
    let b = bind_some (symbol_at 41 pins.0.1) (instance_5 attributes cell.0 n.0 a.0 pins.0) y pins.2 in
    let rest = bind_some (symbol_at 59 b.0) (instance_6 attributes cell.0 n.0 a.0 pins.0 b.0) y b.2 in
    let front = ident_is ts cell.0 cell.1 ∙ (ap (λ w. Name cell.0.0 ∷ w) (ident_is cell.0.1 n.0 n.1) ∙ ap (λ w. Name cell.0.0 ∷ Name n.0.0 ∷ w) (symbol_is 40 n.0.1 a.0 a.1)) in
    let ends = symbol_is 41 pins.0.1 b.0 b.1 ∙ ap (λ w. Symbol 41 ∷ w) (symbol_is 59 b.0 rest.0 rest.1) in
    moved (IsBareOf attributes) ts (instance attributes cell.0.0 n.0.0 pins.0.0) rest.0 y
    ((a.0, front, subst (λ w. Perhaps IsPin pins.0.0 a.0 w) ends (right_pins a.0 pins.0 pins.1)), refl) rest.2

right_bare : (attributes : List Attribute) → Right (IsBareOf attributes) (bare_at attributes)
right_bare attributes ts y h =
    elim (chosen (begins_name ts) (instance_at attributes ts) (cond (begins_key (codes "assign") ts) (assign_at attributes (drop 1 ts)) (declare_at attributes ts)) (Some y) h) [
      | inl e ↦ right_instance attributes ts y e.1
      | inr e ↦ elim (chosen (begins_key (codes "assign") ts) (assign_at attributes (drop 1 ts)) (declare_at attributes ts) (Some y) e.1) [
        | inl f ↦ right_assign attributes ts (drop 1 ts) y (begins_key_is (codes "assign") ts f.0) f.1
        | inr f ↦ right_declare attributes ts y f.1
      ]
    ]

-- an item that is read stands there
pub right_item : Right IsItem item_at
unfolding item_at
right_item ts y h =
    let a = bind_some (attributes_at ts) (item_1) y h in
    let bare = right_bare a.0.0 a.0.1 y a.2 in
    (a.0.1, subst (λ w. AreAttributes w ts a.0.1) (sym bare.1) (right_attributes ts a.0 a.1), bare.0)

pub right_items : (ts : List Token) (y : List PlainItem × List Token) → items_at ts ≡ Some y → Row IsItem y.0 ts y.1
right_items ts y h = right_row IsItem goes_on item_at (length ts) right_item ts y h
