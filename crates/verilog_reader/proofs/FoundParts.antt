-- What is read stands there: attributes, ranges and ways.
use Rattle.std.proofs.Common.{◌≡◌, ◌<◌, ◌^◌, ℕ, Bool, true, false, cond, nat_lt, length, drop, List, [], ◌∷◌, Option, Some, None, codes, refl, ap, ◌∙◌, subst, inl, inr, arith}
use Rattle.std.specs.Str.{bytes_eq}
use Rattle.std.proofs.lemmas.Bool.Decides.{nat_tests}
use Rattle.agm_net.specs.declared.port.Way.{Way}
use Rattle.agm_net.specs.declared.port.Way.TheVariants.{Input, Output}
use Rattle.agm_net.specs.declared.port.Range.{Range}
use Rattle.verilog_tokens.specs.Token.{Token, Name, Key, Number, Constant, Text, Symbol, Open, Close, Stray}
use Rattle.verilog_reader.specs.declared.design.Value.{Value}
use Rattle.verilog_reader.specs.declared.design.Value.TheVariants as value
use Rattle.verilog_reader.specs.Grammar.{Listed, IsValue, IsSet, IsAttribute, IsBlock, AreAttributes, IsRange, way_token, IsWay}
use Rattle.verilog_reader.specs.Reading.{begins, begins_key, begins_open, symbol_at, open_at, close_at, ident_at, number_at, listed_at, value_at, some_value_at, set_at, attribute_at, block_at, itself, attributes_at, range_at, optional_range_at, way_of, way_at, behind_wire, port_way_at, some_way_at, any_way_at}
use Rattle.verilog_reader.proofs.OneToken.{hit, chosen, bind_some, same_bytes, begins_is, begins_key_is, symbol_is, ident_is, with_rest_is, number_is, open_is, close_is}
use Rattle.verilog_reader.proofs.FoundLists.{Right, moved, right_many, right_listed}
use Rattle.verilog_reader.proofs.Steps.{some_value_1, attribute_1, attribute_2, block_1, block_2, block_3, range_1, range_2, range_3, range_4, port_way_1, some_way_1}

-- attributes
number_fits : (n : ℕ) (ts : List Token) (y : Value × List Token) (b : Bool) → nat_lt n (2 ^ 128) ≡ b → cond b (hit (value.Number n) ts) None ≡ Some y → IsValue y.0 (Number n ∷ ts) y.1
number_fits n ts y true e h = moved IsValue (Number n ∷ ts) (value.Number n) ts y (refl, below n (2 ^ 128) e) h
  where
    below : (a b : ℕ) → nat_lt a b ≡ true → a < b
    below a b h = grind (arith, nat_tests)
number_fits n ts y false e h = absurd (cc)

right_value : Right IsValue value_at
right_value (Text n ∷ ts) y h = moved IsValue (Text n ∷ ts) (value.Text n) ts y refl h
right_value (Number n ∷ ts) y h = number_fits n ts y _ refl h
right_value (Constant n ∷ ts) y h = moved IsValue (Constant n ∷ ts) (value.Bits n) ts y refl h
right_value (Symbol c ∷ ts) y h = absurd (cc)
right_value (Name n ∷ ts) y h = absurd (cc)
right_value (Key n ∷ ts) y h = absurd (cc)
right_value (Open ∷ ts) y h = absurd (cc)
right_value (Close ∷ ts) y h = absurd (cc)
right_value (Stray ∷ ts) y h = absurd (cc)
right_value [] y h = absurd (cc)

right_some_value : (ts mid : List Token) (y : Option Value × List Token) → ts ≡ Symbol 61 ∷ mid → some_value_at mid ≡ Some y → IsSet y.0 ts y.1
unfolding some_value_at
right_some_value ts mid y e h =
    let v = bind_some (value_at mid) (some_value_1) y h in
    moved IsSet ts (Some v.0.0) v.0.1 y (mid, e, right_value mid v.0 v.1) v.2

right_set : Right IsSet set_at
right_set ts y h =
    elim (chosen (begins 61 ts) (some_value_at (drop 1 ts)) (hit None ts) (Some y) h) [
      | inl e ↦ right_some_value ts (drop 1 ts) y (begins_is 61 ts e.0) e.1
      | inr e ↦ moved IsSet ts None ts y refl e.1
    ]

pub right_attribute : Right IsAttribute attribute_at
unfolding attribute_at
right_attribute ts y h =
    let name = bind_some (ident_at ts) (attribute_1) y h in
    let v = bind_some (set_at name.0.1) (attribute_2 name.0) y name.2 in
    moved IsAttribute ts (record { name = name.0.0; value = v.0.0 }) v.0.1 y (name.0.1, ident_is ts name.0 name.1, right_set name.0.1 v.0 v.1) v.2

pub right_block : Right IsBlock block_at
unfolding block_at
right_block ts y h =
    let a = bind_some (open_at ts) (block_1) y h in
    let attributes = bind_some (listed_at attribute_at a.0) (block_2 a.0) y a.2 in
    let rest = bind_some (close_at attributes.0.1) (block_3 a.0 attributes.0) y attributes.2 in
    let inside = right_listed IsAttribute attribute_at right_attribute a.0 attributes.0 attributes.1 in
    let ends = close_is attributes.0.1 rest.0 rest.1 in
    moved IsBlock ts attributes.0.0 rest.0 y (a.0, open_is ts a.0 a.1, subst (λ w. Listed IsAttribute attributes.0.0 a.0 w) ends inside) rest.2

pub right_attributes : Right AreAttributes attributes_at
right_attributes ts y h = right_many itself IsBlock begins_open block_at (length ts) right_block ts y h

-- ranges and ways
right_range : (ts mid : List Token) (y : Option Range × List Token) → ts ≡ Symbol 91 ∷ mid → range_at mid ≡ Some y → IsRange y.0 ts y.1
unfolding range_at
right_range ts mid y e h =
    let msb = bind_some (number_at 0 mid) (range_1) y h in
    let a = bind_some (symbol_at 58 msb.0.1) (range_2 msb.0) y msb.2 in
    let lsb = bind_some (number_at 0 a.0) (range_3 msb.0 a.0) y a.2 in
    let rest = bind_some (symbol_at 93 lsb.0.1) (range_4 msb.0 a.0 lsb.0) y lsb.2 in
    let first = number_is 0 mid msb.0 msb.1 in
    let colon = symbol_is 58 msb.0.1 a.0 a.1 in
    let second = number_is 0 a.0 lsb.0 lsb.1 in
    let ends = symbol_is 93 lsb.0.1 rest.0 rest.1 in
    moved IsRange ts (Some (record { msb = msb.0.0; lsb = lsb.0.0 })) rest.0 y
    (e ∙ (ap (λ w. Symbol 91 ∷ w) first.0 ∙ (ap (λ w. Symbol 91 ∷ Number msb.0.0 ∷ w) colon ∙ (ap (λ w. Symbol 91 ∷ Number msb.0.0 ∷ Symbol 58 ∷ w) second.0 ∙ ap (λ w. Symbol 91 ∷ Number msb.0.0 ∷ Symbol 58 ∷ Number lsb.0.0 ∷ w) ends))), first.2, second.2) rest.2

pub right_optional_range : Right IsRange optional_range_at
right_optional_range ts y h =
    elim (chosen (begins 91 ts) (range_at (drop 1 ts)) (hit None ts) (Some y) h) [
      | inl e ↦ right_range ts (drop 1 ts) y (begins_is 91 ts e.0) e.1
      | inr e ↦ moved IsRange ts None ts y refl e.1
    ]

way_of_is : (word : List ℕ) (w : Way) → way_of word ≡ Some w → Key word ≡ way_token w
way_of_is word w h =
    elim (chosen (bytes_eq word (codes "input")) (Some Input) (cond (bytes_eq word (codes "output")) (Some Output) None) (Some w) h) [
      | inl e ↦ let same : Input ≡ w = cc (e.1) in ap Key (same_bytes word (codes "input") e.0) ∙ ap way_token same
      | inr e ↦ elim (chosen (bytes_eq word (codes "output")) (Some Output) None (Some w) e.1) [
        | inl f ↦ let same : Output ≡ w = cc (f.1) in ap Key (same_bytes word (codes "output") f.0) ∙ ap way_token same
        | inr f ↦ absurd (cc (f.1))
      ]
    ]

way_is : (ts : List Token) (y : Way × List Token) → way_at ts ≡ Some y → ts ≡ way_token y.0 ∷ y.1
way_is (Key n ∷ ts) y h = let w = with_rest_is (way_of n) ts y h in ap (λ t. t ∷ ts) (way_of_is n y.0 w.0) ∙ ap (λ r. way_token y.0 ∷ r) w.1
way_is (Symbol c ∷ ts) y h = absurd (cc)
way_is (Name n ∷ ts) y h = absurd (cc)
way_is (Number n ∷ ts) y h = absurd (cc)
way_is (Constant n ∷ ts) y h = absurd (cc)
way_is (Text n ∷ ts) y h = absurd (cc)
way_is (Open ∷ ts) y h = absurd (cc)
way_is (Close ∷ ts) y h = absurd (cc)
way_is (Stray ∷ ts) y h = absurd (cc)
way_is [] y h = absurd (cc)

abbrev pub IsPortWay : Way → List Token → List Token → Type 0
IsPortWay w ts rest = IsWay (Some w) ts rest

wire_case : (w : Way) (ts rest : List Token) (b : Bool) → begins_key (codes "wire") rest ≡ b → ts ≡ way_token w ∷ rest → IsPortWay w ts (cond b (drop 1 rest) rest)
wire_case w ts rest true e h = inr (h ∙ ap (λ r. way_token w ∷ r) (begins_key_is (codes "wire") rest e))
wire_case w ts rest false e h = inl h

pub right_port_way : Right IsPortWay port_way_at
unfolding port_way_at
right_port_way ts y h =
    let w = bind_some (way_at ts) (port_way_1) y h in
    moved IsPortWay ts w.0.0 (behind_wire w.0.1) y (wire_case w.0.0 ts w.0.1 _ refl (way_is ts w.0 w.1)) w.2

right_some_way : Right IsWay some_way_at
unfolding some_way_at
right_some_way ts y h =
    let w = bind_some (port_way_at ts) (some_way_1) y h in
    moved IsWay ts (Some w.0.0) w.0.1 y (right_port_way ts w.0 w.1) w.2

pub right_any_way : Right IsWay any_way_at
right_any_way ts y h =
    elim (chosen (begins_key (codes "wire") ts) (hit None (drop 1 ts)) (some_way_at ts) (Some y) h) [
      | inl e ↦ moved IsWay ts None (drop 1 ts) y (begins_key_is (codes "wire") ts e.0) e.1
      | inr e ↦ right_some_way ts y e.1
    ]
