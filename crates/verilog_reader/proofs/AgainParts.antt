-- What stands there is read: attributes, ranges and ways.
use Rattle.std.proofs.Common.{◌≡◌, ◌≤◌, ◌<◌, ◌^◌, ℕ, true, false, cond, nat_lt, length, drop, List, ◌∷◌, Option, Some, None, codes, refl, sym, ap, ◌∙◌, subst, inl, inr, arith}
use Rattle.std.proofs.lemmas.Bool.Decides.{nat_tests}
use Rattle.agm_net.specs.declared.port.Way.{Way}
use Rattle.agm_net.specs.declared.port.Way.TheVariants.{Input, Output}
use Rattle.agm_net.specs.declared.port.Range.{Range}
use Rattle.verilog_tokens.specs.Token.{Token, Name, Key, Number, Symbol, Close}
use Rattle.verilog_reader.specs.declared.design.Attribute.{Attribute}
use Rattle.verilog_reader.specs.declared.design.Value.{Value}
use Rattle.verilog_reader.specs.declared.design.Value.TheVariants as value
use Rattle.verilog_reader.specs.Grammar.{IsValue, IsSet, IsAttribute, IsBlock, AreAttributes, IsRange, way_token, IsWay}
use Rattle.verilog_reader.specs.Reading.{◌>>=◌, begins, begins_key, begins_name, begins_open, value_at, some_value_at, set_at, attribute_at, block_at, itself, attributes_at, range_at, optional_range_at, way_at, port_way_at, some_way_at, any_way_at, goes_on}
use Rattle.verilog_reader.proofs.OneToken.{hit, number_again}
use Rattle.verilog_reader.proofs.Ahead.{solid_attribute, solid_block}
use Rattle.verilog_reader.proofs.AgainLists.{Again, never, Begins, again_many, again_listed}
use Rattle.verilog_reader.proofs.Steps.{some_value_1, attribute_2, block_2, range_1, range_3, port_way_1, some_way_1}

less_test : (a b : ℕ) → a < b → nat_lt a b ≡ true
less_test a b h = grind (arith, nat_tests)

again_value : (v : Value) (ts rest : List Token) → IsValue v ts rest → value_at ts ≡ hit v rest
again_value (value.Text text) ts rest h = ap value_at h
again_value (value.Number n) ts rest h = ap value_at h.0 ∙ ap (λ b. cond b (hit (value.Number n) rest) None) (less_test n (2 ^ 128) h.1)
again_value (value.Bits bits) ts rest h = ap value_at h

some_value_found : (v : Value) (ts rest : List Token) → IsValue v ts rest → some_value_at ts ≡ hit (Some v) rest
unfolding some_value_at
some_value_found v ts rest h = ap (λ r. r >>= some_value_1) (again_value v ts rest h)

again_set : Again (begins 61) IsSet set_at
again_set None ts rest h e = ap (λ b. cond b (some_value_at (drop 1 ts)) (hit None ts)) (ap (begins 61) h ∙ e) ∙ ap (hit {X = Option Value} None) h
again_set (Some v) ts rest h e = ap set_at h.1 ∙ some_value_found v h.0 rest h.2

pub again_attribute : Again (begins 61) IsAttribute attribute_at
unfolding attribute_at
again_attribute a ts rest h e = ap attribute_at h.1 ∙ ap (λ r. r >>= attribute_2 (a.name, h.0)) (again_set a.value h.0 rest h.2 e)

pub again_block : Again never IsBlock block_at
unfolding block_at
again_block attributes ts rest h e =
    ap block_at h.1 ∙ ap (λ r. r >>= block_2 h.0) (again_listed (begins 61) IsAttribute attribute_at solid_attribute again_attribute (λ mid. refl) attributes h.0 (Close ∷ rest) h.2 refl refl)

begins_block : Begins begins_open never IsBlock
begins_block attributes ts rest h = (ap begins_open h.1, refl)

pub again_attributes : Again begins_open AreAttributes attributes_at
again_attributes attributes ts rest h e =
    again_many itself begins_open never IsBlock block_at solid_block again_block begins_block h.0 (length ts) ts rest (omega arith) h.2 e refl
    ∙ ap (λ (w : List Attribute). hit w rest) (sym h.1)

range_found : (r : Range) (rest : List Token) → r.msb ≤ 65535 → r.lsb ≤ 65535 → range_at (Number r.msb ∷ Symbol 58 ∷ Number r.lsb ∷ Symbol 93 ∷ rest) ≡ hit (Some r) rest
unfolding range_at
range_found r rest a b =
    ap (λ q. q >>= range_1) (number_again 0 r.msb (Symbol 58 ∷ Number r.lsb ∷ Symbol 93 ∷ rest) (omega arith) a)
    ∙ ap (λ q. q >>= range_3 (r.msb, Symbol 58 ∷ Number r.lsb ∷ Symbol 93 ∷ rest) (Number r.lsb ∷ Symbol 93 ∷ rest)) (number_again 0 r.lsb (Symbol 93 ∷ rest) (omega arith) b)

pub again_range : Again (begins 91) IsRange optional_range_at
again_range None ts rest h e = ap (λ b. cond b (range_at (drop 1 ts)) (hit None ts)) (ap (begins 91) h ∙ e) ∙ ap (hit {X = Option Range} None) h
again_range (Some r) ts rest h e = ap optional_range_at h.0 ∙ range_found r rest h.1 h.2

way_found : (w : Way) (rest : List Token) → way_at (way_token w ∷ rest) ≡ hit w rest
way_found Input rest = refl
way_found Output rest = refl

abbrev pub IsPortWay : Way → List Token → List Token → Type 0
IsPortWay w ts rest = IsWay (Some w) ts rest

pub again_port_way : Again (begins_key (codes "wire")) IsPortWay port_way_at
unfolding port_way_at
again_port_way w ts rest (inl h) e =
    ap port_way_at h ∙ (ap (λ r. r >>= port_way_1) (way_found w rest) ∙ ap (λ b. hit w (cond b (drop 1 rest) rest)) e)
again_port_way w ts rest (inr h) e = ap port_way_at h ∙ ap (λ r. r >>= port_way_1) (way_found w (Key (codes "wire") ∷ rest))

-- what a way begins with
pub record WayStart (ts : List Token) : Type 0 where
  pub no_name : begins_name ts ≡ false
  pub no_assign : begins_key (codes "assign") ts ≡ false
  pub no_open : begins_open ts ≡ false
  pub no_paren : begins 41 ts ≡ false
  pub goes : goes_on ts ≡ true

start_as : (ts us : List Token) → ts ≡ us → WayStart us → WayStart ts
start_as ts us e s = subst WayStart (sym e) s

way_start_at : (w : Way) (rest : List Token) → WayStart (way_token w ∷ rest)
way_start_at Input rest = record { no_name = refl; no_assign = refl; no_open = refl; no_paren = refl; goes = refl }
way_start_at Output rest = record { no_name = refl; no_assign = refl; no_open = refl; no_paren = refl; goes = refl }

pub way_start : (way : Option Way) (ts rest : List Token) → IsWay way ts rest → WayStart ts
way_start None ts rest h = start_as ts (Key (codes "wire") ∷ rest) h (record { no_name = refl; no_assign = refl; no_open = refl; no_paren = refl; goes = refl })
way_start (Some w) ts rest (inl h) = start_as ts (way_token w ∷ rest) h (way_start_at w rest)
way_start (Some w) ts rest (inr h) = start_as ts (way_token w ∷ Key (codes "wire") ∷ rest) h (way_start_at w (Key (codes "wire") ∷ rest))

no_wire_at : (w : Way) (rest : List Token) → begins_key (codes "wire") (way_token w ∷ rest) ≡ false
no_wire_at Input rest = refl
no_wire_at Output rest = refl

no_wire : (w : Way) (ts rest : List Token) → IsPortWay w ts rest → begins_key (codes "wire") ts ≡ false
no_wire w ts rest (inl h) = ap (begins_key (codes "wire")) h ∙ no_wire_at w rest
no_wire w ts rest (inr h) = ap (begins_key (codes "wire")) h ∙ no_wire_at w (Key (codes "wire") ∷ rest)

some_way_found : (w : Way) (ts rest : List Token) → IsPortWay w ts rest → begins_key (codes "wire") rest ≡ false → some_way_at ts ≡ hit (Some w) rest
unfolding some_way_at
some_way_found w ts rest h e = ap (λ r. r >>= some_way_1) (again_port_way w ts rest h e)

pub again_any_way : Again (begins_key (codes "wire")) IsWay any_way_at
again_any_way None ts rest h e = ap any_way_at h
again_any_way (Some w) ts rest h e =
    ap (λ b. cond b (hit None (drop 1 ts)) (some_way_at ts)) (no_wire w ts rest h) ∙ some_way_found w ts rest h e

-- no "wire" stands before a range and a name
pub range_follow : (range : Option Range) (ts : List Token) (name : List ℕ) (behind : List Token) → IsRange range ts (Name name ∷ behind) → begins_key (codes "wire") ts ≡ false
range_follow None ts name behind h = ap (begins_key (codes "wire")) h
range_follow (Some r) ts name behind h = ap (begins_key (codes "wire")) h.0
