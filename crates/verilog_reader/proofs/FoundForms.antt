-- What is read stands there: forms.
use Rattle.std.proofs.Common.{◌≡◌, ◌≤◌, ℕ, zero, suc, Bool, true, false, drop, List, [], ◌∷◌, Some, refl, ap, ◌∙◌, subst, inl, inr, arith}
use Rattle.verilog_tokens.specs.Token.{Token, Name, Key, Number, Constant, Text, Symbol, Open, Close, Stray}
use Rattle.verilog_reader.specs.Plain.{PlainForm, whole, bit, part, constant, join, repeat, PlainForms, forms_of, depth_of, depth_of_all}
use Rattle.verilog_reader.specs.Grammar.{Row, Next, Listed, IsForm, AreForms, AreMoreForms, IsTarget, AreTargets}
use Rattle.verilog_reader.specs.Reading.{Read, begins, begins_number, symbol_at, ident_at, number_at, listed_at, bit_at, part_at, index_at, name_at, constant_or_name_at, leaf_at, join_at, repeat_at, braces_at, form_at}
use Rattle.verilog_reader.proofs.OneToken.{hit, chosen, bind_some, begins_is, symbol_is, ident_is, number_is}
use Rattle.verilog_reader.proofs.FoundLists.{Right, moved, right_listed}
use Rattle.verilog_reader.proofs.Steps.{bit_1, part_1, part_2, index_1, name_1, join_1, join_2, repeat_1, repeat_2, repeat_3, repeat_4, repeat_5}

-- a form that nests at most so deep, and is a target where no values may stand
abbrev pub IsGood : Bool → ℕ → PlainForm → List Token → List Token → Type 0
IsGood values n f ts rest = IsForm f ts rest × (depth_of f ≤ n) × (values ≡ false → IsTarget f)

right_bit : (values : Bool) (n : ℕ) (name : List ℕ) (k : ℕ) (ts mid : List Token) (y : PlainForm × List Token) → ts ≡ Name name ∷ Symbol 91 ∷ Number k ∷ mid → k ≤ 65535 → bit_at name k mid ≡ Some y → IsGood values n y.0 ts y.1
unfolding bit_at
right_bit values n name k ts mid y e below h =
    let rest = bind_some (symbol_at 93 mid) (bit_1 name k) y h in
    moved (IsGood values n) ts (bit name k) rest.0 y ((e ∙ ap (λ w. Name name ∷ Symbol 91 ∷ Number k ∷ w) (symbol_is 93 mid rest.0 rest.1), below), omega arith, λ _. tt) rest.2

right_part : (values : Bool) (n : ℕ) (name : List ℕ) (h : ℕ) (ts mid : List Token) (y : PlainForm × List Token) → ts ≡ Name name ∷ Symbol 91 ∷ Number h ∷ Symbol 58 ∷ mid → h ≤ 65535 → part_at name h mid ≡ Some y → IsGood values n y.0 ts y.1
unfolding part_at
right_part values n name h ts mid y e below k =
    let l = bind_some (number_at 0 mid) (part_1 name h) y k in
    let rest = bind_some (symbol_at 93 l.0.1) (part_2 name h l.0) y l.2 in
    let low = number_is 0 mid l.0 l.1 in
    moved (IsGood values n) ts (part name h l.0.0) rest.0 y
    ((e ∙ (ap (λ w. Name name ∷ Symbol 91 ∷ Number h ∷ Symbol 58 ∷ w) low.0 ∙ ap (λ w. Name name ∷ Symbol 91 ∷ Number h ∷ Symbol 58 ∷ Number l.0.0 ∷ w) (symbol_is 93 l.0.1 rest.0 rest.1)), below, low.2), omega arith, λ _. tt) rest.2

right_index : (values : Bool) (n : ℕ) (name : List ℕ) (ts mid : List Token) (y : PlainForm × List Token) → ts ≡ Name name ∷ Symbol 91 ∷ mid → index_at name mid ≡ Some y → IsGood values n y.0 ts y.1
unfolding index_at
right_index values n name ts mid y e h =
    let k = bind_some (number_at 0 mid) (index_1 name) y h in
    let number = number_is 0 mid k.0 k.1 in
    let front = e ∙ ap (λ w. Name name ∷ Symbol 91 ∷ w) number.0 in
    elim (chosen (begins 58 k.0.1) (part_at name k.0.0 (drop 1 k.0.1)) (bit_at name k.0.0 k.0.1) (Some y) k.2) [
      | inl f ↦ right_part values n name k.0.0 ts (drop 1 k.0.1) y (front ∙ ap (λ w. Name name ∷ Symbol 91 ∷ Number k.0.0 ∷ w) (begins_is 58 k.0.1 f.0)) number.2 f.1
      | inr f ↦ right_bit values n name k.0.0 ts k.0.1 y front number.2 f.1
    ]

right_name : (values : Bool) (n : ℕ) → Right (IsGood values n) name_at
unfolding name_at
right_name values m ts y h =
    let n = bind_some (ident_at ts) (name_1) y h in
    let front = ident_is ts n.0 n.1 in
    elim (chosen (begins 91 n.0.1) (index_at n.0.0 (drop 1 n.0.1)) (hit (whole n.0.0) n.0.1) (Some y) n.2) [
      | inl f ↦ right_index values m n.0.0 ts (drop 1 n.0.1) y (front ∙ ap (λ w. Name n.0.0 ∷ w) (begins_is 91 n.0.1 f.0)) f.1
      | inr f ↦ moved (IsGood values m) ts (whole n.0.0) n.0.1 y (front, omega arith, λ _. tt) f.1
    ]

right_value : (n : ℕ) → Right (IsGood true n) constant_or_name_at
right_value m (Constant n ∷ ts) y h = moved (IsGood true m) (Constant n ∷ ts) (constant n) ts y (refl, omega arith, λ e. absurd (cc)) h
right_value m (Symbol c ∷ ts) y h = right_name true m _ y h
right_value m (Name n ∷ ts) y h = right_name true m _ y h
right_value m (Key n ∷ ts) y h = right_name true m _ y h
right_value m (Number n ∷ ts) y h = right_name true m _ y h
right_value m (Text n ∷ ts) y h = right_name true m _ y h
right_value m (Open ∷ ts) y h = right_name true m _ y h
right_value m (Close ∷ ts) y h = right_name true m _ y h
right_value m (Stray ∷ ts) y h = right_name true m _ y h
right_value m [] y h = right_name true m _ y h

right_leaf : (values : Bool) (n : ℕ) → Right (IsGood values n) (leaf_at values)
right_leaf true n ts y h = right_value n ts y h
right_leaf false n ts y h = right_name false n ts y h

abbrev pub AreGood : Bool → ℕ → PlainForms → Type 0
AreGood values n fs = (depth_of_all fs ≤ n) × (values ≡ false → AreTargets fs)

good_more : (values : Bool) (n : ℕ) (fs : List PlainForm) (ts rest : List Token) → Row (Next (IsGood values n)) fs ts rest → AreMoreForms (forms_of fs) ts rest × AreGood values n (forms_of fs)
good_more values n [] ts rest h = (h, (omega arith, λ _. tt))
good_more values n (f ∷ fs) ts rest h =
    let next = h.1 in
    let tail = good_more values n fs h.0 rest h.2 in
    ((next.0, h.0, next.1, next.2.0, tail.0), (omega (arith, next.2.1, tail.1.0), λ e. (next.2.2 e, tail.1.1 e)))

good_forms : (values : Bool) (n : ℕ) (fs : List PlainForm) (ts rest : List Token) → Listed (IsGood values n) fs ts rest → AreForms (forms_of fs) ts rest × AreGood values n (forms_of fs)
good_forms values n [] ts rest h = absurd h
good_forms values n (f ∷ fs) ts rest h =
    let tail = good_more values n fs h.0 rest h.2 in
    ((h.0, h.1.0, tail.0), (omega (arith, h.1.1, tail.1.0), λ e. (h.1.2 e, tail.1.1 e)))

right_join : (values : Bool) (n : ℕ) (p : List Token → Read PlainForm) → Right (IsGood values n) p → (ts mid : List Token) (y : PlainForm × List Token) → ts ≡ Symbol 123 ∷ mid → join_at p mid ≡ Some y → IsGood values (suc n) y.0 ts y.1
unfolding join_at
right_join values n p r ts mid y e h =
    let forms = bind_some (listed_at p mid) (join_1 p) y h in
    let rest = bind_some (symbol_at 125 forms.0.1) (join_2 p forms.0) y forms.2 in
    let inside = good_forms values n forms.0.0 mid forms.0.1 (right_listed (IsGood values n) p r mid forms.0 forms.1) in
    let ends = symbol_is 125 forms.0.1 rest.0 rest.1 in
    moved (IsGood values (suc n)) ts (join (forms_of forms.0.0)) rest.0 y
    ((mid, e, subst (λ w. AreForms (forms_of forms.0.0) mid w) ends inside.0), omega (arith, inside.1.0), inside.1.1) rest.2

right_repeat : (n : ℕ) (p : List Token → Read PlainForm) → Right (IsGood true n) p → (ts mid : List Token) (y : PlainForm × List Token) → ts ≡ Symbol 123 ∷ mid → repeat_at p mid ≡ Some y → IsGood true (suc n) y.0 ts y.1
unfolding repeat_at
right_repeat n p r ts mid y e h =
    let k = bind_some (number_at 1 mid) (repeat_1 p) y h in
    let a = bind_some (symbol_at 123 k.0.1) (repeat_2 p k.0) y k.2 in
    let f = bind_some (p a.0) (repeat_3 p k.0 a.0) y a.2 in
    let b = bind_some (symbol_at 125 f.0.1) (repeat_4 p k.0 a.0 f.0) y f.2 in
    let rest = bind_some (symbol_at 125 b.0) (repeat_5 p k.0 a.0 f.0 b.0) y b.2 in
    let count = number_is 1 mid k.0 k.1 in
    let brace = symbol_is 123 k.0.1 a.0 a.1 in
    let inside = r a.0 f.0 f.1 in
    let ends = symbol_is 125 f.0.1 b.0 b.1 ∙ ap (λ w. Symbol 125 ∷ w) (symbol_is 125 b.0 rest.0 rest.1) in
    moved (IsGood true (suc n)) ts (repeat k.0.0 f.0.0) rest.0 y
    ((a.0, e ∙ (ap (λ w. Symbol 123 ∷ w) count.0 ∙ ap (λ w. Symbol 123 ∷ Number k.0.0 ∷ w) brace), (count.1, count.2), subst (λ w. IsForm f.0.0 a.0 w) ends inside.0), omega (arith, inside.1), λ v. absurd (cc)) rest.2

right_braces : (values : Bool) (n : ℕ) (p : List Token → Read PlainForm) → Right (IsGood values n) p → (ts mid : List Token) (y : PlainForm × List Token) → ts ≡ Symbol 123 ∷ mid → braces_at values p mid ≡ Some y → IsGood values (suc n) y.0 ts y.1
right_braces false n p r ts mid y e h = right_join false n p r ts mid y e h
right_braces true n p r ts mid y e h =
    elim (chosen (begins_number mid) (repeat_at p mid) (join_at p mid) (Some y) h) [
      | inl f ↦ right_repeat n p r ts mid y e f.1
      | inr f ↦ right_join true n p r ts mid y e f.1
    ]

-- a form that is read stands there
pub right_form : (values : Bool) (n : ℕ) → Right (IsGood values n) (form_at values n)
right_form values zero ts y h = right_leaf values 0 ts y h
right_form values (suc n) ts y h =
    elim (chosen (begins 123 ts) (braces_at values (form_at values n) (drop 1 ts)) (leaf_at values ts) (Some y) h) [
      | inl e ↦ right_braces values n (form_at values n) (right_form values n) ts (drop 1 ts) y (begins_is 123 ts e.0) e.1
      | inr e ↦ right_leaf values (suc n) ts y e.1
    ]
