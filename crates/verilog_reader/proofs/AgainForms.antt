-- What stands there is read: forms.
use Rattle.std.proofs.Common.{◌≡◌, ◌≤◌, ℕ, zero, suc, Bool, true, false, cond, length, drop, List, [], ◌∷◌, refl, sym, ap, ◌∙◌, subst, arith}
use Rattle.verilog_tokens.specs.Token.{Token, Name, Number, Constant, Symbol}
use Rattle.verilog_reader.specs.Plain.{PlainForm, whole, bit, part, constant, join, repeat, PlainForms, no_forms, a_form, forms_of, depth_of, depth_of_all}
use Rattle.verilog_reader.specs.Grammar.{IsForm, AreForms, AreMoreForms, IsTarget, AreTargets}
use Rattle.verilog_reader.specs.Reading.{Read, ◌>>=◌, begins, begins_number, with_front, single, many_in, next_at, listed_at, bit_at, part_at, index_at, name_at, leaf_at, join_at, repeat_at, braces_at, form_at}
use Rattle.std.proofs.Common.{◌-◌}
use Rattle.verilog_reader.proofs.OneToken.{hit, number_again}
use Rattle.verilog_reader.proofs.FoundLists.{listed_first}
use Rattle.verilog_reader.proofs.Many.{stop_many, next_many}
use Rattle.verilog_reader.proofs.Ahead.{solid_form}
use Rattle.verilog_reader.proofs.AgainLists.{next_behind}
use Rattle.verilog_reader.proofs.Steps.{part_1, index_1, join_1, repeat_1, repeat_3}

-- what a form begins with
pub record FormStart (ts : List Token) : Type 0 where
  pub no_paren : begins 41 ts ≡ false
  pub no_number : begins_number ts ≡ false

form_start_as : (ts us : List Token) → ts ≡ us → FormStart us → FormStart ts
form_start_as ts us e s = subst FormStart (sym e) s

pub form_start : (f : PlainForm) (ts rest : List Token) → IsForm f ts rest → FormStart ts
form_start (whole n) ts rest h = form_start_as ts (Name n ∷ rest) h (record { no_paren = refl; no_number = refl })
form_start (bit n k) ts rest h = form_start_as ts (Name n ∷ Symbol 91 ∷ Number k ∷ Symbol 93 ∷ rest) h.0 (record { no_paren = refl; no_number = refl })
form_start (part n a b) ts rest h = form_start_as ts (Name n ∷ Symbol 91 ∷ Number a ∷ Symbol 58 ∷ Number b ∷ Symbol 93 ∷ rest) h.0 (record { no_paren = refl; no_number = refl })
form_start (constant bits) ts rest h = form_start_as ts (Constant bits ∷ rest) h (record { no_paren = refl; no_number = refl })
form_start (join fs) ts rest h = form_start_as ts (Symbol 123 ∷ h.0) h.1 (record { no_paren = refl; no_number = refl })
form_start (repeat k f) ts rest h = form_start_as ts (Symbol 123 ∷ Number k ∷ Symbol 123 ∷ h.0) h.1 (record { no_paren = refl; no_number = refl })

forms_start : (fs : PlainForms) (ts rest : List Token) → AreForms fs ts rest → begins_number ts ≡ false
forms_start no_forms ts rest h = absurd h
forms_start (a_form f fs) ts rest h = (form_start f ts h.0 h.1).no_number

abbrev pub list_of : PlainForms → List PlainForm
list_of no_forms = []
list_of (a_form f fs) = f ∷ list_of fs

same_forms : (fs : PlainForms) → forms_of (list_of fs) ≡ fs
same_forms no_forms = refl
same_forms (a_form f fs) = ap (a_form f) (same_forms fs)

-- without a brace in front a form is a name or a constant
leaf_form : (v : Bool) (n : ℕ) (ts : List Token) → begins 123 ts ≡ false → form_at v n ts ≡ leaf_at v ts
leaf_form v zero ts h = refl
leaf_form v (suc n) ts h = ap (λ b. cond b (braces_at v (form_at v n) (drop 1 ts)) (leaf_at v ts)) h

name_leaf : (v : Bool) (name : List ℕ) (w : List Token) → leaf_at v (Name name ∷ w) ≡ name_at (Name name ∷ w)
name_leaf true name w = refl
name_leaf false name w = refl

name_form : (v : Bool) (n : ℕ) (name : List ℕ) (w : List Token) → form_at v n (Name name ∷ w) ≡ name_at (Name name ∷ w)
name_form v n name w = leaf_form v n (Name name ∷ w) refl ∙ name_leaf v name w

whole_found : (name : List ℕ) (rest : List Token) → begins 91 rest ≡ false → name_at (Name name ∷ rest) ≡ hit (whole name) rest
unfolding name_at
whole_found name rest e = ap (λ b. cond b (index_at name (drop 1 rest)) (hit (whole name) rest)) e

bit_found : (name : List ℕ) (k : ℕ) (rest : List Token) → k ≤ 65535 → name_at (Name name ∷ Symbol 91 ∷ Number k ∷ Symbol 93 ∷ rest) ≡ hit (bit name k) rest
unfolding name_at index_at bit_at
bit_found name k rest below = ap (λ q. q >>= index_1 name) (number_again 0 k (Symbol 93 ∷ rest) (omega arith) below)

part_found : (name : List ℕ) (h l : ℕ) (rest : List Token) → h ≤ 65535 → l ≤ 65535 → name_at (Name name ∷ Symbol 91 ∷ Number h ∷ Symbol 58 ∷ Number l ∷ Symbol 93 ∷ rest) ≡ hit (part name h l) rest
unfolding name_at index_at part_at
part_found name h l rest a b =
    ap (λ q. q >>= index_1 name) (number_again 0 h (Symbol 58 ∷ Number l ∷ Symbol 93 ∷ rest) (omega arith) a)
    ∙ ap (λ q. q >>= part_1 name h) (number_again 0 l (Symbol 93 ∷ rest) (omega arith) b)

braces_join : (v : Bool) (p : List Token → Read PlainForm) (ts : List Token) → begins_number ts ≡ false → braces_at v p ts ≡ join_at p ts
braces_join true p ts h = ap (λ b. cond b (repeat_at p ts) (join_at p ts)) h
braces_join false p ts h = refl

join_found : (p : List Token → Read PlainForm) (fs : PlainForms) (ts rest : List Token) → listed_at p ts ≡ hit (list_of fs) (Symbol 125 ∷ rest) → join_at p ts ≡ hit (join fs) rest
unfolding join_at
join_found p fs ts rest h = ap (λ r. r >>= join_1 p) h ∙ ap (λ w. hit (join w) rest) (same_forms fs)

repeat_found : (p : List Token → Read PlainForm) (k : ℕ) (f : PlainForm) (mid rest : List Token) → 1 ≤ k → k ≤ 65535 → p mid ≡ hit f (Symbol 125 ∷ Symbol 125 ∷ rest) → repeat_at p (Number k ∷ Symbol 123 ∷ mid) ≡ hit (repeat k f) rest
unfolding repeat_at
repeat_found p k f mid rest a b h =
    ap (λ r. r >>= repeat_1 p) (number_again 1 k (Symbol 123 ∷ mid) a b) ∙ ap (λ r. r >>= repeat_3 p (k, Symbol 123 ∷ mid) mid) h

more_follow : (fs : PlainForms) (mid rest : List Token) → AreMoreForms fs mid rest → begins 91 rest ≡ false → begins 91 mid ≡ false
more_follow no_forms mid rest h e = ap (begins 91) h ∙ e
more_follow (a_form f fs) mid rest h e = ap (begins 91) h.2

pub impossible : {X : Type 0} → (true ≡ false) → X
impossible h = absurd (cc)

mutual
  -- a form that stands there is read
  pub again_form : (f : PlainForm) (v : Bool) (n : ℕ) (ts rest : List Token) → depth_of f ≤ n → IsForm f ts rest → (v ≡ false → IsTarget f) → begins 91 rest ≡ false → form_at v n ts ≡ hit f rest
  again_form (whole name) v n ts rest d h t e = ap (form_at v n) h ∙ (name_form v n name rest ∙ whole_found name rest e)
  again_form (bit name k) v n ts rest d h t e = ap (form_at v n) h.0 ∙ (name_form v n name (Symbol 91 ∷ Number k ∷ Symbol 93 ∷ rest) ∙ bit_found name k rest h.1)
  again_form (part name a b) v n ts rest d h t e = ap (form_at v n) h.0 ∙ (name_form v n name (Symbol 91 ∷ Number a ∷ Symbol 58 ∷ Number b ∷ Symbol 93 ∷ rest) ∙ part_found name a b rest h.1 h.2)
  again_form (constant bits) true n ts rest d h t e = ap (form_at true n) h ∙ leaf_form true n (Constant bits ∷ rest) refl
  again_form (constant bits) false n ts rest d h t e = absurd (t refl)
  again_form (join fs) v zero ts rest d h t e = absurd (omega (arith, d))
  again_form (join fs) v (suc m) ts rest d h t e =
      ap (form_at v (suc m)) h.1
      ∙ (braces_join v (form_at v m) h.0 (forms_start fs h.0 (Symbol 125 ∷ rest) h.2)
      ∙ join_found (form_at v m) fs h.0 rest (again_forms fs v m h.0 (Symbol 125 ∷ rest) (omega (arith, d)) h.2 t refl refl))
  again_form (repeat k f) v zero ts rest d h t e = absurd (omega (arith, d))
  again_form (repeat k f) false (suc m) ts rest d h t e = absurd (t refl)
  again_form (repeat k f) true (suc m) ts rest d h t e =
      ap (form_at true (suc m)) h.1
      ∙ repeat_found (form_at true m) k f h.0 rest h.2.0 h.2.1 (again_form f true m h.0 (Symbol 125 ∷ Symbol 125 ∷ rest) (omega (arith, d)) h.3 (λ q. impossible q) refl)

  again_forms : (fs : PlainForms) (v : Bool) (n : ℕ) (ts rest : List Token) → depth_of_all fs ≤ n → AreForms fs ts rest → (v ≡ false → AreTargets fs) → begins 91 rest ≡ false → begins 44 rest ≡ false → listed_at (form_at v n) ts ≡ hit (list_of fs) rest
  again_forms no_forms v n ts rest d h t e off = absurd h
  again_forms (a_form f fs) v n ts rest d h t e off =
      let first = again_form f v n ts h.0 (omega (arith, d)) h.1 (λ q. (t q).0) (more_follow fs h.0 rest h.2 e) in
      sym (listed_first (form_at v n) ts h.0 f first)
      ∙ ap (with_front (single f)) (again_more_forms fs v n (length h.0) h.0 rest (omega (arith, d)) (omega arith) h.2 (λ q. (t q).1) e off)

  again_more_forms : (fs : PlainForms) (v : Bool) (n k : ℕ) (ts rest : List Token) → depth_of_all fs ≤ n → length ts ≤ k → AreMoreForms fs ts rest → (v ≡ false → AreTargets fs) → begins 91 rest ≡ false → begins 44 rest ≡ false →
      many_in single (begins 44) (next_at (form_at v n)) k ts ≡ hit (list_of fs) rest
  again_more_forms no_forms v n k ts rest d below h t e off =
      stop_many single (begins 44) (next_at (form_at v n)) k ts (ap (begins 44) h ∙ off) ∙ ap (hit {X = List PlainForm} []) h
  again_more_forms (a_form f fs) v n k ts rest d below h t e off =
      let first = ap (next_at (form_at v n)) h.2 ∙ (next_behind (form_at v n) h.0 ∙ again_form f v n h.0 h.1 (omega (arith, d)) h.3 (λ q. (t q).0) (more_follow fs h.1 rest h.4 e)) in
      let less = (solid_form f h.0 h.1 h.3).count in
      let count = ap length h.2 in
      next_many single (begins 44) (next_at (form_at v n)) k ts h.1 f (omega (arith, less, count)) (ap (begins 44) h.2) first
      ∙ ap (with_front (single f)) (again_more_forms fs v n (k - 1) h.1 rest (omega (arith, d)) (omega (arith, less, count)) h.4 (λ q. (t q).1) e off)
