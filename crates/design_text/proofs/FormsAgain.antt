-- Forms, what pins have, and pins.
use Rattle.std.proofs.Common.{◌≡◌, ◌≤◌, ◌<◌, ◌^◌, ◌++◌, not, ℕ, true, false, cond, List, [], ◌∷◌, Option, Some, None, refl, sym, ap, subst, append_assoc, arith}
use Rattle.std.specs.List.{flat_map, AllByRecursion}
use Rattle.agm_net.specs.Writable.{IsWritable}
use Rattle.small_text.specs.First.{begins}
use Rattle.small_text.specs.Layout.{is_simple_name}
use Rattle.verilog_tokens.specs.Token.{Name, Number, Symbol}
use Rattle.verilog_reader.specs.Plain.{PlainForm, whole, bit, part, constant, join, repeat, PlainForms, no_forms, a_form, PlainConnection}
use Rattle.verilog_reader.specs.Grammar.{Perhaps, IsForm, AreForms, AreMoreForms, IsContent, IsPin}
use Rattle.design_text.specs.Parts.{Part, word, symbol, blank, parts_text}
use Rattle.design_text.specs.Written.{name_parts, next_name, names_parts, form_parts, forms_parts, more_parts, content_parts, pin_parts, pins_parts}
use Rattle.design_text.specs.Writable.{IsWritableForm, AreWritableForms, AreMoreWritable, IsWritableContent, IsWritablePin}
use Rattle.design_text.proofs.WrittenTokens.{stops, name_no_star, constant_no_star}
use Rattle.design_text.proofs.LaidOut.{tokens_of, IsLaid}
use Rattle.design_text.proofs.Lists.{MayFollow, Reads, Writes, name_again, listed_again}

-- a name with a select
abbrev selected : List ℕ → (tail ps : List Part) → Type 0
selected n tail ps = IsLaid ((name_parts n ++ tail) ++ ps) × (tokens_of ((name_parts n ++ tail) ++ ps) ≡ Name n ∷ tokens_of (tail ++ ps))

select_again : (n : List ℕ) (tail ps : List Part) → IsWritable n → MayFollow (tail ++ ps) → selected n tail ps
select_again n tail ps w h =
    let Q : List Part → Type 0 = λ qs. IsLaid qs × (tokens_of qs ≡ Name n ∷ tokens_of (tail ++ ps)) in
    subst Q (sym (append_assoc (name_parts n) tail ps)) (name_again n w (tail ++ ps) h)

pub index_fits : (k : ℕ) → k ≤ 65535 → k < 2 ^ 128
index_fits k h = omega (arith, h)

-- behind forms that a comma may follow
more_follow : (fs : PlainForms) (ps : List Part) → IsLaid (more_parts fs ++ ps) → stops (parts_text ps) ≡ true → MayFollow (more_parts fs ++ ps)
more_follow no_forms ps l h = (l, h)
more_follow (a_form f fs) ps l h = (l, refl)

mutual
  pub form_again : (f : PlainForm) → IsWritableForm f → Writes IsForm f (form_parts f)
  form_again (whole n) w ps h = name_again n w ps h
  form_again (bit n k) w ps h =
      let tail = symbol 91 ∷ word (Number k) ∷ symbol 93 ∷ [] in
      let s = select_again n tail ps w.0 ((refl, refl, (index_fits k w.1, refl, (refl, refl, h.0))), refl) in
      (s.0, (s.1, w.1))
  form_again (part n k l) w ps h =
      let tail = symbol 91 ∷ word (Number k) ∷ symbol 58 ∷ word (Number l) ∷ symbol 93 ∷ [] in
      let s = select_again n tail ps w.0 ((refl, refl, (index_fits k w.1, refl, (refl, refl, (index_fits l w.2, refl, (refl, refl, h.0))))), refl) in
      (s.0, (s.1, w.1, w.2))
  form_again (constant bits) w ps h = ((w, h.1, h.0), refl)
  form_again (join fs) w ps h =
      let Q : List Part → Type 0 = λ qs. Reads IsForm (join fs) (symbol 123 ∷ qs) ps in
      let inside = forms_again fs w (symbol 125 ∷ ps) ((refl, refl, h.0), refl) in
      subst Q (sym (append_assoc (forms_parts fs) (symbol 125 ∷ []) ps)) ((refl, refl, inside.0), (tokens_of (forms_parts fs ++ symbol 125 ∷ ps), refl, inside.1))
  form_again (repeat k f) w ps h =
      let Q : List Part → Type 0 = λ qs. Reads IsForm (repeat k f) (symbol 123 ∷ word (Number k) ∷ symbol 123 ∷ qs) ps in
      let inside = form_again f w.2 (symbol 125 ∷ symbol 125 ∷ ps) ((refl, refl, (refl, refl, h.0)), refl) in
      subst Q (sym (append_assoc (form_parts f) (symbol 125 ∷ symbol 125 ∷ []) ps))
      ((refl, refl, (index_fits k w.1, refl, (refl, refl, inside.0))), (tokens_of (form_parts f ++ symbol 125 ∷ symbol 125 ∷ ps), refl, (w.0, w.1), inside.1))

  pub forms_again : (fs : PlainForms) → AreWritableForms fs → Writes AreForms fs (forms_parts fs)
  forms_again no_forms w ps h = absurd w
  forms_again (a_form f fs) w ps h =
      let Q : List Part → Type 0 = λ qs. Reads AreForms (a_form f fs) qs ps in
      let more = more_forms_again fs w.1 ps h in
      let first = form_again f w.0 (more_parts fs ++ ps) (more_follow fs ps more.0 h.1) in
      subst Q (sym (append_assoc (form_parts f) (more_parts fs) ps)) (first.0, (tokens_of (more_parts fs ++ ps), first.1, more.1))

  pub more_forms_again : (fs : PlainForms) → AreMoreWritable fs → Writes AreMoreForms fs (more_parts fs)
  more_forms_again no_forms w ps h = (h.0, refl)
  more_forms_again (a_form f fs) w ps h =
      let Q : List Part → Type 0 = λ qs. Reads AreMoreForms (a_form f fs) (symbol 44 ∷ blank ∷ qs) ps in
      let more = more_forms_again fs w.1 ps h in
      let first = form_again f w.0 (more_parts fs ++ ps) (more_follow fs ps more.0 h.1) in
      subst Q (sym (append_assoc (form_parts f) (more_parts fs) ps))
      ((refl, refl, ((refl, tt), first.0)), (tokens_of (form_parts f ++ (more_parts fs ++ ps)), tokens_of (more_parts fs ++ ps), refl, first.1, more.1))

-- the blank behind an escaped name
abbrev behind : List ℕ → List Part
behind n = cond (is_simple_name n) [] (blank ∷ [])

-- no form begins with `*`
form_no_star : (f : PlainForm) (ps : List Part) → IsWritableForm f → begins 42 (parts_text (form_parts f ++ ps)) ≡ false
form_no_star (whole n) ps w = name_no_star n (parts_text (behind n ++ ps))
form_no_star (bit n k) ps w = name_no_star n (parts_text ((behind n ++ symbol 91 ∷ word (Number k) ∷ symbol 93 ∷ []) ++ ps))
form_no_star (part n h l) ps w = name_no_star n (parts_text ((behind n ++ symbol 91 ∷ word (Number h) ∷ symbol 58 ∷ word (Number l) ∷ symbol 93 ∷ []) ++ ps))
form_no_star (constant bits) ps w = constant_no_star bits (parts_text ps) w
form_no_star (join fs) ps w = refl
form_no_star (repeat k f) ps w = refl

content_no_star : (o : Option PlainForm) (ps : List Part) → IsWritableContent o → begins 42 (parts_text (content_parts o ++ symbol 41 ∷ ps)) ≡ false
content_no_star None ps w = refl
content_no_star (Some f) ps w = form_no_star f (symbol 41 ∷ ps) w.0

content_again : (o : Option PlainForm) → IsWritableContent o → Writes IsContent o (content_parts o)
content_again None w ps h = (h.0, refl)
content_again (Some f) w ps h = let r = form_again f w.0 ps h in (r.0, (r.1, w.1))

-- `.pin(form)`
pin_again : (c : PlainConnection) → IsWritablePin c → Writes IsPin c (pin_parts c)
pin_again c w ps h =
    let Q : List Part → Type 0 = λ qs. Reads IsPin c (symbol 46 ∷ qs) ps in
    let R : List Part → Type 0 = λ qs. Reads IsPin c (symbol 46 ∷ (name_parts c.pin ++ symbol 40 ∷ qs)) ps in
    let inside = content_again c.form w.1 (symbol 41 ∷ ps) ((refl, refl, h.0), refl) in
    let content = content_parts c.form ++ symbol 41 ∷ ps in
    let opened : MayFollow (symbol 40 ∷ content) = ((refl, ap not (content_no_star c.form ps w.1), inside.0), refl) in
    let named = name_again c.pin w.0 (symbol 40 ∷ content) opened in
    subst Q (sym (append_assoc (name_parts c.pin) (symbol 40 ∷ (content_parts c.form ++ symbol 41 ∷ [])) ps))
    (subst R (sym (append_assoc (content_parts c.form) (symbol 41 ∷ []) ps))
    ((refl, refl, named.0), (tokens_of content, ap (λ ts. Symbol 46 ∷ ts) named.1, inside.1)))

pub pins_again : (cs : List PlainConnection) → AllByRecursion IsWritablePin cs → Writes (Perhaps IsPin) cs (pins_parts cs)
pins_again [] w ps h = (h.0, refl)
pins_again (c ∷ cs) w ps h = listed_again IsPin IsWritablePin pin_parts pin_again c cs w.0 w.1 ps h

pub pins_no_star : (cs : List PlainConnection) (ps : List Part) → begins 42 (parts_text (pins_parts cs ++ symbol 41 ∷ ps)) ≡ false
pins_no_star [] ps = refl
pins_no_star (c ∷ cs) ps = refl

pub names_no_star : (ns : List (List ℕ)) (ps : List Part) → begins 42 (parts_text (names_parts ns ++ symbol 41 ∷ ps)) ≡ false
names_no_star [] ps = refl
names_no_star (n ∷ ns) ps = name_no_star n (parts_text ((behind n ++ flat_map next_name ns) ++ symbol 41 ∷ ps))
