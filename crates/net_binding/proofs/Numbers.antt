-- The names of modules, one more at a time.
use Rattle.std.proofs.Common.{◌≡◌, ◌<◌, ◌+◌, ◌++◌, ◌||◌, ◌∷◌, ℕ, suc, Bool, true, false, not, cond, List, [], Option, Some, None, map, take, drop, length, get_or, add-one, drop-cons, refl, ap, sym, ◌∙◌}
use Rattle.std.specs.List.{starts_with}
use Rattle.std.specs.Prelude.{nat_eq, codes}
use Rattle.std.proofs.lemmas.List.{take_more, map-append}
use Rattle.verilog_reader.specs.Plain.{PlainModule}
use Rattle.verilog_reader.specs.View.{module_view}
use Rattle.verilog_reader.specs.declared.design.Module.{Module}
use Rattle.module_rules.specs.Items.{Text, is_among}
use Rattle.module_rules.specs.Rules.{or_else, clash_of, first_repeated, is_taken, body_fault, module_fault, first_fault}
use Rattle.module_rules.specs.declared.fault.NameFault.{NameFault}
use Rattle.module_rules.specs.declared.fault.NameFault.TheVariants.{Clash}
use Rattle.net_binding.specs.Walk.{module_name}

abbrev names_in : List Module → List Text
names_in ms = map module_name (map module_view ms)

-- the names of the first modules, none of which comes again
abbrev pub AreNumbered : List Module → ℕ → List Text → Type 0
AreNumbered ms i names = (names ≡ names_in (take i ms)) × (first_repeated names (names_in (drop i ms)) ≡ None)

first_new : (b : Bool) (n : Text) (o : Option Text) → cond b (Some n) o ≡ None → (b ≡ false) × (o ≡ None)
first_new true n o e = absurd (let no : Some n ≡ None = e in cc)
first_new false n o e = (refl, e)

name_more : (ms : List Module) (i : ℕ) (m : Module) → m ≡ get_or ms i m → i < length ms → names_in (take (i + 1) ms) ≡ names_in (take i ms) ++ m.name ∷ []
name_more ms i m at less =
    ap (λ xs. names_in xs) (take_more ms i m less)
    ∙ (ap (λ xs. map module_name xs) (map-append module_view (take i ms) (get_or ms i m ∷ []))
    ∙ (map-append module_name (map module_view (take i ms)) (module_view (get_or ms i m) ∷ []) ∙ ap (λ x. names_in (take i ms) ++ module_name (module_view x) ∷ []) (sym at)))

pub number_on : (ms : List Module) (i : ℕ) (m : Module) (old new : List Text) (name : Text) (fresh : Bool)
    → m ≡ get_or ms i m → i < length ms → name ≡ m.name → AreNumbered ms i old
    → fresh ≡ not (is_among old name) → new ≡ cond fresh (old ++ name ∷ []) old → AreNumbered ms (i + 1) new
number_on ms i m old new name fresh at less named was told added =
    let here : drop i ms ≡ m ∷ drop (i + 1) ms = let d = drop-cons ms i m less in let o : i + 1 ≡ suc i = add-one i in cc in
    let both = first_new (is_among old m.name) m.name (first_repeated (old ++ m.name ∷ []) (names_in (drop (i + 1) ms))) (sym (ap (λ xs. first_repeated old (names_in xs)) here) ∙ was.1) in
    let is : fresh ≡ true = told ∙ (ap (λ n. not (is_among old n)) named ∙ ap not both.0) in
    let now : new ≡ old ++ m.name ∷ [] = added ∙ (ap (λ b. cond b (old ++ name ∷ []) old) is ∙ ap (λ n. old ++ n ∷ []) named) in
    (now ∙ (ap (λ ns. ns ++ m.name ∷ []) was.0 ∙ sym (name_more ms i m at less)), ap (λ ns. first_repeated ns (names_in (drop (i + 1) ms))) now ∙ both.1)

none_both : (a b : Option NameFault) → or_else a b ≡ None → (a ≡ None) × (b ≡ None)
none_both (Some x) b e = absurd (let no : Some x ≡ None = e in cc)
none_both None b e = (refl, e)

not_taken : (a b : Bool) (f : NameFault) → cond (a || b) (Some f) None ≡ None → a ≡ false
not_taken true b f e = absurd (let no : Some f ≡ None = e in cc)
not_taken false b f e = refl

-- where the names in modules break no rule, no two modules have one name
pub modules_differ : (cells earlier : List Text) (ms : List PlainModule) → first_fault cells earlier ms ≡ None → first_repeated earlier (map module_name ms) ≡ None
modules_differ cells earlier [] e = refl
modules_differ cells earlier (m ∷ ms) e =
    let both = none_both (module_fault cells earlier m) (first_fault cells (earlier ++ m.name ∷ []) ms) e in
    let own = none_both (cond (is_taken cells earlier m.name) (Some (Clash m.name)) None) (or_else (clash_of (first_repeated [] m.ports)) (body_fault m)) both.0 in
    let new : is_among earlier m.name ≡ false = not_taken (is_among earlier m.name) (is_among cells m.name || starts_with nat_eq m.name (codes "AGM_")) (Clash m.name) own.0 in
    ap (λ b. cond b (Some m.name) (first_repeated (earlier ++ m.name ∷ []) (map module_name ms))) new ∙ modules_differ cells (earlier ++ m.name ∷ []) ms both.1
