-- The answers of checks, one behind the other.
use Rattle.std.proofs.Common.{◌≡◌, ℕ, suc, ◌+◌, ◌-◌, ◌<◌, ◌≤◌, Bool, true, false, ◌&&◌, Some, List, [], ◌∷◌, ◌++◌, length, get_or, drop, map, refl, sym, ap, subst, ◌∙◌, arith, Result, Ok, Err, rules, inl, inr}
use Rattle.std.specs.List.{flat_map, range_with_len, enumerate_from}
use Rattle.std.specs.Option.{option_map}
use Rattle.std.specs.Prelude.{slice_get}
use Rattle.std.proofs.lemmas.List.{get_or-map, drop_more}
use Rattle.std.proofs.lemmas.Option.{slice_get-get_or, slice_get-map}
use mathlib.Core.Logic.{⊎_elim}
use Rattle.agm_net.specs.Plain.{Stored, stored_of}
use Rattle.agm_net.specs.declared.expr.Register.{Register}
use Rattle.agm_net.specs.declared.mark.Mark.{Mark}
use Rattle.agm_net.specs.declared.port.Port.{Port}
use Rattle.annotations.specs.Asked.{mark_in}
use Rattle.annotations.specs.Rules.{mark_of, Rule, own_clock, marks_of, NoneBroken, IsFirstFault, Answers}
use Rattle.annotations.specs.declared.fault.AnnotationFault.{AnnotationFault}
use Rattle.top_module.specs.Marks.{mark_set}
use Rattle.top_module.specs.Ports.{facts_of}
use Rattle.top_module.specs.declared.facts.PortFacts.{PortFacts}
use Rattle.verilog_reader.specs.Plain.{PlainModule}
use Rattle.verilog_reader.specs.View.{module_view}
use Rattle.verilog_reader.specs.declared.design.Module.{Module}

module _ (broken : Rule → Type 0) where
  pub none_both : (as' bs : List Rule) → NoneBroken broken as' → NoneBroken broken bs → NoneBroken broken (as' ++ bs)
  none_both [] bs a b = b
  none_both (r ∷ rs) bs a b = (a.0, none_both rs bs a.1 b)

  pub first_left : (as' bs : List Rule) (f : AnnotationFault) → IsFirstFault broken as' f → IsFirstFault broken (as' ++ bs) f
  first_left [] bs f h = absurd h
  first_left (r ∷ rs) bs f h = ⊎_elim (λ here. inl here) (λ later. inr (later.0, first_left rs bs f later.1)) h

  pub first_right : (as' bs : List Rule) (f : AnnotationFault) → NoneBroken broken as' → IsFirstFault broken bs f → IsFirstFault broken (as' ++ bs) f
  first_right [] bs f none h = h
  first_right (r ∷ rs) bs f none h = inr (none.0, first_right rs bs f none.1 h)

  -- a fault of the first rules is that of all
  pub fault_left : {X Y : Type 0} (as' bs : List Rule) (right : X → Type 0) (all_right : Y → Type 0) (f : AnnotationFault) → Answers broken as' right (Err f) → Answers broken (as' ++ bs) all_right (Err f)
  fault_left as' bs right all_right f h = ⊎_elim (λ memory. inl memory) (λ first. inr (first_left as' bs f first)) h

  -- a fault is one whatever would be right
  pub handed : {X Y : Type 0} (rules : List Rule) (right : X → Type 0) (other : Y → Type 0) (f : AnnotationFault) → Answers broken rules right (Err f) → Answers broken rules other (Err f)
  handed rules right other f h = h

  -- where the first rules are kept, the others decide
  pub rest_decides : {X : Type 0} (as' bs : List Rule) (right : X → Type 0) (answer : Result X AnnotationFault) → NoneBroken broken as' → Answers broken bs right answer → Answers broken (as' ++ bs) right answer
  rest_decides as' bs right (Ok x) none h = (none_both as' bs none h.0, h.1)
  rest_decides as' bs right (Err f) none h = ⊎_elim (λ memory. inl memory) (λ first. inr (first_right as' bs f none first)) h

-- the rules of what is left of a list, item by item
pub ports_left : (f : ℕ × Port → List Rule) (ports : List Port) (i : ℕ) (p : Port) → i < length ports → p ≡ get_or ports i p
    → flat_map f (enumerate_from i (drop i ports)) ≡ f (i, p) ++ flat_map f (enumerate_from (i + 1) (drop (i + 1) ports))
ports_left f ports i p within here = ap (λ (ps : List Port). flat_map f (enumerate_from i ps)) (drop_more ports i p within ∙ ap (λ (x : Port). x ∷ drop (i + 1) ports) (sym here))

pub items_left : {X : Type 0} (f : X → Rule) (xs : List X) (i : ℕ) (x : X) → i < length xs → x ≡ get_or xs i x → map f (drop i xs) ≡ (f x ∷ []) ++ map f (drop (i + 1) xs)
items_left {X} f xs i x within here = ap (map f) (drop_more xs i x within ∙ ap (λ (y : X). y ∷ drop (i + 1) xs) (sym here))

pub wires_left : (f : ℕ → Rule) (a n : ℕ) → a < n → map f (range_with_len a (n - a)) ≡ (f a ∷ []) ++ map f (range_with_len (a + 1) (n - (a + 1)))
wires_left f a n within = let more : n - a ≡ suc (n - (a + 1)) = omega arith in ap (λ (k : ℕ). map f (range_with_len a k)) more

pub no_wires_left : (a n : ℕ) → n ≤ a → range_with_len a (n - a) ≡ []
no_wires_left a n past = let none : n - a ≡ 0 = omega arith in ap (range_with_len a) none

-- the marks of a port, among the facts of all
pub marks_at : (top : PlainModule) (ports : List Port) (facts : List PortFacts) (i : ℕ) (p : Port) (d : PortFacts) → i < length ports → p ≡ get_or ports i p → facts ≡ map (λ q. facts_of top q.name) ports
    → (get_or facts i d).marks ≡ mark_set (marks_of top p)
marks_at top ports facts i p d within here all =
    ap (λ (f : PortFacts). f.marks) (ap (λ (fs : List PortFacts). get_or fs i d) all ∙ (get_or-map (λ (q : Port). facts_of top q.name) ports i p d within ∙ ap (λ (q : Port). facts_of top q.name) (sym here)))

pub marks_of_all : (top : PlainModule) (ports : List Port) → map (λ (f : PortFacts). mark_in f.marks) (map (λ (q : Port). facts_of top q.name) ports) ≡ map (mark_of top) ports
marks_of_all top [] = refl
marks_of_all top (p ∷ ps) = ap (λ (ms : List Mark). mark_of top p ∷ ms) (marks_of_all top ps)

-- a fault that is handed on
pub handed_on : {X : Type 0} (P : Result X AnnotationFault → Type 0) (r : Result X AnnotationFault) (f : AnnotationFault) → (y : AnnotationFault) × (r ≡ Err y) × (y ≡ f) → P (Err f) → P r
handed_on P r f told h = subst P (sym (told.1 ∙ ap Err told.2)) h

pub and_parts : (a b : Bool) → (a && b) ≡ true → (a ≡ true) × (b ≡ true)
and_parts true b h = (refl, h)
and_parts false b h = absurd (cc)

pub and_both : (a b : Bool) → a ≡ true → b ≡ true → (a && b) ≡ true
and_both true b h k = k
and_both false b h k = absurd (cc)

pub own_clocks : (rs : List Register) → map (λ (r : Stored). own_clock r.clock) (map stored_of rs) ≡ map (λ (r : Register). own_clock r.clock) rs
own_clocks [] = refl
own_clocks (r ∷ rs) = ap (λ (qs : List Rule). own_clock r.clock ∷ qs) (own_clocks rs)

-- the facts of all names of ports are those of the ports
pub facts_of_all : (top : PlainModule) (ports : List Port) → map (facts_of top) (map (λ (p : Port). p.name) ports) ≡ map (λ (p : Port). facts_of top p.name) ports
facts_of_all top [] = refl
facts_of_all top (p ∷ ps) = ap (λ (fs : List PortFacts). facts_of top p.name ∷ fs) (facts_of_all top ps)

-- the module of the top's number is the top
pub top_is : (ms : List Module) (k : ℕ) (d : Module) (top : PlainModule) → k < length ms → slice_get (map module_view ms) k ≡ Some top → module_view (get_or ms k d) ≡ top
top_is ms k d top within found =
    let here : Some (module_view (get_or ms k d)) ≡ Some top = sym (slice_get-map module_view ms k ∙ ap (option_map module_view) (slice_get-get_or ms k d within)) ∙ found in cc
