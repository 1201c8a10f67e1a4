-- What is asked, part by part.
use Rattle.std.proofs.Common.{◌≡◌, ℕ, ◌+◌, ◌<◌, Bool, true, false, List, [], ◌∷◌, ◌++◌, length, get_or, drop, map, Option, Some, None, cond, refl, sym, ap, subst, ◌∙◌, Result, Ok, Err, inl, inr}
use Rattle.std.specs.List.{flat_map, enumerate_from}
use Rattle.std.proofs.lemmas.List.{drop_more}
use mathlib.Core.Logic.{⊎_elim}
use Rattle.stimulus.specs.Answer.{Passes}
use Rattle.stimulus.specs.Asked.{Asked, first_fault}
use Rattle.stimulus.specs.declared.fault.StimulusFault.{StimulusFault}
use Rattle.stimulus.specs.declared.fault.StimulusFault.TheVariants.{Bad}

chosen : (b : Bool) (x : StimulusFault) (rest other : Option StimulusFault) (f : StimulusFault) → (rest ≡ Some f → other ≡ Some f) → cond b (Some x) rest ≡ Some f → cond b (Some x) other ≡ Some f
chosen true x rest other f h is = is
chosen false x rest other f h is = h is

passed : (b : Bool) (x : StimulusFault) (rest : Option StimulusFault) → cond b (Some x) rest ≡ None → (b ≡ false) × (rest ≡ None)
passed true x rest is = absurd (cc)
passed false x rest is = (refl, is)

-- what holds first in the first part holds first in both
pub first_left : (as' bs : List Asked) (f : StimulusFault) → first_fault as' ≡ Some f → first_fault (as' ++ bs) ≡ Some f
first_left [] bs f h = absurd (cc)
first_left (a ∷ as') bs f h = chosen a.holds (Bad a.cause a.stream a.step) (first_fault as') (first_fault (as' ++ bs)) f (first_left as' bs f) h

-- where nothing of the first part holds, the second decides
pub first_right : (as' bs : List Asked) → first_fault as' ≡ None → first_fault (as' ++ bs) ≡ first_fault bs
first_right [] bs h = refl
first_right (a ∷ as') bs h =
    let parts = passed a.holds (Bad a.cause a.stream a.step) (first_fault as') h in
    rw parts.0 (first_right as' bs parts.1)

-- a fault of the first part is that of both
pub fault_left : {X Y : Type 0} (as' bs : List Asked) (right : X → Type 0) (other : Y → Type 0) (f : StimulusFault) → Passes as' right (Err f) → Passes (as' ++ bs) other (Err f)
fault_left as' bs right other f h = ⊎_elim (λ memory. inl memory) (λ first. inr (first_left as' bs f first)) h

pub rest_decides : {X : Type 0} (as' bs : List Asked) (right : X → Type 0) (answer : Result X StimulusFault) → first_fault as' ≡ None → Passes bs right answer → Passes (as' ++ bs) right answer
rest_decides as' bs right (Ok x) none h = (first_right as' bs none ∙ h.0, h.1)
rest_decides as' bs right (Err f) none h = ⊎_elim (λ memory. inl memory) (λ first. inr (first_right as' bs none ∙ first)) h

-- another list of which the same is first
pub same_first : {X : Type 0} (as' bs : List Asked) (right : X → Type 0) (answer : Result X StimulusFault) → first_fault as' ≡ first_fault bs → Passes as' right answer → Passes bs right answer
same_first as' bs right (Ok x) same h = (sym same ∙ h.0, h.1)
same_first as' bs right (Err f) same h = ⊎_elim (λ memory. inl memory) (λ first. inr (sym same ∙ first)) h

-- a fault that is handed on
pub handed_on : {X : Type 0} (P : Result X StimulusFault → Type 0) (r : Result X StimulusFault) (f : StimulusFault) → (y : StimulusFault) × (r ≡ Err y) × (y ≡ f) → P (Err f) → P r
handed_on P r f told h = subst P (sym (told.1 ∙ ap Err told.2)) h

-- what is asked of the rest of a list, item by item
pub items_left : {X : Type 0} (f : ℕ × X → Asked) (xs : List X) (i : ℕ) (x : X) → i < length xs → x ≡ get_or xs i x → map f (enumerate_from i (drop i xs)) ≡ f (i, x) ∷ map f (enumerate_from (i + 1) (drop (i + 1) xs))
items_left {X} f xs i x within here = ap (λ (ys : List X). map f (enumerate_from i ys)) (drop_more xs i x within ∙ ap (λ (y : X). y ∷ drop (i + 1) xs) (sym here))

pub parts_left : {X : Type 0} (f : ℕ × X → List Asked) (xs : List X) (i : ℕ) (x : X) → i < length xs → x ≡ get_or xs i x → flat_map f (enumerate_from i (drop i xs)) ≡ f (i, x) ++ flat_map f (enumerate_from (i + 1) (drop (i + 1) xs))
parts_left {X} f xs i x within here = ap (λ (ys : List X). flat_map f (enumerate_from i ys)) (drop_more xs i x within ∙ ap (λ (y : X). y ∷ drop (i + 1) xs) (sym here))

pub no_more : (as' : List Asked) → first_fault (as' ++ []) ≡ first_fault as'
no_more [] = refl
no_more (a ∷ as') = ap (cond a.holds (Some (Bad a.cause a.stream a.step))) (no_more as')

-- where nothing of both holds, nothing of either does
pub none_parts : (as' bs : List Asked) → first_fault (as' ++ bs) ≡ None → (first_fault as' ≡ None) × (first_fault bs ≡ None)
none_parts [] bs h = (refl, h)
none_parts (a ∷ as') bs h =
    let here = passed a.holds (Bad a.cause a.stream a.step) (first_fault (as' ++ bs)) h in
    let rest = none_parts as' bs here.1 in
    (rw here.0 rest.0, rest.1)

-- what is asked alone doesn't hold
pub not_alone : (a : Asked) → first_fault (a ∷ []) ≡ None → a.holds ≡ false
not_alone a h = (passed a.holds (Bad a.cause a.stream a.step) None h).0
