-- Functions that are read are those that texts say.
use Rattle.std.proofs.Common.{◌≡◌, ◌≤◌, ◌<◌, ℕ, Bool, true, false, cond, List, [], ◌∷◌, Option, Some, None, map, length, nat_le, refl, sym, ap, ◌∙◌, inl, inr, arith}
use Rattle.std.proofs.lemmas.Bool.Decides.{nat_tests}
use Rattle.agm_net.specs.declared.port.Way.{Way}
use Rattle.cell_function.specs.Grammar.{Spelled}
use Rattle.cell_function.specs.Reading.{function_of}
use Rattle.cell_function.specs.Tree.{Tree}
use Rattle.cell_function.proofs.Whole.{function_spelled, spelled_function}
use Rattle.cell_library.specs.Texts.{Text, Kinds, NamedPin, NamedFlip, CellTexts, NamedCell}
use Rattle.cell_library.specs.Read.{Says, SaysIfThere, said, said_in, ReadPin, PinReads, read_pin, ReadFlip, FlipReads, read_flip, Pairwise, ReadCell, CellReads, read_cell, way_in}
use Rattle.cell_library.specs.Judged.{PlainCell, judged}
use Rattle.cell_library.specs.Spelled.{Means}
use Rattle.cell_library.specs.Steps.{judged_cell}

long_is : (n : ℕ) → 1024 < n → nat_le n 1024 ≡ false
long_is n h = grind (arith, nat_tests)

short_is : (n : ℕ) → n ≤ 1024 → nat_le n 1024 ≡ true
short_is n h = grind (arith, nat_tests)

is_short : (n : ℕ) → nat_le n 1024 ≡ true → n ≤ 1024
is_short n h = grind (arith, nat_tests)

is_long : (n : ℕ) → nat_le n 1024 ≡ false → 1024 < n
is_long n h = grind (arith, nat_tests)

none_said : (t : Text) → ((f : Tree) → Spelled t f → ⊥) → (b : Bool) (o : Option Tree) → function_of t ≡ o → None ≡ cond b o None
none_said t never true None e = refl
none_said t never false None e = refl
none_said t never b (Some f) e = absurd (never f (function_spelled t f e))

says_is : (t : Text) (o : Option Tree) → Says t o → o ≡ said t
says_is t None (inl h) = sym (ap (λ b. cond b (function_of t) None) (long_is (length t) h))
says_is t None (inr never) = none_said t never (nat_le (length t) 1024) (function_of t) refl
says_is t (Some f) h = sym (ap (λ b. cond b (function_of t) None) (short_is (length t) h.0) ∙ spelled_function t f h.1)

says_case : (t : Text) (b : Bool) → nat_le (length t) 1024 ≡ b → (o : Option Tree) → function_of t ≡ o → Says t (cond b o None)
says_case t false h o e = inl (is_long (length t) h)
says_case t true h None e = inr (λ f s. let k : Some f ≡ None = sym (spelled_function t f s) ∙ e in cc)
says_case t true h (Some f) e = (is_short (length t) h, function_spelled t f e)

said_says : (t : Text) → Says t (said t)
said_says t = says_case t (nat_le (length t) 1024) refl (function_of t) refl

there_is : (o : Option Text) (p : Option (Option Tree)) → SaysIfThere o p → p ≡ said_in o
there_is None None h = refl
there_is (Some t) (Some p) h = ap (λ (q : Option Tree). some_of q) (says_is t p h)
  where
    some_of : Option Tree → Option (Option Tree)
    some_of q = Some q
there_is None (Some p) h = absurd h
there_is (Some t) None h = absurd h

there_says : (o : Option Text) → SaysIfThere o (said_in o)
there_says None = tt
there_says (Some t) = said_says t

abbrev pin_parts : Text → Option Way → Bool → Option (Option Tree) → ReadPin
pin_parts n w t f = record { name = n; way = w; is_three_state = t; function = f }

pin_is : (p : NamedPin) (q : ReadPin) → PinReads p q → q ≡ read_pin p
pin_is p q h =
    ap (λ n. pin_parts n q.way q.is_three_state q.function) h.0
    ∙ (ap (λ w. pin_parts p.name w q.is_three_state q.function) h.1
    ∙ (ap (λ t. pin_parts p.name (way_in p.texts.direction) t q.function) h.2
    ∙ ap (λ f. pin_parts p.name (way_in p.texts.direction) p.texts.is_three_state f) (there_is p.texts.function q.function h.3)))

pin_reads : (p : NamedPin) → PinReads p (read_pin p)
pin_reads p = (refl, refl, refl, there_says p.texts.function)

abbrev flip_parts : List Text → Option Text → Option (Option Tree) → Bool → Bool → ReadFlip
flip_parts n c f a s = record { names = n; clocked_on = c; next = f; is_async = a; has_second_clock = s }

flip_is : (p : NamedFlip) (q : ReadFlip) → FlipReads p q → q ≡ read_flip p
flip_is p q h =
    ap (λ n. flip_parts n q.clocked_on q.next q.is_async q.has_second_clock) h.0
    ∙ (ap (λ c. flip_parts p.names c q.next q.is_async q.has_second_clock) h.1
    ∙ (ap (λ f. flip_parts p.names p.texts.clocked_on f q.is_async q.has_second_clock) (there_is p.texts.next_state q.next h.2)
    ∙ (ap (λ a. flip_parts p.names p.texts.clocked_on (said_in p.texts.next_state) a q.has_second_clock) h.3
    ∙ ap (λ s. flip_parts p.names p.texts.clocked_on (said_in p.texts.next_state) p.texts.is_async s) h.4)))

flip_reads : (p : NamedFlip) → FlipReads p (read_flip p)
flip_reads p = (refl, refl, there_says p.texts.next_state, refl, refl)

pairs_are : {A B : Type 0} (P : A → B → Type 0) (f : A → B) → ((x : A) (y : B) → P x y → y ≡ f x) → (xs : List A) (ys : List B) → Pairwise P xs ys → ys ≡ map f xs
pairs_are P f h [] [] k = refl
pairs_are P f h [] (y ∷ ys) k = absurd k
pairs_are P f h (x ∷ xs) [] k = absurd k
pairs_are {A} {B} P f h (x ∷ xs) (y ∷ ys) k = ap (λ (z : B). z ∷ ys) (h x y k.0) ∙ ap (λ (zs : List B). f x ∷ zs) (pairs_are P f h xs ys k.1)

mapped_pairs : {A B : Type 0} (P : A → B → Type 0) (f : A → B) → ((x : A) → P x (f x)) → (xs : List A) → Pairwise P xs (map f xs)
mapped_pairs P f h [] = tt
mapped_pairs P f h (x ∷ xs) = (h x, mapped_pairs P f h xs)

abbrev cell_parts : Kinds → List ReadFlip → List ReadPin → ReadCell
cell_parts k f p = record { kinds = k; flips = f; pins = p }

cell_is : (t : CellTexts) (c : ReadCell) → CellReads t c → c ≡ read_cell t
cell_is t c h =
    ap (λ k. cell_parts k c.flips c.pins) h.0
    ∙ (ap (λ f. cell_parts t.kinds f c.pins) (pairs_are FlipReads read_flip flip_is t.flips c.flips h.1)
    ∙ ap (λ p. cell_parts t.kinds (map read_flip t.flips) p) (pairs_are PinReads read_pin pin_is t.pins c.pins h.2))

cell_reads : (t : CellTexts) → CellReads t (read_cell t)
cell_reads t = (refl, mapped_pairs FlipReads read_flip flip_reads t.flips, mapped_pairs PinReads read_pin pin_reads t.pins)

means_is : (t : NamedCell) (c : PlainCell) → Means t c → c ≡ judged_cell t
means_is t c m = m.is_judged ∙ ap (judged t.name) (cell_is t.texts m.cell m.reads)

means_read : (t : NamedCell) → Means t (judged_cell t)
means_read t = record { cell = read_cell t.texts; reads = cell_reads t.texts; is_judged = refl }

-- cells that texts mean are those that are judged
pub cells_are : (ts : List NamedCell) (cells : List PlainCell) → Pairwise Means ts cells → cells ≡ map judged_cell ts
cells_are ts cells h = pairs_are Means judged_cell means_is ts cells h

pub cells_mean : (ts : List NamedCell) → Pairwise Means ts (map judged_cell ts)
cells_mean ts = mapped_pairs Means judged_cell means_read ts
