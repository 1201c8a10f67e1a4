-- What is kept of a group statement by statement is what the group says.
use Rattle.std.proofs.Common.{◌≡◌, ◌||◌, ◌&&◌, ◌++◌, ℕ, Bool, true, false, not, cond, List, [], ◌∷◌, Option, Some, None, map, codes, refl, sym, ap, ◌∙◌, subst, append-nil, append_assoc}
use Rattle.std.specs.Option.{is_some}
use Rattle.std.specs.List.{flat_map}
use Rattle.std.specs.Str.{bytes_eq}
use Rattle.std.proofs.lemmas.Slice.Eq.{bytes_eq-Decides}
use Rattle.liberty_statements.specs.Grammar.{Args, Statements, none, first, group, complex, simple, names_of, text_of}
use Rattle.liberty_statements.specs.Reading.{Read, as_value}
use Rattle.liberty_statements.proofs.Many.{as_same}
use Rattle.cell_library.specs.Texts.{Text, first_text, has_text, groups, has_group, PinTexts, pin_texts, FlipTexts, flip_texts, Kinds, cell_texts, pins_of_group, flip_of_group, NamedPin, named_pin}
use Rattle.cell_library.specs.Read.{ReadCell, ReadPin, ReadFlip, read_cell, read_pin, read_flip}
use Rattle.cell_library.specs.Judged.{or_else}
use Rattle.cell_library.proofs.Lists.{map_append, map_map}
use Rattle.cell_library.specs.Steps.{fold_all, no_pin, pin_more, pin_attribute, no_flip, flip_more, flip_attribute, no_cell, cell_more, kinds_more, read_named}

same_bytes : (xs ys : List ℕ) → bytes_eq xs ys ≡ true → xs ≡ ys
same_bytes xs ys h = (bytes_eq-Decides xs ys).0 h

-- pins
abbrev pin_with : PinTexts → Statements → PinTexts
pin_with p ss = record {
  direction = or_else p.direction (first_text (codes "direction") ss);
  function = or_else p.function (first_text (codes "function") ss);
  is_three_state = p.is_three_state || has_text (codes "three_state") ss;
}

or_false : (a : Bool) → (a || false) ≡ a
or_false true = refl
or_false false = refl

or_assoc : (a b c : Bool) → ((a || b) || c) ≡ (a || (b || c))
or_assoc true b c = refl
or_assoc false b c = refl

or_none : {X : Type 0} (o : Option X) → or_else o None ≡ o
or_none (Some x) = refl
or_none None = refl

-- one attribute, by whether its name is each of three
abbrev pin_by : PinTexts → Text → (d f t : Bool) → PinTexts
pin_by p text d f t =
    cond (d && not (is_some p.direction)) (record p { direction = Some text })
    (cond (f && not (is_some p.function)) (record p { function = Some text }) (record p { is_three_state = p.is_three_state || t }))

-- at most one of them
abbrev Apart : Bool → Bool → Bool → Type 0
Apart d f t = (d ≡ true → (f ≡ false) × (t ≡ false)) × (f ≡ true → t ≡ false)

abbrev parts : Option Text → Option Text → Bool → PinTexts
parts d f t = record { direction = d; function = f; is_three_state = t }

pin_by_is : (pd pf : Option Text) (pt : Bool) (text : Text) (d f t : Bool) → Apart d f t → (sd sf : Option Text) (st : Bool)
    → (let p = pin_by (parts pd pf pt) text d f t in parts (or_else p.direction sd) (or_else p.function sf) (p.is_three_state || st))
    ≡ parts (or_else pd (cond d (Some text) sd)) (or_else pf (cond f (Some text) sf)) (pt || (t || st))
pin_by_is None pf pt text true false false a sd sf st = refl
pin_by_is (Some x) pf pt text true false false a sd sf st = ap (λ b. parts (Some x) (or_else pf sf) b) (or_assoc pt false st)
pin_by_is pd None pt text false true false a sd sf st = refl
pin_by_is pd (Some x) pt text false true false a sd sf st = ap (λ b. parts (or_else pd sd) (Some x) b) (or_assoc pt false st)
pin_by_is pd pf pt text false false t a sd sf st = ap (λ b. parts (or_else pd sd) (or_else pf sf) b) (or_assoc pt t st)
pin_by_is pd pf pt text true true t a sd sf st = let e = (a.0 refl).0 in absurd (cc)
pin_by_is pd pf pt text true false true a sd sf st = let e = (a.0 refl).1 in absurd (cc)
pin_by_is pd pf pt text false true true a sd sf st = let e = a.1 refl in absurd (cc)

apart_names : (n : Text) → Apart (bytes_eq n (codes "direction")) (bytes_eq n (codes "function")) (bytes_eq n (codes "three_state"))
apart_names n = (
  λ h. let e = same_bytes n (codes "direction") h in (ap (λ m. bytes_eq m (codes "function")) e, ap (λ m. bytes_eq m (codes "three_state")) e),
  λ h. let e = same_bytes n (codes "function") h in ap (λ m. bytes_eq m (codes "three_state")) e,
)

pin_none : (d f : Option Text) (t : Bool) → parts d f t ≡ parts (or_else d None) (or_else f None) (t || false)
pin_none (Some x) (Some y) true = refl
pin_none (Some x) (Some y) false = refl
pin_none (Some x) None true = refl
pin_none (Some x) None false = refl
pin_none None (Some y) true = refl
pin_none None (Some y) false = refl
pin_none None None true = refl
pin_none None None false = refl

pin_fold : (p : PinTexts) (ss : Statements) → fold_all pin_more p ss ≡ pin_with p ss
pin_fold p none = pin_none p.direction p.function p.is_three_state
pin_fold p (first (simple n v) ss) =
    pin_fold (pin_attribute p n (text_of v)) ss
    ∙ pin_by_is p.direction p.function p.is_three_state (text_of v) (bytes_eq n (codes "direction")) (bytes_eq n (codes "function")) (bytes_eq n (codes "three_state")) (apart_names n) (first_text (codes "direction") ss) (first_text (codes "function") ss) (has_text (codes "three_state") ss)
pin_fold p (first (complex n xs e) ss) = pin_fold p ss
pin_fold p (first (group n xs inner e) ss) = pin_fold p ss

pub pin_whole : (o : Read Statements) → as_value pin_texts o ≡ as_value (fold_all pin_more no_pin) o
pin_whole o = as_same pin_texts (fold_all pin_more no_pin) o (λ ss. sym (pin_fold no_pin ss))

-- flip-flops
abbrev flip_parts : Option Text → Option Text → Bool → Bool → FlipTexts
flip_parts c n a s = record { clocked_on = c; next_state = n; is_async = a; has_second_clock = s }

abbrev flip_with : FlipTexts → Statements → FlipTexts
flip_with f ss = flip_parts (or_else f.clocked_on (first_text (codes "clocked_on") ss)) (or_else f.next_state (first_text (codes "next_state") ss))
    (f.is_async || (has_text (codes "clear") ss || has_text (codes "preset") ss)) (f.has_second_clock || has_text (codes "clocked_on_also") ss)

abbrev flip_by : FlipTexts → Text → (c n a b s : Bool) → FlipTexts
flip_by f text c n a b s =
    cond (c && not (is_some f.clocked_on)) (record f { clocked_on = Some text })
    (cond (n && not (is_some f.next_state)) (record f { next_state = Some text })
    (record f { is_async = f.is_async || (a || b); has_second_clock = f.has_second_clock || s }))

abbrev FlipApart : Bool → Bool → Bool → Bool → Bool → Type 0
FlipApart c n a b s = (c ≡ true → (n ≡ false) × (a ≡ false) × (b ≡ false) × (s ≡ false)) × (n ≡ true → (a ≡ false) × (b ≡ false) × (s ≡ false))

mix : (p a b x y : Bool) → ((p || (a || b)) || (x || y)) ≡ (p || ((a || x) || (b || y)))
mix true a b x y = refl
mix false true b x y = refl
mix false false true true y = refl
mix false false true false y = refl
mix false false false x y = refl

flip_by_is : (fc fn : Option Text) (fa fs : Bool) (text : Text) (c n a b s : Bool) → FlipApart c n a b s → (sc sn : Option Text) (sa sb ss : Bool)
    → (let f = flip_by (flip_parts fc fn fa fs) text c n a b s in flip_parts (or_else f.clocked_on sc) (or_else f.next_state sn) (f.is_async || (sa || sb)) (f.has_second_clock || ss))
    ≡ flip_parts (or_else fc (cond c (Some text) sc)) (or_else fn (cond n (Some text) sn)) (fa || ((a || sa) || (b || sb))) (fs || (s || ss))
flip_by_is None fn fa fs text true false false false false p sc sn sa sb ss = refl
flip_by_is (Some x) fn fa fs text true false false false false p sc sn sa sb ss = ap (λ q. flip_parts (Some x) (or_else fn sn) q ((fs || false) || ss)) (mix fa false false sa sb) ∙ ap (λ q. flip_parts (Some x) (or_else fn sn) (fa || (sa || sb)) q) (or_assoc fs false ss)
flip_by_is fc None fa fs text false true false false false p sc sn sa sb ss = refl
flip_by_is fc (Some x) fa fs text false true false false false p sc sn sa sb ss = ap (λ q. flip_parts (or_else fc sc) (Some x) q ((fs || false) || ss)) (mix fa false false sa sb) ∙ ap (λ q. flip_parts (or_else fc sc) (Some x) (fa || (sa || sb)) q) (or_assoc fs false ss)
flip_by_is fc fn fa fs text false false a b s p sc sn sa sb ss = ap (λ q. flip_parts (or_else fc sc) (or_else fn sn) q ((fs || s) || ss)) (mix fa a b sa sb) ∙ ap (λ q. flip_parts (or_else fc sc) (or_else fn sn) (fa || ((a || sa) || (b || sb))) q) (or_assoc fs s ss)
flip_by_is fc fn fa fs text true true a b s p sc sn sa sb ss = let e = (p.0 refl).0 in absurd (cc)
flip_by_is fc fn fa fs text true false true b s p sc sn sa sb ss = let e = (p.0 refl).1 in absurd (cc)
flip_by_is fc fn fa fs text true false false true s p sc sn sa sb ss = let e = (p.0 refl).2 in absurd (cc)
flip_by_is fc fn fa fs text true false false false true p sc sn sa sb ss = let e = (p.0 refl).3 in absurd (cc)
flip_by_is fc fn fa fs text false true true b s p sc sn sa sb ss = let e = (p.1 refl).0 in absurd (cc)
flip_by_is fc fn fa fs text false true false true s p sc sn sa sb ss = let e = (p.1 refl).1 in absurd (cc)
flip_by_is fc fn fa fs text false true false false true p sc sn sa sb ss = let e = (p.1 refl).2 in absurd (cc)

flip_names : (n : Text) → FlipApart (bytes_eq n (codes "clocked_on")) (bytes_eq n (codes "next_state")) (bytes_eq n (codes "clear")) (bytes_eq n (codes "preset")) (bytes_eq n (codes "clocked_on_also"))
flip_names n = (
  λ h. let e = same_bytes n (codes "clocked_on") h in (ap (λ m. bytes_eq m (codes "next_state")) e, ap (λ m. bytes_eq m (codes "clear")) e, ap (λ m. bytes_eq m (codes "preset")) e, ap (λ m. bytes_eq m (codes "clocked_on_also")) e),
  λ h. let e = same_bytes n (codes "next_state") h in (ap (λ m. bytes_eq m (codes "clear")) e, ap (λ m. bytes_eq m (codes "preset")) e, ap (λ m. bytes_eq m (codes "clocked_on_also")) e),
)

flip_none : (c n : Option Text) (a s : Bool) → flip_parts c n a s ≡ flip_parts (or_else c None) (or_else n None) (a || false) (s || false)
flip_none (Some x) (Some y) true s = ap (λ q. flip_parts (Some x) (Some y) true q) (sym (or_false s))
flip_none (Some x) (Some y) false s = ap (λ q. flip_parts (Some x) (Some y) false q) (sym (or_false s))
flip_none (Some x) None true s = ap (λ q. flip_parts (Some x) None true q) (sym (or_false s))
flip_none (Some x) None false s = ap (λ q. flip_parts (Some x) None false q) (sym (or_false s))
flip_none None (Some y) true s = ap (λ q. flip_parts None (Some y) true q) (sym (or_false s))
flip_none None (Some y) false s = ap (λ q. flip_parts None (Some y) false q) (sym (or_false s))
flip_none None None true s = ap (λ q. flip_parts None None true q) (sym (or_false s))
flip_none None None false s = ap (λ q. flip_parts None None false q) (sym (or_false s))

flip_fold : (f : FlipTexts) (ss : Statements) → fold_all flip_more f ss ≡ flip_with f ss
flip_fold f none = flip_none f.clocked_on f.next_state f.is_async f.has_second_clock
flip_fold f (first (simple n v) ss) =
    flip_fold (flip_attribute f n (text_of v)) ss
    ∙ flip_by_is f.clocked_on f.next_state f.is_async f.has_second_clock (text_of v) (bytes_eq n (codes "clocked_on")) (bytes_eq n (codes "next_state")) (bytes_eq n (codes "clear")) (bytes_eq n (codes "preset")) (bytes_eq n (codes "clocked_on_also")) (flip_names n)
    (first_text (codes "clocked_on") ss) (first_text (codes "next_state") ss) (has_text (codes "clear") ss) (has_text (codes "preset") ss) (has_text (codes "clocked_on_also") ss)
flip_fold f (first (complex n xs e) ss) = flip_fold f ss
flip_fold f (first (group n xs inner e) ss) = flip_fold f ss

pub flip_whole : (o : Read Statements) → as_value flip_texts o ≡ as_value (fold_all flip_more no_flip) o
flip_whole o = as_same flip_texts (fold_all flip_more no_flip) o (λ ss. sym (flip_fold no_flip ss))

-- cells
abbrev kinds_with : Kinds → Statements → Kinds
kinds_with k ss = record {
  has_bus = k.has_bus || (has_group (codes "bus") ss || has_group (codes "bundle") ss);
  has_latch = k.has_latch || (has_group (codes "latch") ss || has_group (codes "latch_bank") ss);
  has_table = k.has_table || has_group (codes "statetable") ss;
  has_bank = k.has_bank || has_group (codes "ff_bank") ss;
}

abbrev cell_by : Kinds → List ReadFlip → List ReadPin → ReadCell
cell_by k f p = record { kinds = k; flips = f; pins = p }

abbrev flips_in : Statements → List ReadFlip
flips_in ss = map read_flip (map flip_of_group (groups (codes "ff") ss))

abbrev pins_in : Statements → List ReadPin
pins_in ss = map read_pin (flat_map pins_of_group (groups (codes "pin") ss))

abbrev cell_with : ReadCell → Statements → ReadCell
cell_with c ss = cell_by (kinds_with c.kinds ss) (c.flips ++ flips_in ss) (c.pins ++ pins_in ss)

abbrev Folds : ReadCell → Statements → Type 0
Folds c ss = fold_all cell_more c ss ≡ cell_with c ss

kinds_none : (b l t k : Bool) → kinds_with (record { has_bus = b; has_latch = l; has_table = t; has_bank = k }) none ≡ record { has_bus = b; has_latch = l; has_table = t; has_bank = k }
kinds_none true true true true = refl
kinds_none true true true false = refl
kinds_none true true false true = refl
kinds_none true true false false = refl
kinds_none true false true true = refl
kinds_none true false true false = refl
kinds_none true false false true = refl
kinds_none true false false false = refl
kinds_none false true true true = refl
kinds_none false true true false = refl
kinds_none false true false true = refl
kinds_none false true false false = refl
kinds_none false false true true = refl
kinds_none false false true false = refl
kinds_none false false false true = refl
kinds_none false false false false = refl

pin_case : (c : ReadCell) (xs : Args) (inner : Statements) (e : Bool) (ss : Statements) → Folds (cell_more c (group (codes "pin") xs inner e)) ss → Folds c (first (group (codes "pin") xs inner e) ss)
pin_case c xs inner e ss h =
    let pins : List NamedPin = flat_map pins_of_group (groups (codes "pin") ss) in
    let here : List ReadPin = map (read_named (pin_texts inner)) (names_of xs) in
    let split : pins_in (first (group (codes "pin") xs inner e) ss) ≡ here ++ pins_in ss =
    map_append read_pin (map (named_pin (pin_texts inner)) (names_of xs)) pins ∙ ap (λ (ps : List ReadPin). ps ++ map read_pin pins) (map_map read_pin (named_pin (pin_texts inner)) (names_of xs)) in
    h
    ∙ (ap (λ (ps : List ReadPin). cell_by (kinds_with c.kinds ss) (c.flips ++ flips_in ss) ps) (append_assoc c.pins here (pins_in ss))
    ∙ ap (λ (ps : List ReadPin). cell_by (kinds_with c.kinds ss) (c.flips ++ flips_in ss) (c.pins ++ ps)) (sym split))

flip_case : (c : ReadCell) (xs : Args) (inner : Statements) (e : Bool) (ss : Statements) → Folds (cell_more c (group (codes "ff") xs inner e)) ss → Folds c (first (group (codes "ff") xs inner e) ss)
flip_case c xs inner e ss h =
    h ∙ ap (λ (fs : List ReadFlip). cell_by (kinds_with c.kinds ss) fs (c.pins ++ pins_in ss)) (append_assoc c.flips (read_flip (record { names = names_of xs; texts = flip_texts inner }) ∷ []) (flips_in ss))

abbrev kinds_parts : (b l t k : Bool) → Kinds
kinds_parts b l t k = record { has_bus = b; has_latch = l; has_table = t; has_bank = k }

kinds_step : (k : Kinds) (n : Text) (xs : Args) (inner : Statements) (e : Bool) (ss : Statements) → kinds_with (kinds_more k n) ss ≡ kinds_with k (first (group n xs inner e) ss)
kinds_step k n xs inner e ss =
    let bus = mix k.has_bus (bytes_eq n (codes "bus")) (bytes_eq n (codes "bundle")) (has_group (codes "bus") ss) (has_group (codes "bundle") ss) in
    let latch = mix k.has_latch (bytes_eq n (codes "latch")) (bytes_eq n (codes "latch_bank")) (has_group (codes "latch") ss) (has_group (codes "latch_bank") ss) in
    let table = or_assoc k.has_table (bytes_eq n (codes "statetable")) (has_group (codes "statetable") ss) in
    let bank = or_assoc k.has_bank (bytes_eq n (codes "ff_bank")) (has_group (codes "ff_bank") ss) in
    four_parts _ _ _ _ _ _ _ _ bus latch table bank
  where
    four_parts : (a b c d e f g h : Bool) → a ≡ b → c ≡ d → e ≡ f → g ≡ h → kinds_parts a c e g ≡ kinds_parts b d f h
    four_parts a b c d e f g h p q r s =
        ap (λ x. kinds_parts x c e g) p ∙ (ap (λ x. kinds_parts b x e g) q ∙ (ap (λ x. kinds_parts b d x g) r ∙ ap (λ x. kinds_parts b d f x) s))

other_case : (c : ReadCell) (n : Text) (xs : Args) (inner : Statements) (e : Bool) (ss : Statements) → bytes_eq n (codes "pin") ≡ false → bytes_eq n (codes "ff") ≡ false
    → Folds (cell_by (kinds_more c.kinds n) c.flips c.pins) ss → Folds c (first (group n xs inner e) ss)
other_case c n xs inner e ss p f h =
    rw (p, f) (h ∙ ap (λ (k : Kinds). cell_by k (c.flips ++ flips_in ss) (c.pins ++ pins_in ss)) (kinds_step c.kinds n xs inner e ss))

group_case : (c : ReadCell) (n : Text) (xs : Args) (inner : Statements) (e : Bool) (ss : Statements) → ((d : ReadCell) → Folds d ss) → (p f : Bool) → bytes_eq n (codes "pin") ≡ p → bytes_eq n (codes "ff") ≡ f → Folds c (first (group n xs inner e) ss)
group_case c n xs inner e ss again true f h k =
    let P : Text → Type 0 = λ m. Folds c (first (group m xs inner e) ss) in
    subst P (sym (same_bytes n (codes "pin") h)) (pin_case c xs inner e ss (again (cell_more c (group (codes "pin") xs inner e))))
group_case c n xs inner e ss again false true h k =
    let P : Text → Type 0 = λ m. Folds c (first (group m xs inner e) ss) in
    subst P (sym (same_bytes n (codes "ff") k)) (flip_case c xs inner e ss (again (cell_more c (group (codes "ff") xs inner e))))
group_case c n xs inner e ss again false false h k = other_case c n xs inner e ss h k (again (cell_by (kinds_more c.kinds n) c.flips c.pins))

cell_fold : (c : ReadCell) (ss : Statements) → Folds c ss
cell_fold c none =
    ap (λ (k : Kinds). cell_by k c.flips c.pins) (sym (kinds_none c.kinds.has_bus c.kinds.has_latch c.kinds.has_table c.kinds.has_bank))
    ∙ (ap (λ (fs : List ReadFlip). cell_by (kinds_with c.kinds none) fs c.pins) (sym (append-nil c.flips)) ∙ ap (λ (ps : List ReadPin). cell_by (kinds_with c.kinds none) (c.flips ++ []) ps) (sym (append-nil c.pins)))
cell_fold c (first (simple n v) ss) = cell_fold c ss
cell_fold c (first (complex n xs e) ss) = cell_fold c ss
cell_fold c (first (group n xs inner e) ss) = group_case c n xs inner e ss (λ d. cell_fold d ss) (bytes_eq n (codes "pin")) (bytes_eq n (codes "ff")) refl refl

pub cell_whole : (o : Read Statements) → as_value (λ ss. read_cell (cell_texts ss)) o ≡ as_value (fold_all cell_more no_cell) o
cell_whole o = as_same (λ ss. read_cell (cell_texts ss)) (fold_all cell_more no_cell) o (λ ss. sym (cell_fold no_cell ss))
