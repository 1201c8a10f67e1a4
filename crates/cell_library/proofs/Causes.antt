-- The first cause of a cell, step by step.
use Rattle.std.proofs.Common.{◌≡◌, ◌||◌, ◌&&◌, ◌++◌, ◌∷◌, [], Bool, true, false, not, cond, List, map, Option, Some, None, refl, sym, ap, ◌∙◌}
use Rattle.std.specs.List.{list_any}
use Rattle.std.specs.Option.{is_some}
use Rattle.agm_net.specs.Formula.{Formula}
use Rattle.cell_library.specs.Texts.{Text}
use Rattle.cell_library.specs.Read.{ReadPin, ReadFlip, ReadCell}
use Rattle.cell_library.specs.Judged.{or_else, first_cause, group_causes, pin_causes, causes, all_new, pin_name, has_unknown, meaning, is_out, is_clocked, is_unread, is_unknown, barred_cell, by_cause, known_cell, judged}
use Rattle.cell_library.specs.Known.{any_flip, raw_causes, raw_unknown, names_in}
use Rattle.cell_library.specs.View.{raw_pin, raw_flip, raw_cell}
use Rattle.cell_library.specs.declared.raw.RawPin.{RawPin}
use Rattle.cell_library.specs.declared.raw.RawFlip.{RawFlip}
use Rattle.cell_library.specs.declared.raw.RawCell.{RawCell}
use Rattle.cell_library.specs.declared.types.Bar.{Bar}
use Rattle.cell_library.specs.declared.types.Bar.TheVariants.{DoublePin, Direction, ThreeState, AsyncControl, ClockShape, NoFunction, FunctionText, UnknownName}

any_map : {A B : Type 0} (f : B → Bool) (g : A → B) (xs : List A) → list_any f (map g xs) ≡ list_any (λ x. f (g x)) xs
any_map f g [] = refl
any_map f g (x ∷ xs) = ap (λ b. f (g x) || b) (any_map f g xs)

abbrev six : (a b c d e f g h : Bool) → List (Bool × Bar)
six a b c d e f g h = (a, Direction) ∷ (b, ThreeState) ∷ (c, AsyncControl) ∷ (d, ClockShape) ∷ (e || f, NoFunction) ∷ (g || h, FunctionText) ∷ []

six_same : (a b c d e f g h i j k l m n o p : Bool) → a ≡ i → b ≡ j → c ≡ k → d ≡ l → e ≡ m → f ≡ n → g ≡ o → h ≡ p → six a b c d e f g h ≡ six i j k l m n o p
six_same a b c d e f g h i j k l m n o p r s t u v w x y =
    ap (λ q. six q b c d e f g h) r ∙ (ap (λ q. six i q c d e f g h) s ∙ (ap (λ q. six i j q d e f g h) t ∙ (ap (λ q. six i j k q e f g h) u
    ∙ (ap (λ q. six i j k l q f g h) v ∙ (ap (λ q. six i j k l m q g h) w ∙ (ap (λ q. six i j k l m n q h) x ∙ ap (λ q. six i j k l m n o q) y))))))

causes_raw : (pins : List RawPin) (flips : List RawFlip) → raw_causes pins flips ≡ pin_causes (map raw_pin pins) (map raw_flip flips)
causes_raw pins flips =
    six_same _ _ _ _ _ _ _ _ _ _ _ _ _ _ _ _
    (sym (any_map (λ (p : ReadPin). not (is_some p.way)) raw_pin pins)) (sym (any_map (λ (p : ReadPin). p.is_three_state) raw_pin pins)) (sym (any_map (λ (f : ReadFlip). f.is_async) raw_flip flips))
    (sym (any_map (λ (f : ReadFlip). not (is_clocked (map raw_pin pins) f)) raw_flip flips)) (sym (any_map (λ (p : ReadPin). is_out p.way && not (is_some p.function)) raw_pin pins)) (sym (any_map (λ (f : ReadFlip). not (is_some f.next)) raw_flip flips))
    (sym (any_map (λ (p : ReadPin). is_unread p.function) raw_pin pins)) (sym (any_map (λ (f : ReadFlip). is_unread f.next) raw_flip flips))

unknown_raw : (look : Text → Option Formula) (pins : List RawPin) (flips : List RawFlip) → raw_unknown look pins flips ≡ has_unknown look (map raw_pin pins) (map raw_flip flips)
unknown_raw look pins flips =
    ap (λ b. b || any_flip (λ f. is_unknown look f.next) flips) (sym (any_map (λ (p : ReadPin). is_unknown look p.function) raw_pin pins))
    ∙ ap (λ b. list_any (λ p. is_unknown look p.function) (map raw_pin pins) || b) (sym (any_map (λ (f : ReadFlip). is_unknown look f.next) raw_flip flips))

first_append : (xs ys : List (Bool × Bar)) → first_cause (xs ++ ys) ≡ or_else (first_cause xs) (first_cause ys)
first_append [] ys = refl
first_append (c ∷ cs) ys = first_case c.0 c.1 (first_cause (cs ++ ys)) (first_cause cs) (first_cause ys) (first_append cs ys)
  where
    first_case : (b : Bool) (bar : Bar) (x y z : Option Bar) → x ≡ or_else y z → cond b (Some bar) x ≡ or_else (cond b (Some bar) y) z
    first_case true bar x y z h = refl
    first_case false bar x y z h = h

-- the causes behind those of the groups
abbrev later : ReadCell → List (Bool × Bar)
later c = pin_causes c.pins c.flips ++ (has_unknown (meaning c) c.pins c.flips, UnknownName) ∷ []

by_group : (c : ReadCell) (bar : Bar) → Some bar ≡ first_cause (group_causes c) → first_cause (causes c) ≡ Some bar
by_group c bar h = first_append (group_causes c) ((not (all_new [] (map pin_name c.pins)), DoublePin) ∷ later c) ∙ ap (λ o. or_else o (cond (not (all_new [] (map pin_name c.pins))) (Some DoublePin) (first_cause (later c)))) (sym h)

behind_group : (c : ReadCell) → first_cause (group_causes c) ≡ None → first_cause (causes c) ≡ cond (not (all_new [] (map pin_name c.pins))) (Some DoublePin) (first_cause (later c))
behind_group c h = first_append (group_causes c) ((not (all_new [] (map pin_name c.pins)), DoublePin) ∷ later c) ∙ ap (λ o. or_else o (cond (not (all_new [] (map pin_name c.pins))) (Some DoublePin) (first_cause (later c)))) h

behind_names : (c : ReadCell) → first_cause (group_causes c) ≡ None → all_new [] (map pin_name c.pins) ≡ true → first_cause (causes c) ≡ or_else (first_cause (pin_causes c.pins c.flips)) (cond (has_unknown (meaning c) c.pins c.flips) (Some UnknownName) None)
behind_names c h k =
    behind_group c h ∙ (ap (λ b. cond (not b) (Some DoublePin) (first_cause (later c))) k ∙ first_append (pin_causes c.pins c.flips) ((has_unknown (meaning c) c.pins c.flips, UnknownName) ∷ []))

pub group_bars : (name : Text) (r : RawCell) (bar : Bar) → Some bar ≡ first_cause (group_causes (raw_cell r)) → barred_cell name bar ≡ judged name (raw_cell r)
group_bars name r bar h = sym (ap (by_cause name (raw_cell r)) (by_group (raw_cell r) bar h))

pub double_bars : (name : Text) (r : RawCell) → first_cause (group_causes (raw_cell r)) ≡ None → all_new [] (names_in r.pins) ≡ false → barred_cell name DoublePin ≡ judged name (raw_cell r)
double_bars name r h k = sym (ap (by_cause name (raw_cell r)) (behind_group (raw_cell r) h ∙ ap (λ b. cond (not b) (Some DoublePin) (first_cause (later (raw_cell r)))) k))

pub pin_bars : (name : Text) (r : RawCell) (bar : Bar) → first_cause (group_causes (raw_cell r)) ≡ None → all_new [] (names_in r.pins) ≡ true → Some bar ≡ first_cause (raw_causes r.pins r.flips) → barred_cell name bar ≡ judged name (raw_cell r)
pin_bars name r bar h k e =
    let first : first_cause (pin_causes (map raw_pin r.pins) (map raw_flip r.flips)) ≡ Some bar = sym (e ∙ ap first_cause (causes_raw r.pins r.flips)) in
    sym (ap (by_cause name (raw_cell r)) (behind_names (raw_cell r) h k ∙ ap (λ o. or_else o (cond (has_unknown (meaning (raw_cell r)) (map raw_pin r.pins) (map raw_flip r.flips)) (Some UnknownName) None)) first))

unknown_case : (name : Text) (c : ReadCell) (b : Bool) → known_cell name (meaning c) c.pins c.flips b ≡ by_cause name c (cond b (Some UnknownName) None)
unknown_case name c true = refl
unknown_case name c false = refl

pub names_bar : (name : Text) (r : RawCell) → first_cause (group_causes (raw_cell r)) ≡ None → all_new [] (names_in r.pins) ≡ true → None ≡ first_cause (raw_causes r.pins r.flips)
    → known_cell name (meaning (raw_cell r)) (map raw_pin r.pins) (map raw_flip r.flips) (raw_unknown (meaning (raw_cell r)) r.pins r.flips) ≡ judged name (raw_cell r)
names_bar name r h k e =
    let first : first_cause (pin_causes (map raw_pin r.pins) (map raw_flip r.flips)) ≡ None = sym (e ∙ ap first_cause (causes_raw r.pins r.flips)) in
    ap (known_cell name (meaning (raw_cell r)) (map raw_pin r.pins) (map raw_flip r.flips)) (unknown_raw (meaning (raw_cell r)) r.pins r.flips)
    ∙ (unknown_case name (raw_cell r) (has_unknown (meaning (raw_cell r)) (map raw_pin r.pins) (map raw_flip r.flips))
    ∙ sym (ap (by_cause name (raw_cell r)) (behind_names (raw_cell r) h k ∙ ap (λ o. or_else o (cond (has_unknown (meaning (raw_cell r)) (map raw_pin r.pins) (map raw_flip r.flips)) (Some UnknownName) None)) first)))
