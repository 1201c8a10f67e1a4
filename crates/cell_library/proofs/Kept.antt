-- What is kept of each cell that a text spells.
use Rattle.std.proofs.Common.{◌≡◌, ◌||◌, ◌&&◌, ℕ, Bool, true, false, not, cond, List, [], ◌∷◌, Option, Some, None, map, length, position, slice_get, refl, sym, ap, ◌∙◌, eq-eqb}
use Rattle.std.specs.List.{AllByRecursion, list_all, list_any}
use Rattle.std.specs.Option.{is_some}
use Rattle.std.specs.Str.{bytes_eq}
use Rattle.std.proofs.lemmas.Bool.{and_from, and_parts, or_left, or_right}
use Rattle.std.proofs.lemmas.List.{length-map}
use Rattle.std.proofs.lemmas.Option.{slice_get-map}
use Rattle.std.specs.Option.{option_map}
use Rattle.agm_net.specs.Formula.{Formula, f_wire, f_not}
use Rattle.agm_net.specs.declared.port.Way.{Way}
use Rattle.agm_net.specs.declared.port.Way.TheVariants.{Input, Output}
use Rattle.cell_function.specs.Tree.{Tree, t_constant, t_pin, t_not, t_and, t_or, t_xor}
use Rattle.cell_library.specs.Texts.{Text, NamedCell, cells_of}
use Rattle.cell_library.specs.Read.{ReadPin, ReadFlip, ReadCell, Pairwise}
use Rattle.cell_library.specs.Judged as judged
use Rattle.cell_library.specs.Judged.{PlainPin, PlainState, PlainCell, all_new, pin_name, is_out, input_at, input_found, input_number, second_formula, state_formula, states_of, or_else, wire_in, meaning_in, meaning, is_known, formula, or_zero, is_unread, is_unknown, has_clock, is_clocked, causes, first_cause, plain_function, plain_pin, clock_number, plain_state, barred_cell, good_cell, by_cause}
use Rattle.cell_library.specs.Kept.{is_input_pin, may_read, reads_only, function_fits, pin_fits, state_fits, plain_name, is_kept}
use Rattle.cell_library.specs.Spelled.{Spelled, Means}
use Rattle.cell_library.specs.declared.types.Bar.{Bar}
use Rattle.cell_library.proofs.Lists.{map_map}

-- neither of two that are not both false
neither : (a b : Bool) → a || b ≡ false → (a ≡ false) × (b ≡ false)
neither true b h = absurd (cc)
neither false b h = (refl, h)

from_not : (a : Bool) → not a ≡ false → a ≡ true
from_not true h = refl
from_not false h = absurd (cc)

-- where none is the first cause, each fails
none_holds : (b : Bool) (bar : Bar) (more : Option Bar) → cond b (Some bar) more ≡ None → (b ≡ false) × (more ≡ None)
none_holds true bar more h = absurd (cc)
none_holds false bar more h = (refl, h)

none_hold : (cs : List (Bool × Bar)) → first_cause cs ≡ None → AllByRecursion (λ c. c.0 ≡ false) cs
none_hold [] e = tt
none_hold (c ∷ cs) e = let h = none_holds c.0 c.1 (first_cause cs) e in (h.0, none_hold cs h.1)

-- a number that a name has is that of an input pin
at_input : (pins : List ReadPin) (o : Option ReadPin) (j k : ℕ) → slice_get pins j ≡ o → input_at o j ≡ Some k → (p : ReadPin) × (slice_get pins k ≡ Some p) × (p.way ≡ Some Input)
at_input pins None j k e h = absurd (cc)
at_input pins (Some p) j k e h = by_way p p.way e refl h
  where
    by_way : (p : ReadPin) (way : Option Way) → slice_get pins j ≡ Some p → p.way ≡ way → cond (judged.is_in way) (Some j) None ≡ Some k → (p : ReadPin) × (slice_get pins k ≡ Some p) × (p.way ≡ Some Input)
    by_way p (Some Input) e w h = let same : j ≡ k = cc in (p, ap (slice_get pins) (sym same) ∙ e, w)
    by_way p (Some Output) e w h = absurd (cc)
    by_way p None e w h = absurd (cc)

found_input : (pins : List ReadPin) (o : Option ℕ) (k : ℕ) → input_found pins o ≡ Some k → (p : ReadPin) × (slice_get pins k ≡ Some p) × (p.way ≡ Some Input)
found_input pins None k h = absurd (cc)
found_input pins (Some j) k h = at_input pins (slice_get pins j) j k refl h

input_is : (look : Text → Option Formula) (pins : List ReadPin) (name : Text) (k : ℕ) → input_number pins name ≡ Some k → is_input_pin (slice_get (map (plain_pin look) pins) k) ≡ true
input_is look pins name k h =
    let at = found_input pins (position (λ n. bytes_eq n name) (map pin_name pins)) k h in
    ap is_input_pin (slice_get-map (plain_pin look) pins k ∙ ap (option_map (plain_pin look)) at.1) ∙ ap (λ way. is_input_pin (Some (record { name = at.0.name; way = judged.way_or_input way; function = plain_function look at.0.function }))) at.2

-- a function whose names are known reads what they stand for
module _ (look : Text → Option Formula) (passes : ℕ → Bool) (fits : (n : Text) (f : Formula) → look n ≡ Some f → reads_only passes f ≡ true) where
  looked : (n : Text) (o : Option Formula) → look n ≡ o → is_some o ≡ true → reads_only passes (or_zero o) ≡ true
  looked n None e h = absurd (cc)
  looked n (Some f) e h = fits n f e

  tree_reads : (t : Tree) → is_known look t ≡ true → reads_only passes (formula look t) ≡ true
  tree_reads (t_constant true) h = refl
  tree_reads (t_constant false) h = refl
  tree_reads (t_pin n) h = looked n (look n) refl h
  tree_reads (t_not x) h = tree_reads x h
  tree_reads (t_and x y) h = let both = and_parts (is_known look x) (is_known look y) h in and_from _ _ (tree_reads x both.0) (tree_reads y both.1)
  tree_reads (t_or x y) h = let both = and_parts (is_known look x) (is_known look y) h in and_from _ _ (tree_reads x both.0) (tree_reads y both.1)
  tree_reads (t_xor x y) h = let both = and_parts (is_known look x) (is_known look y) h in and_from _ _ (tree_reads x both.0) (tree_reads y both.1)

  -- a pin that no cause bars
  way_fits : (way : Option Way) (said : Option (Option Tree)) → is_out way && not (is_some said) ≡ false → is_unread said ≡ false → is_unknown look said ≡ false
      → (Rattle.agm_net.specs.Plain.is_in (judged.way_or_input way) || is_some (plain_function look said)) && function_fits passes (plain_function look said) ≡ true
  way_fits None None out read known = refl
  way_fits (Some Input) None out read known = refl
  way_fits (Some Output) None out read known = absurd (cc)
  way_fits way (Some None) out read known = absurd (cc)
  way_fits None (Some (Some t)) out read known = tree_reads t (from_not _ known)
  way_fits (Some Input) (Some (Some t)) out read known = tree_reads t (from_not _ known)
  way_fits (Some Output) (Some (Some t)) out read known = tree_reads t (from_not _ known)

  pins_fit : (ps : List ReadPin) → list_any (λ p. is_out p.way && not (is_some p.function)) ps ≡ false → list_any (λ p. is_unread p.function) ps ≡ false → list_any (λ p. is_unknown look p.function) ps ≡ false
      → list_all (pin_fits passes) (map (plain_pin look) ps) ≡ true
  pins_fit [] out read known = refl
  pins_fit (p ∷ ps) out read known =
      let a = neither (is_out p.way && not (is_some p.function)) (list_any (λ p. is_out p.way && not (is_some p.function)) ps) out in
      let b = neither (is_unread p.function) (list_any (λ p. is_unread p.function) ps) read in
      let c = neither (is_unknown look p.function) (list_any (λ p. is_unknown look p.function) ps) known in
      and_from _ _ (way_fits p.way p.function a.0 b.0 c.0) (pins_fit ps a.1 b.1 c.1)

  next_fits : (said : Option (Option Tree)) → is_unknown look said ≡ false → reads_only passes (or_zero (plain_function look said)) ≡ true
  next_fits None known = refl
  next_fits (Some None) known = refl
  next_fits (Some (Some t)) known = tree_reads t (from_not _ known)

  -- and a state
  clock_fits : (pins : List ReadPin) (clock : Option Text) → has_clock pins clock ≡ true → is_input_pin (slice_get (map (plain_pin look) pins) (clock_number pins clock)) ≡ true
  clock_fits pins None h = absurd (cc)
  clock_fits pins (Some name) h = numbered (input_number pins name) refl h
    where
      numbered : (o : Option ℕ) → input_number pins name ≡ o → is_some o ≡ true → is_input_pin (slice_get (map (plain_pin look) pins) (judged.number_or_zero o)) ≡ true
      numbered None e h = absurd (cc)
      numbered (Some k) e h = input_is look pins name k e

  state_is_fit : (pins : List ReadPin) (flips : List ReadFlip) → list_any (λ f. not (is_clocked pins f)) flips ≡ false → list_any (λ f. is_unknown look f.next) flips ≡ false
      → state_fits (map (plain_pin look) pins) passes (plain_state look pins flips) ≡ true
  state_is_fit pins [] clocked known = refl
  state_is_fit pins (f ∷ fs) clocked known =
      let a = neither (not (is_clocked pins f)) (list_any (λ f. not (is_clocked pins f)) fs) clocked in
      let b = neither (is_unknown look f.next) (list_any (λ f. is_unknown look f.next) fs) known in
      let clock = and_parts (not f.has_second_clock) (has_clock pins f.clocked_on) (from_not _ a.0) in
      and_from _ _ (clock_fits pins f.clocked_on clock.1) (next_fits f.next b.0)

-- what a name stands for may be read
named_state : (passes : ℕ → Bool) (wire : ℕ) (states : List Text) (name : Text) (f : Formula) → state_formula wire states name ≡ Some f → ((a : Text) (more : List Text) → states ≡ a ∷ more → passes wire ≡ true) → reads_only passes f ≡ true
named_state passes wire [] name f h ok = absurd (cc)
named_state passes wire (a ∷ more) name f h ok = first (bytes_eq a name) h
  where
    here : passes wire ≡ true
    here = ok a more refl

    second : (b : Bool) → cond b (Some (f_not (f_wire wire))) None ≡ Some f → reads_only passes f ≡ true
    second true h = let same : f_not (f_wire wire) ≡ f = cc in ap (reads_only passes) (sym same) ∙ here
    second false h = absurd (cc)

    later : (more : List Text) → second_formula wire more name ≡ Some f → reads_only passes f ≡ true
    later [] h = absurd (cc)
    later (b ∷ bs) h = second (bytes_eq b name) h

    first : (b : Bool) → cond b (Some (f_wire wire)) (second_formula wire more name) ≡ Some f → reads_only passes f ≡ true
    first true h = let same : f_wire wire ≡ f = cc in ap (reads_only passes) (sym same) ∙ here
    first false h = later more h

state_is_there : (look : Text → Option Formula) (pins : List ReadPin) (flips : List ReadFlip) (a : Text) (more : List Text) → states_of flips ≡ a ∷ more → is_some (plain_state look pins flips) ≡ true
state_is_there look pins [] a more e = absurd (cc)
state_is_there look pins (f ∷ fs) a more e = refl

meaning_fits : (c : ReadCell) (name : Text) (f : Formula) → meaning c name ≡ Some f
    → reads_only (may_read (map (plain_pin (meaning c)) c.pins) (plain_state (meaning c) c.pins c.flips)) f ≡ true
meaning_fits c name f h = by_number (input_number c.pins name) refl h
  where
    pins : List PlainPin
    pins = map (plain_pin (meaning c)) c.pins

    state : Option PlainState
    state = plain_state (meaning c) c.pins c.flips

    by_number : (o : Option ℕ) → input_number c.pins name ≡ o → or_else (wire_in o) (state_formula (length c.pins) (states_of c.flips) name) ≡ Some f → reads_only (may_read pins state) f ≡ true
    by_number (Some k) e h =
        let same : f_wire k ≡ f = cc in
        ap (reads_only (may_read pins state)) (sym same) ∙ or_left _ _ (input_is (meaning c) c.pins name k e)
    by_number None e h =
        named_state (may_read pins state) (length c.pins) (states_of c.flips) name f h
        (λ a more s. or_right _ _ (and_from _ _ (state_is_there (meaning c) c.pins c.flips a more s) (eq-eqb (length c.pins) (length pins) (sym (length-map c.pins (plain_pin (meaning c)))))))

-- a cell that no cause bars
good_kept : (name : Text) (c : ReadCell) → first_cause (causes c) ≡ None → is_kept (good_cell name (meaning c) c.pins c.flips) ≡ true
good_kept name c e =
    let fails = none_hold (causes c) e in
    let behind = fails.1.1.1.1.1 in
    let pins = behind.1 in
    let lacks = neither (list_any (λ p. is_out p.way && not (is_some p.function)) c.pins) (list_any (λ f. not (is_some f.next)) c.flips) pins.1.1.1.1.0 in
    let unread = neither (list_any (λ p. is_unread p.function) c.pins) (list_any (λ f. is_unread f.next) c.flips) pins.1.1.1.1.1.0 in
    let other = neither (list_any (λ p. is_unknown (meaning c) p.function) c.pins) (list_any (λ f. is_unknown (meaning c) f.next) c.flips) pins.1.1.1.1.1.1.0 in
    let look = meaning c in
    let passes = may_read (map (plain_pin look) c.pins) (plain_state look c.pins c.flips) in
    let names : all_new [] (map plain_name (map (plain_pin look) c.pins)) ≡ true = ap (all_new []) (map_map plain_name (plain_pin look) c.pins) ∙ from_not _ behind.0 in
    and_from _ _ names (and_from _ _ (pins_fit look passes (meaning_fits c) c.pins lacks.0 unread.0 other.0) (state_is_fit look passes (meaning_fits c) c.pins c.flips pins.1.1.1.0 other.1))

judged_kept : (name : Text) (c : ReadCell) (o : Option Bar) → first_cause (causes c) ≡ o → is_kept (by_cause name c o) ≡ true
judged_kept name c (Some bar) e = refl
judged_kept name c None e = good_kept name c e

-- and so for all cells
means_kept : (texts : List NamedCell) (cells : List PlainCell) → Pairwise Means texts cells → list_all is_kept cells ≡ true
means_kept [] [] h = refl
means_kept [] (c ∷ cs) h = absurd h
means_kept (t ∷ ts) [] h = absurd h
means_kept (t ∷ ts) (c ∷ cs) h =
    and_from _ _ (ap is_kept h.0.is_judged ∙ judged_kept t.name h.0.cell (first_cause (causes h.0.cell)) refl) (means_kept ts cs h.1)

pub spelled_kept : (bytes : List ℕ) (cells : List PlainCell) → Spelled bytes cells → list_all is_kept cells ≡ true
spelled_kept bytes cells s = means_kept (cells_of s.inner) cells s.mean
