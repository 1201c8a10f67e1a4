-- Flags tell which pins a cell reads.
use Rattle.std.proofs.Common.{◌≡◌, ◌<◌, ◌≤◌, ◌+◌, ◌++◌, ◌||◌, ℕ, zero, suc, Bool, true, false, List, [], ◌∷◌, Option, Some, None, map, length, drop, fold, replicate, get_or, slice_index_or, add-one, drop-cons, refl, ap, sym, ◌∙◌, subst, arith}
use Rattle.std.specs.Prelude.{◌==◌}
use Rattle.std.specs.List.{list_any}
use Rattle.std.proofs.lemmas.Bool.{cases_eq, eq-eqb, ne_eqb}
use Rattle.std.proofs.lemmas.List.{get_or-set_same, get_or-set_other, length-replicate, get_or-replicate, drop_all}
use Rattle.std.proofs.lemmas.List.Folds.{list_any-append}
use Rattle.std.proofs.lemmas.List.Sums.{fold-append}
use Rattle.std.proofs.Math.ListN.{length-set}
use mathlib.Core.Logic.{⊎_elim}
use Rattle.agm_net.specs.Formula.{Formula, f_zero, f_one, f_wire, f_not, f_and, f_or, f_xor, f_mux, stands}
use Rattle.form_bits.specs.declared.types.Bit.{Bit}
use Rattle.cell_library.specs.Judged.{PlainPin, PlainState, PlainCell}
use Rattle.wire_drivers.specs.Wiring.{wires_in}
use Rattle.bound_items.specs.Items.{pin_function, function_reads, outputs_read, state_reads}
use Rattle.bound_items.specs.Reads.{function_pins, output_pins, state_pins, marked, read_flags, AreReads}

or_false : (a : Bool) → (a || false) ≡ a
or_false true = refl
or_false false = refl

or_assoc : (a b c : Bool) → ((a || b) || c) ≡ (a || (b || c))
or_assoc true b c = refl
or_assoc false b c = refl

or_here : (a e x : Bool) → e ≡ true → (true || x) ≡ (a || (e || x))
or_here true e x h = refl
or_here false e x h = sym (ap (λ b. b || x) h)

-- whether a number stands in a list
abbrev has : ℕ → List ℕ → Bool
has k ws = list_any (λ w. w == k) ws

has_append : (k : ℕ) (xs ys : List ℕ) → has k (xs ++ ys) ≡ (has k xs || has k ys)
has_append k xs ys = list_any-append (λ w. w == k) xs ys

-- flags that are marked one after another
marked_list : (ws : List ℕ) (flags : List Bool) (k : ℕ) → k < length flags → get_or (fold marked flags ws) k false ≡ (get_or flags k false || has k ws)
marked_list [] flags k within = sym (or_false (get_or flags k false))
marked_list (b ∷ bs) flags k within =
    let long = length-set flags b true in
    let rest : get_or (fold marked (marked flags b) bs) k false ≡ (get_or (marked flags b) k false || has k bs) = marked_list bs (marked flags b) k (omega arith) in
    ⊎_elim
    (λ same.
    let here : get_or (marked flags b) k false ≡ true = subst (λ (v : ℕ). get_or (marked flags v) k false ≡ true) (sym same) (get_or-set_same flags k true false within) in
    rest ∙ (ap (λ x. x || has k bs) here ∙ or_here (get_or flags k false) (b == k) (has k bs) (eq-eqb b k same)))
    (λ other.
    let here : get_or (marked flags b) k false ≡ get_or flags k false = get_or-set_other flags b k true false (λ e. other (sym e)) in
    rest ∙ (ap (λ x. x || has k bs) here ∙ sym (ap (λ x. get_or flags k false || (x || has k bs)) (ne_eqb b k other))))
    (cases_eq b k)

-- a wire stands in a formula where it is among its wires
has_wires : (k : ℕ) (f : Formula) → has k (wires_in f) ≡ stands k f
has_wires k f_zero = refl
has_wires k f_one = refl
has_wires k (f_wire w) = or_false (w == k)
has_wires k (f_not x) = has_wires k x
has_wires k (f_and x y) = let a = has_wires k x in let b = has_wires k y in has_append k (wires_in x) (wires_in y) ∙ cc
has_wires k (f_or x y) = let a = has_wires k x in let b = has_wires k y in has_append k (wires_in x) (wires_in y) ∙ cc
has_wires k (f_xor x y) = let a = has_wires k x in let b = has_wires k y in has_append k (wires_in x) (wires_in y) ∙ cc
has_wires k (f_mux s x y) =
    let a = has_wires k s in let b = has_wires k x in let c = has_wires k y in
    has_append k (wires_in s) (wires_in x ++ wires_in y) ∙ (ap (λ t. has k (wires_in s) || t) (has_append k (wires_in x) (wires_in y)) ∙ cc)

has_function : (k : ℕ) (b : Option Bit) (f : Option Formula) → has k (function_pins b f) ≡ function_reads k b f
has_function k None f = refl
has_function k (Some t) None = refl
has_function k (Some t) (Some f) = has_wires k f

has_outputs : (k : ℕ) (bs : List (Option Bit)) (ps : List PlainPin) → has k (output_pins bs ps) ≡ outputs_read k bs ps
has_outputs k [] ps = refl
has_outputs k (b ∷ bs) [] = refl
has_outputs k (b ∷ bs) (p ∷ ps) =
    has_append k (function_pins b (pin_function (Some p))) (output_pins bs ps)
    ∙ (ap (λ x. x || has k (output_pins bs ps)) (has_function k b (pin_function (Some p))) ∙ ap (λ x. function_reads k b (pin_function (Some p)) || x) (has_outputs k bs ps))

has_state : (k : ℕ) (s : Option PlainState) (q : Option Bit) → has k (state_pins s q) ≡ state_reads s q k
has_state k None q = refl
has_state k (Some s) None = refl
has_state k (Some s) (Some q) =
    has_append k (wires_in s.next) (s.clock ∷ [])
    ∙ (ap (λ x. x || (s.clock == k || false)) (has_wires k s.next) ∙ ap (λ x. stands k s.next || x) (or_false (s.clock == k)))

-- flags of all pins that are read tell of each
pub are_reads : (c : PlainCell) (bits : List (Option Bit)) (q : Option Bit) (flags : List Bool) → flags ≡ read_flags c bits q → AreReads flags c bits q
are_reads c bits q flags flags_are k within =
    let n : ℕ = length c.pins in
    let all : List ℕ = output_pins bits c.pins ++ state_pins c.state q in
    let here : k < length (replicate n false) = let long = length-replicate n false in omega arith in
    let none : get_or (replicate n false) k false ≡ false = get_or-replicate n k false false within in
    ap (λ x. get_or x k false) flags_are
    ∙ (marked_list all (replicate n false) k here
    ∙ (ap (λ x. x || has k all) none
    ∙ (has_append k (output_pins bits c.pins) (state_pins c.state q)
    ∙ (ap (λ x. x || has k (state_pins c.state q)) (has_outputs k bits c.pins) ∙ ap (λ x. outputs_read k bits c.pins || x) (has_state k c.state q)))))

-- one pin more

outputs_split : (bs : List (Option Bit)) (i : ℕ) (p : PlainPin) (ps : List PlainPin)
    → output_pins (drop i bs) (p ∷ ps) ≡ function_pins (slice_index_or bs i None) (pin_function (Some p)) ++ output_pins (drop (suc i) bs) ps
outputs_split [] zero p ps = refl
outputs_split [] (suc i) p ps = refl
outputs_split (b ∷ bs) zero p ps = refl
outputs_split (b ∷ bs) (suc i) p ps = outputs_split bs i p ps

no_pins : (bs : List (Option Bit)) → output_pins bs [] ≡ []
no_pins [] = refl
no_pins (b ∷ bs) = refl

pub marks_on : {X : Type 0} (view : X → PlainPin) (flags new whole : List Bool) (bs : List (Option Bit)) (xs : List X) (i : ℕ) (x : X) → x ≡ get_or xs i x → i < length xs
    → fold marked flags (output_pins (drop i bs) (map view (drop i xs))) ≡ whole
    → new ≡ fold marked flags (function_pins (slice_index_or bs i None) (pin_function (Some (view x))))
    → fold marked new (output_pins (drop (i + 1) bs) (map view (drop (i + 1) xs))) ≡ whole
marks_on view flags new whole bs xs i x e h all now =
    let here : List ℕ = function_pins (slice_index_or bs i None) (pin_function (Some (view x))) in
    let rest : List ℕ = output_pins (drop (suc i) bs) (map view (drop (suc i) xs)) in
    let front : drop i xs ≡ x ∷ drop (suc i) xs = (let d = drop-cons xs i x h in cc) in
    let split : output_pins (drop i bs) (map view (drop i xs)) ≡ here ++ rest =
    ap (λ ys. output_pins (drop i bs) (map view ys)) front ∙ outputs_split bs i (view x) (map view (drop (suc i) xs)) in
    ap (λ j. fold marked new (output_pins (drop j bs) (map view (drop j xs)))) (add-one i)
    ∙ (ap (λ x. fold marked x rest) now
    ∙ (sym (fold-append marked flags here rest) ∙ (sym (ap (λ ws. fold marked flags ws) split) ∙ all)))

pub marks_done : {X : Type 0} (view : X → PlainPin) (flags whole : List Bool) (bs : List (Option Bit)) (xs : List X) (i : ℕ) → length xs ≤ i
    → fold marked flags (output_pins (drop i bs) (map view (drop i xs))) ≡ whole → flags ≡ whole
marks_done view flags whole bs xs i h all =
    sym (ap (λ ys. fold marked flags (output_pins (drop i bs) (map view ys))) (drop_all i xs h) ∙ ap (λ ws. fold marked flags ws) (no_pins (drop i bs))) ∙ all
