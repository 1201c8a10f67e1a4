-- Loops over what is left of a list.
use Rattle.std.proofs.Common.{◌≡◌, ◌<◌, ◌≤◌, ◌+◌, ◌++◌, ℕ, suc, Bool, not, cond, position, List, [], ◌∷◌, Option, Some, None, map, length, drop, get_or, slice_get, slice_index_or, add-one, drop-cons, refl, ap, sym, ◌∙◌, subst, Result, arith}
use Rattle.std.specs.List.{flat_map, prefix_len}
use Rattle.std.proofs.lemmas.List.{drop_all, length-map}
use Rattle.form_bits.specs.Forms.{Text, Look, look_in}
use Rattle.form_bits.specs.declared.types.Spot.{Spot}
use Rattle.form_bits.specs.declared.types.Bit.{Bit}
use Rattle.verilog_reader.specs.Plain.{PlainConnection}
use Rattle.cell_library.specs.Judged.{PlainPin, PlainCell}
use Rattle.bound_items.specs.Events.{Event, line}
use Rattle.bound_items.specs.Items.{plain_lines, bit_formula, function_lines, output_lines, cell_lines, state_wires, state_flops, pin_function, pin_counts, pins_count, state_events}
use Rattle.bound_items.specs.State.{State, after, with_line, Gives}
use Rattle.bound_items.specs.declared.netlist.Netlist.{Netlist}
use Rattle.bound_items.specs.declared.fault.BindFault.{BindFault}
use Rattle.bound_items.proofs.Gives.{after_append}

from_on : {X : Type 0} (xs : List X) (i : ℕ) (x : X) → x ≡ get_or xs i x → i < length xs → drop i xs ≡ x ∷ drop (i + 1) xs
from_on xs i x e h = let d = drop-cons xs i x h in let o : i + 1 ≡ suc i = add-one i in cc

-- plain equations

lines_split : (ts vs : List Bit) (i : ℕ) (t v : Bit) → t ≡ get_or ts i t → v ≡ get_or vs i v → i < length ts → i < length vs
    → plain_lines (drop i ts) (drop i vs) ≡ line (t, bit_formula v) ∷ plain_lines (drop (i + 1) ts) (drop (i + 1) vs)
lines_split ts vs i t v e f h k =
    ap (λ xs. plain_lines xs (drop i vs)) (from_on ts i t e h) ∙ ap (λ ys. plain_lines (t ∷ drop (i + 1) ts) ys) (from_on vs i v f k)

pub lines_on : (s n : State) (ts vs : List Bit) (i : ℕ) (t v : Bit) → t ≡ get_or ts i t → v ≡ get_or vs i v → i < length ts → i < length vs
    → n ≡ with_line s (t, bit_formula v)
    → after n (plain_lines (drop (i + 1) ts) (drop (i + 1) vs)) ≡ after s (plain_lines (drop i ts) (drop i vs))
lines_on s n ts vs i t v e f h k now =
    ap (λ m. after m (plain_lines (drop (i + 1) ts) (drop (i + 1) vs))) now ∙ sym (ap (λ es. after s es) (lines_split ts vs i t v e f h k))

lines_short : (ts : List Bit) → plain_lines ts [] ≡ []
lines_short [] = refl
lines_short (t ∷ ts) = refl

lines_past : (ts vs : List Bit) (i : ℕ) → length vs ≤ i → plain_lines ts (drop i vs) ≡ []
lines_past ts vs i h = ap (λ ys. plain_lines ts ys) (drop_all i vs h) ∙ lines_short ts

pub lines_end : (s : State) (ts vs : List Bit) (i : ℕ) → length vs ≤ i
    → after s (plain_lines (drop (i + 1) ts) (drop (i + 1) vs)) ≡ after s (plain_lines (drop i ts) (drop i vs))
lines_end s ts vs i h =
    let more : length vs ≤ i + 1 = omega arith in
    ap (λ es. after s es) (lines_past (drop (i + 1) ts) vs (i + 1) more ∙ sym (lines_past (drop i ts) vs i h))

pub lines_done : (s whole : State) (ts vs : List Bit) (i : ℕ) → length ts ≤ i → after s (plain_lines (drop i ts) (drop i vs)) ≡ whole → s ≡ whole
lines_done s whole ts vs i h all = sym (ap (λ xs. after s (plain_lines xs (drop i vs))) (drop_all i ts h)) ∙ all

-- events of one after another

flat_split : {X Y : Type 0} (f : Y → List Event) (view : X → Y) (xs : List X) (i : ℕ) (x : X) → x ≡ get_or xs i x → i < length xs
    → flat_map f (map view (drop i xs)) ≡ f (view x) ++ flat_map f (map view (drop (i + 1) xs))
flat_split f view xs i x e h = ap (λ ys. flat_map f (map view ys)) (from_on xs i x e h)

pub flat_on : {X Y : Type 0} (f : Y → List Event) (view : X → Y) (s n whole : State) (xs : List X) (i : ℕ) (x : X) → x ≡ get_or xs i x → i < length xs
    → after s (flat_map f (map view (drop i xs))) ≡ whole → n ≡ after s (f (view x))
    → after n (flat_map f (map view (drop (i + 1) xs))) ≡ whole
flat_on f view s n whole xs i x e h all now =
    ap (λ m. after m (flat_map f (map view (drop (i + 1) xs)))) now
    ∙ (sym (after_append s (f (view x)) (flat_map f (map view (drop (i + 1) xs))))
    ∙ (sym (ap (λ es. after s es) (flat_split f view xs i x e h)) ∙ all))

-- pins that count as wires

pub counts_on : {X : Type 0} (site : Text) (c : PlainCell) (bits : List (Option Bit)) (q : Option Bit) (view : X → PlainPin) (s n whole : State) (xs : List X) (i : ℕ) (x : X)
    → x ≡ get_or xs i x → i < length xs
    → after s (pins_count site c bits q i (map view (drop i xs))) ≡ whole → n ≡ after s (pin_counts site c bits q i (view x))
    → after n (pins_count site c bits q (i + 1) (map view (drop (i + 1) xs))) ≡ whole
counts_on site c bits q view s n whole xs i x e h all now =
    let rest : List Event = pins_count site c bits q (i + 1) (map view (drop (i + 1) xs)) in
    ap (λ m. after m rest) now
    ∙ (sym (after_append s (pin_counts site c bits q i (view x)) rest)
    ∙ (sym (ap (λ ys. after s (pins_count site c bits q i (map view ys))) (from_on xs i x e h)) ∙ all))

-- where p first passes in the values of a list

prefix_map : {X Y : Type 0} (p : Y → Bool) (f : X → Y) (xs : List X) → prefix_len p (map f xs) ≡ prefix_len (λ x. p (f x)) xs
prefix_map p f [] = refl
prefix_map p f (x ∷ xs) = ap (λ (n : ℕ). cond (p (f x)) (1 + n) 0) (prefix_map p f xs)

pub position_map : {X Y : Type 0} (p : Y → Bool) (f : X → Y) (xs : List X) → position p (map f xs) ≡ position (λ x. p (f x)) xs
position_map p f xs = rw (prefix_map (λ y. not (p y)) f xs, length-map xs f) refl

-- the equation of an output

pub output_some : (c : PlainCell) (bits operands : List (Option Bit)) (k : ℕ) (t : Bit) (p : PlainPin) → Some t ≡ slice_index_or bits k None → Some p ≡ slice_get c.pins k
    → function_lines operands (Some t) (pin_function (Some p)) ≡ output_lines c bits operands (Some k)
output_some c bits operands k t p e f =
    ap (λ b. function_lines operands b (pin_function (Some p))) e ∙ ap (λ o. function_lines operands (slice_index_or bits k None) (pin_function o)) f

pub output_none : (c : PlainCell) (bits operands : List (Option Bit)) (k : ℕ) (t : Bit) → Some t ≡ slice_index_or bits k None → None ≡ slice_get c.pins k
    → [] ≡ output_lines c bits operands (Some k)
output_none c bits operands k t e f =
    ap (λ b. function_lines operands b None) e ∙ ap (λ o. function_lines operands (slice_index_or bits k None) (pin_function o)) f

-- what a cell gives, part by part

three : (s a b n : State) (xs ys zs : List Event) → a ≡ after s xs → b ≡ after a ys → n ≡ after b zs → n ≡ after s (xs ++ (ys ++ zs))
three s a b n xs ys zs e f g =
    g ∙ (ap (λ t. after t zs) (f ∙ ap (λ t. after t ys) e) ∙ sym (after_append s xs (ys ++ zs) ∙ after_append (after s xs) ys zs))

pub site_done : (site : Text) (c : PlainCell) (pins : List PlainConnection) (bits operands : List (Option Bit)) (q : Option Bit) (s a b n : State)
    → operands ≡ bits ++ q ∷ [] → a ≡ after s (flat_map (cell_lines c bits operands) pins) → b ≡ after a (state_flops bits c.state q)
    → n ≡ after b (pins_count site c bits q 0 c.pins) → n ≡ after s (state_events site c pins bits q)
site_done site c pins bits operands q s a b n o e f g =
    three s a b n (flat_map (cell_lines c bits (bits ++ q ∷ [])) pins) (state_flops bits c.state q) (pins_count site c bits q 0 c.pins)
    (e ∙ ap (λ xs. after s (flat_map (cell_lines c bits xs) pins)) o) f g

pub at_bits : (s : State) (site : Text) (c : PlainCell) (pins : List PlainConnection) (b bits : List (Option Bit)) (q state : Option Bit) (r : Result Netlist BindFault)
    → b ≡ bits → q ≡ state → Gives s (state_wires site c c.state ++ state_events site c pins b q) r → Gives s (state_wires site c c.state ++ state_events site c pins bits state) r
at_bits s site c pins b bits q state r e f g =
    subst (λ (x : List (Option Bit)). Gives s (state_wires site c c.state ++ state_events site c pins x state) r) e
    (subst (λ (y : Option Bit). Gives s (state_wires site c c.state ++ state_events site c pins b y) r) f g)

-- the pins of a cell, where a face has them
pub same_face : (P : Look → Type 0) (names mine : List Text) (spots own : List Spot) → names ≡ mine → spots ≡ own → P (look_in names spots) → P (look_in mine own)
same_face P names mine spots own e f p =
    subst (λ (ss : List Spot). P (look_in mine ss)) f (subst (λ (ns : List Text). P (look_in ns spots)) e p)
