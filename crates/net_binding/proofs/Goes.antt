-- How a walk goes on.
use Rattle.std.proofs.Common.{◌≡◌, ◌+◌, ◌-◌, ◌<◌, ◌||◌, ◌++◌, ℕ, zero, suc, Bool, cond, true, false, List, [], ◌∷◌, Option, Some, None, map, length, drop, reverse, slice_get, nat_le, refl, ap, sym, ◌∙◌, arith, subst}
use Rattle.std.specs.List.{flat_map, list_any}
use Rattle.std.proofs.lemmas.Bool.{or_parts, le-ltb}
use Rattle.std.proofs.lemmas.List.{append_assoc, length-append}
use Rattle.verilog_reader.specs.Plain.{PlainConnection, PlainItem, declare, assign, instance, PlainModule}
use Rattle.form_bits.specs.Forms.{Text, Look, or_else}
use Rattle.module_rules.specs.Items.{is_among}
use Rattle.module_outlines.specs.Outlines.{module_bits, module_names, module_ports}
use Rattle.bound_items.specs.Events.{Event, wire, broken, line, flop, pin, first_broken, count_wires}
use Rattle.bound_items.specs.Items.{unless, pins_broken, in_lines, out_lines, port_counts, before_events, entered, dotted}
use Rattle.bound_items.specs.State.{State, after, with_wire, with_line, with_flop, with_pin, UnlessMemory}
use Rattle.bound_items.specs.declared.fault.BindFault.{BindFault}
use Rattle.bound_items.specs.declared.fault.BindFault.TheVariants.{UnknownCell, UnknownPin, UnknownWire, Driven, Width, Top, Recursive, BarredCell, Clash, Memory}
use Rattle.net_binding.specs.Walk.{Parts, walk, inside_events, is_recursive, module_at, thing_events, item_events, items_events, body_events, module_number}
use Rattle.net_binding.specs.Rest.{path_of, next_frame, frame_events, own_of, own, behind, behind_in, behind_item, outside, pending, Goes, item_module, plain_events, pins_of}
use Rattle.net_binding.specs.declared.frame.Frame.{Frame}
use Rattle.net_binding.proofs.Calm.{Calm, calm_append, calm_breaks, calm_count, count_append, calm_ins, calm_outs, calm_ports, count_wire_list}

pub after_append : (s : State) (xs ys : List Event) → after s (xs ++ ys) ≡ after (after s xs) ys
after_append s [] ys = refl
after_append s (wire n ∷ es) ys = after_append (with_wire s n) es ys
after_append s (broken f ∷ es) ys = after_append s es ys
after_append s (line l ∷ es) ys = after_append (with_line s l) es ys
after_append s (flop f ∷ es) ys = after_append (with_flop s f) es ys
after_append s (pin n d ∷ es) ys = after_append (with_pin s n d) es ys

cond_or : {X : Type 0} (b : Bool) (x : X) (o p : Option X) → cond b (Some x) (or_else o p) ≡ or_else (cond b (Some x) o) p
cond_or true x o p = refl
cond_or false x o p = refl

pub broken_append : (s : State) (xs ys : List Event) → first_broken s.names (xs ++ ys) ≡ or_else (first_broken s.names xs) (first_broken (after s xs).names ys)
broken_append s [] ys = refl
broken_append s (wire n ∷ es) ys =
    ap (λ o. cond (is_among s.names n) (Some (Clash n)) o) (broken_append (with_wire s n) es ys)
    ∙ cond_or (is_among s.names n) (Clash n) (first_broken (s.names ++ n ∷ []) es) (first_broken (after (with_wire s n) es).names ys)
broken_append s (broken f ∷ es) ys = refl
broken_append s (line l ∷ es) ys = broken_append (with_line s l) es ys
broken_append s (flop f ∷ es) ys = broken_append (with_flop s f) es ys
broken_append s (pin n d ∷ es) ys = broken_append (with_pin s n d) es ys

pub map_unless : (f : BindFault) (P Q : Type 0) → (P → Q) → UnlessMemory f P → UnlessMemory f Q
map_unless (UnknownCell i c) P Q g p = g p
map_unless (UnknownPin i c) P Q g p = g p
map_unless (UnknownWire n) P Q g p = g p
map_unless (Driven n d) P Q g p = g p
map_unless (Width l r) P Q g p = g p
map_unless (Top n) P Q g p = g p
map_unless (Recursive m) P Q g p = g p
map_unless (BarredCell i c b) P Q g p = g p
map_unless (Clash n) P Q g p = g p
map_unless Memory P Q g p = tt

no_more : (n : ℕ) → n ≡ n + 0
no_more n = omega arith

one_more : (n k : ℕ) → n + 1 + k ≡ n + suc k
one_more n k = omega arith

-- how many names there are
pub names_after : (s : State) (es : List Event) → length (after s es).names ≡ length s.names + count_wires es
names_after s [] = no_more (length s.names)
names_after s (wire n ∷ es) =
    let rest : length (after (with_wire s n) es).names ≡ length (s.names ++ n ∷ []) + count_wires es = names_after (with_wire s n) es in
    let one : length (s.names ++ n ∷ []) ≡ length s.names + 1 = length-append s.names (n ∷ []) in
    rest ∙ (ap (λ k. k + count_wires es) one ∙ one_more (length s.names) (count_wires es))
names_after s (broken f ∷ es) = names_after s es
names_after s (line l ∷ es) = names_after (with_line s l) es
names_after s (flop f ∷ es) = names_after (with_flop s f) es
names_after s (pin n d ∷ es) = names_after (with_pin s n d) es

-- events in front of others
pub goes_front : (s t : State) (es rest : List Event) → first_broken s.names es ≡ None → t ≡ after s es → Goes s (es ++ rest) t rest
goes_front s t es rest h e = (
  broken_append s es rest ∙ (ap (λ o. or_else o (first_broken (after s es).names rest)) h ∙ ap (λ (u : State). first_broken u.names rest) (sym e)),
  after_append s es rest ∙ ap (λ (u : State). after u rest) (sym e),
)

pub broken_front : (s : State) (es rest : List Event) (f : BindFault) → first_broken s.names es ≡ Some f → first_broken s.names (es ++ rest) ≡ Some f
broken_front s es rest f h = broken_append s es rest ∙ ap (λ o. or_else o (first_broken (after s es).names rest)) h

pub goes_then : (s t u : State) (es fs gs : List Event) → Goes s es t fs → Goes t fs u gs → Goes s es u gs
goes_then s t u es fs gs h k = (h.0 ∙ k.0, h.1 ∙ k.1)

-- lists

pub get_drop : {X : Type 0} (xs : List X) (k : ℕ) (x : X) → slice_get xs k ≡ Some x → drop k xs ≡ x ∷ drop (suc k) xs
get_drop [] k x e = absurd (let no : None ≡ Some x = e in cc)
get_drop (y ∷ ys) zero x e = let same : y ≡ x = (let it : Some y ≡ Some x = e in cc) in ap (λ z. z ∷ ys) same
get_drop (y ∷ ys) (suc k) x e = get_drop ys k x e

pub no_drop : {X : Type 0} (xs : List X) (k : ℕ) → slice_get xs k ≡ None → drop k xs ≡ []
no_drop [] zero e = refl
no_drop [] (suc k) e = refl
no_drop (y ∷ ys) zero e = absurd (let no : Some y ≡ None = e in cc)
no_drop (y ∷ ys) (suc k) e = no_drop ys k e

next_own : (P : Parts) (f : Frame) (fs : List Frame) (k n : ℕ) (o : Option PlainModule) → own_of P (next_frame f) fs k n o ≡ own_of P f fs k n o
next_own P f fs k n None = refl
next_own P f fs k n (Some m) = refl

next_item : (f g : Frame) (inside m : PlainModule) (o : Option PlainItem) → behind_item (next_frame f) g inside m o ≡ behind_item f g inside m o
next_item f g inside m None = refl
next_item f g inside m (Some i) = refl

next_behind : (f g : Frame) (inside m : Option PlainModule) → behind_in (next_frame f) g inside m ≡ behind_in f g inside m
next_behind f g None m = refl
next_behind f g (Some inside) None = refl
next_behind f g (Some inside) (Some m) = next_item f g inside m (slice_get m.items g.item)

next_outside : (P : Parts) (f : Frame) (fs : List Frame) (n : ℕ) → outside P (next_frame f) fs n ≡ outside P f fs n
next_outside P f [] n = refl
next_outside P f (g ∷ gs) n =
    ap (λ xs. xs ++ (own P g gs (g.item + 1) n ++ outside P g gs (n + count_wires (own P g gs (g.item + 1) n)))) (next_behind f g (slice_get P.modules f.number) (slice_get P.modules g.number))

-- behind an item
pub next_pending : (P : Parts) (f : Frame) (fs : List Frame) (n : ℕ) → pending P (next_frame f) fs n ≡ own P f fs (f.item + 1) n ++ outside P f fs (n + count_wires (own P f fs (f.item + 1) n))
next_pending P f fs n =
    ap (λ xs. xs ++ outside P (next_frame f) fs (n + count_wires xs)) (next_own P f fs (f.item + 1) n (slice_get P.modules f.number))
    ∙ ap (λ xs. own P f fs (f.item + 1) n ++ xs) (next_outside P f fs (n + count_wires (own P f fs (f.item + 1) n)))

add_three : (n t a b : ℕ) → t ≡ a + b → n + t ≡ n + a + b
add_three n t a b e = omega arith

-- an item, and what comes behind it
pub own_item : (P : Parts) (f : Frame) (fs : List Frame) (m : PlainModule) (i : PlainItem) (n : ℕ)
    → slice_get P.modules f.number ≡ Some m → slice_get m.items f.item ≡ Some i
    → own P f fs f.item n ≡ frame_events P f fs m n i ++ own P f fs (f.item + 1) (n + count_wires (frame_events P f fs m n i))
own_item P f fs m i n e h =
    let es : List Event = frame_events P f fs m n i in
    let one : suc f.item ≡ f.item + 1 = omega arith in
    let left : own P f fs f.item n ≡ items_events (frame_events P f fs m) n (drop f.item m.items) = ap (λ o. own_of P f fs f.item n o) e in
    let right : own P f fs (f.item + 1) (n + count_wires es) ≡ items_events (frame_events P f fs m) (n + count_wires es) (drop (f.item + 1) m.items) = ap (λ o. own_of P f fs (f.item + 1) (n + count_wires es) o) e in
    left ∙ (ap (λ is. items_events (frame_events P f fs m) n is) (get_drop m.items f.item i h)
    ∙ (ap (λ k. es ++ items_events (frame_events P f fs m) (n + count_wires es) (drop k m.items)) one ∙ ap (λ r. es ++ r) (sym right)))

pub pending_item : (P : Parts) (f : Frame) (fs : List Frame) (m : PlainModule) (i : PlainItem) (n : ℕ)
    → slice_get P.modules f.number ≡ Some m → slice_get m.items f.item ≡ Some i
    → pending P f fs n ≡ frame_events P f fs m n i ++ pending P (next_frame f) fs (n + count_wires (frame_events P f fs m n i))
pending_item P f fs m i n e h =
    let es : List Event = frame_events P f fs m n i in
    let o : List Event = own P f fs (f.item + 1) (n + count_wires es) in
    let count : n + count_wires (es ++ o) ≡ n + count_wires es + count_wires o = add_three n (count_wires (es ++ o)) (count_wires es) (count_wires o) (count_append es o) in
    ap (λ xs. xs ++ outside P f fs (n + count_wires xs)) (own_item P f fs m i n e h)
    ∙ (append_assoc es o (outside P f fs (n + count_wires (es ++ o)))
    ∙ (ap (λ k. es ++ (o ++ outside P f fs k)) count ∙ ap (λ r. es ++ r) (sym (next_pending P f fs (n + count_wires es)))))

-- an item that is no instance of a module

pub plain_is : (P : Parts) (f : Frame) (fs : List Frame) (m : PlainModule) (n : ℕ) (i : PlainItem) → item_module P i ≡ None → frame_events P f fs m n i ≡ plain_events P f.prefix (module_names m) f.base n i
plain_is P f fs m n (declare a w r ns) e = refl
plain_is P f fs m n (assign a l r) e = refl
plain_is P f fs m n (instance a cell name pins) e =
    ap (λ o. thing_events P (walk P (length P.modules - length (path_of (f ∷ fs)))) (path_of (f ∷ fs)) (f.prefix ++ name) cell (module_names m) f.base n pins o) e

pub stay_goes : (P : Parts) (f : Frame) (fs : List Frame) (m : PlainModule) (i : PlainItem) (s t : State)
    → slice_get P.modules f.number ≡ Some m → slice_get m.items f.item ≡ Some i → item_module P i ≡ None
    → first_broken s.names (plain_events P f.prefix (module_names m) f.base (length s.names) i) ≡ None
    → t ≡ after s (plain_events P f.prefix (module_names m) f.base (length s.names) i)
    → Goes s (pending P f fs (length s.names)) t (pending P (next_frame f) fs (length t.names))
stay_goes P f fs m i s t e h k b a =
    let es : List Event = plain_events P f.prefix (module_names m) f.base (length s.names) i in
    let all : pending P f fs (length s.names) ≡ es ++ pending P (next_frame f) fs (length s.names + count_wires es) =
    pending_item P f fs m i (length s.names) e h ∙ ap (λ xs. xs ++ pending P (next_frame f) fs (length s.names + count_wires xs)) (plain_is P f fs m (length s.names) i k) in
    let count : length s.names + count_wires es ≡ length t.names = sym (names_after s es) ∙ ap (λ (u : State). length u.names) (sym a) in
    let whole : pending P f fs (length s.names) ≡ es ++ pending P (next_frame f) fs (length t.names) = all ∙ ap (λ n. es ++ pending P (next_frame f) fs n) count in
    subst (λ xs. Goes s xs t (pending P (next_frame f) fs (length t.names))) (sym whole) (goes_front s t es (pending P (next_frame f) fs (length t.names)) b a)

pub stay_broken : (P : Parts) (f : Frame) (fs : List Frame) (m : PlainModule) (i : PlainItem) (s : State) (fault : BindFault)
    → slice_get P.modules f.number ≡ Some m → slice_get m.items f.item ≡ Some i → item_module P i ≡ None
    → first_broken s.names (plain_events P f.prefix (module_names m) f.base (length s.names) i) ≡ Some fault
    → first_broken s.names (pending P f fs (length s.names)) ≡ Some fault
stay_broken P f fs m i s fault e h k b =
    let es : List Event = plain_events P f.prefix (module_names m) f.base (length s.names) i in
    let all : pending P f fs (length s.names) ≡ es ++ pending P (next_frame f) fs (length s.names + count_wires es) =
    pending_item P f fs m i (length s.names) e h ∙ ap (λ xs. xs ++ pending P (next_frame f) fs (length s.names + count_wires xs)) (plain_is P f fs m (length s.names) i k) in
    ap (λ xs. first_broken s.names xs) all ∙ broken_front s es (pending P (next_frame f) fs (length s.names + count_wires es)) fault b
