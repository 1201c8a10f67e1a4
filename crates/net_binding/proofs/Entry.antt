-- The walk into an instance of a module, and out of it.
use Rattle.std.proofs.Common.{◌≡◌, ◌+◌, ◌-◌, ◌<◌, ◌||◌, ◌++◌, ℕ, zero, suc, Bool, cond, true, false, List, [], ◌∷◌, Option, Some, None, map, length, drop, reverse, slice_get, nat_le, refl, ap, sym, ◌∙◌, arith, ◌==◌, subst}
use Rattle.std.specs.List.{flat_map, list_any}
use Rattle.std.proofs.lemmas.Bool.Decides.{nat_tests}
use Rattle.std.proofs.lemmas.List.{append_assoc, append-nil}
use Rattle.verilog_reader.specs.declared.design.Attribute.{Attribute}
use Rattle.verilog_reader.specs.Plain.{PlainConnection, PlainItem, declare, assign, instance, PlainModule}
use Rattle.form_bits.specs.Forms.{Text, Look, or_else}
use Rattle.module_outlines.specs.Outlines.{module_bits, module_names, module_ports}
use Rattle.bound_items.specs.Events.{Event, broken, first_broken, count_wires}
use Rattle.bound_items.specs.Items.{unless, pins_broken, in_lines, out_lines, port_counts, before_events, entered, dotted}
use Rattle.bound_items.specs.State.{State, after}
use Rattle.bound_items.specs.declared.fault.BindFault.{BindFault}
use Rattle.bound_items.specs.declared.fault.BindFault.TheVariants.{Recursive}
use Rattle.net_binding.specs.Walk.{Parts, walk, inside_events, is_recursive, module_at, thing_events, item_events, items_events, body_events, module_number, design_events}
use Rattle.net_binding.specs.Rest.{path_of, next_frame, frame_events, own_of, own, behind, behind_in, behind_item, outside, pending, Goes}
use Rattle.net_binding.specs.declared.frame.Frame.{Frame}
use Rattle.net_binding.proofs.Calm.{Calm, calm_append, calm_breaks, calm_count, count_append, calm_ins, calm_outs, calm_ports, count_wire_list}
use Rattle.net_binding.proofs.Goes.{broken_front, goes_front, names_after, pending_item, no_drop, next_pending}

-- a frame at the first item of a module
abbrev pub first_frame : (k n : ℕ) → Text → Frame
first_frame k n prefix = record { number = k; item = 0; base = n; prefix = prefix }

less_one : (l k : ℕ) → k < l → l - k ≡ suc (l - suc k)
less_one l k h = omega arith

entered_walk : (P : Parts) (fs : List Frame) (prefix : Text) (n k : ℕ) (m : PlainModule) → slice_get P.modules k ≡ Some m → length (path_of fs) < length P.modules
    → walk P (length P.modules - length (path_of fs)) (k ∷ path_of fs) prefix n ≡ entered prefix m ++ own P (first_frame k n prefix) fs 0 (n + length (module_bits m))
entered_walk P fs prefix n k m e h =
    let less : ℕ = length P.modules - suc (length (path_of fs)) in
    let d : length P.modules - length (path_of fs) ≡ suc less = less_one (length P.modules) (length (path_of fs)) h in
    let f : Frame = first_frame k n prefix in
    ap (λ x. walk P x (k ∷ path_of fs) prefix n) d
    ∙ (ap (λ o. body_events P (walk P less) (k ∷ path_of fs) prefix n o) e ∙ ap (λ xs. entered prefix m ++ xs) (sym (ap (λ o. own_of P f fs 0 (n + length (module_bits m)) o) e)))

or_right : (a b : Bool) → (a || b) ≡ false → b ≡ false
or_right true b e = absurd (let no : true ≡ false = e in cc)
or_right false b e = e

le_false : (a b : ℕ) → nat_le a b ≡ false → b < a
le_false a b e = grind (arith, nat_tests)

pub shorter : (P : Parts) (path : List ℕ) (k : ℕ) → is_recursive P path k ≡ false → length path < length P.modules
shorter P path k e = le_false (length P.modules) (length path) (or_right (list_any (λ j. j == k) path) (nat_le (length P.modules) (length path)) e)

-- what an instance of a module gives, where its connections break no rule
inside_is : (s : State) (ins counts es mine outs : List Event) (o : Option BindFault) → first_broken s.names (unless o (ins ++ counts) ++ es) ≡ None
    → unless o (ins ++ (counts ++ ((es ++ mine) ++ outs))) ≡ (unless o (ins ++ counts) ++ es) ++ (mine ++ outs)
inside_is s ins counts es mine outs None h =
    ap (λ x. ins ++ (counts ++ x)) (append_assoc es mine outs) ∙ (sym (append_assoc ins counts (es ++ (mine ++ outs))) ∙ sym (append_assoc (ins ++ counts) es (mine ++ outs)))
inside_is s ins counts es mine outs (Some f) h = absurd (let no : Some f ≡ None = h in cc)

inside_breaks : (s : State) (ins counts es mine outs rest : List Event) (o : Option BindFault) (f : BindFault) → first_broken s.names (unless o (ins ++ counts) ++ es) ≡ Some f
    → first_broken s.names (unless o (ins ++ (counts ++ ((es ++ mine) ++ outs))) ++ rest) ≡ Some f
inside_breaks s ins counts es mine outs rest None f h =
    let one : ins ++ (counts ++ ((es ++ mine) ++ outs)) ≡ ((ins ++ counts) ++ es) ++ (mine ++ outs) =
    ap (λ x. ins ++ (counts ++ x)) (append_assoc es mine outs) ∙ (sym (append_assoc ins counts (es ++ (mine ++ outs))) ∙ sym (append_assoc (ins ++ counts) es (mine ++ outs))) in
    ap (λ x. first_broken s.names (x ++ rest)) one
    ∙ broken_front s (((ins ++ counts) ++ es) ++ (mine ++ outs)) rest f (broken_front s ((ins ++ counts) ++ es) (mine ++ outs) f h)
inside_breaks s ins counts es mine outs rest (Some g) f h = h

zero_less : (n : ℕ) → 0 + n ≡ n
zero_less n = omega arith

front_count : (s : State) (calm es : List Event) (o : Option BindFault) → Calm calm → first_broken s.names (unless o calm ++ es) ≡ None → count_wires (unless o calm ++ es) ≡ count_wires es
front_count s calm es None c h = count_append calm es ∙ (ap (λ k. k + count_wires es) (calm_count calm c) ∙ zero_less (count_wires es))
front_count s calm es (Some f) c h = absurd (let no : Some f ≡ None = h in cc)

-- an instance of a module as an item
pub module_item : (P : Parts) (f : Frame) (fs : List Frame) (m inside : PlainModule) (a : List Attribute) (cell name : Text) (pins : List PlainConnection) (k n : ℕ)
    → module_number P.modules cell ≡ Some k → slice_get P.modules k ≡ Some inside
    → frame_events P f fs m n (instance a cell name pins)
    ≡ cond (is_recursive P (path_of (f ∷ fs)) k) (broken (Recursive cell) ∷ []) (inside_events (walk P (length P.modules - length (path_of (f ∷ fs)))) (path_of (f ∷ fs)) (f.prefix ++ name) inside k (module_names m) f.base n pins)
module_item P f fs m inside a cell name pins k n e h =
    ap (λ o. thing_events P (walk P (length P.modules - length (path_of (f ∷ fs)))) (path_of (f ∷ fs)) (f.prefix ++ name) cell (module_names m) f.base n pins o) e
    ∙ ap (λ o. module_at P (walk P (length P.modules - length (path_of (f ∷ fs)))) (path_of (f ∷ fs)) (f.prefix ++ name) cell k (module_names m) f.base n pins o) h

pub recursive_broken : (P : Parts) (f : Frame) (fs : List Frame) (m inside : PlainModule) (a : List Attribute) (cell name : Text) (pins : List PlainConnection) (k : ℕ) (s : State)
    → slice_get P.modules f.number ≡ Some m → slice_get m.items f.item ≡ Some (instance a cell name pins)
    → module_number P.modules cell ≡ Some k → slice_get P.modules k ≡ Some inside → is_recursive P (path_of (f ∷ fs)) k ≡ true
    → first_broken s.names (pending P f fs (length s.names)) ≡ Some (Recursive cell)
recursive_broken P f fs m inside a cell name pins k s e i h j r =
    let n : ℕ = length s.names in
    let es : List Event = frame_events P f fs m n (instance a cell name pins) in
    let rest : List Event = pending P (next_frame f) fs (n + count_wires es) in
    let item : es ≡ broken (Recursive cell) ∷ [] =
    module_item P f fs m inside a cell name pins k n h j
    ∙ ap (λ b. cond b (broken (Recursive cell) ∷ []) (inside_events (walk P (length P.modules - length (path_of (f ∷ fs)))) (path_of (f ∷ fs)) (f.prefix ++ name) inside k (module_names m) f.base n pins)) r in
    ap (λ xs. first_broken s.names xs) (pending_item P f fs m (instance a cell name pins) n e i) ∙ ap (λ xs. first_broken s.names (xs ++ rest)) item

-- what an instance gives before the first item inside
abbrev pub front : (f : Frame) (m inside : PlainModule) (name : Text) (pins : List PlainConnection) (n : ℕ) → List Event
front f m inside name pins n = before_events (f.prefix ++ name) inside (module_names m) f.base n pins ++ entered (dotted (f.prefix ++ name) []) inside

-- the events of an instance of a module that is not on the path
entry : (P : Parts) (f : Frame) (fs : List Frame) (m inside : PlainModule) (a : List Attribute) (cell name : Text) (pins : List PlainConnection) (k n : ℕ)
    → module_number P.modules cell ≡ Some k → slice_get P.modules k ≡ Some inside → is_recursive P (path_of (f ∷ fs)) k ≡ false
    → frame_events P f fs m n (instance a cell name pins)
    ≡ unless (pins_broken (f.prefix ++ name) (module_ports inside) (module_names m) [] pins)
    (flat_map (in_lines inside n (module_names m) f.base) pins ++ (flat_map (port_counts (f.prefix ++ name) inside (module_names m) f.base pins) inside.ports
    ++ ((entered (dotted (f.prefix ++ name) []) inside ++ own P (first_frame k n (dotted (f.prefix ++ name) [])) (f ∷ fs) 0 (n + length (module_bits inside))) ++ flat_map (out_lines inside n (module_names m) f.base) pins)))
entry P f fs m inside a cell name pins k n h j r =
    let site : Text = f.prefix ++ name in
    let path : List ℕ = path_of (f ∷ fs) in
    module_item P f fs m inside a cell name pins k n h j
    ∙ (ap (λ b. cond b (broken (Recursive cell) ∷ []) (inside_events (walk P (length P.modules - length path)) path site inside k (module_names m) f.base n pins)) r
    ∙ ap (λ xs. unless (pins_broken site (module_ports inside) (module_names m) [] pins) (flat_map (in_lines inside n (module_names m) f.base) pins ++ (flat_map (port_counts site inside (module_names m) f.base pins) inside.ports ++ (xs ++ flat_map (out_lines inside n (module_names m) f.base) pins))))
    (entered_walk P (f ∷ fs) (dotted site []) n k inside j (shorter P path k r)))

pub entry_broken : (P : Parts) (f : Frame) (fs : List Frame) (m inside : PlainModule) (a : List Attribute) (cell name : Text) (pins : List PlainConnection) (k : ℕ) (s : State) (fault : BindFault)
    → slice_get P.modules f.number ≡ Some m → slice_get m.items f.item ≡ Some (instance a cell name pins)
    → module_number P.modules cell ≡ Some k → slice_get P.modules k ≡ Some inside → is_recursive P (path_of (f ∷ fs)) k ≡ false
    → first_broken s.names (front f m inside name pins (length s.names)) ≡ Some fault
    → first_broken s.names (pending P f fs (length s.names)) ≡ Some fault
entry_broken P f fs m inside a cell name pins k s fault e i h j r b =
    let n : ℕ = length s.names in
    let es : List Event = frame_events P f fs m n (instance a cell name pins) in
    let rest : List Event = pending P (next_frame f) fs (n + count_wires es) in
    let prefix : Text = dotted (f.prefix ++ name) [] in
    let ins : List Event = flat_map (in_lines inside n (module_names m) f.base) pins in
    let counts : List Event = flat_map (port_counts (f.prefix ++ name) inside (module_names m) f.base pins) inside.ports in
    let outs : List Event = flat_map (out_lines inside n (module_names m) f.base) pins in
    let o : Option BindFault = pins_broken (f.prefix ++ name) (module_ports inside) (module_names m) [] pins in
    let inner : List Event = own P (first_frame k n prefix) (f ∷ fs) 0 (n + length (module_bits inside)) in
    ap (λ xs. first_broken s.names xs) (pending_item P f fs m (instance a cell name pins) n e i)
    ∙ (ap (λ xs. first_broken s.names (xs ++ rest)) (entry P f fs m inside a cell name pins k n h j r)
    ∙ inside_breaks s ins counts (entered prefix inside) inner outs rest o fault b)

-- what comes behind an instance
behind_is : (P : Parts) (f : Frame) (m inside : PlainModule) (a : List Attribute) (cell name : Text) (pins : List PlainConnection) (k n : ℕ) (prefix : Text)
    → slice_get P.modules f.number ≡ Some m → slice_get m.items f.item ≡ Some (instance a cell name pins) → slice_get P.modules k ≡ Some inside
    → behind P (first_frame k n prefix) f ≡ flat_map (out_lines inside n (module_names m) f.base) pins
behind_is P f m inside a cell name pins k n prefix e i j =
    ap (λ o. behind_in (first_frame k n prefix) f o (slice_get P.modules f.number)) j
    ∙ (ap (λ o. behind_in (first_frame k n prefix) f (Some inside) o) e ∙ ap (λ o. behind_item (first_frame k n prefix) f inside m o) i)

all_wires : (n t a r b c w : ℕ) → t ≡ a + r → r ≡ b + c → a ≡ w → c ≡ 0 → n + t ≡ n + w + b
all_wires n t a r b c w p q u v = omega arith

pub entry_goes : (P : Parts) (f : Frame) (fs : List Frame) (m inside : PlainModule) (a : List Attribute) (cell name : Text) (pins : List PlainConnection) (k : ℕ) (s t : State)
    → slice_get P.modules f.number ≡ Some m → slice_get m.items f.item ≡ Some (instance a cell name pins)
    → module_number P.modules cell ≡ Some k → slice_get P.modules k ≡ Some inside → is_recursive P (path_of (f ∷ fs)) k ≡ false
    → first_broken s.names (front f m inside name pins (length s.names)) ≡ None → t ≡ after s (front f m inside name pins (length s.names))
    → Goes s (pending P f fs (length s.names)) t (pending P (first_frame k (length s.names) (dotted (f.prefix ++ name) [])) (f ∷ fs) (length t.names))
entry_goes P f fs m inside a cell name pins k s t e i h j r b t_is =
    let n : ℕ = length s.names in
    let prefix : Text = dotted (f.prefix ++ name) [] in
    let g : Frame = first_frame k n prefix in
    let es : List Event = frame_events P f fs m n (instance a cell name pins) in
    let fr : List Event = front f m inside name pins n in
    let ins : List Event = flat_map (in_lines inside n (module_names m) f.base) pins in
    let counts : List Event = flat_map (port_counts (f.prefix ++ name) inside (module_names m) f.base pins) inside.ports in
    let outs : List Event = flat_map (out_lines inside n (module_names m) f.base) pins in
    let o : Option BindFault = pins_broken (f.prefix ++ name) (module_ports inside) (module_names m) [] pins in
    let inner : List Event = own P g (f ∷ fs) 0 (n + length (module_bits inside)) in
    let es_is : es ≡ fr ++ (inner ++ outs) = entry P f fs m inside a cell name pins k n h j r ∙ inside_is s ins counts (entered prefix inside) inner outs o b in
    let width : count_wires fr ≡ length (module_bits inside) =
    front_count s (ins ++ counts) (entered prefix inside) o (calm_append ins counts (calm_ins inside n (module_names m) f.base pins) (calm_ports (f.prefix ++ name) inside (module_names m) f.base pins inside.ports)) b
    ∙ count_wire_list prefix (module_bits inside) in
    let names : length t.names ≡ n + length (module_bits inside) = ap (λ (u : State). length u.names) t_is ∙ (names_after s fr ∙ ap (λ x. n + x) width) in
    let c : count_wires outs ≡ 0 = calm_count outs (calm_outs inside n (module_names m) f.base pins) in
    let all : n + count_wires (fr ++ (inner ++ outs)) ≡ n + length (module_bits inside) + count_wires inner =
    all_wires n (count_wires (fr ++ (inner ++ outs))) (count_wires fr) (count_wires (inner ++ outs)) (count_wires inner) (count_wires outs) (length (module_bits inside)) (count_append fr (inner ++ outs)) (count_append inner outs) width c in
    let last : ℕ = n + length (module_bits inside) + count_wires inner in
    let left : pending P f fs n ≡ fr ++ (inner ++ (outs ++ pending P (next_frame f) fs last)) =
    pending_item P f fs m (instance a cell name pins) n e i
    ∙ (ap (λ xs. xs ++ pending P (next_frame f) fs (n + count_wires xs)) es_is
    ∙ (ap (λ x. (fr ++ (inner ++ outs)) ++ pending P (next_frame f) fs x) all
    ∙ (append_assoc fr (inner ++ outs) (pending P (next_frame f) fs last) ∙ ap (λ xs. fr ++ xs) (append_assoc inner outs (pending P (next_frame f) fs last))))) in
    let right : pending P g (f ∷ fs) (n + length (module_bits inside)) ≡ inner ++ (outs ++ pending P (next_frame f) fs last) =
    ap (λ xs. inner ++ (xs ++ (own P f fs (f.item + 1) last ++ outside P f fs (last + count_wires (own P f fs (f.item + 1) last))))) (behind_is P f m inside a cell name pins k n prefix e i j)
    ∙ ap (λ xs. inner ++ (outs ++ xs)) (sym (next_pending P f fs last)) in
    let whole : pending P f fs n ≡ fr ++ pending P g (f ∷ fs) (length t.names) =
    left ∙ (ap (λ xs. fr ++ xs) (sym right) ∙ ap (λ x. fr ++ pending P g (f ∷ fs) x) (sym names)) in
    subst (λ xs. Goes s xs t (pending P g (f ∷ fs) (length t.names))) (sym whole) (goes_front s t fr (pending P g (f ∷ fs) (length t.names)) b t_is)

-- the end of a module

no_own : (P : Parts) (f : Frame) (fs : List Frame) (m : PlainModule) (n : ℕ) → slice_get P.modules f.number ≡ Some m → slice_get m.items f.item ≡ None → own P f fs f.item n ≡ []
no_own P f fs m n e i = ap (λ o. own_of P f fs f.item n o) e ∙ ap (λ is. items_events (frame_events P f fs m) n is) (no_drop m.items f.item i)

pub end_goes : (P : Parts) (f : Frame) (m : PlainModule) (s : State) → slice_get P.modules f.number ≡ Some m → slice_get m.items f.item ≡ None → Goes s (pending P f [] (length s.names)) s []
end_goes P f m s e i =
    let whole : pending P f [] (length s.names) ≡ [] = ap (λ xs. xs ++ []) (no_own P f [] m (length s.names) e i) in
    subst (λ xs. Goes s xs s []) (sym whole) (refl, refl)

calm_behind_item : (f g : Frame) (inside m : PlainModule) (o : Option PlainItem) → Calm (behind_item f g inside m o)
calm_behind_item f g inside m None = tt
calm_behind_item f g inside m (Some (declare a w r ns)) = tt
calm_behind_item f g inside m (Some (assign a l r)) = tt
calm_behind_item f g inside m (Some (instance a cell name pins)) = calm_outs inside f.base (module_names m) g.base pins

calm_behind_in : (f g : Frame) (inside m : Option PlainModule) → Calm (behind_in f g inside m)
calm_behind_in f g None m = tt
calm_behind_in f g (Some inside) None = tt
calm_behind_in f g (Some inside) (Some m) = calm_behind_item f g inside m (slice_get m.items g.item)

none_more : (n k : ℕ) → k ≡ 0 → n + k ≡ n
none_more n k e = omega arith

pub out_goes : (P : Parts) (f g : Frame) (gs : List Frame) (m : PlainModule) (s t : State) → slice_get P.modules f.number ≡ Some m → slice_get m.items f.item ≡ None → t ≡ after s (behind P f g)
    → Goes s (pending P f (g ∷ gs) (length s.names)) t (pending P (next_frame g) gs (length t.names))
out_goes P f g gs m s t e i t_is =
    let n : ℕ = length s.names in
    let es : List Event = behind P f g in
    let calm : Calm es = calm_behind_in f g (slice_get P.modules f.number) (slice_get P.modules g.number) in
    let names : length t.names ≡ n = ap (λ (u : State). length u.names) t_is ∙ (names_after s es ∙ none_more n (count_wires es) (calm_count es calm)) in
    let zero_more : n + 0 ≡ n = none_more n 0 refl in
    let left : pending P f (g ∷ gs) n ≡ es ++ (own P g gs (g.item + 1) n ++ outside P g gs (n + count_wires (own P g gs (g.item + 1) n))) =
    ap (λ xs. xs ++ outside P f (g ∷ gs) (n + count_wires xs)) (no_own P f (g ∷ gs) m n e i) ∙ ap (λ x. outside P f (g ∷ gs) x) zero_more in
    let right = next_pending P g gs n in
    let whole : pending P f (g ∷ gs) n ≡ es ++ pending P (next_frame g) gs (length t.names) =
    left ∙ (ap (λ xs. es ++ xs) (sym right) ∙ ap (λ x. es ++ pending P (next_frame g) gs x) (sym names)) in
    subst (λ xs. Goes s xs t (pending P (next_frame g) gs (length t.names))) (sym whole) (goes_front s t es (pending P (next_frame g) gs (length t.names)) (calm_breaks s.names es calm) t_is)

-- the whole walk

minus_none : (n : ℕ) → n ≡ n - 0
minus_none n = omega arith

pub design_is : (P : Parts) (k : ℕ) (m : PlainModule) → slice_get P.modules k ≡ Some m → 0 < length P.modules
    → design_events P k ≡ entered [] m ++ pending P (first_frame k 0 []) [] (length (module_bits m))
design_is P k m e h =
    let inner : List Event = own P (first_frame k 0 []) [] 0 (length (module_bits m)) in
    ap (λ x. walk P x (k ∷ []) [] 0) (minus_none (length P.modules)) ∙ (entered_walk P [] [] 0 k m e h ∙ (ap (λ x. entered [] m ++ own P (first_frame k 0 []) [] 0 x) (zero_less (length (module_bits m))) ∙ ap (λ xs. entered [] m ++ xs) (sym (append-nil inner))))
