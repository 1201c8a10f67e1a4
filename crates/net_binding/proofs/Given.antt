-- What the calls of a step give, put together.
use Rattle.std.proofs.Common.{◌≡◌, ◌<◌, ◌+◌, ◌++◌, ℕ, Bool, true, false, List, [], ◌∷◌, Option, Some, None, Result, Ok, Err, map, length, reverse, slice_get, refl, ap, sym, ◌∙◌, arith, subst}
use Rattle.std.specs.Option.{option_map}
use Rattle.std.proofs.lemmas.Option.{slice_get-map, slice_get_within}
use Rattle.cell_library.specs.declared.types.Cell.{Cell}
use Rattle.verilog_reader.specs.Plain.{PlainConnection, PlainItem, instance, PlainModule}
use Rattle.verilog_reader.specs.View.{item_view, module_view}
use Rattle.verilog_reader.specs.declared.design.Attribute.{Attribute}
use Rattle.verilog_reader.specs.declared.design.Item.{Item}
use Rattle.verilog_reader.specs.declared.design.Module.{Module}
use Rattle.form_bits.specs.Forms.{Text, Look, look_in}
use Rattle.module_outlines.specs.Outlines.{wides, wide_name, module_names, module_bits, inner_bits}
use Rattle.module_outlines.specs.View.{wide_view, Outlines}
use Rattle.module_outlines.specs.declared.wide.Wide as raw
use Rattle.module_outlines.specs.declared.outline.Outline.{Outline}
use Rattle.bound_items.specs.Events.{Event, wire, first_broken}
use Rattle.bound_items.specs.Items.{before_events, entered, dotted}
use Rattle.bound_items.specs.State.{State, state_of, after, nothing, UnlessMemory, Gives}
use Rattle.bound_items.specs.declared.netlist.Netlist.{Netlist}
use Rattle.bound_items.specs.declared.fault.BindFault.{BindFault}
use Rattle.bound_items.specs.declared.fault.BindFault.TheVariants.{Recursive}
use Rattle.net_binding.specs.Walk.{Parts, is_recursive, module_number, design_events}
use Rattle.net_binding.specs.Ready.{plain_parts}
use Rattle.net_binding.specs.Rest.{path_of, next_frame, pending, Goes, item_module, plain_events, behind}
use Rattle.net_binding.specs.declared.frame.Frame.{Frame}
use Rattle.net_binding.proofs.Goes.{map_unless, stay_goes, stay_broken, goes_front, broken_front, after_append, names_after}
use Rattle.net_binding.proofs.Calm.{count_wire_list}
use Rattle.net_binding.proofs.Entry.{first_frame, front, entry_goes, entry_broken, recursive_broken, end_goes, out_goes, design_is}

pub some_map : {X Y : Type 0} (v : X → Y) (xs : List X) (k : ℕ) (x : X) → slice_get xs k ≡ Some x → slice_get (map v xs) k ≡ Some (v x)
some_map v xs k x e = slice_get-map v xs k ∙ ap (λ o. option_map v o) e

pub none_map : {X Y : Type 0} (v : X → Y) (xs : List X) (k : ℕ) → slice_get xs k ≡ None → slice_get (map v xs) k ≡ None
none_map v xs k e = slice_get-map v xs k ∙ ap (λ o. option_map v o) e

pub look_is : (m : PlainModule) (o : Outline) → Outlines m o → look_in o.names.names o.names.spots ≡ module_names m
look_is m o h = ap (λ ns. look_in ns o.names.spots) h.names ∙ ap (λ ss. look_in (map wide_name (wides m)) ss) h.spots

abbrev pub plain_at : Parts → Frame → Outline → Item → State → List Event
plain_at P f o i s = plain_events P f.prefix (look_in o.names.names o.names.spots) f.base (length s.names) (item_view i)

plain_at_is : (P : Parts) (f : Frame) (own : Module) (o : Outline) (i : Item) (s : State) → Outlines (module_view own) o → plain_at P f o i s ≡ plain_events P f.prefix (module_names (module_view own)) f.base (length s.names) (item_view i)
plain_at_is P f own o i s h = ap (λ look. plain_events P f.prefix look f.base (length s.names) (item_view i)) (look_is (module_view own) o h)

pub stay_given : (modules : List Module) (cells : List Cell) (own : Module) (o : Outline) (i : Item) (f g : Frame) (fs : List Frame) (s t : State)
    → slice_get modules f.number ≡ Some own → Outlines (module_view own) o → slice_get own.items f.item ≡ Some i → item_module (plain_parts modules cells) (item_view i) ≡ None
    → (first_broken s.names (plain_at (plain_parts modules cells) f o i s) ≡ None) × (t ≡ after s (plain_at (plain_parts modules cells) f o i s)) → g ≡ next_frame f
    → Goes s (pending (plain_parts modules cells) f fs (length s.names)) t (pending (plain_parts modules cells) g fs (length t.names))
stay_given modules cells own o i f g fs s t e h k p b next =
    let P : Parts = plain_parts modules cells in
    let es_is = plain_at_is P f own o i s h in
    subst (λ x. Goes s (pending P f fs (length s.names)) t (pending P x fs (length t.names))) (sym next)
    (stay_goes P f fs (module_view own) (item_view i) s t (some_map module_view modules f.number own e) (some_map item_view own.items f.item i k) p
    (sym (ap (λ es. first_broken s.names es) es_is) ∙ b.0) (b.1 ∙ ap (λ es. after s es) es_is))

pub stay_fails : (modules : List Module) (cells : List Cell) (own : Module) (o : Outline) (i : Item) (f : Frame) (fs : List Frame) (s : State) (fault : BindFault)
    → slice_get modules f.number ≡ Some own → Outlines (module_view own) o → slice_get own.items f.item ≡ Some i → item_module (plain_parts modules cells) (item_view i) ≡ None
    → UnlessMemory fault (first_broken s.names (plain_at (plain_parts modules cells) f o i s) ≡ Some fault)
    → UnlessMemory fault (first_broken s.names (pending (plain_parts modules cells) f fs (length s.names)) ≡ Some fault)
stay_fails modules cells own o i f fs s fault e h k p b =
    let P : Parts = plain_parts modules cells in
    let es_is = plain_at_is P f own o i s h in
    map_unless fault _ _ (λ x. stay_broken P f fs (module_view own) (item_view i) s fault (some_map module_view modules f.number own e) (some_map item_view own.items f.item i k) p
    (sym (ap (λ es. first_broken s.names es) es_is) ∙ x)) b

-- what an instance gives before the first item inside, as it is given
abbrev pub front_at : Frame → Outline → (inside : PlainModule) → (site prefix : Text) → List PlainConnection → State → List Event
front_at f o inside site prefix pins s = before_events site inside (look_in o.names.names o.names.spots) f.base (length s.names) pins ++ entered prefix inside

front_is : (f : Frame) (m inside : PlainModule) (o : Outline) (name site empty prefix : Text) (pins : List PlainConnection) (s : State) → Outlines m o → site ≡ f.prefix ++ name → empty ≡ [] → prefix ≡ dotted site empty
    → front_at f o inside site prefix pins s ≡ front f m inside name pins (length s.names)
front_is f m inside o name site empty prefix pins s h a b c =
    ap (λ look. before_events site inside look f.base (length s.names) pins ++ entered prefix inside) (look_is m o h)
    ∙ (ap (λ x. before_events site inside (module_names m) f.base (length s.names) pins ++ entered x inside) (c ∙ ap (λ x. dotted site x) b)
    ∙ ap (λ x. before_events x inside (module_names m) f.base (length s.names) pins ++ entered (dotted x []) inside) a)

pub entry_given : (modules : List Module) (cells : List Cell) (own inside : Module) (o : Outline) (f : Frame) (outer more : List Frame) (a : List Attribute) (cell name site empty prefix : Text) (pins : List PlainConnection) (k base : ℕ) (s t : State)
    → slice_get modules f.number ≡ Some own → Outlines (module_view own) o → slice_get modules k ≡ Some inside
    → is_recursive (plain_parts modules cells) (path_of (f ∷ reverse outer)) k ≡ false
    → module_number (map module_view modules) cell ≡ Some k → slice_get (map item_view own.items) f.item ≡ Some (instance a cell name pins)
    → site ≡ f.prefix ++ name → empty ≡ [] → prefix ≡ dotted site empty → base ≡ length s.names → reverse more ≡ f ∷ reverse outer
    → (first_broken s.names (front_at f o (module_view inside) site prefix pins s) ≡ None) × (t ≡ after s (front_at f o (module_view inside) site prefix pins s))
    → Goes s (pending (plain_parts modules cells) f (reverse outer) (length s.names)) t (pending (plain_parts modules cells) (first_frame k base prefix) (reverse more) (length t.names))
entry_given modules cells own inside o f outer more a cell name site empty prefix pins k base s t e h j r mn i sa ea pa ba oa b =
    let P : Parts = plain_parts modules cells in
    let n : ℕ = length t.names in
    let es_is = front_is f (module_view own) (module_view inside) o name site empty prefix pins s h sa ea pa in
    let p : prefix ≡ dotted (f.prefix ++ name) [] = pa ∙ (ap (λ x. dotted site x) ea ∙ ap (λ x. dotted x []) sa) in
    let same : pending P (first_frame k base prefix) (reverse more) n ≡ pending P (first_frame k (length s.names) (dotted (f.prefix ++ name) [])) (f ∷ reverse outer) n =
    ap (λ x. pending P (first_frame k x prefix) (reverse more) n) ba
    ∙ (ap (λ x. pending P (first_frame k (length s.names) x) (reverse more) n) p ∙ ap (λ x. pending P (first_frame k (length s.names) (dotted (f.prefix ++ name) [])) x n) oa) in
    subst (λ xs. Goes s (pending P f (reverse outer) (length s.names)) t xs) (sym same)
    (entry_goes P f (reverse outer) (module_view own) (module_view inside) a cell name pins k s t (some_map module_view modules f.number own e) i mn (some_map module_view modules k inside j) r
    (sym (ap (λ es. first_broken s.names es) es_is) ∙ b.0) (b.1 ∙ ap (λ es. after s es) es_is))

pub entry_fails : (modules : List Module) (cells : List Cell) (own inside : Module) (o : Outline) (f : Frame) (outer : List Frame) (a : List Attribute) (cell name site empty prefix : Text) (pins : List PlainConnection) (k : ℕ) (s : State) (fault : BindFault)
    → slice_get modules f.number ≡ Some own → Outlines (module_view own) o → slice_get modules k ≡ Some inside
    → is_recursive (plain_parts modules cells) (path_of (f ∷ reverse outer)) k ≡ false
    → module_number (map module_view modules) cell ≡ Some k → slice_get (map item_view own.items) f.item ≡ Some (instance a cell name pins)
    → site ≡ f.prefix ++ name → empty ≡ [] → prefix ≡ dotted site empty
    → UnlessMemory fault (first_broken s.names (front_at f o (module_view inside) site prefix pins s) ≡ Some fault)
    → UnlessMemory fault (first_broken s.names (pending (plain_parts modules cells) f (reverse outer) (length s.names)) ≡ Some fault)
entry_fails modules cells own inside o f outer a cell name site empty prefix pins k s fault e h j r mn i sa ea pa b =
    let P : Parts = plain_parts modules cells in
    let es_is = front_is f (module_view own) (module_view inside) o name site empty prefix pins s h sa ea pa in
    map_unless fault _ _ (λ x. entry_broken P f (reverse outer) (module_view own) (module_view inside) a cell name pins k s fault (some_map module_view modules f.number own e) i mn (some_map module_view modules k inside j) r
    (sym (ap (λ es. first_broken s.names es) es_is) ∙ x)) b

pub recursive_given : (modules : List Module) (cells : List Cell) (own inside : Module) (f : Frame) (outer : List Frame) (a : List Attribute) (cell name : Text) (pins : List PlainConnection) (k : ℕ) (s : State)
    → slice_get modules f.number ≡ Some own → slice_get modules k ≡ Some inside
    → is_recursive (plain_parts modules cells) (path_of (f ∷ reverse outer)) k ≡ true
    → module_number (map module_view modules) cell ≡ Some k → slice_get (map item_view own.items) f.item ≡ Some (instance a cell name pins)
    → first_broken s.names (pending (plain_parts modules cells) f (reverse outer) (length s.names)) ≡ Some (Recursive cell)
recursive_given modules cells own inside f outer a cell name pins k s e j r mn i =
    recursive_broken (plain_parts modules cells) f (reverse outer) (module_view own) (module_view inside) a cell name pins k s (some_map module_view modules f.number own e) i mn (some_map module_view modules k inside j) r

pub end_given : (modules : List Module) (cells : List Cell) (own : Module) (f : Frame) (outer : List Frame) (s : State) → slice_get modules f.number ≡ Some own → slice_get own.items f.item ≡ None → reverse outer ≡ []
    → Goes s (pending (plain_parts modules cells) f (reverse outer) (length s.names)) s []
end_given modules cells own f outer s e i o =
    subst (λ xs. Goes s (pending (plain_parts modules cells) f xs (length s.names)) s []) (sym o)
    (end_goes (plain_parts modules cells) f (module_view own) s (some_map module_view modules f.number own e) (none_map item_view own.items f.item i))

pub out_given : (modules : List Module) (cells : List Cell) (own : Module) (f g h : Frame) (outer less : List Frame) (s t : State) → slice_get modules f.number ≡ Some own → slice_get own.items f.item ≡ None
    → reverse outer ≡ g ∷ reverse less → t ≡ after s (behind (plain_parts modules cells) f g) → h ≡ next_frame g
    → Goes s (pending (plain_parts modules cells) f (reverse outer) (length s.names)) t (pending (plain_parts modules cells) h (reverse less) (length t.names))
out_given modules cells own f g h outer less s t e i o b n =
    let P : Parts = plain_parts modules cells in
    subst (λ xs. Goes s (pending P f xs (length s.names)) t (pending P h (reverse less) (length t.names))) (sym o)
    (subst (λ x. Goes s (pending P f (g ∷ reverse less) (length s.names)) t (pending P x (reverse less) (length t.names))) (sym n)
    (out_goes P f g (reverse less) (module_view own) s t (some_map module_view modules f.number own e) (none_map item_view own.items f.item i) b))

-- a fault that is handed on
pub handed_on : {X : Type 0} (P : Result X BindFault → Type 0) (r : Result X BindFault) (f : BindFault) → (y : BindFault) × (r ≡ Err y) × (y ≡ f) → P (Err f) → P r
handed_on P r f told h = subst P (sym (told.1 ∙ ap Err told.2)) h

no_names : (k : ℕ) → 0 + k ≡ k
no_names k = omega arith

-- events one after the other
pub front_given : (s t : State) (xs ys zs : List Event) (r : Result Netlist BindFault) → (first_broken s.names xs ≡ None) × (t ≡ after s xs) → Gives t ys r → ys ≡ zs → Gives s (xs ++ zs) r
front_given s t xs ys zs (Ok n) b g e =
    let goes = goes_front s t xs zs b.0 b.1 in
    (goes.0 ∙ (sym (ap (λ es. first_broken t.names es) e) ∙ g.0), g.1 ∙ (ap (λ es. after t es) e ∙ sym goes.1))
front_given s t xs ys zs (Err f) b g e =
    let goes = goes_front s t xs zs b.0 b.1 in
    map_unless f _ _ (λ x. goes.0 ∙ (sym (ap (λ es. first_broken t.names es) e) ∙ x)) g

pub front_fails : (s : State) (xs zs : List Event) (f : BindFault) → UnlessMemory f (first_broken s.names xs ≡ Some f) → UnlessMemory f (first_broken s.names (xs ++ zs) ≡ Some f)
front_fails s xs zs f b = map_unless f _ _ (λ x. broken_front s xs zs f x) b

wires_of : (prefix : Text) (ts : List Text) → map (λ t. wire t) (map (λ t. prefix ++ t) ts) ≡ map (λ t. wire (prefix ++ t)) ts
wires_of prefix [] = refl
wires_of prefix (t ∷ ts) = ap (λ es. wire (prefix ++ t) ∷ es) (wires_of prefix ts)

-- the wires of a module by its outline
pub inner_is : (prefix : Text) (m : PlainModule) (o : Outline) (ws : List raw.Wide) → Outlines m o → ws ≡ o.wides → map (λ t. wire t) (inner_bits prefix (map wide_view ws)) ≡ entered prefix m
inner_is prefix m o ws h e =
    ap (λ xs. map (λ t. wire t) (inner_bits prefix (map wide_view xs))) e ∙ (ap (λ xs. map (λ t. wire t) (inner_bits prefix xs)) h.wides ∙ wires_of prefix (module_bits m))

abbrev pub first_wires : Text → List raw.Wide → List Event
first_wires prefix ws = map (λ t. wire t) (inner_bits prefix (map wide_view ws))

some_modules : (modules : List Module) (k : ℕ) (m : Module) → slice_get modules k ≡ Some m → 0 < length (map module_view modules)
some_modules modules k m e = let h = slice_get_within (map module_view modules) k (module_view m) (some_map module_view modules k m e) in omega arith

pub walk_given : (modules : List Module) (cells : List Cell) (own : Module) (o : Outline) (top : ℕ) (prefix : Text) (ws : List raw.Wide) (outer : List Frame) (z t : State) (r : Result Netlist BindFault)
    → slice_get modules top ≡ Some own → Outlines (module_view own) o → prefix ≡ [] → ws ≡ o.wides → outer ≡ [] → z ≡ nothing
    → (first_broken z.names (first_wires prefix ws) ≡ None) × (t ≡ after z (first_wires prefix ws))
    → Gives t (pending (plain_parts modules cells) (first_frame top 0 prefix) (reverse outer) (length t.names)) r
    → Gives nothing (design_events (plain_parts modules cells) top) r
walk_given modules cells own o top prefix ws outer z t r e h p w q n b g =
    let P : Parts = plain_parts modules cells in
    let m : PlainModule = module_view own in
    let es_is : first_wires prefix ws ≡ entered [] m = ap (λ x. first_wires x ws) p ∙ inner_is [] m o ws h w in
    let b0 : first_broken nothing.names (entered [] m) ≡ None = sym (ap (λ es. first_broken nothing.names es) es_is) ∙ (sym (ap (λ (s : State). first_broken s.names (first_wires prefix ws)) n) ∙ b.0) in
    let b1 : t ≡ after nothing (entered [] m) = b.1 ∙ (ap (λ (s : State). after s (first_wires prefix ws)) n ∙ ap (λ es. after nothing es) es_is) in
    let long : length t.names ≡ length (module_bits m) = ap (λ (u : State). length u.names) b1 ∙ (names_after nothing (entered [] m) ∙ (no_names _ ∙ count_wire_list [] (module_bits m))) in
    let rest : pending P (first_frame top 0 prefix) (reverse outer) (length t.names) ≡ pending P (first_frame top 0 []) [] (length (module_bits m)) =
    ap (λ x. pending P (first_frame top 0 x) (reverse outer) (length t.names)) p
    ∙ (ap (λ xs. pending P (first_frame top 0 []) (reverse xs) (length t.names)) q ∙ ap (λ k. pending P (first_frame top 0 []) [] k) long) in
    subst (λ es. Gives nothing es r) (sym (design_is P top m (some_map module_view modules top own e) (some_modules modules top own e)))
    (front_given nothing t (entered [] m) _ (pending P (first_frame top 0 []) [] (length (module_bits m))) r (b0, b1) g rest)

pub walk_fails : (modules : List Module) (cells : List Cell) (own : Module) (o : Outline) (top : ℕ) (prefix : Text) (ws : List raw.Wide) (z : State) (f : BindFault)
    → slice_get modules top ≡ Some own → Outlines (module_view own) o → prefix ≡ [] → ws ≡ o.wides → z ≡ nothing
    → UnlessMemory f (first_broken z.names (first_wires prefix ws) ≡ Some f)
    → UnlessMemory f (first_broken nothing.names (design_events (plain_parts modules cells) top) ≡ Some f)
walk_fails modules cells own o top prefix ws z f e h p w n b =
    let P : Parts = plain_parts modules cells in
    let m : PlainModule = module_view own in
    let es_is : first_wires prefix ws ≡ entered [] m = ap (λ x. first_wires x ws) p ∙ inner_is [] m o ws h w in
    map_unless f _ _ (λ x. ap (λ es. first_broken nothing.names es) (design_is P top m (some_map module_view modules top own e) (some_modules modules top own e))
    ∙ broken_front nothing (entered [] m) (pending P (first_frame top 0 []) [] (length (module_bits m))) f
    (sym (ap (λ es. first_broken nothing.names es) es_is) ∙ (sym (ap (λ (s : State). first_broken s.names (first_wires prefix ws)) n) ∙ x))) b
