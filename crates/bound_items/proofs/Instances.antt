-- Steps and laws of what instances of modules give.
use Rattle.std.proofs.Common.{◌≡◌, ◌≤◌, ◌<◌, ◌+◌, ◌-◌, ◌++◌, ℕ, suc, Bool, true, false, cond, List, [], ◌∷◌, Option, Some, None, Result, Ok, Err, IfOk, map, drop, length, position, slice_get, get_or, add-one, drop-cons, refl, ap, sym, ◌∙◌, arith}
use Rattle.std.specs.List.{flat_map, list_any}
use Rattle.std.specs.Option.{option_map}
use Rattle.std.specs.Str.{bytes_eq}
use Rattle.std.specs.Cmp.Lexicographic.{bytes_decides}
use Rattle.std.proofs.lemmas.List.{get_or-map}
use Rattle.std.proofs.lemmas.List.FromFn.{map-range_with_len_more}
use Rattle.std.proofs.lemmas.List.Quantifiers.{position-Some}
use Rattle.agm_net.specs.declared.port.Way.{Way}
use Rattle.agm_net.specs.declared.port.Way.TheVariants.{Input, Output}
use Rattle.verilog_reader.specs.Plain.{PlainConnection, PlainModule}
use Rattle.form_bits.specs.Forms.{Text, Look, look_in, or_else, run, spot_at}
use Rattle.form_bits.specs.declared.types.Bit.{Bit}
use Rattle.form_bits.specs.declared.types.Bit.TheVariants.{Wire}
use Rattle.form_bits.specs.declared.types.Spot.{Spot}
use Rattle.module_outlines.specs.Outlines.{module_ports, port_way}
use Rattle.module_outlines.specs.View.{Outlines}
use Rattle.module_outlines.specs.declared.outline.Outline.{Outline}
use Rattle.bound_items.specs.Events.{Event, pin, first_broken}
use Rattle.bound_items.specs.Items.{unless, pins_broken, before_events, spot_run, is_constant, connected_form, connected, dotted, in_lines_at, in_lines, constant_counts, way_counts, port_counts}
use Rattle.bound_items.specs.State.{State, state_of, after}
use Rattle.bound_items.specs.declared.netlist.Netlist.{Netlist}
use Rattle.bound_items.specs.declared.fault.BindFault.{BindFault}
use Rattle.bound_items.proofs.Gives.{after_append, broken_append, plain_quiet}

-- wires in a row, one more at a time

run_next : (start k : ℕ) → start ≤ k → run start (k + 1 - start) ≡ run start (k - start) ++ Wire k ∷ []
run_next start k h =
    let long : k + 1 - start ≡ (k - start) + 1 = omega arith in
    let last : start + (k - start) ≡ k = omega arith in
    ap (λ n. run start n) long ∙ map-range_with_len_more (λ j. Wire j) start (k - start) k last

pub run_on : (new old : List Bit) (start k : ℕ) → start ≤ k → old ≡ run start (k - start) → new ≡ old ++ Wire k ∷ [] → new ≡ run start (k + 1 - start)
run_on new old start k h was now = now ∙ (ap (λ (bs : List Bit). bs ++ Wire k ∷ []) was ∙ sym (run_next start k h))

-- ports by their names

look_is : (m : PlainModule) (o : Outline) (name : Text) → Outlines m o → look_in o.ports.names o.ports.spots name ≡ module_ports m name
look_is m o name h = ap (λ (ns : List Text). look_in ns o.ports.spots name) h.ports ∙ ap (λ (ss : List Spot). look_in m.ports ss name) h.port_spots

way_is : (m : PlainModule) (o : Outline) (name : Text) (k : ℕ) → Outlines m o → position (λ n. bytes_eq n name) o.ports.names ≡ Some k → get_or o.ways k Input ≡ port_way m name
way_is m o name k h at =
    let place = position-Some (λ n. bytes_eq n name) m.ports k [] (ap (λ (ns : List Text). position (λ n. bytes_eq n name) ns) (sym h.ports) ∙ at) in
    ap (λ (ws : List Way). get_or ws k Input) h.ways
    ∙ (get_or-map (port_way m) m.ports k [] Input place.0 ∙ ap (port_way m) ((bytes_decides (get_or m.ports k []) name).0 place.1))

port_is : (m : PlainModule) (o : Outline) (name : Text) (k : ℕ) → Outlines m o → position (λ n. bytes_eq n name) o.ports.names ≡ Some k
    → option_map {U = Way × Spot} (λ s. (get_or o.ways k Input, s)) (slice_get o.ports.spots k) ≡ option_map {U = Way × Spot} (λ s. (port_way m name, s)) (module_ports m name)
port_is m o name k h at =
    ap (λ (w : Way). option_map {U = Way × Spot} (λ s. (w, s)) (slice_get o.ports.spots k)) (way_is m o name k h at)
    ∙ ap (λ (p : Option Spot). option_map {U = Way × Spot} (λ s. (port_way m name, s)) p) (ap (λ (n : Option ℕ). spot_at o.ports.spots n) (sym at) ∙ look_is m o name h)

pub port_found : (m : PlainModule) (o : Outline) (name own : Text) (k : ℕ) (ways : List Way) (spots : List Spot) (r : Option (Way × Spot)) → Outlines m o → own ≡ name
    → Some k ≡ position (λ n. bytes_eq n own) o.ports.names → ways ≡ o.ways → spots ≡ o.ports.spots
    → r ≡ option_map {U = Way × Spot} (λ s. (get_or ways k Input, s)) (slice_get spots k) → r ≡ option_map {U = Way × Spot} (λ s. (port_way m name, s)) (module_ports m name)
port_found m o name own k ways spots r h same at w s e =
    e ∙ (ap (λ (ws : List Way). option_map {U = Way × Spot} (λ s. (get_or ws k Input, s)) (slice_get spots k)) w
    ∙ (ap (λ (ss : List Spot). option_map {U = Way × Spot} (λ s. (get_or o.ways k Input, s)) (slice_get ss k)) s
    ∙ port_is m o name k h (ap (λ (n : Text). position (λ t. bytes_eq t n) o.ports.names) (sym same) ∙ sym at)))

-- a list from a place on
from_on : {X : Type 0} (xs : List X) (i : ℕ) (x : X) → x ≡ get_or xs i x → i < length xs → drop i xs ≡ x ∷ drop (i + 1) xs
from_on xs i x e h = let d = drop-cons xs i x h in let o : i + 1 ≡ suc i = add-one i in cc

-- a loop over a list, whose steps give what is listed
pub loop_on : {X Y : Type 0} (f : Y → List Event) (view : X → Y) (s t whole : State) (xs : List X) (i : ℕ) (x : X) → x ≡ get_or xs i x → i < length xs
    → after s (flat_map f (map view (drop i xs))) ≡ whole → t ≡ after s (f (view x)) → after t (flat_map f (map view (drop (i + 1) xs))) ≡ whole
loop_on {X} f view s t whole xs i x e h was now =
    let rest : List Event = flat_map f (map view (drop (i + 1) xs)) in
    ap (λ (u : State). after u rest) now
    ∙ (sym (after_append s (f (view x)) rest) ∙ (ap (λ (ys : List X). after s (flat_map f (map view ys))) (sym (from_on xs i x e h)) ∙ was))

-- the same without a view
list_on : {X : Type 0} (f : X → List Event) (s t whole : State) (xs : List X) (i : ℕ) (x : X) → x ≡ get_or xs i x → i < length xs
    → after s (flat_map f (drop i xs)) ≡ whole → t ≡ after s (f x) → after t (flat_map f (drop (i + 1) xs)) ≡ whole
list_on {X} f s t whole xs i x e h was now =
    let rest : List Event = flat_map f (drop (i + 1) xs) in
    ap (λ (u : State). after u rest) now
    ∙ (sym (after_append s (f x) rest) ∙ (ap (λ (ys : List X). after s (flat_map f ys)) (sym (from_on xs i x e h)) ∙ was))

-- the way that stands at the place of a port
way_here : (m : PlainModule) (ways : List Way) (ports : List Text) (k : ℕ) (port : Text) → ways ≡ map (port_way m) ports → port ≡ get_or ports k port → k < length ports
    → get_or ways k Input ≡ port_way m port
way_here m ways ports k port e p h = ap (λ (ws : List Way). get_or ws k Input) e ∙ (get_or-map (port_way m) ports k port Input h ∙ ap (port_way m) (sym p))

-- one more port
pub ports_on : (site : Text) (m : PlainModule) (look : Look) (base : ℕ) (pins : List PlainConnection) (s t whole : State) (ways : List Way) (ports : List Text) (k : ℕ) (port : Text) (way : Way)
    → ways ≡ map (port_way m) m.ports → ports ≡ m.ports → port ≡ get_or ports k port → k < length ports → way ≡ get_or ways k Input
    → after s (flat_map (port_counts site m look base pins) (drop k m.ports)) ≡ whole → t ≡ after s (way_counts way (dotted site port) (connected pins look base port))
    → after t (flat_map (port_counts site m look base pins) (drop (k + 1) m.ports)) ≡ whole
ports_on site m look base pins s t whole ways ports k port way all e is within at was now =
    let p : port ≡ get_or m.ports k port = is ∙ ap (λ (ps : List Text). get_or ps k port) e in
    let long : length ports ≡ length m.ports = ap (λ (ps : List Text). length ps) e in
    let h : k < length m.ports = omega arith in
    let w : way ≡ port_way m port = at ∙ way_here m ways m.ports k port all p h in
    list_on (port_counts site m look base pins) s t whole m.ports k port p h was (now ∙ ap (λ (v : Way). after s (way_counts v (dotted site port) (connected pins look base port))) w)

-- events behind others
pub both_ok : {E : Type 0} (s t : State) (xs ys : List Event) (r : Result Netlist E) → IfOk r (λ n. state_of n ≡ after t ys) → t ≡ after s xs → IfOk r (λ n. state_of n ≡ after s (xs ++ ys))
both_ok s t xs ys (Ok n) h e = h ∙ (ap (λ (u : State). after u ys) e ∙ sym (after_append s xs ys))
both_ok s t xs ys (Err m) h e = tt

-- events that break no rule

abbrev pub IsQuiet : List Event → Type 0
IsQuiet es = (names : List Text) → first_broken names es ≡ None

quiet_append : (xs ys : List Event) → IsQuiet xs → IsQuiet ys → IsQuiet (xs ++ ys)
quiet_append xs ys p q names =
    let s : State = record { names = names; lines = []; flops = []; pin = None } in
    broken_append s xs ys ∙ (ap (λ (o : Option BindFault). or_else o (first_broken (after s xs).names ys)) (p names) ∙ q (after s xs).names)

quiet_flat : {X : Type 0} (f : X → List Event) → ((x : X) → IsQuiet (f x)) → (xs : List X) → IsQuiet (flat_map f xs)
quiet_flat f h [] names = refl
quiet_flat f h (x ∷ xs) names = quiet_append (f x) (flat_map f xs) (h x) (quiet_flat f h xs) names

quiet_in : (w : Way) (n : ℕ) (o : Option Spot) (bits : Option (List Bit)) → IsQuiet (in_lines_at w n o bits)
quiet_in Input n None bits names = refl
quiet_in Input n (Some s) None names = refl
quiet_in Input n (Some s) (Some bits) names = plain_quiet names (spot_run n s) bits
quiet_in Output n o bits names = refl

quiet_cond : (b : Bool) (name : Text) (d : ℕ) → IsQuiet (cond b (pin name d ∷ []) [])
quiet_cond true name d names = refl
quiet_cond false name d names = refl

quiet_constant : (name : Text) (bits : Option (List Bit)) → IsQuiet (constant_counts name bits)
quiet_constant name None names = refl
quiet_constant name (Some bits) names = quiet_cond (list_any is_constant bits) name 2 names

quiet_way : (w : Way) (name : Text) (bits : Option (List Bit)) → IsQuiet (way_counts w name bits)
quiet_way Input name bits names = refl
quiet_way Output name bits names = quiet_constant name bits names

-- what an instance of a module that breaks no rule gives
before_quiet : (site : Text) (m : PlainModule) (look : Look) (base n : ℕ) (pins : List PlainConnection) (ports : List Text)
    → IsQuiet (flat_map (in_lines m n look base) pins ++ flat_map (port_counts site m look base pins) ports)
before_quiet site m look base n pins ports =
    quiet_append (flat_map (in_lines m n look base) pins) (flat_map (port_counts site m look base pins) ports)
    (quiet_flat (in_lines m n look base) (λ c. quiet_in (port_way m c.pin) n (module_ports m c.pin) (connected_form c.form look base)) pins)
    (quiet_flat (port_counts site m look base pins) (λ port. quiet_way (port_way m port) (dotted site port) (connected pins look base port)) ports)

-- a check, and then events that break no rule

given_checked : (s t : State) (o : Option BindFault) (es : List Event) → IsQuiet es → o ≡ None → t ≡ after s es → (first_broken s.names (unless o es) ≡ None) × (t ≡ after s (unless o es))
given_checked s t o es quiet e now = (
  ap (λ (p : Option BindFault). first_broken s.names (unless p es)) e ∙ quiet s.names,
  now ∙ ap (λ (p : Option BindFault). after s (unless p es)) (sym e),
)

-- what an instance of a module gives before the walk inside it

module _ (site : Text) (m : PlainModule) (o : Outline) (look : Look) (base : ℕ) (pins : List PlainConnection) (s : State) (h : Outlines m o) where
  face_is : look_in o.ports.names o.ports.spots ≡ module_ports m
  face_is = ap (λ (ns : List Text). look_in ns o.ports.spots) h.ports ∙ ap (λ (ss : List Spot). look_in m.ports ss) h.port_spots

  pub before_given : (t : State) → pins_broken site (look_in o.ports.names o.ports.spots) look [] pins ≡ None
      → t ≡ after s (flat_map (in_lines m (length s.names) look base) pins ++ flat_map (port_counts site m look base pins) m.ports)
      → (first_broken s.names (before_events site m look base (length s.names) pins) ≡ None) × (t ≡ after s (before_events site m look base (length s.names) pins))
  before_given t e now =
      given_checked s t (pins_broken site (module_ports m) look [] pins) (flat_map (in_lines m (length s.names) look base) pins ++ flat_map (port_counts site m look base pins) m.ports)
      (before_quiet site m look base (length s.names) pins m.ports) (ap (λ (face : Look). pins_broken site face look [] pins) (sym face_is) ∙ e) now
