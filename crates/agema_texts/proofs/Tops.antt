-- The top module of a design that binds, and what the net has of it.
use Rattle.std.proofs.Common.{◌≡◌, ◌+◌, ℕ, List, [], ◌∷◌, Option, Some, None, Ok, refl, ap, sym, subst, ◌∙◌, map}
use Rattle.std.specs.Prelude.{slice_get, slice_index}
use Rattle.agm_net.specs.Plain.{PlainNet}
use Rattle.agm_net.specs.Renumbered.{renumbered_port}
use Rattle.agm_net.specs.declared.port.Port.{Port}
use Rattle.cell_library.specs.Judged.{PlainCell}
use Rattle.form_bits.specs.Forms.{range_width}
use Rattle.module_outlines.specs.Outlines.{kind_range}
use Rattle.verilog_reader.specs.Plain.{PlainModule, PlainDesign}
use Rattle.module_rules.specs.Rules.{first_fault}
use Rattle.module_rules.specs.declared.fault.NameFault.{NameFault}
use Rattle.cell_faces.specs.Cells.{cell_name}
use Rattle.top_module.specs.Ports.{kind_of, clock_of}
use Rattle.top_module.specs.Top.{candidates, IsTop}
use Rattle.wire_drivers.specs.Wiring.{Wiring, numbers, kept_net, first_wrong}
use Rattle.wire_drivers.specs.declared.types.Wrong.{Wrong}
use Rattle.bound_items.specs.Events.{Event, first_broken, first_pin}
use Rattle.bound_items.specs.declared.fault.BindFault.{BindFault}
use Rattle.bound_items.specs.declared.pin.Pin.{Pin}
use Rattle.net_binding.specs.Walk.{Parts, design_events}
use Rattle.net_binding.specs.Bound.{ports_from, wiring_of, pin_outcome, wire_outcome, walk_outcome, module_outcome, top_outcome, name_outcome, parts_of, bound}

-- a net has the clock of its top module, and ports of the names that are listed there
pub record HasFace (m : PlainModule) (net : PlainNet) : Type 0 where
  pub clock : net.clock ≡ clock_of m
  pub names : map (λ (p : Port). p.name) net.ports ≡ m.ports

names_from : (m : PlainModule) (there : ℕ → ℕ) (first : ℕ) (names : List (List ℕ)) → map (λ (p : Port). p.name) (map (renumbered_port there) (ports_from m first names)) ≡ names
names_from m there first [] = refl
names_from m there first (p ∷ ps) = ap (λ ns. p ∷ ns) (names_from m there (first + range_width (kind_range (kind_of m p))) ps)

pin_face : (kept net : PlainNet) (o : Option Pin) → pin_outcome kept o ≡ Ok net → kept ≡ net
pin_face kept net None h = cc
pin_face kept net (Some p) h = cc

wire_face : (w : Wiring) (clock : Option ℕ) (pin : Option Pin) (net : PlainNet) (o : Option Wrong) → wire_outcome w clock pin o ≡ Ok net → kept_net w clock ≡ net
wire_face w clock pin net None h = pin_face (kept_net w clock) net pin h
wire_face w clock pin net (Some wrong) h = cc

face_of : (m : PlainModule) (es : List Event) (net : PlainNet) → kept_net (wiring_of m es) (clock_of m) ≡ net → HasFace m net
face_of m es net kept =
    record {
      clock = ap (λ n. n.clock) (sym kept);
      names = ap (λ n. map (λ (p : Port). p.name) n.ports) (sym kept) ∙ names_from m (λ w. slice_index (numbers (wiring_of m es)) w) 0 m.ports;
    }

walk_face : (m : PlainModule) (es : List Event) (net : PlainNet) (o : Option BindFault) → walk_outcome m es o ≡ Ok net → HasFace m net
walk_face m es net None h = face_of m es net (wire_face (wiring_of m es) (clock_of m) (first_pin es) net (first_wrong (wiring_of m es)) h)
walk_face m es net (Some f) h = cc

-- one candidate, and the module of its number
abbrev IsOneOf : PlainDesign → List ℕ → PlainNet → Type 0
IsOneOf modules ks net = (m : PlainModule) × (k : ℕ) × (ks ≡ k ∷ []) × (slice_get modules k ≡ Some m) × HasFace m net

module_there : (parts : Parts) (k : ℕ) (net : PlainNet) (o : Option PlainModule) → slice_get parts.modules k ≡ o → module_outcome parts k o ≡ Ok net → IsOneOf parts.modules (k ∷ []) net
module_there parts k net None is h = cc
module_there parts k net (Some m) is h = (m, k, refl, is, walk_face m (design_events parts k) net (first_broken [] (design_events parts k)) h)

top_there : (parts : Parts) (ks : List ℕ) (net : PlainNet) → top_outcome parts ks ≡ Ok net → IsOneOf parts.modules ks net
top_there parts [] net h = cc
top_there parts (k ∷ []) net h = module_there parts k net (slice_get parts.modules k) refl h
top_there parts (k ∷ j ∷ ks) net h = cc

named_there : (parts : Parts) (o : Option NameFault) (net : PlainNet) → name_outcome parts o ≡ Ok net → IsOneOf parts.modules (candidates parts.modules) net
named_there parts None net h = top_there parts (candidates parts.modules) net h
named_there parts (Some f) net h = cc

found_top : (cells : List PlainCell) (design : PlainDesign) (net : PlainNet) → bound cells design ≡ Ok net → IsOneOf design (candidates design) net
found_top cells design net h = named_there (parts_of cells design) (first_fault (map cell_name cells) [] design) net h

pub bound_top : (cells : List PlainCell) (design : PlainDesign) (net : PlainNet) → bound cells design ≡ Ok net → (top : PlainModule) × IsTop design top
bound_top cells design net h = let found = found_top cells design net h in (found.0, (found.1, found.2, found.3))

-- a design has one top module at most
pub one_top : (design : PlainDesign) (a b : PlainModule) → IsTop design a → IsTop design b → a ≡ b
one_top design a b (j, first, at) (k, second, here) = cc

-- the net has the face of the design's top module
pub bound_face : (cells : List PlainCell) (design : PlainDesign) (net : PlainNet) (top : PlainModule) → bound cells design ≡ Ok net → IsTop design top → HasFace top net
bound_face cells design net top h is =
    let found = found_top cells design net h in
    let same : found.0 ≡ top = one_top design found.0 top (found.1, found.2, found.3) is in
    subst (λ m. HasFace m net) same found.4
