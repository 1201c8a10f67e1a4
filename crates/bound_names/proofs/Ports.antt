-- The ports of a bound net are those that its top module declares.
use Rattle.std.proofs.Common.{◌≡◌, ◌+◌, ℕ, Bool, true, false, List, [], ◌∷◌, map, Option, Some, None, Ok, slice_get, if◌then◌else◌, true, refl, subst}
use Rattle.std.specs.List.{AllByRecursion, filter_map}
use Rattle.agm_net.specs.Plain.{PlainNet}
use Rattle.agm_net.specs.Renumbered.{renumbered_port}
use Rattle.agm_net.specs.Writable.{IsWritable}
use Rattle.agm_net.specs.declared.port.Port.{Port}
use Rattle.agm_net.proofs.Lists.{all_of_one}
use Rattle.cell_library.specs.Judged.{PlainCell}
use Rattle.cell_faces.specs.Cells.{cell_name}
use Rattle.verilog_reader.specs.Plain.{PlainItem, declare, assign, instance, PlainModule, PlainDesign}
use Rattle.verilog_reader.specs.Grammar.{Spelled}
use Rattle.module_rules.specs.Rules.{first_fault}
use Rattle.module_rules.specs.declared.fault.NameFault.{NameFault}
use Rattle.top_module.specs.Marks.{is_among}
use Rattle.top_module.specs.Ports.{kind_at, kind_of, clock_of}
use Rattle.top_module.specs.Top.{candidates}
use Rattle.top_module.specs.declared.facts.Kind.{Kind}
use Rattle.module_outlines.specs.Outlines.{kind_range}
use Rattle.form_bits.specs.Forms.{range_width}
use Rattle.wire_drivers.specs.Wiring.{Wiring, first_wrong, kept_net}
use Rattle.wire_drivers.specs.declared.types.Wrong.{Wrong}
use Rattle.bound_items.specs.Events.{Event, first_broken, first_pin}
use Rattle.bound_items.specs.declared.pin.Pin.{Pin}
use Rattle.bound_items.specs.declared.fault.BindFault.{BindFault}
use Rattle.net_binding.specs.Walk.{Parts, design_events}
use Rattle.net_binding.specs.Bound.{ports_from, wiring_of, Outcome, pin_outcome, wire_outcome, walk_outcome, module_outcome, top_outcome, name_outcome, parts_of, bound}
use Rattle.bound_names.specs.Named.{HasSmallNumbers, IsNamed}
use Rattle.bound_names.proofs.Spelling.{HasSmallRange, IsNamedModule, named_modules}
use Rattle.bound_names.proofs.Tokens.{cuts_right}

abbrev AreSmallKinds : List Kind → Type 0
AreSmallKinds ks = AllByRecursion (λ k. HasSmallNumbers k.range) ks

one_more : (name : List ℕ) (item : PlainItem) (items : List PlainItem) (k : Option Kind) → kind_at name item ≡ k → HasSmallNumbers (kind_range k) → AreSmallKinds (filter_map (kind_at name) items)
    → AreSmallKinds (filter_map (kind_at name) (item ∷ items))
one_more name item items None e h rest = rw e rest
one_more name item items (Some k) e h rest = rw e (h, rest)

small_choice : (b : Bool) (k : Kind) → HasSmallNumbers k.range → HasSmallNumbers (kind_range (if b then Some k else None))
small_choice true k h = h
small_choice false k h = tt

small_item : (name : List ℕ) (item : PlainItem) → HasSmallRange item → HasSmallNumbers (kind_range (kind_at name item))
small_item name (declare attributes None range names) h = tt
small_item name (declare attributes (Some way) range names) h = small_choice (is_among name names) (record { way = way; range = range }) h
small_item name (assign attributes left right) h = tt
small_item name (instance attributes cell own pins) h = tt

small_kinds : (name : List ℕ) (items : List PlainItem) → AllByRecursion HasSmallRange items → AreSmallKinds (filter_map (kind_at name) items)
small_kinds name [] h = tt
small_kinds name (i ∷ is) h = one_more name i is (kind_at name i) refl (small_item name i h.0) (small_kinds name is h.1)

first_small : (ks : List Kind) → AreSmallKinds ks → HasSmallNumbers (kind_range (slice_get ks 0))
first_small [] h = tt
first_small (k ∷ ks) h = h.0

ports_named : (m : PlainModule) → IsNamedModule m → (first : ℕ) (ps : List (List ℕ)) → AllByRecursion IsWritable ps → AllByRecursion IsNamed (ports_from m first ps)
ports_named m named first [] h = tt
ports_named m named first (p ∷ ps) h =
    ((h.0, first_small (filter_map (kind_at p) m.items) (small_kinds p m.items named.ranges)), ports_named m named (first + range_width (kind_range (kind_of m p))) ps h.1)

renumbered_named : (there : ℕ → ℕ) (ports : List Port) → AllByRecursion IsNamed ports → AllByRecursion IsNamed (map (renumbered_port there) ports)
renumbered_named there [] h = tt
renumbered_named there (p ∷ ps) h = (h.0, renumbered_named there ps h.1)

abbrev AreNamed : PlainNet → Type 0
AreNamed net = AllByRecursion IsNamed net.ports

ok_is : (kept net : PlainNet) → ◌≡◌ {A = Outcome} (Ok kept) (Ok net) → kept ≡ net
ok_is kept net e = cc

pin_named : (kept net : PlainNet) (pin : Option Pin) → AreNamed kept → pin_outcome kept pin ≡ Ok net → AreNamed net
pin_named kept net None h e = subst AreNamed (ok_is kept net e) h
pin_named kept net (Some p) h e = absurd (cc)

wire_named : (w : Wiring) (clock : Option ℕ) (pin : Option Pin) (wrong : Option Wrong) (net : PlainNet) → AllByRecursion IsNamed w.ports → wire_outcome w clock pin wrong ≡ Ok net → AreNamed net
wire_named w clock pin None net h e = pin_named (kept_net w clock) net pin (renumbered_named _ w.ports h) e
wire_named w clock pin (Some wrong) net h e = absurd (cc)

walk_named : (m : PlainModule) (es : List Event) (f : Option BindFault) (net : PlainNet) → IsNamedModule m → walk_outcome m es f ≡ Ok net → AreNamed net
walk_named m es None net named e = wire_named (wiring_of m es) (clock_of m) (first_pin es) (first_wrong (wiring_of m es)) net (ports_named m named 0 m.ports named.names) e
walk_named m es (Some f) net named e = absurd (cc)

module_named : (parts : Parts) (k : ℕ) (found : Option PlainModule) (net : PlainNet) → AllByRecursion IsNamedModule parts.modules → slice_get parts.modules k ≡ found → module_outcome parts k found ≡ Ok net → AreNamed net
module_named parts k None net h at e = absurd (cc)
module_named parts k (Some m) net h at e = walk_named m (design_events parts k) (first_broken [] (design_events parts k)) net (all_of_one IsNamedModule parts.modules k m h at) e

top_named : (parts : Parts) (ks : List ℕ) (net : PlainNet) → AllByRecursion IsNamedModule parts.modules → top_outcome parts ks ≡ Ok net → AreNamed net
top_named parts [] net h e = absurd (cc)
top_named parts (k ∷ []) net h e = module_named parts k (slice_get parts.modules k) net h refl e
top_named parts (k ∷ j ∷ ks) net h e = absurd (cc)

named_outcome : (parts : Parts) (fault : Option NameFault) (net : PlainNet) → AllByRecursion IsNamedModule parts.modules → name_outcome parts fault ≡ Ok net → AreNamed net
named_outcome parts None net h e = top_named parts (candidates parts.modules) net h e
named_outcome parts (Some f) net h e = absurd (cc)

pub bound_named : (cells : List PlainCell) (bytes : List ℕ) (design : PlainDesign) (net : PlainNet) → Spelled bytes design → bound cells design ≡ Ok net → AllByRecursion IsNamed net.ports
bound_named cells bytes design net spelled e =
    named_outcome (parts_of cells design) (first_fault (map cell_name cells) [] design) net
    (named_modules design spelled.0 [] spelled.2.1 (cuts_right _ bytes spelled.0 spelled.1)) e
