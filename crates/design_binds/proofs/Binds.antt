-- The design of a net binds to the net with its wires renumbered.
use Rattle.std.proofs.Common.{◌≡◌, ◌≢◌, ◌<◌, ◌+◌, ◌^◌, ◌&&◌, ℕ, true, false, List, [], ◌∷◌, ◌++◌, length, map, fold, get_or, nat_lt, Option, Some, None, Ok, codes, slice_get, refl, sym, ap, ap₂, ◌∙◌, subst, inl, inr, arith, append_assoc}
use Rattle.std.specs.List.{AllByRecursion, flat_map, enumerate_from, list_any, list_all}
use Rattle.std.specs.Option.{option_map_or}
use Rattle.std.proofs.lemmas.Bool.{cases_lt, and_parts}
use Rattle.std.proofs.lemmas.Grind.{flat_map-append}
use Rattle.std.proofs.lemmas.List.{length-map, get_or-map}
use Rattle.std.proofs.lemmas.Option.{slice_get-get_or}
use Rattle.agm_net.specs.Formula.{reads_below}
use Rattle.agm_net.specs.Plain.{Line, Stored, PlainNet}
use Rattle.agm_net.specs.PlainForm.{IsPlain}
use Rattle.agm_net.specs.WellFormed.{WellFormed}
use Rattle.agm_net.specs.Renumbered.{renumbered_line, renumbered_register, renumbered_port, Renumbered}
use Rattle.agm_net.specs.declared.port.Port.{Port}
use Rattle.verilog_reader.specs.Plain.{PlainForm, PlainItem, PlainModule}
use Rattle.form_bits.specs.Forms.{range_width}
use Rattle.module_rules.specs.Items.{is_among, instance_of}
use Rattle.top_module.specs.declared.facts.Kind.{Kind}
use Rattle.top_module.specs.Marks.{marks_before, says}
use Rattle.top_module.specs.Ports.{kind_of, facts_of, is_clock, is_single_input, clock_of}
use Rattle.module_outlines.specs.Outlines.{Wide, wide, kind_range, wides, wide_bits, own_wides, module_bits, module_names}
use Rattle.module_outlines.specs.Outlines as outline
use Rattle.wire_drivers.specs.Wiring.{PlainLine, PlainFlop, Wiring, first_wrong, kept_net}
use Rattle.bound_items.specs.Events.{Event, wire, first_broken, first_pin}
use Rattle.net_binding.specs.Walk.{Parts, walk, design_events}
use Rattle.net_binding.specs.Bound.{ports_from, wiring_of, pin_outcome, wire_outcome, walk_outcome, top_outcome, name_outcome, parts_of, bound}
use Rattle.net_design.specs.Bits.{Bit, bits_of, bit_name}
use Rattle.net_design.specs.Sites.{sites_of}
use Rattle.net_design.specs.Design.{port_name, margin_of, longer, form_of, cell_of, cell_item, line_item, next_of, next_item, register_item, wire_item, statements, module_of}
use Rattle.net_design.specs.declared.cells.Cell.{Cell}
use Rattle.net_design.specs.declared.cells.Cell.TheVariants as cell
use Rattle.net_design.specs.declared.cells.Next.{Next}
use Rattle.net_design.specs.declared.cells.Next.TheVariants as next
use Rattle.design_binds.proofs.Among as among
use Rattle.design_binds.proofs.Apart.{Apart, all_append, all_from, apart_append, Differ-from_apart, all_among}
use Rattle.design_binds.proofs.Order.{place, number, place_in, place_out, place_inside, number_of_place, place_of_number, there_it_is}
use Rattle.design_binds.proofs.Renumbering.{of_one, renumbered_well_formed}
use Rattle.design_binds.proofs.Sited as sited
use Rattle.design_binds.proofs.OwnWires as own
use Rattle.design_binds.proofs.Spots.{look_from, IsBound, bits_long}
use Rattle.design_binds.proofs.Gathered.{line_of, flop_of, walked, none_broken, the_wires, the_lines, the_flops, no_pin}
use Rattle.design_binds.proofs.Kept.{wiring_from}
use Rattle.design_binds.proofs.Kept as kept
use Rattle.design_binds.proofs.Ordered as ordered
use Rattle.design_binds.proofs.Ordered.{port_wide, declared_wides, all_named, get_past}
use Rattle.design_binds.proofs.Shape as shape
use Rattle.design_binds.proofs.Shape.{IsStatement, declared_items, kind_in, kind_from, Marked, is_number, Tests, says_clock, clock_is}
use Rattle.design_binds.proofs.NamesKept as names
use Rattle.design_binds.proofs.Operators.{IsLine, IsRegister, lines_of, registers_of}
use Rattle.design_binds.proofs.Walked.{items_are}
use Rattle.design_binds.proofs.Instances as instances
use Rattle.design_binds.proofs.Instances.{Fits, IsInstanceOf, same_number, other_name, cell_names, next_names}
use Rattle.design_binds.proofs.Placed.{places_counted, ports_placed}

-- statements are no declarations

cell_stated : (form : ℕ → PlainForm) (m k w : ℕ) (c : Cell) → IsStatement (cell_item form m k w c)
cell_stated form m k w (cell.Constant v) = tt
cell_stated form m k w (cell.Wire a) = tt
cell_stated form m k w (cell.Not a) = refl
cell_stated form m k w (cell.And a b) = refl
cell_stated form m k w (cell.Or a b) = refl
cell_stated form m k w (cell.Xor a b) = refl
cell_stated form m k w (cell.Mux s a b) = refl
cell_stated form m k w cell.Other = tt

next_stated : (form : ℕ → PlainForm) (m k c q : ℕ) (n : Next) → IsStatement (next_item form m k c q n)
next_stated form m k c q (next.Wire d) = refl
next_stated form m k c q (next.Enabled e d) = refl
next_stated form m k c q next.Other = tt

lines_stated : (form : ℕ → PlainForm) (m k : ℕ) (ls : List Line) → AllByRecursion IsStatement (map (line_item form m) (enumerate_from k ls))
lines_stated form m k [] = tt
lines_stated form m k (l ∷ ls) = (cell_stated form m k l.0 (cell_of l.1), lines_stated form m (k + 1) ls)

registers_stated : (form : ℕ → PlainForm) (m k : ℕ) (rs : List Stored) → AllByRecursion IsStatement (map (register_item form m) (enumerate_from k rs))
registers_stated form m k [] = tt
registers_stated form m k (r ∷ rs) = (next_stated form m k r.clock r.q (next_of r.next), registers_stated form m (k + 1) rs)

-- wirings of equal parts
same_wiring : (p q : List Port) (v w : List (List ℕ)) (l k : List PlainLine) (f g : List PlainFlop) → p ≡ q → v ≡ w → l ≡ k → f ≡ g
    → ◌≡◌ {A = Wiring} (record { ports = p; wires = v; lines = l; flops = f }) (record { ports = q; wires = w; lines = k; flops = g })
same_wiring p q v w l k f g a b c d = rw (a, b, c, d) refl

-- the names that ports are declared with
port_wides : (m : PlainModule) (ps : List Port) → AllByRecursion (λ p. kind_of m p.name ≡ Some (kind_from p)) ps → map (outline.port_wide m) (map port_name ps) ≡ map port_wide ps
port_wides m [] h = refl
port_wides m (p ∷ ps) h = ap₂ (λ w ws. w ∷ ws) (ap (λ (o : Option Kind). wide (kind_range o) p.name) h.0) (port_wides m ps h.1)

-- the clock's test
tests_of : (m : PlainModule) (clock : Option ℕ) (k : ℕ) (ps : List Port) → AllByRecursion (λ p. kind_of m p.name ≡ Some (kind_from p)) ps → Marked clock k (marks_before m) ps → Tests (λ n. is_clock (facts_of m n)) clock k ps
tests_of m clock k [] h g = tt
tests_of m clock k (p ∷ ps) h g = (
  ap₂ (λ (o : Option Kind) b. option_map_or is_single_input o false && b) h.0 (ap (list_any (says (codes "clock"))) g.0 ∙ says_clock clock k),
  tests_of m clock (k + 1) ps h.1 g.1,
)

module _ (net : PlainNet) (formed : WellFormed net) (plain : IsPlain net) (short : length net.lines + length net.registers < 2 ^ 64) where
  abbrev n : ℕ
  n = length net.wires

  abbrev order : List ℕ
  order = ordered.order net formed plain

  abbrev there : ℕ → ℕ
  there = place order

  abbrev bit : ℕ → Bit
  bit = ordered.bit net formed plain

  abbrev own_names : List (List ℕ)
  own_names = ordered.own_names net formed plain

  abbrev ports : List (List ℕ)
  ports = map port_name net.ports

  -- the net in the order of the module
  abbrev pub other : PlainNet
  other = record {
    ports = map (renumbered_port there) net.ports;
    wires = map bit_name (map bit order);
    lines = map (renumbered_line there) net.lines;
    registers = map (renumbered_register there) net.registers;
    clock = net.clock;
  }

  long : length order ≡ n
  long = ordered.long net formed plain

  wires_long : length (map bit_name (map bit order)) ≡ n
  wires_long = length-map (map bit order) bit_name ∙ (length-map order bit ∙ long)

  name_there : (w : ℕ) → slice_get (map bit_name (map bit order)) (there w) ≡ slice_get net.wires w
  name_there w =
      let is_order = ordered.is_order net formed plain in
      let e = long in
      let many = wires_long in
      elim (cases_lt w n) [
        | inl lt ↦ let in_order : w < length order = omega arith in
            let inside = place_inside order w is_order in_order in
            let bits_long = length-map order bit in
            let bits_below : there w < length (map bit order) = omega arith in
            let there_below : there w < length (map bit_name (map bit order)) = omega arith in
            let here : get_or order (there w) 0 ≡ w = ap (λ k. get_or order k 0) (place_in order w in_order) ∙ there_it_is order w 0 (is_order.all_there w in_order) in
            slice_get-get_or (map bit_name (map bit order)) (there w) [] there_below
            ∙ (ap Some (get_or-map bit_name (map bit order) (there w) (bit 0) [] bits_below
            ∙ (ap bit_name (get_or-map bit order (there w) 0 (bit 0) inside) ∙ ap (λ v. bit_name (bit v)) here))
            ∙ sym (ordered.name_of_wire net formed plain w lt))
        | inr le ↦ let out : there w ≡ w = place_out order w (omega arith) in
            get_past (map bit_name (map bit order)) (there w) (omega arith) ∙ sym (get_past net.wires w le)
      ]

  pub is_renumbered : Renumbered net other
  is_renumbered =
      let is_order = ordered.is_order net formed plain in
      record {
        there = there;
        back = number order;
        there_and_back = (λ w. number_of_place order w is_order);
        back_and_there = (λ v. place_of_number order v is_order);
        as_many = wires_long;
        same_names = name_there;
        same_ports = refl;
        same_lines = refl;
        same_registers = refl;
        same_clock = refl;
      }

  other_formed : WellFormed other
  other_formed = renumbered_well_formed net other formed is_renumbered

  -- the module, with the own wires by their names
  abbrev margin : ℕ
  margin = margin_of net

  abbrev form : ℕ → PlainForm
  form = form_of net (sites_of net)

  abbrev body : List PlainItem
  body = statements net (sites_of net) margin

  abbrev m : PlainModule
  m = record { name = codes "agm_top"; attributes = []; ports = ports; items = declared_items net.clock net.ports own_names ++ body }

  pub module_is : module_of net ≡ m
  module_is =
      ap (λ (ds : List PlainItem). let k : PlainModule = record { name = codes "agm_top"; attributes = []; ports = ports; items = (shape.ports_from net.clock 0 net.ports ++ ds) ++ body } in k)
      (own.own_declarations (sites_of net) (enumerate_from 0 net.wires))

  body_stated : AllByRecursion IsStatement body
  body_stated =
      all_append IsStatement (map (line_item form margin) (enumerate_from 0 net.lines)) (map (register_item form margin) (enumerate_from (length net.lines) net.registers))
      (lines_stated form margin 0 net.lines) (registers_stated form margin (length net.lines) net.registers)

  -- instances

  abbrev line_names : List (List ℕ)
  line_names = instances.names_from Line margin (line_item form margin) (λ k l. cell_names form margin k l.0 (cell_of l.1)) 0 net.lines

  abbrev register_names : List (List ℕ)
  register_names = instances.names_from Stored margin (register_item form margin) (λ k r. next_names form margin k r.clock r.q (next_of r.next)) (length net.lines) net.registers

  instances_are : flat_map instance_of body ≡ line_names ++ register_names
  instances_are = flat_map-append instance_of (map (line_item form margin) (enumerate_from 0 net.lines)) (map (register_item form margin) (enumerate_from (length net.lines) net.registers))

  lines_named : AllByRecursion (IsInstanceOf margin 0 (0 + length net.lines)) line_names
  lines_named = instances.named Line margin (line_item form margin) (λ k l. cell_names form margin k l.0 (cell_of l.1)) 0 net.lines

  registers_named : AllByRecursion (IsInstanceOf margin (length net.lines) (length net.lines + length net.registers)) register_names
  registers_named = instances.named Stored margin (register_item form margin) (λ k r. next_names form margin k r.clock r.q (next_of r.next)) (length net.lines) net.registers

  instances_apart : Apart (line_names ++ register_names)
  instances_apart =
      apart_append line_names register_names
      (instances.differ Line margin (line_item form margin) (λ k l. cell_names form margin k l.0 (cell_of l.1)) 0 net.lines (omega (arith, short)))
      (instances.differ Stored margin (register_item form margin) (λ k r. next_names form margin k r.clock r.q (next_of r.next)) (length net.lines) net.registers (omega (arith, short)))
      (all_from (IsInstanceOf margin 0 (0 + length net.lines)) (λ x. AllByRecursion (λ y. x ≢ y) register_names)
      (λ x at. all_from (IsInstanceOf margin (length net.lines) (length net.lines + length net.registers)) (λ y. x ≢ y)
      (λ y to e. let low = at.2 in let high = to.2 in let from = to.1 in let number = same_number margin at.0 to.0 (omega (arith, short)) (omega (arith, short)) (sym at.3 ∙ (e ∙ to.3)) in omega arith)
      register_names registers_named)
      line_names lines_named)

  abbrev most : ℕ
  most = length net.lines + length net.registers

  all_named_so : AllByRecursion (IsInstanceOf margin 0 most) (line_names ++ register_names)
  all_named_so =
      all_append (IsInstanceOf margin 0 most) line_names register_names
      (all_from (IsInstanceOf margin 0 (0 + length net.lines)) (IsInstanceOf margin 0 most) (λ x at. let low = at.2 in (at.0, omega arith, omega arith, at.3)) line_names lines_named)
      (all_from (IsInstanceOf margin (length net.lines) most) (IsInstanceOf margin 0 most) (λ x at. let low = at.2 in (at.0, omega arith, omega arith, at.3)) register_names registers_named)

  -- the margin
  wires_fit : AllByRecursion (Fits margin) net.wires
  wires_fit = instances.fits_more (fold longer 0 net.wires) margin net.wires (instances.longer_keeps (fold longer 0 net.wires) ports) (instances.longer_all 0 net.wires)

  ports_fit : AllByRecursion (Fits margin) ports
  ports_fit = instances.longer_all (fold longer 0 net.wires) ports

  own_fit : AllByRecursion (Fits margin) own_names
  own_fit =
      sited.mapped_all (Fits margin) (λ (x : ℕ × List ℕ). x.1) (own.own_pairs net formed)
      (all_from (λ (x : ℕ × List ℕ). slice_get net.wires x.0 ≡ Some x.1) (λ x. Fits margin x.1) (λ x e. of_one (Fits margin) net.wires x.0 x.1 wires_fit e) (own.own_pairs net formed) (own.own_named net formed))

  all_apart : Apart ((line_names ++ register_names) ++ (ports ++ own_names))
  all_apart =
      apart_append (line_names ++ register_names) (ports ++ own_names) instances_apart (ordered.names_all_apart net formed plain)
      (all_from (IsInstanceOf margin 0 most) (λ x. AllByRecursion (λ y. x ≢ y) (ports ++ own_names))
      (λ x at. all_from (Fits margin) (λ y. x ≢ y) (λ y fits e. other_name margin at.0 y fits (sym at.3 ∙ e)) (ports ++ own_names) (all_append (Fits margin) ports own_names ports_fit own_fit))
      (line_names ++ register_names) all_named_so)

  apart : among.Apart (flat_map instance_of body ++ (ports ++ own_names))
  apart =
      subst (λ ns. among.Apart (ns ++ (ports ++ own_names))) (sym instances_are)
      (among.apart_from_differ ((line_names ++ register_names) ++ (ports ++ own_names)) (Differ-from_apart ((line_names ++ register_names) ++ (ports ++ own_names)) all_apart))

  -- what the module declares

  kinds : AllByRecursion (λ p. kind_of m p.name ≡ Some (kind_from p)) net.ports
  kinds =
      subst (λ items. AllByRecursion (λ (p : Port). kind_in items p.name ≡ Some (kind_from p)) net.ports)
      (sym (append_assoc (shape.ports_from net.clock 0 net.ports) (map wire_item own_names) body))
      (shape.kinds_are net.clock 0 net.ports (map wire_item own_names ++ body) (ordered.ports_apart net formed plain))

  clock_same : clock_of m ≡ net.clock
  clock_same =
      clock_is (λ name. is_clock (facts_of m name)) net.clock net.ports
      (tests_of m net.clock 0 net.ports kinds (shape.marks_are net.clock net.ports own_names body body_stated (ordered.ports_apart net formed plain)))
      formed.ports_right.clock_fits

  sides : among.Apart (ports ++ own_names)
  sides = among.apart_back (flat_map instance_of body) (ports ++ own_names) apart

  no_port : AllByRecursion (λ x. is_among ports x ≡ false) own_names
  no_port = among.all_from (λ x. is_among ports x ≡ false) own_names (λ x h. among.apart_sides ports own_names x sides h)

  ports_among : AllByRecursion (λ p. is_among ports p.name ≡ true) net.ports
  ports_among = sited.all_mapped (λ x. is_among ports x ≡ true) port_name net.ports (all_among ports)

  wides_are : wides m ≡ declared_wides net.ports own_names
  wides_are =
      ap₂ (λ xs ys. xs ++ ys) (port_wides m net.ports kinds)
      (shape.own_are ports net.clock net.ports own_names body body_stated ports_among no_port)

  bits_are : module_bits m ≡ map bit_name (map bit order)
  bits_are =
      ap (λ ws. flat_map wide_bits ws) wides_are
      ∙ (sym (all_named (declared_wides net.ports own_names)) ∙ ap (map bit_name) (ordered.scope_is net formed plain))

  -- the walk

  lines_fit : AllByRecursion (λ l. IsLine n l.0 l.1) net.lines
  lines_fit = lines_of n net.lines plain.one_operator (and_parts (list_all (λ l. nat_lt l.0 n && reads_below n l.1) net.lines) _ formed.in_range).0

  registers_fit : AllByRecursion (λ r. IsRegister n r.q r.next r.clock) net.registers
  registers_fit = registers_of n net.registers plain.next_kept (and_parts (list_all (λ l. nat_lt l.0 n && reads_below n l.1) net.lines) _ formed.in_range).1

  abbrev parts : Parts
  parts = parts_of [] (m ∷ [])

  abbrev events : List Event
  events = walked (map bit_name (map bit order)) (map (renumbered_line there) net.lines) (map (renumbered_register there) net.registers)

  bound_here : (w : ℕ) → w < n → IsBound (module_names m) (form w) (there w)
  bound_here w lt = subst (λ ws. IsBound (look_from 0 ws) (form w) (there w)) (sym wides_are) (ordered.bound net formed plain w lt)

  events_are : design_events parts 0 ≡ events
  events_are =
      ap₂ (λ xs ys. xs ++ ys) (ap (λ ts. map (λ t. wire t) ts) bits_are)
      (items_are m refl (walk parts 0) (module_names m) form n there bound_here margin net.clock net.ports own_names net.lines net.registers (length net.lines) lines_fit registers_fit (0 + length (module_bits m)))

  -- what becomes of it

  ports_long : (ps : List Port) → AllByRecursion (λ p. map bit p.bits ≡ bits_of p.name p.range) ps → AllByRecursion (λ p. length p.bits ≡ range_width p.range) ps
  ports_long [] h = tt
  ports_long (p ∷ ps) h = (sym (length-map p.bits bit) ∙ (ap length h.0 ∙ bits_long p.name p.range), ports_long ps h.1)

  ports_are : ports_from m 0 ports ≡ map (renumbered_port there) net.ports
  ports_are =
      ports_placed m there 0 net.ports (own.own net formed) kinds (ports_long net.ports (sited.port_bits_are net formed))
      (places_counted order (ordered.is_order net formed plain))

  abbrev lines_there : List Line
  lines_there = map (renumbered_line there) net.lines

  abbrev registers_there : List Stored
  registers_there = map (renumbered_register there) net.registers

  abbrev names_there : List (List ℕ)
  names_there = map bit_name (map bit order)

  wiring_is : wiring_of m events ≡ wiring_from other
  wiring_is =
      same_wiring _ other.ports _ other.wires _ (map line_of other.lines) _ (map flop_of other.registers)
      ports_are (the_wires names_there lines_there registers_there) (the_lines names_there lines_there registers_there) (the_flops names_there lines_there registers_there)

  wired : wire_outcome (wiring_from other) (clock_of m) (first_pin events) (first_wrong (wiring_from other)) ≡ Ok other
  wired =
      ap (wire_outcome (wiring_from other) (clock_of m) (first_pin events)) (kept.none_wrong other other_formed)
      ∙ (ap (pin_outcome (kept_net (wiring_from other) (clock_of m))) (no_pin names_there lines_there registers_there)
      ∙ ap (λ k. pin_outcome k None) (kept.all_kept other other_formed (clock_of m) clock_same))

  names_apart : among.Apart names_there
  names_apart = among.apart_from_differ other.wires other_formed.wires_differ

  outcome : walk_outcome m (design_events parts 0) (first_broken [] (design_events parts 0)) ≡ Ok other
  outcome =
      ap (λ es. walk_outcome m es (first_broken [] es)) events_are
      ∙ (ap (walk_outcome m events) (none_broken names_there lines_there registers_there names_apart)
      ∙ (ap (λ w. wire_outcome w (clock_of m) (first_pin events) (first_wrong w)) wiring_is ∙ wired))

  binds : bound [] (m ∷ []) ≡ Ok other
  binds =
      ap (name_outcome parts) (names.first_fault_none net.clock net.ports own_names body body_stated apart)
      ∙ (ap (top_outcome parts) (names.one_candidate net.clock net.ports own_names body body_stated apart) ∙ outcome)

  pub design_binds : (k : PlainNet) × (bound [] (module_of net ∷ []) ≡ Ok k) × Renumbered net k
  design_binds = (other, ap (λ d. bound [] (d ∷ [])) module_is ∙ binds, is_renumbered)
