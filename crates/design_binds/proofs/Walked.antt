-- What a walk over the module of a net comes to.
use Rattle.std.proofs.Common.{◌≡◌, ◌<◌, ◌+◌, ℕ, true, false, List, [], ◌∷◌, ◌++◌, map, Option, None, refl, ap, ap₂, ◌∙◌, codes, append_assoc}
use Rattle.std.specs.List.{AllByRecursion, enumerate_from}
use Rattle.std.specs.Str.{bytes_eq}
use Rattle.agm_net.specs.Formula.{Formula, f_zero, f_one, f_wire, f_not, f_and, f_or, f_xor, f_mux}
use Rattle.agm_net.specs.Plain.{Line, Stored}
use Rattle.agm_net.specs.Renumbered.{renumbered, renumbered_line, renumbered_register}
use Rattle.agm_net.specs.declared.port.Port.{Port}
use Rattle.cell_library.specs.Judged.{PlainCell}
use Rattle.verilog_reader.specs.Plain.{PlainForm, constant, PlainConnection, PlainItem, PlainModule}
use Rattle.form_bits.specs.Forms.{Text, Look, form_fault, form_width, form_bits}
use Rattle.form_bits.specs.declared.types.Bit as formed_bit
use Rattle.form_bits.specs.declared.types.Bit.TheVariants as formed
use Rattle.cell_faces.specs.Cells.{known_cells, find_cell}
use Rattle.bound_items.specs.Events.{Event, line, flop, count_wires}
use Rattle.bound_items.specs.Items.{bit_formula, assign_events}
use Rattle.net_binding.specs.Walk.{Walk, module_number, cell_found, thing_events, item_events, items_events}
use Rattle.net_binding.specs.Bound.{parts_of}
use Rattle.net_design.specs.Design.{pin, instance_name, line_item, next_of, next_item, register_item, wire_item}
use Rattle.design_binds.proofs.Operators.{IsLine, zero_line, one_line, wire_line, not_line, and_line, or_line, xor_line, mux_line, IsRegister, stores, keeps}
use Rattle.design_binds.proofs.Places.{position_no}
use Rattle.design_binds.proofs.Spots.{IsBound}
use Rattle.design_binds.proofs.Gathered.{line_event, flop_event, stated}
use Rattle.design_binds.proofs.Shape.{ports_from, declared_items}

-- a form whose one bit is this
record IsValue (look : Look) (f : PlainForm) (v : Formula) : Type 0 where
  bit : formed_bit.Bit
  known : form_fault look f ≡ None
  single : form_width look f ≡ 1
  bits : form_bits look 0 f ≡ bit ∷ []
  value : bit_formula bit ≡ v

assigned : (look : Look) (f g : PlainForm) (w : ℕ) (v : Formula) → IsBound look f w → IsValue look g v → assign_events look 0 f g ≡ line (formed.Wire w, v) ∷ []
assigned look f g w v h k = rw (h.known, h.single, h.wire, k.known, k.single, k.bits, k.value) refl

wire_value : (look : Look) (f : PlainForm) (w : ℕ) → IsBound look f w → IsValue look f (f_wire w)
wire_value look f w h = record { bit = formed.Wire w; known = h.known; single = h.single; bits = h.wire; value = refl }

zero_value : (look : Look) → IsValue look (constant (false ∷ [])) f_zero
zero_value look = record { bit = formed.Constant false; known = refl; single = refl; bits = refl; value = refl }

one_value : (look : Look) → IsValue look (constant (true ∷ [])) f_one
one_value look = record { bit = formed.Constant true; known = refl; single = refl; bits = refl; value = refl }

abbrev known : Text → Option PlainCell
known cell = find_cell (known_cells ++ []) cell

inverted : (site : Text) (look : Look) (n : ℕ) (fa fy : PlainForm) (a y : ℕ) → IsBound look fa a → IsBound look fy y
    → cell_found site (codes "AGM_NOT") look 0 n (pin (codes "A") fa ∷ pin (codes "Y") fy ∷ []) (known (codes "AGM_NOT")) ≡ line (formed.Wire y, f_not (f_wire a)) ∷ []
inverted site look n fa fy a y ha hy = rw (ha.known, ha.single, ha.wire, hy.known, hy.single, hy.wire) refl

exclusive : (site : Text) (look : Look) (n : ℕ) (fa fb fy : PlainForm) (a b y : ℕ) → IsBound look fa a → IsBound look fb b → IsBound look fy y
    → cell_found site (codes "AGM_XOR2") look 0 n (pin (codes "A") fa ∷ pin (codes "B") fb ∷ pin (codes "Y") fy ∷ []) (known (codes "AGM_XOR2")) ≡ line (formed.Wire y, f_xor (f_wire a) (f_wire b)) ∷ []
exclusive site look n fa fb fy a b y ha hb hy = rw (ha.known, ha.single, ha.wire, hb.known, hb.single, hb.wire, hy.known, hy.single, hy.wire) refl

product : (site : Text) (look : Look) (n : ℕ) (fa fb fy : PlainForm) (a b y : ℕ) → IsBound look fa a → IsBound look fb b → IsBound look fy y
    → cell_found site (codes "AGM_AND2") look 0 n (pin (codes "A") fa ∷ pin (codes "B") fb ∷ pin (codes "Y") fy ∷ []) (known (codes "AGM_AND2")) ≡ line (formed.Wire y, f_and (f_wire a) (f_wire b)) ∷ []
product site look n fa fb fy a b y ha hb hy = rw (ha.known, ha.single, ha.wire, hb.known, hb.single, hb.wire, hy.known, hy.single, hy.wire) refl

either_of : (site : Text) (look : Look) (n : ℕ) (fa fb fy : PlainForm) (a b y : ℕ) → IsBound look fa a → IsBound look fb b → IsBound look fy y
    → cell_found site (codes "AGM_OR2") look 0 n (pin (codes "A") fa ∷ pin (codes "B") fb ∷ pin (codes "Y") fy ∷ []) (known (codes "AGM_OR2")) ≡ line (formed.Wire y, f_or (f_wire a) (f_wire b)) ∷ []
either_of site look n fa fb fy a b y ha hb hy = rw (ha.known, ha.single, ha.wire, hb.known, hb.single, hb.wire, hy.known, hy.single, hy.wire) refl

selected : (site : Text) (look : Look) (n : ℕ) (fa fb fs fy : PlainForm) (a b s y : ℕ) → IsBound look fa a → IsBound look fb b → IsBound look fs s → IsBound look fy y
    → cell_found site (codes "AGM_MUX2") look 0 n (pin (codes "A") fa ∷ pin (codes "B") fb ∷ pin (codes "S") fs ∷ pin (codes "Y") fy ∷ []) (known (codes "AGM_MUX2"))
    ≡ line (formed.Wire y, f_mux (f_wire s) (f_wire a) (f_wire b)) ∷ []
selected site look n fa fb fs fy a b s y ha hb hs hy =
    rw (ha.known, ha.single, ha.wire, hb.known, hb.single, hb.wire, hs.known, hs.single, hs.wire, hy.known, hy.single, hy.wire) refl

stored : (site : Text) (look : Look) (n : ℕ) (fc fd fq : PlainForm) (c d q : ℕ) → IsBound look fc c → IsBound look fd d → IsBound look fq q
    → cell_found site (codes "AGM_DFF") look 0 n (pin (codes "C") fc ∷ pin (codes "D") fd ∷ pin (codes "Q") fq ∷ []) (known (codes "AGM_DFF")) ≡ flop (record { q = formed.Wire q; next = f_wire d; clock = formed.Wire c }) ∷ []
stored site look n fc fd fq c d q hc hd hq = rw (hc.known, hc.single, hc.wire, hd.known, hd.single, hd.wire, hq.known, hq.single, hq.wire) refl

enabled : (site : Text) (look : Look) (n : ℕ) (fc fd fe fq : PlainForm) (c d e q : ℕ) → IsBound look fc c → IsBound look fd d → IsBound look fe e → IsBound look fq q
    → cell_found site (codes "AGM_DFFE") look 0 n (pin (codes "C") fc ∷ pin (codes "D") fd ∷ pin (codes "E") fe ∷ pin (codes "Q") fq ∷ []) (known (codes "AGM_DFFE"))
    ≡ flop (record { q = formed.Wire q; next = f_mux (f_wire e) (f_wire q) (f_wire d); clock = formed.Wire c }) ∷ []
enabled site look n fc fd fe fq c d e q hc hd he hq =
    rw (hc.known, hc.single, hc.wire, hd.known, hd.single, hd.wire, he.known, he.single, he.wire, hq.known, hq.single, hq.wire) refl

module _ (m : PlainModule) (named : m.name ≡ codes "agm_top") (inner : Walk) (look : Look) (form : ℕ → PlainForm) (n : ℕ) (there : ℕ → ℕ) (bound : (w : ℕ) → w < n → IsBound look (form w) (there w)) (margin : ℕ) where
  abbrev item_in : ℕ → PlainItem → List Event
  item_in k i = item_events (parts_of [] (m ∷ [])) inner (0 ∷ []) [] look 0 k i

  -- a cell that is known is no module
  cell_thing : (k : ℕ) (site cell : Text) (pins : List PlainConnection) → bytes_eq (codes "agm_top") cell ≡ false
      → thing_events (parts_of [] (m ∷ [])) inner (0 ∷ []) site cell look 0 k pins (module_number (m ∷ []) cell) ≡ cell_found site cell look 0 k pins (known cell)
  cell_thing k site cell pins h =
      ap (thing_events (parts_of [] (m ∷ [])) inner (0 ∷ []) site cell look 0 k pins) (position_no (λ name. bytes_eq name cell) m.name [] (ap (λ name. bytes_eq name cell) named ∙ h))

  -- an equation
  line_is : (k j : ℕ) {w : ℕ} {f : Formula} → IsLine n w f → item_in k (line_item form margin (j, (w, f))) ≡ line_event (renumbered_line there (w, f)) ∷ []
  line_is k j (zero_line w lt) = assigned look (form w) (constant (false ∷ [])) (there w) f_zero (bound w lt) (zero_value look)
  line_is k j (one_line w lt) = assigned look (form w) (constant (true ∷ [])) (there w) f_one (bound w lt) (one_value look)
  line_is k j (wire_line w a lt x) = assigned look (form w) (form a) (there w) (f_wire (there a)) (bound w lt) (wire_value look (form a) (there a) (bound a x))
  line_is k j (not_line w a lt x) =
      cell_thing k (instance_name margin j) (codes "AGM_NOT") (pin (codes "A") (form a) ∷ pin (codes "Y") (form w) ∷ []) refl
      ∙ inverted (instance_name margin j) look k (form a) (form w) (there a) (there w) (bound a x) (bound w lt)
  line_is k j (and_line w a b lt x y) =
      cell_thing k (instance_name margin j) (codes "AGM_AND2") (pin (codes "A") (form a) ∷ pin (codes "B") (form b) ∷ pin (codes "Y") (form w) ∷ []) refl
      ∙ product (instance_name margin j) look k (form a) (form b) (form w) (there a) (there b) (there w) (bound a x) (bound b y) (bound w lt)
  line_is k j (or_line w a b lt x y) =
      cell_thing k (instance_name margin j) (codes "AGM_OR2") (pin (codes "A") (form a) ∷ pin (codes "B") (form b) ∷ pin (codes "Y") (form w) ∷ []) refl
      ∙ either_of (instance_name margin j) look k (form a) (form b) (form w) (there a) (there b) (there w) (bound a x) (bound b y) (bound w lt)
  line_is k j (xor_line w a b lt x y) =
      cell_thing k (instance_name margin j) (codes "AGM_XOR2") (pin (codes "A") (form a) ∷ pin (codes "B") (form b) ∷ pin (codes "Y") (form w) ∷ []) refl
      ∙ exclusive (instance_name margin j) look k (form a) (form b) (form w) (there a) (there b) (there w) (bound a x) (bound b y) (bound w lt)
  line_is k j (mux_line w s a b lt z x y) =
      cell_thing k (instance_name margin j) (codes "AGM_MUX2") (pin (codes "A") (form a) ∷ pin (codes "B") (form b) ∷ pin (codes "S") (form s) ∷ pin (codes "Y") (form w) ∷ []) refl
      ∙ selected (instance_name margin j) look k (form a) (form b) (form s) (form w) (there a) (there b) (there s) (there w) (bound a x) (bound b y) (bound s z) (bound w lt)

  -- a register
  register_is : (k j : ℕ) {q c : ℕ} {f : Formula} → IsRegister n q f c → item_in k (next_item form margin j c q (next_of f)) ≡ flop_event (record { q = there q; next = renumbered there f; clock = there c }) ∷ []
  register_is k j (stores q d c in_q in_d in_c) =
      cell_thing k (instance_name margin j) (codes "AGM_DFF") (pin (codes "C") (form c) ∷ pin (codes "D") (form d) ∷ pin (codes "Q") (form q) ∷ []) refl
      ∙ stored (instance_name margin j) look k (form c) (form d) (form q) (there c) (there d) (there q) (bound c in_c) (bound d in_d) (bound q in_q)
  register_is k j (keeps q e d c in_q in_e in_d in_c) =
      cell_thing k (instance_name margin j) (codes "AGM_DFFE") (pin (codes "C") (form c) ∷ pin (codes "D") (form d) ∷ pin (codes "E") (form e) ∷ pin (codes "Q") (form q) ∷ []) refl
      ∙ enabled (instance_name margin j) look k (form c) (form d) (form e) (form q) (there c) (there d) (there e) (there q) (bound c in_c) (bound d in_d) (bound e in_e) (bound q in_q)

  registers_are : (k j : ℕ) (rs : List Stored) → AllByRecursion (λ r. IsRegister n r.q r.next r.clock) rs → items_events item_in k (map (register_item form margin) (enumerate_from j rs)) ≡ map flop_event (map (renumbered_register there) rs)
  registers_are k j [] h = refl
  registers_are k j (r ∷ rs) h =
      ap₂ (λ xs ys. xs ++ ys) (register_is k j h.0) (registers_are (k + count_wires (item_in k (register_item form margin (j, r)))) (j + 1) rs h.1)

  lines_are : (k j i : ℕ) (ls : List Line) (rs : List Stored) → AllByRecursion (λ l. IsLine n l.0 l.1) ls → AllByRecursion (λ r. IsRegister n r.q r.next r.clock) rs
      → items_events item_in k (map (line_item form margin) (enumerate_from j ls) ++ map (register_item form margin) (enumerate_from i rs)) ≡ stated (map (renumbered_line there) ls) (map (renumbered_register there) rs)
  lines_are k j i [] rs h g = registers_are k i rs g
  lines_are k j i (l ∷ ls) rs h g =
      ap₂ (λ xs ys. xs ++ ys) (line_is k j h.0) (lines_are (k + count_wires (item_in k (line_item form margin (j, l)))) (j + 1) i ls rs h.1 g)

  -- declarations give nothing
  over_wires : (ns : List (List ℕ)) (rest : List PlainItem) (es : List Event) → ((k : ℕ) → items_events item_in k rest ≡ es) → (k : ℕ) → items_events item_in k (map wire_item ns ++ rest) ≡ es
  over_wires [] rest es h k = h k
  over_wires (x ∷ xs) rest es h k = over_wires xs rest es h (k + 0)

  over_ports : (clock : Option ℕ) (j : ℕ) (ps : List Port) (rest : List PlainItem) (es : List Event) → ((k : ℕ) → items_events item_in k rest ≡ es) → (k : ℕ) → items_events item_in k (ports_from clock j ps ++ rest) ≡ es
  over_ports clock j [] rest es h k = h k
  over_ports clock j (p ∷ ps) rest es h k = over_ports clock (j + 1) ps rest es h (k + 0)

  pub items_are : (clock : Option ℕ) (ps : List Port) (own_names : List (List ℕ)) (ls : List Line) (rs : List Stored) (i : ℕ) → AllByRecursion (λ l. IsLine n l.0 l.1) ls → AllByRecursion (λ r. IsRegister n r.q r.next r.clock) rs
      → (k : ℕ) → items_events item_in k (declared_items clock ps own_names ++ (map (line_item form margin) (enumerate_from 0 ls) ++ map (register_item form margin) (enumerate_from i rs)))
      ≡ stated (map (renumbered_line there) ls) (map (renumbered_register there) rs)
  items_are clock ps own_names ls rs i h g k =
      let body = map (line_item form margin) (enumerate_from 0 ls) ++ map (register_item form margin) (enumerate_from i rs) in
      ap (items_events item_in k) (append_assoc (ports_from clock 0 ps) (map wire_item own_names) body)
      ∙ over_ports clock 0 ps (map wire_item own_names ++ body) _ (over_wires own_names body _ (λ j. lines_are j 0 i ls rs h g)) k
