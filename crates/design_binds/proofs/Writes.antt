-- The design of a plain net can be written.
use Rattle.std.proofs.Common.{◌≡◌, ◌<◌, ◌≤◌, ◌+◌, ◌-◌, ◌^◌, ◌==◌, ◌&&◌, ℕ, zero, suc, Bool, true, false, cond, List, [], ◌∷◌, length, map, nat_lt, Option, Some, None, codes, slice_get, refl, sym, subst, inl, inr, arith}
use Rattle.std.specs.Prelude.{nat_le}
use Rattle.std.specs.List.{AllByRecursion, flat_map, enumerate_from, range_with_len, list_all}
use Rattle.std.proofs.lemmas.Bool.{cases_Bool, leb-false, and_parts}
use Rattle.agm_net.specs.Formula.{Formula, reads_below}
use Rattle.agm_net.specs.Plain.{Line, Stored, PlainNet, range_numbers}
use Rattle.agm_net.specs.PlainForm.{IsPlain, RangeFits}
use Rattle.agm_net.specs.WellFormed.{WellFormed}
use Rattle.agm_net.specs.Writable.{IsWritable}
use Rattle.agm_net.specs.declared.port.Range.{Range}
use Rattle.agm_net.specs.declared.port.Port.{Port}
use Rattle.verilog_reader.specs.Plain.{PlainForm, PlainModule}
use Rattle.verilog_reader.specs.Grammar.{IsTarget}
use Rattle.design_text.specs.Writable.{IsWritableSource, IsWritableItem, IsWritableModule, IsWritableDesign, AreWritableAttributes}
use Rattle.net_design.specs.Bits.{Bit, plain_bit, select, bits_of, form_at}
use Rattle.net_design.specs.Sites.{sites_of}
use Rattle.net_design.specs.Design.{clock_attribute, mark_at, wire_item, port_name, margin_of, form_of, line_item, next_of, next_item, register_item, statements, module_of}
use Rattle.design_binds.proofs.Apart.{all_append, all_from, all_every}
use Rattle.design_binds.proofs.Renumbering.{of_one}
use Rattle.design_binds.proofs.Sited as sited
use Rattle.design_binds.proofs.OwnWires as own
use Rattle.design_binds.proofs.Ordered as ordered
use Rattle.design_binds.proofs.Ordered.{of_has}
use Rattle.design_binds.proofs.Shape.{ports_from, declared_items}
use Rattle.design_binds.proofs.Operators.{IsLine, zero_line, one_line, wire_line, not_line, and_line, or_line, xor_line, mux_line, IsRegister, stores, keeps, lines_of, registers_of}
use Rattle.design_binds.proofs.Instances.{instance_writable}
use Rattle.design_binds.proofs.Binds.{module_is}

-- numbers of a range that fits fit
numbers_below : (a n top : ℕ) → a + n ≤ top + 1 → AllByRecursion (λ k. k ≤ top) (range_with_len a n)
numbers_below a zero top fits = tt
numbers_below a (suc n) top fits = (omega arith, numbers_below (a + 1) n top (omega arith))

range_fits : (msb lsb : ℕ) → msb ≤ 65535 → lsb ≤ 65535 → AllByRecursion (λ k. k ≤ 65535) (range_numbers msb lsb)
range_fits msb lsb top low =
    elim (cases_Bool (nat_le lsb msb)) [
      | inl le ↦ rw le (sited.mapped_all (λ k. k ≤ 65535) (λ k. msb - k) (range_with_len 0 (msb - lsb + 1)) (all_every (λ k. msb - k ≤ 65535) (λ k. omega arith) (range_with_len 0 (msb - lsb + 1))))
      | inr gt ↦ let up = leb-false lsb msb gt in rw gt (numbers_below msb (lsb - msb + 1) 65535 (omega arith))
    ]

-- a bit whose index is small, and whose name can be written
abbrev IndexFits : Option ℕ → Type 0
IndexFits None = Unit {0}
IndexFits (Some k) = k ≤ 65535

abbrev IsGood : Bit → Type 0
IsGood b = IsWritable b.name × IndexFits b.index

good_bits : (name : List ℕ) (range : Option Range) → IsWritable name → RangeFits range → AllByRecursion IsGood (bits_of name range)
good_bits name None writable fits = ((writable, tt), tt)
good_bits name (Some r) writable fits =
    sited.mapped_all IsGood (λ k. select name k) (range_numbers r.msb r.lsb)
    (all_from (λ k. k ≤ 65535) (λ k. IsWritable name × (k ≤ 65535)) (λ k le. (writable, le)) (range_numbers r.msb r.lsb) (range_fits r.msb r.lsb fits.0 fits.1))

source_at : (name : List ℕ) (i : Option ℕ) → IsWritable name → IndexFits i → IsWritableSource (form_at name i)
source_at name None w h = (w, omega arith)
source_at name (Some k) w h = ((w, h), omega arith)

target_at : (name : List ℕ) (i : Option ℕ) → IsTarget (form_at name i)
target_at name None = tt
target_at name (Some k) = tt

-- declarations

mark_case : (b : Bool) → AreWritableAttributes (cond b (clock_attribute ∷ []) [])
mark_case true = (((omega arith, (refl, (refl, (refl, (refl, (refl, tt)))))), inl (refl, inl (refl, inl (refl, inl (refl, inl (refl, tt)))))), tt)
mark_case false = tt

marks_writable : (clock : Option ℕ) (k : ℕ) → AreWritableAttributes (mark_at clock k)
marks_writable None k = tt
marks_writable (Some c) k = mark_case (c == k)

ports_writable : (clock : Option ℕ) (k : ℕ) (ps : List Port) → AllByRecursion (λ p. IsWritable p.name) ps → AllByRecursion (λ p. RangeFits p.range) ps → AllByRecursion IsWritableItem (ports_from clock k ps)
ports_writable clock k [] w r = tt
ports_writable clock k (p ∷ ps) w r = ((marks_writable clock k, r.0, omega arith, (w.0, tt)), ports_writable clock (k + 1) ps w.1 r.1)

wires_writable : (ns : List (List ℕ)) → AllByRecursion IsWritable ns → AllByRecursion IsWritableItem (map wire_item ns)
wires_writable [] w = tt
wires_writable (n ∷ ns) w = ((tt, tt, omega arith, (w.0, tt)), wires_writable ns w.1)

module _ (net : PlainNet) (formed : WellFormed net) (plain : IsPlain net) (short : length net.lines + length net.registers < 2 ^ 64) where
  abbrev bit : ℕ → Bit
  bit = ordered.bit net formed plain

  abbrev form : ℕ → PlainForm
  form = form_of net (sites_of net)

  abbrev n : ℕ
  n = length net.wires

  abbrev margin : ℕ
  margin = margin_of net

  port_good : (ps : List Port) → AllByRecursion (λ p. map bit p.bits ≡ bits_of p.name p.range) ps → AllByRecursion (λ p. IsWritable p.name) ps → AllByRecursion (λ p. RangeFits p.range) ps
      → AllByRecursion (λ w. IsGood (bit w)) (flat_map (λ p. p.bits) ps)
  port_good [] bits writable fits = tt
  port_good (p ∷ ps) bits writable fits =
      all_append (λ w. IsGood (bit w)) p.bits (flat_map (λ q. q.bits) ps)
      (sited.all_mapped IsGood bit p.bits (subst (λ bs. AllByRecursion IsGood bs) (sym bits.0) (good_bits p.name p.range writable.0 fits.0)))
      (port_good ps bits.1 writable.1 fits.1)

  own_writable : AllByRecursion IsWritable (own.own_names net formed)
  own_writable =
      sited.mapped_all IsWritable (λ (x : ℕ × List ℕ). x.1) (own.own_pairs net formed)
      (all_from (λ (x : ℕ × List ℕ). slice_get net.wires x.0 ≡ Some x.1) (λ x. IsWritable x.1) (λ x e. of_one IsWritable net.wires x.0 x.1 plain.wires_writable e) (own.own_pairs net formed) (own.own_named net formed))

  own_good : (xs : List (ℕ × List ℕ)) → AllByRecursion (λ x. bit x.0 ≡ plain_bit x.1) xs → AllByRecursion IsWritable (map (λ x. x.1) xs) → AllByRecursion (λ w. IsGood (bit w)) (map (λ x. x.0) xs)
  own_good [] bits writable = tt
  own_good (x ∷ xs) bits writable = (subst IsGood (sym bits.0) (writable.0, tt), own_good xs bits.1 writable.1)

  good : (w : ℕ) → w < n → IsGood (bit w)
  good w lt =
      let order = ordered.order net formed plain in
      let e = ordered.long net formed plain in
      of_has (λ v. IsGood (bit v)) order w
      (all_append (λ v. IsGood (bit v)) (sited.port_wires net formed) (own.own net formed)
      (port_good net.ports (sited.port_bits_are net formed) plain.ports_writable plain.ranges_fit)
      (own_good (own.own_pairs net formed) (ordered.own_bits net formed plain) own_writable))
      ((ordered.is_order net formed plain).all_there w (omega arith))

  source : (w : ℕ) → w < n → IsWritableSource (form w)
  source w lt = let g = good w lt in source_at (bit w).name (bit w).index g.0 g.1

  target : (w : ℕ) → IsTarget (form w)
  target w = target_at (bit w).name (bit w).index

  pin_a : IsWritable (codes "A")
  pin_a = (omega arith, (refl, tt))

  pin_b : IsWritable (codes "B")
  pin_b = (omega arith, (refl, tt))

  pin_s : IsWritable (codes "S")
  pin_s = (omega arith, (refl, tt))

  pin_y : IsWritable (codes "Y")
  pin_y = (omega arith, (refl, tt))

  pin_c : IsWritable (codes "C")
  pin_c = (omega arith, (refl, tt))

  pin_d : IsWritable (codes "D")
  pin_d = (omega arith, (refl, tt))

  pin_e : IsWritable (codes "E")
  pin_e = (omega arith, (refl, tt))

  pin_q : IsWritable (codes "Q")
  pin_q = (omega arith, (refl, tt))

  seven : IsWritable (codes "AGM_NOT") × IsWritable (codes "AGM_OR2") × IsWritable (codes "AGM_DFF")
  seven = (
    (omega arith, (refl, (refl, (refl, (refl, (refl, (refl, (refl, tt)))))))),
    (omega arith, (refl, (refl, (refl, (refl, (refl, (refl, (refl, tt)))))))),
    (omega arith, (refl, (refl, (refl, (refl, (refl, (refl, (refl, tt)))))))),
  )

  and_name : IsWritable (codes "AGM_AND2")
  and_name = (omega arith, (refl, (refl, (refl, (refl, (refl, (refl, (refl, (refl, tt)))))))))

  xor_name : IsWritable (codes "AGM_XOR2")
  xor_name = (omega arith, (refl, (refl, (refl, (refl, (refl, (refl, (refl, (refl, tt)))))))))

  mux_name : IsWritable (codes "AGM_MUX2")
  mux_name = (omega arith, (refl, (refl, (refl, (refl, (refl, (refl, (refl, (refl, tt)))))))))

  enabled_name : IsWritable (codes "AGM_DFFE")
  enabled_name = (omega arith, (refl, (refl, (refl, (refl, (refl, (refl, (refl, (refl, tt)))))))))

  line_writable : (j : ℕ) → j < 2 ^ 64 → {w : ℕ} {f : Formula} → IsLine n w f → IsWritableItem (line_item form margin (j, (w, f)))
  line_writable j h (zero_line w lt) = (tt, (source w lt, target w), ((omega arith, omega arith), omega arith))
  line_writable j h (one_line w lt) = (tt, (source w lt, target w), ((omega arith, omega arith), omega arith))
  line_writable j h (wire_line w a lt x) = (tt, (source w lt, target w), source a x)
  line_writable j h (not_line w a lt x) = (tt, seven.0, instance_writable margin j h, ((pin_a, source a x), ((pin_y, source w lt), tt)))
  line_writable j h (and_line w a b lt x y) = (tt, and_name, instance_writable margin j h, ((pin_a, source a x), ((pin_b, source b y), ((pin_y, source w lt), tt))))
  line_writable j h (or_line w a b lt x y) = (tt, seven.1, instance_writable margin j h, ((pin_a, source a x), ((pin_b, source b y), ((pin_y, source w lt), tt))))
  line_writable j h (xor_line w a b lt x y) = (tt, xor_name, instance_writable margin j h, ((pin_a, source a x), ((pin_b, source b y), ((pin_y, source w lt), tt))))
  line_writable j h (mux_line w s a b lt z x y) = (tt, mux_name, instance_writable margin j h, ((pin_a, source a x), ((pin_b, source b y), ((pin_s, source s z), ((pin_y, source w lt), tt)))))

  register_writable : (j : ℕ) → j < 2 ^ 64 → {q c : ℕ} {f : Formula} → IsRegister n q f c → IsWritableItem (next_item form margin j c q (next_of f))
  register_writable j h (stores q d c in_q in_d in_c) = (tt, seven.2, instance_writable margin j h, ((pin_c, source c in_c), ((pin_d, source d in_d), ((pin_q, source q in_q), tt))))
  register_writable j h (keeps q e d c in_q in_e in_d in_c) = (tt, enabled_name, instance_writable margin j h, ((pin_c, source c in_c), ((pin_d, source d in_d), ((pin_e, source e in_e), ((pin_q, source q in_q), tt)))))

  lines_writable : (k : ℕ) (ls : List Line) → k + length ls < 2 ^ 64 → AllByRecursion (λ l. IsLine n l.0 l.1) ls → AllByRecursion IsWritableItem (map (line_item form margin) (enumerate_from k ls))
  lines_writable k [] lt h = tt
  lines_writable k (l ∷ ls) lt h = (line_writable k (omega arith) h.0, lines_writable (k + 1) ls (omega arith) h.1)

  registers_writable : (k : ℕ) (rs : List Stored) → k + length rs < 2 ^ 64 → AllByRecursion (λ r. IsRegister n r.q r.next r.clock) rs → AllByRecursion IsWritableItem (map (register_item form margin) (enumerate_from k rs))
  registers_writable k [] lt h = tt
  registers_writable k (r ∷ rs) lt h = (register_writable k (omega arith) h.0, registers_writable (k + 1) rs (omega arith) h.1)

  fits : (AllByRecursion (λ l. IsLine n l.0 l.1) net.lines) × (AllByRecursion (λ r. IsRegister n r.q r.next r.clock) net.registers)
  fits =
      let p = and_parts (list_all (λ l. nat_lt l.0 n && reads_below n l.1) net.lines) _ formed.in_range in
      (lines_of n net.lines plain.one_operator p.0, registers_of n net.registers plain.next_kept p.1)

  pub writable : IsWritableDesign (module_of net ∷ [])
  writable =
      let body = all_append IsWritableItem (map (line_item form margin) (enumerate_from 0 net.lines)) (map (register_item form margin) (enumerate_from (length net.lines) net.registers))
      (lines_writable 0 net.lines (omega (arith, short)) fits.0) (registers_writable (length net.lines) net.registers short fits.1) in
      let declared = all_append IsWritableItem (ports_from net.clock 0 net.ports) (map wire_item (own.own_names net formed))
      (ports_writable net.clock 0 net.ports plain.ports_writable plain.ranges_fit) (wires_writable (own.own_names net formed) own_writable) in
      let whole = all_append IsWritableItem (declared_items net.clock net.ports (own.own_names net formed)) (statements net (sites_of net) margin) declared body in
      let P : PlainModule → Type 0 = IsWritableModule in (
        omega arith,
        (
          subst P (sym (module_is net formed plain short)) (record {
            attributes = tt;
            name = (omega arith, (refl, (refl, (refl, (refl, (refl, (refl, (refl, tt))))))));
            ports = sited.mapped_all IsWritable port_name net.ports plain.ports_writable;
            items = whole;
          }),
          tt,
        ),
      )
