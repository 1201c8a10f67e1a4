-- Input ports, one after another.
use Rattle.std.proofs.Common.{◌≡◌, ◌≢◌, ◌<◌, ◌+◌, ◌++◌, ℕ, zero, suc, List, [], ◌∷◌, Option, length, length-append, map, flat_map, get_or, refl, sym, ap, ap₂, subst, inl, inr, ◌∙◌, arith, append_assoc, append-nil}
use Rattle.std.specs.List.{AllByRecursion, range_with_len}
use Rattle.std.proofs.lemmas.Bool.{cases_lt}
use Rattle.std.proofs.Math.Seq.{get_or-append_seam}
use Rattle.std.proofs.lemmas.List.{get_or_append_left, map-append}
use Rattle.agm_net.specs.Plain.{bit_names}
use Rattle.agm_net.specs.declared.port.Port.{Port}
use Rattle.agm_net.specs.declared.port.Range.{Range}
use Rattle.share_wiring.specs.Adds.{Extends, AddsFact}
use Rattle.share_wiring.specs.Built.{IsBuilt, IsNew, IsNewPort, IsInnerName, IsInnerOrBit, bits_names}
use Rattle.share_wiring.specs.Cells.{AddsCells}
use Rattle.share_wiring.specs.Networks.{KeepsNetwork, FitsOrder}
use Rattle.share_wiring.specs.Own.{upto, input_wires}
use Rattle.share_wiring.specs.Shape.{Header, header_of}
use Rattle.share_wiring.specs.Wiring.{Wiring, names, name_at, share}
use Rattle.share_wiring.specs.declared.gate.Source.TheVariants as source
use Rattle.share_wiring.proofs.OwnWires.{map-upto}
use Rattle.share_wiring.proofs.PortNames.{IsOuter, outer, outer_select, each_bit}
use Rattle.share_wiring.proofs.PortWires.{among_all, bit_wire_names, bit_wire_count}
use Rattle.share_wiring.proofs.Runs.{name_front, name_back, extends_refl, extends_trans}
use Rattle.pipeline_balance.specs.Ports.{header_bits, FitsBeside, input_header, input_port, row_of, input_ports, FitOneByOne, AreEntered}

-- ---- a port that can stand beside those of a builder is a new one

not_inner : (name : List ℕ) → IsOuter name → IsInnerName name → ⊥
not_inner name (inl user) (rest, inl is) = user (112 ∷ rest) is
not_inner name (inl user) (rest, inr (inl is)) = user (100 ∷ rest) is
not_inner name (inl user) (rest, inr (inr is)) = user (103 ∷ rest) is
not_inner name (inr (c, tail, other, e)) (rest, inl is) = let r : c ≡ 112 = cc in other.0 r
not_inner name (inr (c, tail, other, e)) (rest, inr (inl is)) = let r : c ≡ 100 = cc in other.1 r
not_inner name (inr (c, tail, other, e)) (rest, inr (inr is)) = let r : c ≡ 103 = cc in other.2 r

bits_of_headers : (ports : List Port) → flat_map header_bits (map header_of ports) ≡ bits_names ports
bits_of_headers [] = refl
bits_of_headers (p ∷ ps) = ap (λ rest. bit_names p.name p.range ++ rest) (bits_of_headers ps)

names_of_headers : (ports : List Port) → map (λ (h : Header). h.name) (map header_of ports) ≡ map (λ (p : Port). p.name) ports
names_of_headers [] = refl
names_of_headers (p ∷ ps) = ap (λ rest. p.name ∷ rest) (names_of_headers ps)

-- an outer name that is no bit's is no wire's
no_wire : (ports : List Port) (bit : List ℕ) → IsOuter bit → IsNew (bits_names ports) bit → (ws : List (List ℕ)) → AllByRecursion (IsInnerOrBit ports) ws → IsNew ws bit
no_wire ports bit is new [] named = tt
no_wire ports bit is new (w ∷ ws) named = (here named.0, no_wire ports bit is new ws named.1)
  where
    here : IsInnerOrBit ports w → w ≢ bit
    here (inl inner) e = not_inner bit is (subst IsInnerName e inner)
    here (inr among) e = among_all (λ n. n ≢ bit) (bits_names ports) w new among e

no_wires : (ports : List Port) (ws : List (List ℕ)) → AllByRecursion (IsInnerOrBit ports) ws → (bits : List (List ℕ)) → AllByRecursion IsOuter bits → AllByRecursion (IsNew (bits_names ports)) bits → AllByRecursion (IsNew ws) bits
no_wires ports ws named [] is new = tt
no_wires ports ws named (b ∷ bs) is new = (no_wire ports b is.0 new.0 ws named, no_wires ports ws named bs is.1 new.1)

pub fits_new : (net : Wiring) (h : Header) → IsBuilt net → FitsBeside (map header_of net.ports) h → IsNewPort net h.name h.range
fits_new net h built fits = record {
  new_port = subst (λ ns. IsNew ns h.name) (names_of_headers net.ports) fits.new_name;
  new_wires = no_wires net.ports (names net.wires) built.named (bit_names h.name h.range)
      (each_bit IsOuter h.name h.range fits.small (outer h.name fits.port_name) (λ k lt. outer_select h.name _ (outer h.name fits.port_name)))
      (subst (λ ns. AllByRecursion (IsNew ns) (bit_names h.name h.range)) (bits_of_headers net.ports) fits.new_bits);
  written = fits.written;
  port_name = fits.port_name;
  small = fits.small;
}

-- ---- one port more

pub upto_same : {X : Type 0} (n : ℕ) (f g : ℕ → X) → ((i : ℕ) → i < n → f i ≡ g i) → upto n f ≡ upto n g
upto_same zero f g h = refl
upto_same (suc n) f g h = ap₂ (λ xs x. xs ++ x ∷ []) (upto_same n f g (λ i lt. h i (omega arith))) (h n (omega arith))

pub row_front : (rows : List (List ℕ)) (b : List ℕ) (i : ℕ) → i < length rows → row_of (rows ++ b ∷ []) i ≡ row_of rows i
row_front rows b i lt = get_or_append_left rows (b ∷ []) [] i lt

pub row_last : (rows : List (List ℕ)) (b : List ℕ) → row_of (rows ++ b ∷ []) (length rows) ≡ b
row_last rows b = get_or-append_seam rows b [] []

range_at : (a n j : ℕ) → j < n → get_or (range_with_len a n) j 0 ≡ a + j
range_at a zero j lt = absurd (omega arith)
range_at a (suc n) zero lt = omega arith
range_at a (suc n) (suc j) lt = let e = range_at (a + 1) n j (omega arith) in e ∙ omega arith

range_length : (a n : ℕ) → length (range_with_len a n) ≡ n
range_length a zero = refl
range_length a (suc n) = ap suc (range_length (a + 1) n)

pub none_entered : (range : Option Range) (ns : List (List ℕ)) (net : Wiring) → AreEntered range ns net net 0 []
none_entered range ns net = record {
  count = refl;
  extends = extends_refl net;
  ports = sym (append-nil net.ports);
  wide = λ i lt. absurd (omega arith);
  within = λ i j lt. absurd (omega arith);
  named = λ i j lt. absurd (omega arith);
  begun = refl;
  given = refl;
  cells = λ h. h;
  network = λ d fits h. h;
  value = λ cycles bits run. (run, tt);
}

module _ (range : Option Range) (ns : List (List ℕ)) (old now : Wiring) (k : ℕ) (rows : List (List ℕ)) (before : AreEntered range ns old now k rows) where
  pub entered_new : IsBuilt now → FitOneByOne (map header_of old.ports) range ns → k < length ns → IsNewPort now (row_of ns k) range
  entered_new built fit lt =
      let h : ℕ → Header = λ i. input_header range (row_of ns i) in
      let headers : map header_of now.ports ≡ map header_of old.ports ++ upto k h =
      ap (map header_of) before.ports ∙ (map-append header_of old.ports (input_ports range ns rows k)
      ∙ ap (λ hs. map header_of old.ports ++ hs) (map-upto header_of k (λ i. input_port range (row_of ns i) (row_of rows i)))) in
      fits_new now (input_header range (row_of ns k)) built (subst (λ hs. FitsBeside hs (h k)) (sym headers) (fit k lt))

  pub entered_more : (new : Wiring) (bits : List ℕ) → (bits ≡ range_with_len (length now.wires) (length (bit_names (row_of ns k) range)))
      → new ≡ record now { ports = now.ports ++ input_port range (row_of ns k) bits ∷ []; wires = now.wires ++ input_wires (bit_names (row_of ns k) range) }
      → Extends now new → AddsFact now new (λ cycles bits. Unit {0}) → AddsCells now new → ((d : ℕ) → FitsOrder d (row_of ns k) → KeepsNetwork d now new) → AreEntered range ns old new (k + 1) (rows ++ bits ∷ [])
  entered_more new bits are made extends adds cells network =
      let count = before.count in
      let bns = bit_names (row_of ns k) range in
      let more = input_wires bns in
      let len = length-append rows (bits ∷ []) in
      let wires : new.wires ≡ now.wires ++ more = ap (λ (w : Wiring). w.wires) made in
      let long = ap length wires ∙ (length-append now.wires more ∙ ap (λ x. length now.wires + x) (bit_wire_count bns (λ i. source.Input))) in
      let last : row_of (rows ++ bits ∷ []) k ≡ bits = ap (row_of (rows ++ bits ∷ [])) (sym count) ∙ row_last rows bits in
      let kept : (i : ℕ) → i < k → row_of (rows ++ bits ∷ []) i ≡ row_of rows i = λ i lt. row_front rows bits i (omega (arith, count, lt)) in
      let wide : length bits ≡ length bns = ap length are ∙ range_length (length now.wires) (length bns) in
      record {
        count = omega (arith, len, count);
        extends = extends_trans old now new before.extends extends;
        ports = ap (λ (w : Wiring). w.ports) made
            ∙ (ap (λ ps. ps ++ input_port range (row_of ns k) bits ∷ []) before.ports
            ∙ (append_assoc old.ports (input_ports range ns rows k) (input_port range (row_of ns k) bits ∷ [])
            ∙ ap (λ ps. old.ports ++ ps) (joined (rows ++ bits ∷ []) bits kept last)));
        wide = λ i lt. elim (cases_lt i k) [
          | inl early ↦ ap length (kept i early) ∙ before.wide i early
          | inr late ↦ (let here : i ≡ k = omega (arith, lt, late) in subst (λ x. length (row_of (rows ++ bits ∷ []) x) ≡ length (bit_names (row_of ns x) range)) (sym here) (ap length last ∙ wide))
        ];
        within = λ i j lt. elim (cases_lt i k) [
          | inl early ↦ (λ below.
              let inside = before.within i j early (subst (λ r. j < length r) (kept i early) below) in
              subst (λ r. share r j < length new.wires) (sym (kept i early)) (omega (arith, long, inside)))
          | inr late ↦ (
              let here : i ≡ k = omega (arith, lt, late) in
              subst (λ x. j < length (row_of (rows ++ bits ∷ []) x) → share (row_of (rows ++ bits ∷ []) x) j < length new.wires) (sym here)
              (λ below. (
              let below' : j < length bits = subst (λ r. j < length r) last below in
              let at : share bits j ≡ length now.wires + j = ap (λ r. share r j) are ∙ range_at (length now.wires) (length bns) j (omega (arith, wide, below')) in
              subst (λ r. share r j < length new.wires) (sym last) (omega (arith, at, long, wide, below')))))
        ];
        named = λ i j lt. elim (cases_lt i k) [
          | inl early ↦ (λ below.
              let below' : j < length (row_of rows i) = subst (λ r. j < length r) (kept i early) below in
              subst (λ r. name_at new.wires (share r j) ≡ get_or (bit_names (row_of ns i) range) j []) (sym (kept i early))
              (ap (λ ws. name_at ws (share (row_of rows i) j)) wires ∙ (name_front now.wires more (share (row_of rows i) j) (before.within i j early below') ∙ before.named i j early below')))
          | inr late ↦ (
              let here : i ≡ k = omega (arith, lt, late) in
              subst (λ x. j < length (row_of (rows ++ bits ∷ []) x) → name_at new.wires (share (row_of (rows ++ bits ∷ []) x) j) ≡ get_or (bit_names (row_of ns x) range) j []) (sym here)
              (λ below. (
              let below' : j < length bits = subst (λ r. j < length r) last below in
              let at : share bits j ≡ length now.wires + j = ap (λ r. share r j) are ∙ range_at (length now.wires) (length bns) j (omega (arith, wide, below')) in
              subst (λ r. name_at new.wires (share r j) ≡ get_or bns j []) (sym last)
              (ap₂ (λ ws w. name_at ws w) wires at ∙ (name_back now.wires more j ∙ ap (λ xs. get_or xs j []) (bit_wire_names bns (λ i. source.Input)))))))
        ];
        begun = ap (λ (w : Wiring). w.gadgets) made ∙ before.begun;
        given = ap (λ (w : Wiring). w.given) made ∙ before.given;
        cells = λ h. cells (before.cells h);
        network = λ d fits h. network d (fits k (omega arith)) (before.network d (λ i lt. fits i (omega (arith, lt))) h);
        value = λ cycles bit run. (let got = adds cycles bit run in before.value cycles bit got.0);
      }
    where
      joined : (rows' : List (List ℕ)) (bits : List ℕ) → ((i : ℕ) → i < k → row_of rows' i ≡ row_of rows i) → row_of rows' k ≡ bits
          → input_ports range ns rows k ++ input_port range (row_of ns k) bits ∷ [] ≡ input_ports range ns rows' (k + 1)
      joined rows' bits kept last =
          ap₂ (λ ps b. ps ++ input_port range (row_of ns k) b ∷ [])
          (upto_same k (λ i. input_port range (row_of ns i) (row_of rows i)) (λ i. input_port range (row_of ns i) (row_of rows' i)) (λ i lt. ap (input_port range (row_of ns i)) (sym (kept i lt))))
          (sym last)
          ∙ ap (input_ports range ns rows') one
        where
          one : suc k ≡ k + 1
          one = omega arith
