-- The input ports of a masked net, group by group.
use Rattle.std.proofs.Common.{◌≡◌, ◌+◌, ◌++◌, ℕ, zero, suc, Bool, true, false, cond, List, [], ◌∷◌, Some, map, filter, take, drop, length, flat_map, slice_get, refl, sym, ap, ap₂, subst, ◌∙◌, arith, inl, inr}
use Rattle.std.specs.List.{AllByRecursion}
use Rattle.std.proofs.lemmas.Bool.{cases_Bool, both_ways, cond-true, cond-false}
use Rattle.std.proofs.lemmas.List.{append_assoc}
use Rattle.agm_net.specs.Plain.{PlainNet, is_in, is_input, input_bits, ports_but}
use Rattle.agm_net.specs.Role.{share_name, state_name}
use Rattle.agm_net.specs.Trace.{Row}
use Rattle.agm_net.specs.WellFormed.{WellFormed}
use Rattle.agm_net.specs.declared.port.Port.{Port}
use Rattle.share_wiring.specs.Recombine.{port_value, recombined_rows, is_shared, masked_value}
use Rattle.share_wiring.specs.Shape.{Header, header_of, indices, input_of_width, masked_headers}
use Rattle.share_wiring.specs.declared.report.Report.{Report}
use Rattle.share_wiring.proofs.DrivenRows.{Entry, header_in, wide_entries, wide_headers, all_bits}
use Rattle.share_wiring.proofs.Lists.{all_below}
use Rattle.share_wiring.proofs.ShapePorts.{width, bit_count}
use Rattle.shared_tape.specs.Sharing.{share_row, share_rows}
use Rattle.shared_tape.specs.Inputs.{input_of, shared_width, port_row, inputs_row, width_of}
use Rattle.shared_tape.proofs.Entries.{given_bits, FitsEntry, Told, Within, Left, told_each, wide_given, wide_fits}
use Rattle.shared_tape.proofs.Recombined.{recombines}
use Rattle.shared_tape.proofs.Sharings.{row_long}
use Rattle.shared_tape.proofs.Wide.{taken}

-- the ports behind the clock's
pub behind_clock : (net : PlainNet) (f : ℕ → Bool) (h : Header) (hs : List Header) (row : Row) → net.clock ≡ Some 0 → map header_of net.ports ≡ h ∷ hs → map f (input_bits net) ≡ row → Left net f hs row
behind_clock net f h hs row clock heads bits = of_ports net.ports refl heads
  where
    of_ports : (ports : List Port) → ports ≡ net.ports → map header_of ports ≡ h ∷ hs → Left net f hs row
    of_ports [] same e = absurd (cc)
    of_ports (p ∷ ps) same e =
        record {
          ports = ps;
          within = λ k q at. (suc k, subst (λ xs. slice_get xs (suc k) ≡ Some q) same at);
          heads = (let tail : map header_of ps ≡ hs = cc in tail);
          bits = (let own : all_bits (filter is_input ps) ≡ input_bits net =
              ap (λ xs. all_bits (filter is_input (ports_but (Some 0) xs))) same ∙ ap (λ c. all_bits (filter is_input (ports_but c net.ports))) (sym clock) in
              ap (map f) own ∙ bits);
        }

module _ (net : PlainNet) (well : WellFormed net) (f : ℕ → Bool) where
  pub wide_step : (name : List ℕ) (n : ℕ) (x : Row) (hs : List Header) (row : Row) → length x ≡ n → Left net f (input_of_width name n ++ hs) (x ++ row)
      → AllByRecursion (Told net f) (wide_entries name n x) × Left net f hs row
  wide_step name n x hs row long left =
      told_each net well f left.ports (wide_entries name n x) hs row left.within (left.heads ∙ ap (λ ys. ys ++ hs) (sym (wide_headers name n x))) (wide_fits name n x long)
      (left.bits ∙ ap (λ ys. ys ++ row) (sym (wide_given name n x long)))

  pub states_step : (n : ℕ) (x : ℕ → Row) (is : List ℕ) (hs : List Header) (row : Row) → ((i : ℕ) → length (x i) ≡ n)
      → Left net f (flat_map (λ i. input_of_width (state_name i) n) is ++ hs) (flat_map x is ++ row)
      → AllByRecursion (λ i. AllByRecursion (Told net f) (wide_entries (state_name i) n (x i))) is × Left net f hs row
  states_step n x [] hs row long left = (tt, left)
  states_step n x (i ∷ is) hs row long left =
      let heads = append_assoc (input_of_width (state_name i) n) (flat_map (λ k. input_of_width (state_name k) n) is) hs in
      let bits = append_assoc (x i) (flat_map x is) row in
      let here : Left net f (input_of_width (state_name i) n ++ (flat_map (λ k. input_of_width (state_name k) n) is ++ hs)) (x i ++ (flat_map x is ++ row)) =
      record { ports = left.ports; within = left.within; heads = left.heads ∙ heads; bits = left.bits ∙ bits } in
      let one = wide_step (state_name i) n (x i) (flat_map (λ k. input_of_width (state_name k) n) is ++ hs) (flat_map x is ++ row) (long i) here in
      let rest = states_step n x is hs row long one.1 in
      ((one.0, rest.0), rest.1)

  -- ---- the ports of the original's ports

  abbrev share_head : Port → ℕ → Header
  share_head p i = record { name = share_name i p.name; way = p.way; range = p.range }

  abbrev with_row : (ℕ → Row) → Port → ℕ → Entry
  with_row x p i = (share_head p i, x i)

  heads_of : (x : ℕ → Row) (p : Port) (is : List ℕ) → map header_in (map (with_row x p) is) ≡ map (share_head p) is
  heads_of x p [] = refl
  heads_of x p (i ∷ is) = ap (λ hs. share_head p i ∷ hs) (heads_of x p is)

  given_in : (x : ℕ → Row) (p : Port) (is : List ℕ) → is_in p.way ≡ true → given_bits (map (with_row x p) is) ≡ flat_map x is
  given_in x p [] way = refl
  given_in x p (i ∷ is) way = ap₂ (λ xs ys. xs ++ ys) (cond-true (is_in p.way) (x i) [] way) (given_in x p is way)

  given_out : (x : ℕ → Row) (p : Port) (is : List ℕ) → is_in p.way ≡ false → given_bits (map (with_row x p) is) ≡ []
  given_out x p [] way = refl
  given_out x p (i ∷ is) way = ap₂ (λ xs ys. xs ++ ys) (cond-false (is_in p.way) (x i) [] way) (given_out x p is way)

  fits_in : (x : ℕ → Row) (p : Port) (is : List ℕ) → ((i : ℕ) → is_in p.way ≡ true → length (x i) ≡ width p.range) → AllByRecursion FitsEntry (map (with_row x p) is)
  fits_in x p [] long = tt
  fits_in x p (i ∷ is) long = (long i, fits_in x p is long)

  abbrev entries : Report → (ℕ → Row) → Row → Port → List Entry
  entries report x own p = cond (is_shared report p.name) (map (with_row x p) (indices report.order)) ((header_of p, own) ∷ [])

  entry_heads : (report : Report) (x : ℕ → Row) (own : Row) (p : Port) → map header_in (entries report x own p) ≡ masked_headers report p
  entry_heads report x own p = by (is_shared report p.name)
    where
      by : (b : Bool) → map header_in (cond b (map (with_row x p) (indices report.order)) ((header_of p, own) ∷ [])) ≡ cond b (map (share_head p) (indices report.order)) (header_of p ∷ [])
      by true = heads_of x p (indices report.order)
      by false = refl

  entry_fits : (report : Report) (x : ℕ → Row) (own : Row) (p : Port) → ((i : ℕ) → is_in p.way ≡ true → length (x i) ≡ width p.range) → (is_in p.way ≡ true → length own ≡ width p.range)
      → AllByRecursion FitsEntry (entries report x own p)
  entry_fits report x own p each alone = by (is_shared report p.name)
    where
      by : (b : Bool) → AllByRecursion FitsEntry (cond b (map (with_row x p) (indices report.order)) ((header_of p, own) ∷ []))
      by true = fits_in x p (indices report.order) each
      by false = (alone, tt)

  -- an output port gives no input bits
  out_step : (report : Report) (p : Port) (hs : List Header) (row : Row) → is_in p.way ≡ false → Left net f (masked_headers report p ++ hs) row → Left net f hs row
  out_step report p hs row way left =
      let x : ℕ → Row = λ i. [] in
      let nothing : given_bits (entries report x [] p) ≡ [] = by (is_shared report p.name) in
      (told_each net well f left.ports (entries report x [] p) hs row left.within (left.heads ∙ ap (λ ys. ys ++ hs) (sym (entry_heads report x [] p)))
      (entry_fits report x [] p (λ i on. absurd (both_ways (is_in p.way) way on)) (λ on. absurd (both_ways (is_in p.way) way on)))
      (left.bits ∙ ap (λ ys. ys ++ row) (sym nothing))).1
    where
      by : (b : Bool) → given_bits (cond b (map (with_row (λ i. []) p) (indices report.order)) ((header_of p, []) ∷ [])) ≡ []
      by true = given_out (λ i. []) p (indices report.order) way
      by false = ap (λ xs. xs ++ []) (cond-false (is_in p.way) [] [] way)

  nil_right : (xs : Row) → xs ++ [] ≡ xs
  nil_right [] = refl
  nil_right (x ∷ xs) = ap (λ ys. x ∷ ys) (nil_right xs)

  -- an input port has the values that were shared
  in_step : (report : Report) (draws : Row) (first : ℕ) (p : Port) (values : Row) (hs : List Header) (row : Row) → is_in p.way ≡ true → length values ≡ width p.range
      → Left net f (masked_headers report p ++ hs) (port_row draws report.order first (input_of report p) values ++ row) → (masked_value net report p.name f ≡ values) × Left net f hs row
  in_step report draws first p values hs row way long left =
      let x : ℕ → Row = share_row draws report.order first values in
      let all = told_each net well f left.ports (entries report x values p) hs row left.within (left.heads ∙ ap (λ ys. ys ++ hs) (sym (entry_heads report x values p)))
      (entry_fits report x values p (λ i on. row_long draws report.order first values i ∙ long) (λ on. long)) (left.bits ∙ ap (λ ys. ys ++ row) (sym (given (is_shared report p.name)))) in
      (value (is_shared report p.name) all.0, all.1)
    where
      given : (b : Bool) → given_bits (cond b (map (with_row (share_row draws report.order first values) p) (indices report.order)) ((header_of p, values) ∷ [])) ≡ cond b (share_rows draws report.order first values) values
      given true = given_in (share_row draws report.order first values) p (indices report.order) way
      given false = nil_right (cond (is_in p.way) values []) ∙ cond-true (is_in p.way) values [] way

      value : (b : Bool) → AllByRecursion (Told net f) (cond b (map (with_row (share_row draws report.order first values) p) (indices report.order)) ((header_of p, values) ∷ []))
          → cond b (recombined_rows report.order (λ i. port_value net (share_name i p.name) f)) (port_value net p.name f) ≡ values
      value true told =
          recombines draws report.order first values (λ i. port_value net (share_name i p.name) f)
          (λ i le. all_below (Told net f) (with_row (share_row draws report.order first values) p) (report.order + 1) told i (omega (arith, le)) way)
      value false told = told.0 way

  no_row : (xs : Row) → length xs ≡ 0 → xs ≡ []
  no_row [] e = refl
  no_row (x ∷ xs) e = absurd (omega (arith, e))

  joined : (n : ℕ) (xs : Row) → take n xs ++ drop n xs ≡ xs
  joined zero xs = refl
  joined (suc n) [] = refl
  joined (suc n) (x ∷ xs) = ap (λ ys. x ∷ ys) (joined n xs)

  pub own_step : (original : PlainNet) (first : WellFormed original) (report : Report) (draws : Row) (ports : List Port) (place : ℕ) (values : Row) → Within original ports
      → length values ≡ width_of (map (input_of report) (filter is_input ports))
      → Left net f (flat_map (masked_headers report) ports) (inputs_row draws report.order place (map (input_of report) (filter is_input ports)) values)
      → flat_map (λ p. masked_value net report p.name f) (filter is_input ports) ≡ values
  own_step original first report draws [] place values within long left = sym (no_row values long)
  own_step original first report draws (p ∷ ps) place values within long left =
      let next : Within original ps = λ k q at. within (suc k) q at in
      elim (cases_Bool (is_input p)) [
        | inl own ↦ input own (λ vs count rest. own_step original first report draws ps (place + shared_width (input_of report p)) vs next count rest)
        | inr other ↦ output other (λ count rest. own_step original first report draws ps place values next count rest)
      ]
    where
      Rest : ℕ → Row → Type 0
      Rest at vs =
          length vs ≡ width_of (map (input_of report) (filter is_input ps)) → Left net f (flat_map (masked_headers report) ps) (inputs_row draws report.order at (map (input_of report) (filter is_input ps)) vs)
          → flat_map (λ q. masked_value net report q.name f) (filter is_input ps) ≡ vs

      output : is_input p ≡ false → Rest place values → flat_map (λ q. masked_value net report q.name f) (filter is_input (p ∷ ps)) ≡ values
      output other rest =
          let less : filter is_input (p ∷ ps) ≡ filter is_input ps = rw other refl in
          let here : Left net f (masked_headers report p ++ flat_map (masked_headers report) ps) (inputs_row draws report.order place (map (input_of report) (filter is_input ps)) values) =
          record {
            ports = left.ports;
            within = left.within;
            heads = left.heads;
            bits = left.bits ∙ ap (λ qs. inputs_row draws report.order place (map (input_of report) qs) values) less;
          } in
          ap (flat_map (λ q. masked_value net report q.name f)) less ∙ rest (long ∙ ap (λ qs. width_of (map (input_of report) qs)) less) (out_step report p _ _ other here)

      input : is_input p ≡ true → ((vs : Row) → Rest (place + shared_width (input_of report p)) vs) → flat_map (λ q. masked_value net report q.name f) (filter is_input (p ∷ ps)) ≡ values
      input own rest =
          let more : filter is_input (p ∷ ps) ≡ p ∷ filter is_input ps = rw own refl in
          let w = length p.bits in
          let spot = within 0 p refl in
          let cut = taken w (width_of (map (input_of report) (filter is_input ps))) values (long ∙ ap (λ qs. width_of (map (input_of report) qs)) more) in
          let here : Left net f (masked_headers report p ++ flat_map (masked_headers report) ps)
          (port_row draws report.order place (input_of report p) (take w values)
          ++ inputs_row draws report.order (place + shared_width (input_of report p)) (map (input_of report) (filter is_input ps)) (drop w values)) =
          record {
            ports = left.ports;
            within = left.within;
            heads = left.heads;
            bits = left.bits ∙ ap (λ qs. inputs_row draws report.order place (map (input_of report) qs) values) more;
          } in
          let one = in_step report draws place p (take w values) (flat_map (masked_headers report) ps) _ own (cut.0 ∙ bit_count original first spot.0 p spot.1) here in
          ap (flat_map (λ q. masked_value net report q.name f)) more ∙ (ap₂ (λ xs ys. xs ++ ys) one.0 (rest (drop w values) cut.1 one.1) ∙ joined w values)
