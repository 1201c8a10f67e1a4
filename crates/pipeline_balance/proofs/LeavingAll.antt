-- The original's ports, one after another, and the ports that stand for them.
use Rattle.std.proofs.Common.{◌≡◌, ◌≢◌, ◌<◌, ◌≤◌, ◌+◌, ◌^◌, ◌++◌, ℕ, Bool, true, false, not, cond, List, [], ◌∷◌, Option, Some, None, length, length-append, map, flat_map, filter, take, drop, replicate, codes, get_or, slice_get, IsTrue, is_none, refl, sym, ap, ap₂, subst, subst₂, inl, inr, ◌∙◌, arith, append-nil, append_assoc, take-append-drop, take_all, get_or-append-add}
use Rattle.std.specs.Prelude.{nat_eq}
use Rattle.std.specs.List.{AllByRecursion, starts_with}
use Rattle.std.specs.Option.{option_map_or}
use Rattle.std.proofs.lemmas.Bool.{and_parts, both_ways, cases_Bool, eqb-true, false_from_ne_true}
use Rattle.std.proofs.lemmas.List.{length-map, length-take-le, get_or_append_left, get_or-replicate, length-replicate}
use Rattle.std.proofs.lemmas.List.Concat.{flat_map-append}
use Rattle.std.proofs.lemmas.List.Elements.{filter-append}
use Rattle.std.proofs.lemmas.Option.{slice_get-get_or}
use Rattle.std.proofs.Math.Seq.{take-length}
use Rattle.agm_net.specs.Plain.{PlainNet, is_input, data_ports}
use Rattle.agm_net.specs.Role.{state_name}
use Rattle.agm_net.specs.WellFormed.{is_clock_port}
use Rattle.agm_net.specs.Writable.{IsWritable}
use Rattle.agm_net.specs.declared.port.Port.{Port}
use Rattle.agm_net.proofs.Lists.{all_from, all_of_one}
use Rattle.share_wiring.specs.Built.{IsBuilt, IsNew}
use Rattle.share_wiring.specs.Own.{upto}
use Rattle.share_wiring.specs.Recombine.{is_shared, masked_value}
use Rattle.share_wiring.specs.Shape.{Header, header_of, one_input, input_of_width, indices, masked_headers, headers_of}
use Rattle.share_wiring.specs.Wiring.{Wiring, net_of}
use Rattle.share_wiring.specs.declared.report.Report.{Report}
use Rattle.share_wiring.proofs.FinishedNet.{well_formed}
use Rattle.share_wiring.proofs.Lists.{all_front, all_back}
use Rattle.share_wiring.proofs.ShapePorts.{bit_count, same_width}
use Rattle.pipeline_balance.specs.declared.values.Value.{Value}
use Rattle.pipeline_balance.specs.Apart.{Apart, AreApart, IsHeader, HasNames}
use Rattle.pipeline_balance.specs.Entered.{first_headers}
use Rattle.pipeline_balance.specs.Leaving.{is_clock, made_count, made_header, FitTogether, IsPortLed, CanLeave, HasLeft}
use Rattle.pipeline_balance.specs.LedOut.{AreOutputs, IsLedOut, shared_output_bits}
use Rattle.pipeline_balance.specs.Ports.{value_row}
use Rattle.pipeline_balance.specs.Sublists.{IsSublist}
use Rattle.pipeline_balance.proofs.LeavingLists.{data_from, data_are, data_joined, drop_past, front_more, front_same, back_more, back_same, outputs, same_outputs, one_output, no_output}
use Rattle.pipeline_balance.proofs.LeavingOrder.{Leading, upto_each, apart_across, fit_between, masked_are, leading_input, leading_output}
use Rattle.pipeline_balance.proofs.Sublists.{of_sublist, sublist_of_each, sublist_filtered}
use Rattle.pipeline_balance.proofs.Widths.{widths_right}

clocked_is : (clock : Option ℕ) (k : ℕ) → is_clock clock k ≡ true → clock ≡ Some k
clocked_is None k h = absurd (let no : false ≡ true = h in cc)
clocked_is (Some c) k h = ap (λ x. Some x) (eqb-true c k h)

module _ (original : PlainNet) (names : HasNames original) where
  -- the clock's port is an input
  pub clock_in : (k : ℕ) (p : Port) → slice_get original.ports k ≡ Some p → is_clock original.clock k ≡ true → is_input p ≡ true
  clock_in k p at here =
      let fits : IsTrue (is_clock_port p) = subst (λ o. IsTrue (option_map_or is_clock_port o false)) at (names.well.ports_right.clock_fits k (clocked_is original.clock k here)) in
      (and_parts (is_input p) (is_none p.range) fits).0

  pub outputs_are : outputs (data_ports original) ≡ outputs original.ports
  outputs_are =
      let one : (j : ℕ) → 0 + j ≡ j = λ j. omega arith in
      ap outputs (data_are original.clock original.ports)
      ∙ same_outputs original.clock 0 original.ports (λ j p at here. clock_in j p at (sym (ap (is_clock original.clock) (one j)) ∙ here))

-- the first ports, and those of the original's ports
pub headers_are : (original : PlainNet) (report : Report) → headers_of original report ≡ first_headers report ++ flat_map (masked_headers report) (data_ports original)
headers_are original report =
    let R = input_of_width (codes "agm_r") report.random in
    let P = input_of_width (codes "agm_q_p") report.public_registers in
    let S = flat_map (λ i. input_of_width (state_name i) report.secret_registers) (indices report.order) in
    let D = flat_map (masked_headers report) (data_ports original) in
    ap (λ hs. one_input (codes "agm_clk") ∷ one_input (codes "agm_load") ∷ hs) (sym (append_assoc R (P ++ S) D ∙ ap (λ hs. R ++ hs) (append_assoc P S D)))

-- of each bit of ports, whether its port is shared
abbrev flags : Report → List Port → List Bool
flags report ps = flat_map (λ p. replicate (length p.bits) (is_shared report p.name)) ps

flags_length : (report : Report) (ps : List Port) → length (flags report ps) ≡ length (flat_map (λ (p : Port). p.bits) ps)
flags_length report [] = refl
flags_length report (p ∷ ps) =
    let one = length-replicate (length p.bits) (is_shared report p.name) in
    let rest = flags_length report ps in
    let left = length-append (replicate (length p.bits) (is_shared report p.name)) (flags report ps) in
    let right = length-append p.bits (flat_map (λ (q : Port). q.bits) ps) in
    omega (arith, one, rest, left, right)

module _ (n : ℕ) (original : PlainNet) (report : Report) (size : report.order + 1 ≡ n) (names : HasNames original) (values : List (Value n)) where
  abbrev F : List Port → List Header
  F ps = flat_map (masked_headers report) ps

  abbrev Done : ℕ → List Port
  Done k = data_from original.clock 0 (take k original.ports)

  abbrev From : ℕ → List Port
  From k = data_from original.clock k (drop k original.ports)

  module _ (k : ℕ) (p : Port) (lt : k < length original.ports) (at_k : p ≡ get_or original.ports k p) where
    found : slice_get original.ports k ≡ Some p
    found = slice_get-get_or original.ports k p lt ∙ ap (λ q. Some q) (sym at_k)

    no_clock : is_input p ≡ false → is_clock original.clock k ≡ false
    no_clock out = false_from_ne_true (is_clock original.clock k) (λ here. both_ways (is_input p) out (clock_in original names k p found here))

    data_split : is_clock original.clock k ≡ false → data_ports original ≡ Done k ++ p ∷ From (k + 1)
    data_split other =
        let long = length-take-le k original.ports (omega (arith, lt)) in
        let number : 0 + length (take k original.ports) ≡ k = omega (arith, long) in
        data_are original.clock original.ports
        ∙ (ap (data_from original.clock 0) (sym (take-append-drop k original.ports))
        ∙ (data_joined original.clock 0 (take k original.ports) (drop k original.ports)
        ∙ ap (λ qs. Done k ++ qs) (ap (λ a. data_from original.clock a (drop k original.ports)) number ∙ back_more original.clock original.ports k p lt at_k other)))

    all_split : is_clock original.clock k ≡ false → headers_of original report ≡ (first_headers report ++ F (Done k)) ++ (masked_headers report p ++ F (From (k + 1)))
    all_split other =
        headers_are original report
        ∙ (ap (λ hs. first_headers report ++ hs) (ap F (data_split other) ∙ flat_map-append (masked_headers report) (Done k) (p ∷ From (k + 1)))
        ∙ sym (append_assoc (first_headers report) (F (Done k)) (F (p ∷ From (k + 1)))))

    -- the ports before are apart from those that stand for this one
    apart_here : is_clock original.clock k ≡ false → AreApart (headers_of original report)
        → AreApart ((first_headers report ++ F (Done k)) ++ (upto (made_count n (is_shared report p.name)) (made_header (is_shared report p.name) p) ++ F (From (k + 1))))
    apart_here other apart = subst AreApart (all_split other ∙ ap (λ hs. (first_headers report ++ F (Done k)) ++ (hs ++ F (From (k + 1)))) (masked_are n report size p)) apart

    others : is_clock original.clock k ≡ false → AreApart (headers_of original report)
        → AllByRecursion (λ g. (i : ℕ) → i < made_count n (is_shared report p.name) → (made_header (is_shared report p.name) p i).name ≢ g.name) (F (outputs (Done k)))
    others other apart =
        let s = is_shared report p.name in
        let m = made_count n s in
        let U = upto m (made_header s p) in
        let after = F (From (k + 1)) in
        let A = first_headers report in
        let across = apart_across (A ++ F (Done k)) (U ++ after) (apart_here other apart) in
        let P : Header → Type 0 = λ g. AllByRecursion (Apart g) (U ++ after) in
        let Q : Header → Type 0 = λ g. (i : ℕ) → i < m → (made_header s p i).name ≢ g.name in
        of_sublist Q (F (outputs (Done k))) (F (Done k)) (sublist_of_each (masked_headers report) (outputs (Done k)) (Done k) (sublist_filtered (λ q. not (is_input q)) (Done k)))
        (all_from P Q (λ g all i less e. (upto_each (Apart g) m (made_header s p) (all_front (Apart g) U after all) i less).names (sym e)) (F (Done k)) (all_back P A (F (Done k)) across))

    flags_split : is_input p ≡ false → shared_output_bits original report ≡ flags report (outputs (Done k)) ++ (replicate (length p.bits) (is_shared report p.name) ++ flags report (outputs (From (k + 1))))
    flags_split out =
        ap (flags report)
        (sym (outputs_are original names)
        ∙ (ap outputs (data_split (no_clock out))
        ∙ (filter-append (λ q. not (is_input q)) (Done k) (p ∷ From (k + 1))
        ∙ ap (λ b. outputs (Done k) ++ cond (not b) (p ∷ outputs (From (k + 1))) (outputs (From (k + 1)))) out)))
        ∙ flat_map-append (λ q. replicate (length q.bits) (is_shared report q.name)) (outputs (Done k)) (p ∷ outputs (From (k + 1)))

    rest_no : is_input p ≡ false → filter is_input (From k) ≡ filter is_input (From (k + 1))
    rest_no out =
        ap (filter is_input) (back_more original.clock original.ports k p lt at_k (no_clock out))
        ∙ ap (λ b. cond b (p ∷ filter is_input (From (k + 1))) (filter is_input (From (k + 1)))) out

    rest_yes : is_clock original.clock k ≡ false → is_input p ≡ true → filter is_input (From k) ≡ p ∷ filter is_input (From (k + 1))
    rest_yes other is =
        ap (filter is_input) (back_more original.clock original.ports k p lt at_k other)
        ∙ ap (λ b. cond b (p ∷ filter is_input (From (k + 1))) (filter is_input (From (k + 1)))) is

    module _ (old now : Wiring) (place at : ℕ) (before : Leading n report values old now place at (Done k) (outputs (Done k)) (filter is_input (From k))) where
      pub can_leave : is_input p ≡ false → AreApart (headers_of original report) → AllByRecursion IsHeader (drop 1 (headers_of original report)) → AreOutputs n original report values
          → place + cond (is_clock original.clock k) 0 (made_count n (is_shared report p.name)) < 2 ^ 64 → CanLeave n (is_shared report p.name) p values place at now
      can_leave out apart made outs room =
          let s = is_shared report p.name in
          let m = made_count n s in
          let U = upto m (made_header s p) in
          let other = no_clock out in
          let A = first_headers report in
          let after = F (From (k + 1)) in
          let rest = F (filter is_input (From k)) in
          let X = A ++ F (Done k) in
          let own : AllByRecursion IsHeader (drop 1 (X ++ (masked_headers report p ++ after))) = subst (λ hs. AllByRecursion IsHeader (drop 1 hs)) (all_split other) made in
          let mine : AllByRecursion IsHeader (masked_headers report p) =
          all_front IsHeader (masked_headers report p) after (all_back IsHeader (drop 1 A ++ F (Done k)) (masked_headers report p ++ after) own) in
          let some = subst (λ qs. IsSublist (F qs) after) (sym (rest_no out)) (sublist_of_each (masked_headers report) (filter is_input (From (k + 1))) (From (k + 1)) (sublist_filtered is_input (From (k + 1)))) in
          let start = before.place_is in
          let both = length-append A (F (Done k)) in
          let all = ap (λ (hs : List Header). length hs) before.headers in
          let standing = length-map now.ports header_of in
          let behind = length-append X rest in
          let some_first : 1 ≤ length A = omega arith in
          let split = flags_split out in
          let from = before.at_is in
          let early = flags_length report (outputs (Done k)) in
          let w = length p.bits in
          let count = outs.one_each in
          let total = ap (λ (bs : List Bool). length bs) split in
          let joined = length-append (flags report (outputs (Done k))) (replicate w s ++ flags report (outputs (From (k + 1)))) in
          let ends = length-append (replicate w s) (flags report (outputs (From (k + 1)))) in
          let width = length-replicate w s in
          let within : at + w ≤ length values = omega (arith, from, early, count, total, joined, ends, width) in
          record {
            fit = subst (λ hs. FitTogether hs m (made_header s p)) (sym before.headers)
                (fit_between X rest after m (made_header s p) (apart_here other apart) (subst (AllByRecursion IsHeader) (masked_are n report size p) mine) some);
            free = all_of_one (λ q. starts_with nat_eq q.name (codes "agm_") ≡ false) original.ports k p names.free found;
            written = all_of_one (λ q. IsWritable q.name) original.ports k p names.written found;
            place_is = (omega (arith, start, both, some_first), omega (arith, start, all, standing, behind));
            room = subst (λ b. place + cond b 0 m < 2 ^ 64) other room;
            bits = bit_count original names.well k p found ∙ sym (same_width p.name p.range);
            within = within;
            public = λ public j less.
                outs.public (at + j) (omega (arith, within, less))
                (ap₂ (λ bs o. get_or bs o true) split (ap (λ a. a + j) (from ∙ sym early))
                ∙ (get_or-append-add (flags report (outputs (Done k))) (replicate w s ++ flags report (outputs (From (k + 1)))) j true
                ∙ (get_or_append_left (replicate w s) (flags report (outputs (From (k + 1)))) true j (omega (arith, width, less))
                ∙ (get_or-replicate w j s true less ∙ public))));
          }

      pub leading_more : (new : Wiring) (next count : ℕ) → AreApart (headers_of original report) → count ≡ cond (is_clock original.clock k) 0 (made_count n (is_shared report p.name))
          → HasLeft n (is_shared report p.name) p values place at now new next
          → Leading n report values old new (place + count) next (Done (k + 1)) (outputs (Done (k + 1))) (filter is_input (From (k + 1)))
      leading_more new next count apart counted left =
          let s = is_shared report p.name in
          let m = made_count n s in
          let Stays : Type 0 = (next ≡ at) × (new ≡ now) in
          let Puts : Type 0 = (next ≡ at + length p.bits) × IsPortLed n s p (take (length p.bits) (drop at values)) place now new in
          let clock = original.clock in
          elim (cases_Bool (is_input p)) [
            | inl is ↦ (
                let stays : Stays = subst (λ b. cond b Stays Puts) is left in
                let finish : (length' : ℕ) → count ≡ length' → Leading n report values old now (place + length') at (Done (k + 1)) (outputs (Done (k + 1))) (filter is_input (From (k + 1)))
                → Leading n report values old new (place + count) next (Done (k + 1)) (outputs (Done (k + 1))) (filter is_input (From (k + 1))) =
                λ length' same leading.
                subst₂ (λ net a. Leading n report values old net (place + count) a (Done (k + 1)) (outputs (Done (k + 1))) (filter is_input (From (k + 1)))) (sym stays.1) (sym stays.0)
                (subst (λ c. Leading n report values old now (place + c) at (Done (k + 1)) (outputs (Done (k + 1))) (filter is_input (From (k + 1)))) (sym same) leading) in
                elim (cases_Bool (is_clock clock k)) [
                  | inl here ↦ (
                      let none : place ≡ place + 0 = omega arith in
                      finish 0 (counted ∙ ap (λ b. cond b 0 m) here)
                      (subst (λ c. Leading n report values old now c at (Done (k + 1)) (outputs (Done (k + 1))) (filter is_input (From (k + 1)))) none
                      (subst₂ (λ qs rs. Leading n report values old now place at qs (outputs qs) rs) (sym (front_same clock original.ports k p lt at_k here)) (ap (filter is_input) (back_same clock original.ports k p lt at_k here)) before)))
                  | inr other ↦
                      finish m (counted ∙ ap (λ b. cond b 0 m) other)
                      (subst₂ (λ qs os. Leading n report values old now (place + m) at qs os (filter is_input (From (k + 1))))
                      (sym (front_more clock original.ports k p lt at_k other))
                      (sym (ap outputs (front_more clock original.ports k p lt at_k other) ∙ no_output (Done k) p is))
                      (leading_input n report size values old now place at (Done k) (outputs (Done k)) (filter is_input (From (k + 1))) p
                      (subst (Leading n report values old now place at (Done k) (outputs (Done k))) (rest_yes other is) before)))
                ])
            | inr out ↦ (
                let puts : Puts = subst (λ b. cond b Stays Puts) out left in
                let other = no_clock out in
                let same : count ≡ m = counted ∙ ap (λ b. cond b 0 m) other in
                subst₂ (λ c a. Leading n report values old new (place + c) a (Done (k + 1)) (outputs (Done (k + 1))) (filter is_input (From (k + 1)))) (sym same) (sym puts.0)
                (subst₂ (λ qs os. Leading n report values old new (place + m) (at + length p.bits) qs os (filter is_input (From (k + 1))))
                (sym (front_more clock original.ports k p lt at_k other))
                (sym (ap outputs (front_more clock original.ports k p lt at_k other) ∙ one_output (Done k) p out))
                (leading_output n report size values old now place at (Done k) (outputs (Done k)) (filter is_input (From (k + 1))) p new
                (subst (Leading n report values old now place at (Done k) (outputs (Done k))) (rest_no out) before) (others other apart) puts.1)))
          ]

  -- when no port is left
  pub leading_last : (k : ℕ) (old now : Wiring) (place at : ℕ) → length original.ports ≤ k → AreOutputs n original report values → IsBuilt now
      → Leading n report values old now place at (Done k) (outputs (Done k)) (filter is_input (From k)) → IsLedOut n original report values old now
  leading_last k old now place at past outs built leading =
      let whole : Done k ≡ data_ports original = ap (data_from original.clock 0) (take_all k original.ports past) ∙ sym (data_are original.clock original.ports) in
      let outs_are : outputs (Done k) ≡ outputs original.ports = ap outputs whole ∙ outputs_are original names in
      let none : F (filter is_input (From k)) ≡ [] = ap (λ ps. F (filter is_input (data_from original.clock k ps))) (drop_past k original.ports past) in
      let headers : map header_of now.ports ≡ headers_of original report =
      leading.headers
      ∙ (ap₂ (λ qs hs. (first_headers report ++ F qs) ++ hs) whole none
      ∙ (append-nil (first_headers report ++ F (data_ports original)) ∙ sym (headers_are original report))) in
      let from = leading.at_is in
      let same = ap (λ ps. length (flat_map (λ (p : Port). p.bits) ps)) outs_are in
      let flagged = flags_length report (outputs original.ports) in
      let each = outs.one_each in
      let all : at ≡ length values = omega (arith, from, same, flagged, each) in
      record {
        ports = headers;
        keeps = λ name new bit. leading.keeps name (subst (λ ps. IsNew (map (λ (h : Header). h.name) (F ps)) name) (sym outs_are) new) bit;
        told = λ cycles bits run. (
            let got = leading.told cycles bits run in (
              got.0,
              λ t lt.
                  ap (λ ps. flat_map (λ p. masked_value (net_of now) report p.name (bits t)) ps) (sym outs_are)
                  ∙ (got.1 t lt ∙ ap (value_row n bits t) (ap (λ a. take a values) all ∙ take-length values)),
            ));
        wide = widths_right original report (net_of now) names.well (well_formed now built) (record { headers = headers; clock = refl });
        extends = leading.extends;
        complete = leading.complete;
      }
