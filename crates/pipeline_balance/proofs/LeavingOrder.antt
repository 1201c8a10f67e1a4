-- All output ports, each at its place among the ports that stand.
use Rattle.std.proofs.Common.{◌≡◌, ◌≢◌, ◌<◌, ◌≤◌, ◌+◌, ◌-◌, ◌++◌, ℕ, zero, suc, Bool, true, false, cond, List, [], ◌∷◌, length, length-append, map, flat_map, take, drop, refl, sym, ap, ap₂, subst, inl, inr, ◌∙◌, arith, append-nil, append_assoc, zero-add, take-add}
use Rattle.std.specs.List.{AllByRecursion, range_with_len}
use Rattle.std.proofs.lemmas.Bool.{cases_lt}
use Rattle.std.proofs.lemmas.List.{map-append}
use Rattle.std.proofs.lemmas.List.Concat.{flat_map-append}
use Rattle.std.proofs.Math.Seq.{take-append_seam, drop-append_seam}
use Rattle.agm_net.specs.Plain.{PlainNet}
use Rattle.agm_net.specs.Role.{share_name}
use Rattle.agm_net.specs.declared.port.Port.{Port}
use Rattle.agm_net.proofs.Lists.{all_from, all_joined}
use Rattle.share_wiring.specs.Adds.{Extends, AddsFact}
use Rattle.share_wiring.specs.Built.{IsNew}
use Rattle.share_wiring.specs.Own.{upto}
use Rattle.share_wiring.specs.Recombine.{xor_rows, recombined_rows, port_value, masked_value, is_shared}
use Rattle.share_wiring.specs.Shape.{Header, header_of, masked_headers, indices}
use Rattle.share_wiring.specs.Wiring.{Wiring, net_of}
use Rattle.share_wiring.specs.declared.report.Report.{Report}
use Rattle.share_wiring.proofs.Lists.{all_front, all_back}
use Rattle.share_wiring.proofs.OwnWires.{length-upto}
use Rattle.share_wiring.proofs.PortNames.{upto_cons}
use Rattle.share_wiring.proofs.Runs.{extends_refl, extends_trans}
use Rattle.pipeline_balance.specs.declared.values.Value.{Value}
use Rattle.pipeline_balance.specs.Apart.{Apart, AreApart, IsHeader}
use Rattle.pipeline_balance.specs.Entered.{first_headers}
use Rattle.pipeline_balance.specs.Leaving.{made_count, made_header, made_value, FitTogether, IsPortLed}
use Rattle.pipeline_balance.specs.Ports.{value_row}
use Rattle.pipeline_balance.specs.Sound.{KeepsComplete}
use Rattle.pipeline_balance.specs.Valued.{signal}
use Rattle.pipeline_balance.specs.Sublists.{IsSublist}
use Rattle.pipeline_balance.proofs.Beside.{apart_back}
use Rattle.pipeline_balance.proofs.Porting.{upto_same}
use Rattle.pipeline_balance.proofs.Sublists.{of_sublist}

-- ---- the ports that stand for a port

headers_from : (f : ℕ → Header) (a n : ℕ) → map f (range_with_len a n) ≡ upto n (λ i. f (a + i))
headers_from f a zero = refl
headers_from f a (suc n) =
    let none : a ≡ a + 0 = omega arith in
    let on : (i : ℕ) → (a + 1) + i ≡ a + suc i = λ i. omega arith in
    ap₂ (λ h hs. h ∷ hs) (ap f none) (headers_from f (a + 1) n ∙ upto_same n (λ i. f ((a + 1) + i)) (λ i. f (a + suc i)) (λ i lt. ap f (on i)))
    ∙ sym (upto_cons n (λ i. f (a + i)))

pub upto_each : {X : Type 0} (P : X → Type 0) (m : ℕ) (f : ℕ → X) → AllByRecursion P (upto m f) → (i : ℕ) → i < m → P (f i)
upto_each P zero f all i lt = absurd (omega arith)
upto_each P (suc m) f all i lt = elim (cases_lt i m) [
  | inl early ↦ upto_each P m f (all_front P (upto m f) (f m ∷ []) all) i early
  | inr late ↦ (let last : i ≡ m = omega (arith, lt, late) in subst (λ k. P (f k)) (sym last) (all_back P (upto m f) (f m ∷ []) all).0)
]

-- ---- ports that are apart, in parts

pub apart_front : (xs ys : List Header) → AreApart (xs ++ ys) → AreApart xs
apart_front [] ys h = tt
apart_front (x ∷ xs) ys h = (all_front (Apart x) xs ys h.0, apart_front xs ys h.1)

pub apart_rest : (xs ys : List Header) → AreApart (xs ++ ys) → AreApart ys
apart_rest [] ys h = h
apart_rest (x ∷ xs) ys h = apart_rest xs ys h.1

pub apart_across : (xs ys : List Header) → AreApart (xs ++ ys) → AllByRecursion (λ x. AllByRecursion (Apart x) ys) xs
apart_across [] ys h = tt
apart_across (x ∷ xs) ys h = (all_back (Apart x) xs ys h.0, apart_across xs ys h.1)

apart_each : (m : ℕ) (header : ℕ → Header) → AreApart (upto m header) → (i j : ℕ) → i < j → j < m → Apart (header i) (header j)
apart_each zero header h i j less lt = absurd (omega arith)
apart_each (suc m) header h i j less lt = elim (cases_lt j m) [
  | inl early ↦ apart_each m header (apart_front (upto m header) (header m ∷ []) h) i j less early
  | inr late ↦ (
      let last : j ≡ m = omega (arith, lt, late) in
      let all = apart_across (upto m header) (header m ∷ []) h in
      subst (λ k. Apart (header i) (header k)) (sym last) (upto_each (λ x. AllByRecursion (Apart x) (header m ∷ [])) m header all i (omega (arith, less, last))).0)
]

pub fit_between : (before rest after : List Header) (m : ℕ) (header : ℕ → Header) → AreApart (before ++ (upto m header ++ after)) → AllByRecursion IsHeader (upto m header) → IsSublist rest after
    → FitTogether (before ++ rest) m header
fit_between before rest after m header apart made some =
    let U = upto m header in
    let across = apart_across before (U ++ after) apart in
    let own = apart_rest before (U ++ after) apart in
    let behind = apart_across U after own in
    record {
      beside = λ i lt.
          all_joined (λ g. Apart g (header i)) before rest
          (all_from (λ g. AllByRecursion (Apart g) (U ++ after)) (λ g. Apart g (header i)) (λ g all. upto_each (Apart g) m header (all_front (Apart g) U after all) i lt) before across)
          (all_from (Apart (header i)) (λ g. Apart g (header i)) (apart_back (header i)) rest
          (of_sublist (Apart (header i)) rest after some (upto_each (λ u. AllByRecursion (Apart u) after) m header behind i lt)));
      apart = apart_each m header (apart_front U after own);
      headers = upto_each IsHeader m header made;
    }

-- ---- names that are none of some ports'

named_each : (hs : List Header) (name : List ℕ) → IsNew (map (λ (h : Header). h.name) hs) name → AllByRecursion (λ (h : Header). h.name ≢ name) hs
named_each [] name new = tt
named_each (h ∷ hs) name new = (new.0, named_each hs name new.1)

rows_same : (d : ℕ) (f g : ℕ → List Bool) → ((i : ℕ) → i ≤ d → f i ≡ g i) → recombined_rows d f ≡ recombined_rows d g
rows_same zero f g h = h 0 (omega arith)
rows_same (suc d) f g h = ap₂ xor_rows (rows_same d f g (λ i le. h i (omega arith))) (h (suc d) (omega arith))

module _ (n : ℕ) (report : Report) (size : report.order + 1 ≡ n) where
  abbrev pub Masked : Port → List Header
  Masked p = masked_headers report p

  pub masked_are : (p : Port) → Masked p ≡ upto (made_count n (is_shared report p.name)) (made_header (is_shared report p.name) p)
  masked_are p = by (is_shared report p.name)
    where
      by : (b : Bool) → cond b (map (λ i. record { name = share_name i p.name; way = p.way; range = p.range }) (indices report.order)) (header_of p ∷ []) ≡ upto (made_count n b) (made_header b p)
      by true = headers_from (made_header true p) 0 (report.order + 1) ∙ upto_same (report.order + 1) (λ i. made_header true p (0 + i)) (made_header true p) (λ i lt. ap (made_header true p) (zero-add i)) ∙ ap (λ k. upto k (made_header true p)) size
      by false = refl

  pub value_is : (net : PlainNet) (p : Port) (bit : ℕ → Bool) → masked_value net report p.name bit ≡ made_value n (is_shared report p.name) net p.name bit
  value_is net p bit =
      let one : report.order ≡ n - 1 = omega (arith, size) in
      ap (λ d. cond (is_shared report p.name) (recombined_rows d (λ i. port_value net (share_name i p.name) bit)) (port_value net p.name bit)) one

  pub count_is : (p : Port) → length (Masked p) ≡ made_count n (is_shared report p.name)
  count_is p = ap (λ (hs : List Header). length hs) (masked_are p) ∙ length-upto (made_count n (is_shared report p.name)) (made_header (is_shared report p.name) p)

  -- a net with more ports has for earlier ports what it had
  module _ (now new : Wiring) (m : ℕ) (header : ℕ → Header)
      (keeps : (name : List ℕ) → ((i : ℕ) → i < m → (header i).name ≢ name) → (bit : ℕ → Bool) → port_value (net_of new) name bit ≡ port_value (net_of now) name bit) where
    abbrev pub IsOther : Header → Type 0
    IsOther g = (i : ℕ) → i < m → (header i).name ≢ g.name

    kept_by : (q : Port) (bit : ℕ → Bool) (b : Bool) → AllByRecursion IsOther (upto (made_count n b) (made_header b q)) → made_value n b (net_of new) q.name bit ≡ made_value n b (net_of now) q.name bit
    kept_by q bit true others =
        rows_same (n - 1) (λ i. port_value (net_of new) (share_name i q.name) bit) (λ i. port_value (net_of now) (share_name i q.name) bit)
        (λ i le. keeps (share_name i q.name) (upto_each IsOther n (made_header true q) others i (omega (arith, le, size))) bit)
    kept_by q bit false others = keeps q.name others.0 bit

    pub kept_values : (qs : List Port) (bit : ℕ → Bool) → AllByRecursion IsOther (flat_map Masked qs)
        → flat_map (λ q. masked_value (net_of new) report q.name bit) qs ≡ flat_map (λ q. masked_value (net_of now) report q.name bit) qs
    kept_values [] bit others = refl
    kept_values (q ∷ qs) bit others =
        let own = subst (AllByRecursion IsOther) (masked_are q) (all_front IsOther (Masked q) (flat_map Masked qs) others) in
        ap₂ (λ xs ys. xs ++ ys) (value_is (net_of new) q bit ∙ (kept_by q bit (is_shared report q.name) own ∙ sym (value_is (net_of now) q bit)))
        (kept_values qs bit (all_back IsOther (Masked q) (flat_map Masked qs) others))

-- The ports of `done` stand behind the first ones, and behind them those of the inputs `rest`. The outputs `outs` were made, with the
-- first values.
pub record Leading (n : ℕ) (report : Report) (values : List (Value n)) (old now : Wiring) (place at : ℕ) (done outs rest : List Port) : Type 0 where
  pub extends : Extends old now
  pub complete : KeepsComplete n old now
  pub headers : map header_of now.ports ≡ (first_headers report ++ flat_map (masked_headers report) done) ++ flat_map (masked_headers report) rest
  pub place_is : place ≡ length (first_headers report ++ flat_map (masked_headers report) done)
  pub at_is : at ≡ length (flat_map (λ (p : Port). p.bits) outs)
  pub keeps : (name : List ℕ) → IsNew (map (λ (h : Header). h.name) (flat_map (masked_headers report) outs)) name → (bit : ℕ → Bool) → port_value (net_of now) name bit ≡ port_value (net_of old) name bit
  pub told : AddsFact old now (λ cycles bits. (t : ℕ) → t < cycles → flat_map (λ p. masked_value (net_of now) report p.name (bits t)) outs ≡ value_row n bits t (take at values))

module _ (n : ℕ) (report : Report) (size : report.order + 1 ≡ n) (values : List (Value n)) where
  pub leading_first : (net : Wiring) (place : ℕ) (inputs : List Port) → place ≡ length (first_headers report) → map header_of net.ports ≡ first_headers report ++ flat_map (masked_headers report) inputs
      → Leading n report values net net place 0 [] [] inputs
  leading_first net place inputs start headers =
      let A = first_headers report in
      record {
        extends = extends_refl net;
        complete = λ g h. h;
        headers = headers ∙ ap (λ xs. xs ++ flat_map (masked_headers report) inputs) (sym (append-nil A));
        place_is = start ∙ ap (λ (xs : List Header). length xs) (sym (append-nil A));
        at_is = refl;
        keeps = λ name new bit. refl;
        told = λ cycles bits run. (run, λ t lt. refl);
      }

  module _ (old now : Wiring) (place at : ℕ) (done outs rest : List Port) (p : Port) where
    abbrev F : List Port → List Header
    F ps = flat_map (masked_headers report) ps

    front_more : first_headers report ++ F (done ++ p ∷ []) ≡ (first_headers report ++ F done) ++ masked_headers report p
    front_more =
        ap (λ xs. first_headers report ++ xs) (flat_map-append (masked_headers report) done (p ∷ []) ∙ ap (λ xs. F done ++ xs) (append-nil (masked_headers report p)))
        ∙ sym (append_assoc (first_headers report) (F done) (masked_headers report p))

    place_more : place ≡ length (first_headers report ++ F done) → place + made_count n (is_shared report p.name) ≡ length (first_headers report ++ F (done ++ p ∷ []))
    place_more start =
        let both = length-append (first_headers report ++ F done) (masked_headers report p) in
        let one = count_is n report size p in
        let all = ap (λ (xs : List Header). length xs) front_more in
        omega (arith, start, both, one, all)

    -- an input port stands already
    pub leading_input : Leading n report values old now place at done outs (p ∷ rest) → Leading n report values old now (place + made_count n (is_shared report p.name)) at (done ++ p ∷ []) outs rest
    leading_input before = record {
      extends = before.extends;
      complete = before.complete;
      headers = before.headers ∙ (sym (append_assoc (first_headers report ++ F done) (masked_headers report p) (F rest)) ∙ ap (λ xs. xs ++ F rest) (sym front_more));
      place_is = place_more before.place_is;
      at_is = before.at_is;
      keeps = before.keeps;
      told = before.told;
    }

    -- an output port is put between
    pub leading_output : (new : Wiring) → Leading n report values old now place at done outs rest
        → AllByRecursion (λ g. (i : ℕ) → i < made_count n (is_shared report p.name) → (made_header (is_shared report p.name) p i).name ≢ g.name) (flat_map (masked_headers report) outs)
        → IsPortLed n (is_shared report p.name) p (take (length p.bits) (drop at values)) place now new
        → Leading n report values old new (place + made_count n (is_shared report p.name)) (at + length p.bits) (done ++ p ∷ []) (outs ++ p ∷ []) rest
    leading_output new before others led =
        let A = first_headers report in
        let w = length p.bits in
        let s = is_shared report p.name in
        let m = made_count n s in
        let X = A ++ F done in
        let Y = F rest in
        let U = upto m (made_header s p) in
        let start = before.place_is in
        let head : take place (map header_of now.ports) ≡ X = ap₂ (λ k xs. take k xs) start before.headers ∙ take-append_seam X Y in
        let tail : drop place (map header_of now.ports) ≡ Y = ap₂ (λ k xs. drop k xs) start before.headers ∙ drop-append_seam X Y in
        let bits_more : flat_map (λ (q : Port). q.bits) (outs ++ p ∷ []) ≡ flat_map (λ (q : Port). q.bits) outs ++ p.bits =
        flat_map-append (λ (q : Port). q.bits) outs (p ∷ []) ∙ ap (λ xs. flat_map (λ (q : Port). q.bits) outs ++ xs) (append-nil p.bits) in
        let count = ap (λ (xs : List ℕ). length xs) bits_more in
        let both = length-append (flat_map (λ (q : Port). q.bits) outs) p.bits in
        let from = before.at_is in
        record {
          extends = extends_trans old now new before.extends led.extends;
          complete = λ g h. led.complete g (before.complete g h);
          headers = led.headers
              ∙ (ap₂ (λ xs ys. xs ++ (U ++ ys)) head tail
              ∙ (sym (append_assoc X U Y)
              ∙ ap (λ xs. xs ++ Y) (ap (λ us. X ++ us) (sym (masked_are n report size p)) ∙ sym front_more)));
          place_is = place_more start;
          at_is = omega (arith, count, both, from);
          keeps = λ name new_name bit. (
              let parts : IsNew (map (λ (h : Header). h.name) (F outs) ++ map (λ (h : Header). h.name) (masked_headers report p)) name =
              subst (λ ns. IsNew ns name)
              (ap (map (λ (h : Header). h.name)) (flat_map-append (masked_headers report) outs (p ∷ []) ∙ ap (λ xs. F outs ++ xs) (append-nil (masked_headers report p)))
              ∙ map-append (λ (h : Header). h.name) (F outs) (masked_headers report p)) new_name in
              let early = all_front (λ x. x ≢ name) (map (λ (h : Header). h.name) (F outs)) (map (λ (h : Header). h.name) (masked_headers report p)) parts in
              let late = all_back (λ x. x ≢ name) (map (λ (h : Header). h.name) (F outs)) (map (λ (h : Header). h.name) (masked_headers report p)) parts in
              let each = subst (AllByRecursion (λ (h : Header). h.name ≢ name)) (masked_are n report size p) (named_each (masked_headers report p) name late) in
              led.keeps name (λ i lt. upto_each (λ (h : Header). h.name ≢ name) m (made_header s p) each i lt) bit ∙ before.keeps name early bit);
          told = λ cycles bits run. (
              let late = led.told cycles bits run in
              let early = before.told cycles bits late.0 in (
                early.0,
                λ t lt. (
                    let g = λ (q : Port). masked_value (net_of new) report q.name (bits t) in
                    flat_map-append g outs (p ∷ [])
                    ∙ (ap₂ (λ xs ys. xs ++ ys)
                    (kept_values n report size now new m (made_header s p) led.keeps outs (bits t) others ∙ early.1 t lt)
                    (append-nil (g p) ∙ (value_is n report size (net_of new) p (bits t) ∙ late.1 t lt))
                    ∙ (sym (map-append (λ v. signal n bits v t) (take at values) (take w (drop at values)))
                    ∙ ap (value_row n bits t) (sym (take-add at w values))))),
              ));
        }
