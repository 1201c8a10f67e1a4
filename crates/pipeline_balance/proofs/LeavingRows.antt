-- Output ports at a place, one after another.
use Rattle.std.proofs.Common.{◌≡◌, ◌<◌, ◌≤◌, ◌+◌, ◌++◌, ℕ, zero, suc, Bool, true, false, List, [], ◌∷◌, Option, length, length-append, map, take, drop, insert, get_or, bytes_eq, codes, refl, sym, ap, ap₂, subst, subst₂, inl, inr, ◌∙◌, arith, append_assoc}
use Rattle.std.specs.List.{AllByRecursion, range_with_len}
use Rattle.std.proofs.lemmas.Bool.{cases_lt}
use Rattle.std.proofs.lemmas.List.{length-map, length-take-le, take-append-drop}
use Rattle.std.proofs.Math.Seq.{take-append_seam, drop-append_seam}
use Rattle.agm_net.specs.Plain.{bit_names, is_in, is_input}
use Rattle.agm_net.specs.declared.port.Port.{Port}
use Rattle.agm_net.specs.declared.port.Range.{Range}
use Rattle.agm_net.specs.declared.port.Way.{Way}
use Rattle.agm_net.specs.declared.port.Way.TheVariants.{Input, Output}
use Rattle.agm_net.proofs.Lists.{all_joined, all_from}
use Rattle.share_wiring.specs.Adds.{Extends, AddsFact, random_bits}
use Rattle.share_wiring.specs.Built.{IsNew}
use Rattle.share_wiring.specs.Cells.{AddsCells}
use Rattle.share_wiring.specs.Networks.{Serves, KeepsNetwork, IsServed}
use Rattle.share_wiring.specs.Own.{upto}
use Rattle.share_wiring.specs.Shape.{Header, header_of}
use Rattle.share_wiring.specs.Wiring.{Wiring}
use Rattle.share_wiring.proofs.Lists.{all_front, all_back}
use Rattle.share_wiring.proofs.OwnWires.{all_upto, length-upto}
use Rattle.share_wiring.proofs.Ports.{bits_named}
use Rattle.share_wiring.proofs.PortWires.{insert_random}
use Rattle.share_wiring.proofs.Ruling.{stay_extends, serves_stays}
use Rattle.share_wiring.proofs.Runs.{extends_refl, extends_trans}
use Rattle.pipeline_balance.specs.Apart.{Apart}
use Rattle.pipeline_balance.specs.Leaving.{FitTogether, AreRowsLed}
use Rattle.pipeline_balance.specs.Ports.{FitsBeside}
use Rattle.pipeline_balance.proofs.Beside.{fits_beside}
use Rattle.pipeline_balance.proofs.PortValues.{keeps_inserted, has_inserted}

-- ---- one port

headers_more : (p : Port) (ports : List Port) (place : ℕ) → map header_of (insert ports place p) ≡ take place (map header_of ports) ++ (header_of p ∷ drop place (map header_of ports))
headers_more p [] zero = refl
headers_more p [] (suc place) = refl
headers_more p (q ∷ qs) zero = refl
headers_more p (q ∷ qs) (suc place) = ap (λ hs. header_of q ∷ hs) (headers_more p qs place)

names_of_headers : (ports : List Port) → map (λ (h : Header). h.name) (map header_of ports) ≡ map (λ (p : Port). p.name) ports
names_of_headers [] = refl
names_of_headers (p ∷ ps) = ap (λ rest. p.name ∷ rest) (names_of_headers ps)

-- wires with the bits of those of a row
copied : (f : ℕ → Bool) (first : ℕ) (row : List ℕ) → ((i : ℕ) → i < length row → f (first + i) ≡ f (get_or row i 0)) → map f (range_with_len first (length row)) ≡ map f row
copied f first [] h = refl
copied f first (w ∷ ws) h =
    let none : first ≡ first + 0 = omega arith in
    let next : (i : ℕ) → (first + 1) + i ≡ first + suc i = λ i. omega arith in
    ap₂ (λ b bs. b ∷ bs) (ap f none ∙ h 0 (omega arith)) (copied f (first + 1) ws (λ i lt. ap f (next i) ∙ h (suc i) (omega arith)))

pub one_led : (old new : Wiring) (place : ℕ) (name : List ℕ) (range : Option Range) (row : List ℕ)
    → IsNew (map (λ (h : Header). h.name) (map header_of old.ports)) name → length row ≡ length (bit_names name range)
    → new.ports ≡ insert old.ports place (record { name = name; way = Output; range = range; bits = range_with_len (length old.wires) (length (bit_names name range)) })
    → bytes_eq name (codes "agm_r") ≡ false → new.gadgets ≡ old.gadgets → new.given ≡ old.given → ((d : ℕ) → IsServed d old.wires name row → KeepsNetwork d old new) → Extends old new → AddsCells old new
    → AddsFact old new (λ cycles bit. (t : ℕ) → t < cycles → (i : ℕ) → i < length row → bit t (length old.wires + i) ≡ bit t (get_or row i 0))
    → AreRowsLed place 1 (λ i. record { name = name; way = Output; range = range }) (λ i. row) old new
one_led old new place name range row fresh wide ports other begun given network extends cells value =
    let p : Port = record { name = name; way = Output; range = range; bits = range_with_len (length old.wires) (length (bit_names name range)) } in
    let free : IsNew (map (λ (q : Port). q.name) old.ports) name = subst (λ ns. IsNew ns name) (names_of_headers old.ports) fresh in
    record {
      extends = extends;
      cells = cells;
      begun = begun;
      given = given;
      random = ap random_bits ports ∙ insert_random p old.ports place other;
      network = λ d served. network d (served 0 (omega arith));
      headers = ap (map header_of) ports ∙ headers_more p old.ports place;
      keeps = λ name apart bit. keeps_inserted old new bit place p name ports (apart 0 (omega arith));
      told = λ cycles bits run. (
          let kept = value cycles bits run in (
            kept.0,
            λ t lt i below.
                has_inserted old new (bits t) place p ports free
                ∙ (ap (λ n. map (bits t) (range_with_len (length old.wires) n)) (sym wide)
                ∙ copied (bits t) (length old.wires) row (kept.1 t lt)),
          ));
    }

pub out_way : (way : Way) → is_in way ≡ false → way ≡ Output
out_way Input h = absurd (let no : true ≡ false = h in cc)
out_way Output h = refl

-- the same port by other words
pub led_as : (place : ℕ) (name other : List ℕ) (p : Port) (row others : List ℕ) (old new : Wiring) → name ≡ other → is_input p ≡ false → row ≡ others
    → AreRowsLed place 1 (λ i. record { name = name; way = Output; range = p.range }) (λ i. row) old new → AreRowsLed place 1 (λ i. record { name = other; way = p.way; range = p.range }) (λ i. others) old new
led_as place name other p row others old new named output rows led =
    subst₂ (λ n r. AreRowsLed place 1 (λ i. record { name = n; way = p.way; range = p.range }) (λ i. r) old new) named rows
    (subst (λ w. AreRowsLed place 1 (λ i. record { name = name; way = w; range = p.range }) (λ i. row) old new) (sym (out_way p.way output)) led)

-- ---- one port after another

pub none_led : (place : ℕ) (header : ℕ → Header) (row : ℕ → List ℕ) (net : Wiring) → AreRowsLed place 0 header row net net
none_led place header row net = record {
  extends = extends_refl net;
  cells = λ h. h;
  begun = refl;
  given = refl;
  random = refl;
  network = λ d served h. h;
  headers = sym (take-append-drop place (map header_of net.ports));
  keeps = λ name apart bit. refl;
  told = λ cycles bits run. (run, λ t lt i below. absurd (omega arith));
}

module _ (place m : ℕ) (header : ℕ → Header) (row : ℕ → List ℕ) (old now : Wiring) (le : place ≤ length old.ports) (before : AreRowsLed place m header row old now) where
  abbrev pub hs : List Header
  hs = map header_of old.ports

  front_length : length (take place hs) ≡ place
  front_length = let long = length-map old.ports header_of in length-take-le place hs (omega (arith, le, long))

  pub rows_place : 1 ≤ place → (1 ≤ place + m) × (place + m ≤ length now.ports)
  rows_place some =
      let long = length-map now.ports header_of in
      let same = ap (λ (xs : List Header). length xs) before.headers in
      let front = front_length in
      let middle = length-upto m header in
      let both = length-append (take place hs) (upto m header ++ drop place hs) in
      let back = length-append (upto m header) (drop place hs) in
      (omega (arith, some), omega (arith, long, same, front, middle, both, back))

  pub rows_fit : (n : ℕ) → m < n → FitTogether hs n header → FitsBeside (map header_of now.ports) (header m)
  rows_fit n lt fit =
      let P : Header → Type 0 = λ g. Apart g (header m) in
      let beside : AllByRecursion P (take place hs ++ drop place hs) = subst (AllByRecursion P) (sym (take-append-drop place hs)) (fit.beside m lt) in
      let made : AllByRecursion P (upto m header) = all_upto P m header (λ i below. fit.apart i m below lt) in
      fits_beside (map header_of now.ports) (header m)
      (subst (AllByRecursion P) (sym before.headers)
      (all_joined P (take place hs) (upto m header ++ drop place hs) (all_front P (take place hs) (drop place hs) beside)
      (all_joined P (upto m header) (drop place hs) made (all_back P (take place hs) (drop place hs) beside))))
      (fit.headers m lt)

  pub rows_more : (n : ℕ) (new : Wiring) → m < n → FitTogether hs n header → AreRowsLed (place + m) 1 (λ i. header m) (λ i. row m) now new → AreRowsLed place (m + 1) header row old new
  rows_more n new lt fit last =
      let T = take place hs in
      let U = upto m header in
      let D = drop place hs in
      let front = front_length in
      let middle = length-upto m header in
      let both = length-append T U in
      let here : place + m ≡ length (T ++ U) = omega (arith, front, middle, both) in
      let split : map header_of now.ports ≡ (T ++ U) ++ D = before.headers ∙ sym (append_assoc T U D) in
      let head : take (place + m) (map header_of now.ports) ≡ T ++ U = ap₂ (λ k xs. take k xs) here split ∙ take-append_seam (T ++ U) D in
      let tail : drop (place + m) (map header_of now.ports) ≡ D = ap₂ (λ k xs. drop k xs) here split ∙ drop-append_seam (T ++ U) D in
      let one : suc m ≡ m + 1 = omega arith in
      record {
        extends = extends_trans old now new before.extends last.extends;
        cells = λ h. last.cells (before.cells h);
        begun = last.begun ∙ before.begun;
        given = last.given ∙ before.given;
        random = last.random ∙ before.random;
        network = λ d served h.
            last.network d
            (λ i few j of. (let own = served m (omega arith) j of in
            (own.0, all_from (Serves d old.wires j) (Serves d now.wires j) (λ w. serves_stays d old.wires now.wires (stay_extends old now before.extends) j w) (row m) own.1)))
            (before.network d (λ i below. served i (omega (arith, below))) h);
        headers = last.headers
            ∙ (ap₂ (λ xs ys. xs ++ (header m ∷ ys)) head tail
            ∙ (append_assoc T U (header m ∷ D)
            ∙ (ap (λ xs. T ++ xs) (sym (append_assoc U (header m ∷ []) D))
            ∙ ap (λ k. T ++ (upto k header ++ D)) one)));
        keeps = λ name apart bit. last.keeps name (λ i below. apart m (omega arith)) bit ∙ before.keeps name (λ i below. apart i (omega arith)) bit;
        told = λ cycles bits run. (
            let late = last.told cycles bits run in
            let early = before.told cycles bits late.0 in (
              early.0,
              λ t within i below. elim (cases_lt i m) [
                | inl small ↦ last.keeps (header i).name (λ k none same. (fit.apart i m small lt).names (sym same)) (bits t) ∙ early.1 t within i small
                | inr rest ↦ (
                    let same : i ≡ m = omega (arith, below, rest) in
                    subst (λ k. bits_named (bits t) (header k).name new.ports ≡ map (bits t) (row k)) (sym same) (late.1 t within 0 (omega arith)))
              ],
            ));
      }
