-- What the input ports of a masked net have, where its input bits are told row by row.
use Rattle.std.proofs.Common.{◌≡◌, ◌≢◌, ◌+◌, ◌++◌, ℕ, zero, suc, Bool, true, false, cond, List, [], ◌∷◌, Some, map, filter, length, flat_map, slice_get, codes, bytes_eq, refl, sym, ap, ap₂, ◌∙◌, arith, inl, inr}
use Rattle.std.specs.Prelude.{nat_eq}
use Rattle.std.specs.List.{AllByRecursion, starts_with}
use Rattle.std.proofs.lemmas.Bool.{cases_Bool, both_ways, false_from_ne_true}
use Rattle.std.proofs.lemmas.List.{length-map, map-append, append_assoc}
use Rattle.std.proofs.lemmas.Slice.Eq.{bytes_eq-Decides}
use Rattle.agm_net.specs.Plain.{PlainNet, is_in, is_input}
use Rattle.agm_net.specs.Role.{share_name}
use Rattle.agm_net.specs.Trace.{Row}
use Rattle.agm_net.specs.WellFormed.{WellFormed}
use Rattle.agm_net.specs.declared.port.Port.{Port}
use Rattle.agm_net.proofs.Lists.{all_joined}
use Rattle.share_wiring.specs.Recombine.{port_value, is_shared}
use Rattle.share_wiring.specs.Shape.{Header, header_of, indices, input_of_width, masked_headers}
use Rattle.share_wiring.specs.declared.report.Report.{Report}
use Rattle.share_wiring.proofs.DrivenRows.{Entry, header_in, wide_entries, wide_count, all_bits}
use Rattle.share_wiring.proofs.Lists.{all_in_range}
use Rattle.share_wiring.proofs.Ports.{bits_named}
use Rattle.share_wiring.proofs.ShapePorts.{width, port_bits, bit_count}

-- the rows of entries that are inputs
abbrev pub given_bits : List Entry → Row
given_bits es = flat_map (λ e. cond (is_in e.0.way) e.1 []) es

abbrev pub FitsEntry : Entry → Type 0
FitsEntry e = is_in e.0.way ≡ true → length e.1 ≡ width e.0.range

-- an input port has what its entry says
abbrev pub Told : PlainNet → (ℕ → Bool) → Entry → Type 0
Told net f e = is_in e.0.way ≡ true → port_value net e.0.name f ≡ e.1

abbrev pub Within : PlainNet → List Port → Type 0
Within net ports = (k : ℕ) (p : Port) → slice_get ports k ≡ Some p → (n : ℕ) × (slice_get net.ports n ≡ Some p)

-- ports that are left, with what their input bits have
pub record Left (net : PlainNet) (f : ℕ → Bool) (hs : List Header) (row : Row) : Type 0 where
  pub ports : List Port
  pub within : Within net ports
  pub heads : map header_of ports ≡ hs
  pub bits : map f (all_bits (filter is_input ports)) ≡ row

cut_rows : (xs us ys vs : Row) → length xs ≡ length us → xs ++ ys ≡ us ++ vs → (xs ≡ us) × (ys ≡ vs)
cut_rows [] [] ys vs long e = (refl, e)
cut_rows [] (u ∷ us) ys vs long e = absurd (omega arith)
cut_rows (x ∷ xs) [] ys vs long e = absurd (omega arith)
cut_rows (x ∷ xs) (u ∷ us) ys vs long e =
    let head : x ≡ u = cc in
    let tail : xs ++ ys ≡ us ++ vs = cc in
    let rest = cut_rows xs us ys vs (omega arith) tail in
    (ap₂ (λ z zs. z ∷ zs) head rest.0, rest.1)

bits_yes : (f : ℕ → Bool) (q : Port) (qs : List Port) → is_input q ≡ true → map f (all_bits (filter is_input (q ∷ qs))) ≡ map f q.bits ++ map f (all_bits (filter is_input qs))
bits_yes f q qs own = rw own (map-append f q.bits (all_bits (filter is_input qs)))

bits_no : (f : ℕ → Bool) (q : Port) (qs : List Port) → is_input q ≡ false → map f (all_bits (filter is_input (q ∷ qs))) ≡ map f (all_bits (filter is_input qs))
bits_no f q qs other = rw other refl

given_yes : (e : Entry) (es : List Entry) (row : Row) → is_in e.0.way ≡ true → given_bits (e ∷ es) ++ row ≡ e.1 ++ (given_bits es ++ row)
given_yes e es row own = rw own (append_assoc e.1 (given_bits es) row)

given_no : (e : Entry) (es : List Entry) (row : Row) → is_in e.0.way ≡ false → given_bits (e ∷ es) ++ row ≡ given_bits es ++ row
given_no e es row other = rw other refl

same_way : (q : Port) (h : Header) → header_of q ≡ h → is_input q ≡ is_in h.way
same_way q h is = ap (λ (x : Header). is_in x.way) is

module _ (net : PlainNet) (well : WellFormed net) (f : ℕ → Bool) where
  own_value : (q : Port) (n : ℕ) → slice_get net.ports n ≡ Some q → (e : Entry) → header_of q ≡ e.0 → map f q.bits ≡ e.1 → port_value net e.0.name f ≡ e.1
  own_value q n at e is bits = ap (λ (x : Header). port_value net x.name f) (sym is) ∙ (port_bits net well n q at f ∙ bits)

  pub told_each : (ports : List Port) (es : List Entry) (hs : List Header) (row : Row) → Within net ports → map header_of ports ≡ map header_in es ++ hs → AllByRecursion FitsEntry es
      → map f (all_bits (filter is_input ports)) ≡ given_bits es ++ row → AllByRecursion (Told net f) es × Left net f hs row
  told_each ports [] hs row within heads fits bits = (tt, record { ports = ports; within = within; heads = heads; bits = bits })
  told_each [] (e ∷ es) hs row within heads fits bits = absurd (cc)
  told_each (q ∷ qs) (e ∷ es) hs row within heads fits bits =
      let head : header_of q ≡ e.0 = cc in
      let tail : map header_of qs ≡ map header_in es ++ hs = cc in
      let place = within 0 q refl in
      let next : Within net qs = λ k p at. within (suc k) p at in
      elim (cases_Bool (is_in e.0.way)) [
        | inl own ↦ (
            let mine : is_input q ≡ true = same_way q e.0 head ∙ own in
            let long : length (map f q.bits) ≡ length e.1 =
            length-map q.bits f ∙ (bit_count net well place.0 q place.1 ∙ (ap (λ (x : Header). width x.range) head ∙ sym (fits.0 own))) in
            let cut = cut_rows (map f q.bits) e.1 (map f (all_bits (filter is_input qs))) (given_bits es ++ row) long (sym (bits_yes f q qs mine) ∙ (bits ∙ given_yes e es row own)) in
            let rest = told_each qs es hs row next tail fits.1 cut.1 in
            (((λ way. own_value q place.0 place.1 e head cut.0), rest.0), rest.1))
        | inr other ↦ (
            let mine : is_input q ≡ false = same_way q e.0 head ∙ other in
            let rest = told_each qs es hs row next tail fits.1 (sym (bits_no f q qs mine) ∙ (bits ∙ given_no e es row other)) in
            (((λ way. absurd (both_ways (is_in e.0.way) other way)), rest.0), rest.1))
      ]

-- ---- ports of n bits, or none

no_row : (xs : Row) → length xs ≡ 0 → xs ≡ []
no_row [] e = refl
no_row (x ∷ xs) e = absurd (omega arith)

pub wide_given : (name : List ℕ) (n : ℕ) (row : Row) → length row ≡ n → given_bits (wide_entries name n row) ≡ row
wide_given name zero row long = sym (no_row row long)
wide_given name (suc n) row long = append_nil row
  where
    append_nil : (xs : Row) → xs ++ [] ≡ xs
    append_nil [] = refl
    append_nil (x ∷ xs) = ap (λ ys. x ∷ ys) (append_nil xs)

pub wide_fits : (name : List ℕ) (n : ℕ) (row : Row) → length row ≡ n → AllByRecursion FitsEntry (wide_entries name n row)
wide_fits name zero row long = tt
wide_fits name (suc n) row long = ((λ way. long ∙ sym (wide_count n)), tt)

-- no port has a name that differs from all of a masked net's
none_named : (bit : ℕ → Bool) (name : List ℕ) (ports : List Port) (hs : List Header) → map header_of ports ≡ hs → AllByRecursion (λ h. bytes_eq h.name name ≡ false) hs → bits_named bit name ports ≡ []
none_named bit name [] hs e h = refl
none_named bit name (p ∷ ps) [] e h = absurd (cc)
none_named bit name (p ∷ ps) (x ∷ xs) e h =
    let head : header_of p ≡ x = cc in
    let tail : map header_of ps ≡ xs = cc in
    let apart : bytes_eq p.name name ≡ false = ap (λ (y : Header). bytes_eq y.name name) head ∙ h.0 in
    rw apart (none_named bit name ps xs tail h.1)

pub wide_value : (net : PlainNet) (f : ℕ → Bool) (hs : List Header) → map header_of net.ports ≡ hs → (name : List ℕ) (n : ℕ) (row : Row) → AllByRecursion (Told net f) (wide_entries name n row)
    → (n ≡ 0 → AllByRecursion (λ h. bytes_eq h.name name ≡ false) hs) → length row ≡ n → port_value net name f ≡ row
wide_value net f hs heads name zero row known absent long = none_named f name net.ports hs heads (absent refl) ∙ sym (no_row row long)
wide_value net f hs heads name (suc n) row known absent long = known.0 refl

-- a name that begins with `agm_` is none that does not
free_other : (name word : List ℕ) → starts_with nat_eq name (codes "agm_") ≡ false → starts_with nat_eq word (codes "agm_") ≡ true → name ≢ word
free_other name word free begins e = both_ways (starts_with nat_eq name (codes "agm_")) free (ap (λ n. starts_with nat_eq n (codes "agm_")) e ∙ begins)

pub wide_apart : (name other : List ℕ) (n : ℕ) → bytes_eq other name ≡ false → AllByRecursion (λ h. bytes_eq h.name name ≡ false) (input_of_width other n)
wide_apart name other zero apart = tt
wide_apart name other (suc n) apart = (apart, tt)

pub masked_others : (report : Report) (name : List ℕ) → ((i : ℕ) (x : List ℕ) → bytes_eq (share_name i x) name ≡ false) → starts_with nat_eq name (codes "agm_") ≡ true
    → (ports : List Port) → AllByRecursion (λ p. starts_with nat_eq p.name (codes "agm_") ≡ false) ports → AllByRecursion (λ h. bytes_eq h.name name ≡ false) (flat_map (masked_headers report) ports)
masked_others report name shares begins [] free = tt
masked_others report name shares begins (p ∷ ps) free =
    all_joined (λ h. bytes_eq h.name name ≡ false) (masked_headers report p) (flat_map (masked_headers report) ps)
    (by (is_shared report p.name) (false_from_ne_true (bytes_eq p.name name) (λ same. free_other p.name name free.0 begins ((bytes_eq-Decides p.name name).0 same))))
    (masked_others report name shares begins ps free.1)
  where
    by : (b : Bool) → bytes_eq p.name name ≡ false
        → AllByRecursion (λ h. bytes_eq h.name name ≡ false) (cond b (map (λ i. record { name = share_name i p.name; way = p.way; range = p.range }) (indices report.order)) (header_of p ∷ []))
    by true other = all_in_range (λ h. bytes_eq h.name name ≡ false) (λ i. record { name = share_name i p.name; way = p.way; range = p.range }) 0 (report.order + 1) (λ i lt. shares i p.name)
    by false other = (other, tt)
