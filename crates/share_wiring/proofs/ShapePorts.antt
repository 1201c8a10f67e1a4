-- The ports that a masked net has by its shape.
use Rattle.std.proofs.Common.{◌≡◌, ◌≢◌, ◌<◌, ◌≤◌, ◌+◌, ◌++◌, ◌⊎◌, ℕ, zero, suc, Bool, false, List, [], ◌∷◌, Option, Some, None, map, take, drop, length, flat_map, slice_get, IsTrue, codes, refl, sym, ap, subst, inl, inr, ◌∙◌, arith}
use Rattle.std.specs.List.{range_with_len}
use Rattle.std.proofs.lemmas.Bool.{cases_eq, cond-true, cond-false}
use Rattle.std.proofs.lemmas.List.{length-map}
use Rattle.agm_net.specs.Plain.{PlainNet, bit_names, select_name, range_numbers, data_ports, ports_but}
use Rattle.agm_net.specs.Role.{share_name, state_name}
use Rattle.agm_net.specs.WellFormed.{WellFormed}
use Rattle.agm_net.specs.declared.port.Port.{Port}
use Rattle.agm_net.specs.declared.port.Range.{Range}
use Rattle.agm_net.proofs.Lists.{all_of_one}
use Rattle.share_wiring.specs.Recombine.{port_value, is_shared}
use Rattle.share_wiring.specs.Shape.{Shape, Header, header_of, indices, input_of_width, one_input, masked_headers}
use Rattle.share_wiring.specs.declared.report.Report.{Report}
use Rattle.share_wiring.proofs.Ports.{OwnBits, own_bits}

-- one of some items
abbrev pub IsOneOf : {X : Type 0} → X → List X → Type 0
IsOneOf x [] = ⊥
IsOneOf x (y ∷ ys) = (y ≡ x) ⊎ IsOneOf x ys

one_left : {X : Type 0} (x : X) (ys zs : List X) → IsOneOf x ys → IsOneOf x (ys ++ zs)
one_left x [] zs h = absurd h
one_left x (y ∷ ys) zs (inl is) = inl is
one_left x (y ∷ ys) zs (inr there) = inr (one_left x ys zs there)

one_right : {X : Type 0} (x : X) (ys zs : List X) → IsOneOf x zs → IsOneOf x (ys ++ zs)
one_right x [] zs h = h
one_right x (y ∷ ys) zs h = inr (one_right x ys zs h)

pub one_at : {X : Type 0} (x : X) (xs : List X) (n : ℕ) → slice_get xs n ≡ Some x → IsOneOf x xs
one_at x [] n at = absurd (cc)
one_at x (y ∷ ys) zero at = let is : y ≡ x = cc in inl is
one_at x (y ∷ ys) (suc n) at = inr (one_at x ys n at)

one_of_row : {X : Type 0} (f : ℕ → X) (i a n : ℕ) → a ≤ i → i < a + n → IsOneOf (f i) (map f (range_with_len a n))
one_of_row f i a zero le lt = absurd (omega arith)
one_of_row f i a (suc n) le lt =
    elim (cases_eq a i) [
      | inl here ↦ inl (ap f here)
      | inr other ↦ inr (one_of_row f i (a + 1) n (omega (arith, other)) (omega arith))
    ]

one_of_all : {X Y : Type 0} (f : X → List Y) (x : X) (y : Y) (xs : List X) → IsOneOf x xs → IsOneOf y (f x) → IsOneOf y (flat_map f xs)
one_of_all f x y [] h g = absurd h
one_of_all f x y (z ∷ zs) (inl is) g = one_left y (f z) (flat_map f zs) (subst (λ w. IsOneOf y (f w)) (sym is) g)
one_of_all f x y (z ∷ zs) (inr there) g = one_right y (f z) (flat_map f zs) (one_of_all f x y zs there g)

-- a port that is not the clock's is one of the others
one_but : (p : Port) (ports : List Port) (c n : ℕ) → slice_get ports n ≡ Some p → n ≢ c → IsOneOf p (take c ports ++ drop (c + 1) ports)
one_but p [] c n at other = absurd (cc)
one_but p (q ∷ qs) zero zero at other = absurd (other refl)
one_but p (q ∷ qs) zero (suc n) at other = one_at p qs n at
one_but p (q ∷ qs) (suc c) zero at other = let is : q ≡ p = cc in inl is
one_but p (q ∷ qs) (suc c) (suc n) at other =
    let next : suc c + 1 ≡ suc (c + 1) = omega arith in
    subst (λ k. IsOneOf p (q ∷ (take c qs ++ drop k (q ∷ qs)))) (sym next) (inr (one_but p qs c n at (λ e. other (ap suc e))))

pub data_port : (net : PlainNet) (n : ℕ) (p : Port) → slice_get net.ports n ≡ Some p → net.clock ≢ Some n → IsOneOf p (data_ports net)
data_port net n p at other = of_clock net.clock other
  where
    of_clock : (clock : Option ℕ) → clock ≢ Some n → IsOneOf p (ports_but clock net.ports)
    of_clock None apart = one_at p net.ports n at
    of_clock (Some c) apart = one_but p net.ports c n at (λ e. apart (ap (λ k. Some k) (sym e)))

-- a port of a net with this header
pub record HasPort (net : PlainNet) (h : Header) : Type 0 where
  pub number : ℕ
  pub port : Port
  pub at : slice_get net.ports number ≡ Some port
  pub is : header_of port ≡ h

port_of : (net : PlainNet) (ports : List Port) (hs : List Header) (h : Header) → map header_of ports ≡ hs → ((k : ℕ) (p : Port) → slice_get ports k ≡ Some p → (n : ℕ) × (slice_get net.ports n ≡ Some p)) → IsOneOf h hs → HasPort net h
port_of net ports [] h e within one = absurd one
port_of net [] (x ∷ xs) h e within one = absurd (cc)
port_of net (p ∷ ps) (x ∷ xs) h e within (inl is) =
    let head : header_of p ≡ x = cc in
    let place = within 0 p refl in
    record { number = place.0; port = p; at = place.1; is = head ∙ is }
port_of net (p ∷ ps) (x ∷ xs) h e within (inr there) =
    let tail : map header_of ps ≡ xs = cc in
    port_of net ps xs h tail (λ k q at. within (suc k) q at) there

module _ (original : PlainNet) (report : Report) (net : PlainNet) (shape : Shape original report net) where
  -- the port of a share
  pub share_port : (p : Port) (i : ℕ) → IsOneOf p (data_ports original) → IsTrue (is_shared report p.name) → i ≤ report.order → HasPort net (record { name = share_name i p.name; way = p.way; range = p.range })
  share_port p i one shared le =
      let header : ℕ → Header = λ k. record { name = share_name k p.name; way = p.way; range = p.range } in
      let mine : masked_headers report p ≡ map header (indices report.order) = cond-true (is_shared report p.name) (map header (indices report.order)) (header_of p ∷ []) shared in
      let here : IsOneOf (header i) (flat_map (masked_headers report) (data_ports original)) =
      one_of_all (masked_headers report) p (header i) (data_ports original) one (subst (IsOneOf (header i)) (sym mine) (one_of_row header i 0 (report.order + 1) (omega arith) (omega (arith, le)))) in
      let random = input_of_width (codes "agm_r") report.random in
      let publics = input_of_width (codes "agm_q_p") report.public_registers in
      let states = flat_map (λ k. input_of_width (state_name k) report.secret_registers) (indices report.order) in
      let own = flat_map (masked_headers report) (data_ports original) in
      port_of net net.ports _ (header i) shape.headers (λ k q at. (k, at))
      (inr (inr (one_right (header i) random (publics ++ (states ++ own)) (one_right (header i) publics (states ++ own) (one_right (header i) states own here)))))

  -- a public port
  pub public_port : (p : Port) → IsOneOf p (data_ports original) → is_shared report p.name ≡ false → HasPort net (header_of p)
  public_port p one public =
      let header : ℕ → Header = λ k. record { name = share_name k p.name; way = p.way; range = p.range } in
      let mine : masked_headers report p ≡ header_of p ∷ [] = cond-false (is_shared report p.name) (map header (indices report.order)) (header_of p ∷ []) public in
      let here : IsOneOf (header_of p) (flat_map (masked_headers report) (data_ports original)) =
      one_of_all (masked_headers report) p (header_of p) (data_ports original) one (subst (IsOneOf (header_of p)) (sym mine) (inl refl)) in
      let random = input_of_width (codes "agm_r") report.random in
      let publics = input_of_width (codes "agm_q_p") report.public_registers in
      let states = flat_map (λ k. input_of_width (state_name k) report.secret_registers) (indices report.order) in
      let own = flat_map (masked_headers report) (data_ports original) in
      port_of net net.ports _ (header_of p) shape.headers (λ k q at. (k, at))
      (inr (inr (one_right (header_of p) random (publics ++ (states ++ own)) (one_right (header_of p) publics (states ++ own) (one_right (header_of p) states own here)))))

  -- the load signal
  pub load_port : HasPort net (one_input (codes "agm_load"))
  load_port = port_of net net.ports _ (one_input (codes "agm_load")) shape.headers (λ k q at. (k, at)) (inr (inl refl))

-- how many bits a port with a range has
abbrev pub width : Option Range → ℕ
width range = length (bit_names [] range)

pub same_width : (name : List ℕ) (range : Option Range) → length (bit_names name range) ≡ width range
same_width name None = refl
same_width name (Some r) = length-map (range_numbers r.msb r.lsb) (select_name name) ∙ sym (length-map (range_numbers r.msb r.lsb) (select_name []))

module _ (net : PlainNet) (well : WellFormed net) (n : ℕ) (p : Port) (at : slice_get net.ports n ≡ Some p) where
  pub port_bits : (bit : ℕ → Bool) → port_value net p.name bit ≡ map bit p.bits
  port_bits = all_of_one (OwnBits net.ports) net.ports n p (own_bits net.ports well.ports_right.ports_differ) at

  pub bit_count : length p.bits ≡ width p.range
  bit_count =
      let named = ap (λ (xs : List (Option (List ℕ))). length xs) (well.ports_right.bits_named n p at) in
      sym (length-map p.bits (slice_get net.wires)) ∙ (named ∙ (length-map (bit_names p.name p.range) (λ name. Some name) ∙ same_width p.name p.range))
