-- The clock, the bits of `agm_r` and the bits of ports among the wires of a builder's net, by their names.
use Rattle.std.proofs.Common.{◌≡◌, ◌<◌, ◌≤◌, ◌==◌, ◌&&◌, ◌||◌, ◌⊎◌, ◌++◌, ℕ, zero, suc, Bool, true, false, List, [], ◌∷◌, Some, codes, length, take, drop, map, filter, flat_map, get_or, slice_get, count_by, IsTrue, refl, sym, ap, subst, inl, inr, ◌∙◌, arith, eq-eqb}
use Rattle.std.specs.Fmt.{decimal}
use Rattle.std.specs.List.{AllByRecursion, list_any}
use Rattle.std.specs.Str.{bytes_eq}
use Rattle.std.proofs.lemmas.Bool.{cases_Bool, or_cases, or_left, or_right, eqb-true, and_from}
use Rattle.std.proofs.lemmas.List.{length-map}
use Rattle.std.proofs.lemmas.List.Folds.{list_any-append}
use Rattle.std.proofs.lemmas.Option.{slice_get-get_or, slice_get_within, get_or_from_slice_get}
use Rattle.std.proofs.lemmas.Slice.Eq.{bytes_eq-Decides}
use Rattle.agm_net.specs.Label.{IsBitOf, IsUserName, is_port_bit}
use Rattle.agm_net.specs.Network.{random_bits_of}
use Rattle.agm_net.specs.Plain.{bit_names, is_input}
use Rattle.agm_net.specs.Run.{driver, d_clock}
use Rattle.agm_net.specs.declared.port.Port.{Port}
use Rattle.agm_net.proofs.Driving.{is_driver}
use Rattle.agm_net.proofs.Lists.{all_joined, count_more, count_some, count_yes, some_counted}
use Rattle.agm_net.proofs.OneLabel.{one_family, no_user, public_in, random_in, form_in, share_form}
use Rattle.share_wiring.specs.Wiring.{Wiring, names, name_at, source_at, net_of}
use Rattle.share_wiring.specs.Adds.{random_bits}
use Rattle.share_wiring.specs.Built.{IsBuilt, HasItsBits, IsAmong, IsInnerName, IsInnerOrBit, IsMadePort, IsPortName, clock_port, input_uses, uses}
use Rattle.share_wiring.specs.Networks.{IsRandomWire}
use Rattle.share_wiring.specs.declared.gate.Source.TheVariants.{Input}
use Rattle.share_wiring.specs.declared.gate.Wire.{Wire}
use Rattle.share_wiring.proofs.FinishedNet.{well_formed}
use Rattle.share_wiring.proofs.PortBits.{at_place, fewer_uses}
use Rattle.share_wiring.proofs.PortRules.{all_bits, name_place, user_bit}
use Rattle.share_wiring.proofs.PortWires.{among_all}
use Rattle.share_wiring.proofs.SmallNet.{bit_of_port, distinct_at}

-- ---- places in lists of wires

there : (xs : List ℕ) (k : ℕ) → k < length xs → IsTrue (list_any (λ b. b == get_or xs k 0) xs)
there [] k lt = absurd (omega arith)
there (x ∷ xs) zero lt = or_left (x == x) (list_any (λ b. b == x) xs) (eq-eqb x x refl)
there (x ∷ xs) (suc k) lt = or_right (x == get_or xs k 0) (list_any (λ b. b == get_or xs k 0) xs) (there xs k (omega arith))

twice : (x : ℕ) (xs : List ℕ) (l : ℕ) → count_by (λ b. b == x) (x ∷ xs) ≤ 1 → l < length xs → x ≡ get_or xs l 0 → Prim.⊥
twice x xs l once lt e =
    let first = count_yes (λ b. b == x) x xs (eq-eqb x x refl) in
    let more = count_some (λ b. b == x) xs (subst (λ w. IsTrue (list_any (λ b. b == w) xs)) (sym e) (there xs l lt)) in
    omega (arith, first, more, once)

-- what is counted once stands at one place
pub one_place : (xs : List ℕ) (k l : ℕ) → ((w : ℕ) → count_by (λ b. b == w) xs ≤ 1) → k < length xs → l < length xs → get_or xs k 0 ≡ get_or xs l 0 → k ≡ l
one_place [] k l once h g e = absurd (omega arith)
one_place (x ∷ xs) zero zero once h g e = refl
one_place (x ∷ xs) zero (suc l) once h g e = absurd (twice x xs l (once x) (omega arith) e)
one_place (x ∷ xs) (suc k) zero once h g e = absurd (twice x xs k (once x) (omega arith) (sym e))
one_place (x ∷ xs) (suc k) (suc l) once h g e = ap suc (one_place xs k l (λ w. (let more = count_more (λ b. b == w) x xs in let all = once w in omega (arith, more, all))) (omega arith) (omega arith) e)

-- a place of what is found
pub place_of : (xs : List ℕ) (w : ℕ) → IsTrue (list_any (λ b. b == w) xs) → (k : ℕ) × (k < length xs) × (get_or xs k 0 ≡ w)
place_of [] w h = absurd (let no : false ≡ true = h in cc)
place_of (x ∷ xs) w h =
    elim (or_cases (x == w) (list_any (λ b. b == w) xs) h) [
      | inl here ↦ (0, omega arith, eqb-true x w here)
      | inr more ↦ (let rest = place_of xs w more in let lt = rest.1 in (suc rest.0, omega arith, rest.2))
    ]

-- ---- names of bits

-- a bit of a port whose name is that of a bit of `agm_r`
random_named : (port bit : List ℕ) → (port ≡ codes "agm_clk") ⊎ IsPortName port → IsBitOf port bit → IsBitOf (codes "agm_r") bit → port ≡ codes "agm_r"
random_named port bit (inl clock) (inl e) r = absurd (let no = one_family 1 3 bit (codes "clk", e ∙ clock, refl) (random_in bit r) in omega (arith, no))
random_named port bit (inl clock) (inr (k, small, e)) r =
    absurd (let no = one_family 1 3 bit (codes "clk" ++ 91 ∷ (decimal k ++ 93 ∷ []), e ∙ ap (λ p. p ++ 91 ∷ (decimal k ++ 93 ∷ [])) clock, refl) (random_in bit r) in omega (arith, no))
random_named port bit (inr (inl user)) of r = absurd (no_user 3 bit (user_bit port bit user of) (random_in bit r))
random_named port bit (inr (inr (inl e))) of r =
    absurd (let no = one_family 2 3 bit (public_in bit (inl (subst (λ n. IsBitOf n bit) e of))) (random_in bit r) in omega (arith, no))
random_named port bit (inr (inr (inr (inl e)))) of r = e
random_named port bit (inr (inr (inr (inr (inl e))))) of r =
    absurd (let no = one_family 2 3 bit (public_in bit (inr (inl (subst (λ n. IsBitOf n bit) e of)))) (random_in bit r) in omega (arith, no))
random_named port bit (inr (inr (inr (inr (inr (i, h)))))) of r =
    absurd (let no = one_family 4 3 bit (form_in i bit (share_form i bit (inl (port, h, of)))) (random_in bit r) in omega (arith, no))

-- a bit that is found has a name among those of its port
bit_named : (ns : List (List ℕ)) (bits : List ℕ) (found : List (List ℕ)) (w : ℕ) (name : List ℕ) → map (slice_get ns) bits ≡ map (λ n. Some n) found → IsTrue (list_any (λ b. b == w) bits)
    → slice_get ns w ≡ Some name → IsAmong found name
bit_named ns [] found w name e h at = absurd (let no : false ≡ true = h in cc)
bit_named ns (b ∷ bs) [] w name e h at = absurd (cc)
bit_named ns (b ∷ bs) (f ∷ fs) w name e h at =
    let first : slice_get ns b ≡ Some f = cc in
    let rest : map (slice_get ns) bs ≡ map (λ n. Some n) fs = cc in
    elim (or_cases (b == w) (list_any (λ c. c == w) bs) h) [
      | inl here ↦ (let both : Some f ≡ Some name = sym first ∙ (ap (slice_get ns) (eqb-true b w here) ∙ at) in let same : f ≡ name = cc in inl same)
      | inr more ↦ inr (bit_named ns bs fs w name rest more at)
    ]

-- a bit of an input port with such a name is a bit of the input port `agm_r`
abbrev is_fresh : Port → Bool
is_fresh p = is_input p && bytes_eq p.name (codes "agm_r")

module _ (ns : List (List ℕ)) (w : ℕ) (name : List ℕ) (at : slice_get ns w ≡ Some name) (of : IsBitOf (codes "agm_r") name) where
  abbrev Finds : (Port → Bool) → List Port → Type 0
  Finds test ports = IsTrue (list_any (λ b. b == w) (flat_map (λ p. p.bits) (filter test ports)))

  finds_here : (test : Port → Bool) (p : Port) (ps : List Port) → IsTrue (test p) → IsTrue (list_any (λ b. b == w) p.bits) → Finds test (p ∷ ps)
  finds_here test p ps is h =
      let all = flat_map (λ q. q.bits) (filter test ps) in
      rw is (list_any-append (λ b. b == w) p.bits all ∙ or_left (list_any (λ b. b == w) p.bits) (list_any (λ b. b == w) all) h)

  finds_there : (test : Port → Bool) (p : Port) (ps : List Port) → Finds test ps → Finds test (p ∷ ps)
  finds_there test p ps h =
      let all = flat_map (λ q. q.bits) (filter test ps) in
      elim (cases_Bool (test p)) [
        | inl is ↦ rw is (list_any-append (λ b. b == w) p.bits all ∙ or_right (list_any (λ b. b == w) p.bits) (list_any (λ b. b == w) all) h)
        | inr left ↦ rw left h
      ]

  -- a port that has it is `agm_r`
  named_so : (p : Port) → HasItsBits ns p → IsMadePort p → IsTrue (list_any (λ b. b == w) p.bits) → IsTrue (bytes_eq p.name (codes "agm_r"))
  named_so p bits made h =
      let found = bit_named ns p.bits (bit_names p.name p.range) w name bits h at in
      let is : p.name ≡ codes "agm_r" = random_named p.name name made.port_name (among_all (IsBitOf p.name) (bit_names p.name p.range) name (all_bits p.name p.range made.small) found) of in
      ap (λ n. bytes_eq n (codes "agm_r")) is

  random_found : (ports : List Port) → AllByRecursion (HasItsBits ns) ports → AllByRecursion IsMadePort ports → Finds is_input ports → Finds is_fresh ports × Finds (λ p. bytes_eq p.name (codes "agm_r")) ports
  random_found [] bits made h = absurd (let no : false ≡ true = h in cc)
  random_found (p ∷ ps) bits made h =
      elim (cases_Bool (is_input p)) [
        | inl input ↦ (
            let all = flat_map (λ q. q.bits) (filter is_input ps) in
            let split : IsTrue (list_any (λ b. b == w) p.bits || list_any (λ b. b == w) all) = sym (list_any-append (λ b. b == w) p.bits all) ∙ (rw input at h) in
            elim (or_cases (list_any (λ b. b == w) p.bits) (list_any (λ b. b == w) all) split) [
              | inl here ↦ (let named = named_so p bits.0 made.0 here in
                  (finds_here is_fresh p ps (and_from (is_input p) (bytes_eq p.name (codes "agm_r")) input named) here, finds_here (λ q. bytes_eq q.name (codes "agm_r")) p ps named here))
              | inr rest ↦ (let found = random_found ps bits.1 made.1 rest in (finds_there is_fresh p ps found.0, finds_there (λ q. bytes_eq q.name (codes "agm_r")) p ps found.1))
            ])
        | inr output ↦ (
            let found = random_found ps bits.1 made.1 (rw output at h) in
            (finds_there is_fresh p ps found.0, finds_there (λ q. bytes_eq q.name (codes "agm_r")) p ps found.1))
      ]

-- the first port is the clock's, which has another name
but_first : (ports : List Port) (w : ℕ) → take 1 ports ≡ clock_port ∷ [] → IsTrue (list_any (λ b. b == w) (flat_map (λ p. p.bits) (filter is_fresh ports)))
    → IsTrue (list_any (λ b. b == w) (flat_map (λ p. p.bits) (filter is_fresh (drop 1 ports))))
but_first [] w e h = absurd (cc)
but_first (p ∷ ps) w e h =
    let first : p ≡ clock_port = cc in
    let no : is_fresh p ≡ false = ap is_fresh first in
    rw no at h

module _ (net : Wiring) (built : IsBuilt net) where
  pub name_found : (w : ℕ) → w < length net.wires → slice_get (names net.wires) w ≡ Some (name_at net.wires w)
  name_found w lt = slice_get-get_or (names net.wires) w [] (subst (λ k. w < k) (sym (length-map net.wires (λ (x : Wire). x.name))) lt)

  pub random_is_found : (w : ℕ) → w < length net.wires → source_at net.wires w ≡ Input → IsBitOf (codes "agm_r") (name_at net.wires w)
      → IsTrue (list_any (λ b. b == w) (random_bits_of (net_of net))) × IsTrue (list_any (λ b. b == w) (random_bits net.ports))
  random_is_found w lt input of =
      let used : uses (filter is_input net.ports) w ≡ 1 = built.inputs w ∙ ap input_uses input in
      let found =
      random_found (names net.wires) w (name_at net.wires w) (name_found w lt) of net.ports built.bits_named built.ports_made
      (some_counted (λ b. b == w) (flat_map (λ p. p.bits) (filter is_input net.ports)) (omega (arith, used))) in
      (but_first net.ports w built.clocked found.0, found.1)

  -- random bits differ
  pub random_place : (k l : ℕ) → k < length (random_bits net.ports) → l < length (random_bits net.ports) → get_or (random_bits net.ports) k 0 ≡ get_or (random_bits net.ports) l 0 → k ≡ l
  random_place k l =
      one_place (random_bits net.ports) k l
      (λ w. let some = fewer_uses (λ p. bytes_eq p.name (codes "agm_r")) net.ports w in let one = built.one_port w in omega (arith, some, one))

  -- a wire of a user's name is a bit of a port
  pub user_is_bit : (w : ℕ) → w < length net.wires → IsUserName (name_at net.wires w) → IsTrue (is_port_bit (net_of net) w)
  user_is_bit w lt user =
      let count = length-map net.wires (λ (x : Wire). x.name) in
      elim (name_place (IsInnerOrBit net.ports) (names net.wires) w built.named (omega (arith, count, lt))) [
        | inl inner ↦ absurd (no_inner (name_at net.wires w) user inner)
        | inr bit ↦ (
            let found = bit_of_port (names net.wires) net.ports (name_at net.wires w) built.bits_named bit in
            subst (λ b. IsTrue (list_any (λ c. c == b) (flat_map (λ q. q.bits) net.ports))) (distinct_at (names net.wires) found.bit w (name_at net.wires w) built.distinct found.named (name_found w lt)) found.is_bit)
      ]
    where
      no_inner : (name : List ℕ) → IsUserName name → IsInnerName name → Prim.⊥
      no_inner name user (rest, inl is) = user (112 ∷ rest) is
      no_inner name user (rest, inr (inl is)) = user (100 ∷ rest) is
      no_inner name user (rest, inr (inr is)) = user (103 ∷ rest) is

  -- wire 0 has the name of the clock
  pub clock_found : slice_get (names net.wires) 0 ≡ Some (codes "agm_clk")
  clock_found = first_named net.ports built.clocked built.bits_named
    where
      first_named : (ports : List Port) → take 1 ports ≡ clock_port ∷ [] → AllByRecursion (HasItsBits (names net.wires)) ports → slice_get (names net.wires) 0 ≡ Some (codes "agm_clk")
      first_named [] e h = absurd (cc)
      first_named (p ∷ ps) e h =
          let first : p ≡ clock_port = cc in
          let named : HasItsBits (names net.wires) clock_port = subst (HasItsBits (names net.wires)) first h.0 in cc

  pub clock_is_zero : (w : ℕ) → w < length net.wires → name_at net.wires w ≡ codes "agm_clk" → w ≡ 0
  clock_is_zero w lt is = distinct_at (names net.wires) w 0 (codes "agm_clk") built.distinct (name_found w lt ∙ ap (λ n. Some n) is) clock_found

  pub clock_driver : driver (net_of net) 0 ≡ d_clock
  clock_driver =
      is_driver (net_of net) (well_formed net built) d_clock 0
      (subst (λ (ports : List Port). IsTrue (list_any (λ b. b == 0) (flat_map (λ p. p.bits) ports))) (sym built.clocked) refl)

-- ---- all of them

-- what holds of the names of bits holds of the bits
bits_are : (ns : List (List ℕ)) (P : List ℕ → Type 0) (bits : List ℕ) (found : List (List ℕ)) → map (slice_get ns) bits ≡ map (λ n. Some n) found → AllByRecursion P found
    → AllByRecursion (λ b. (b < length ns) × P (get_or ns b [])) bits
bits_are ns P [] found e h = tt
bits_are ns P (b ∷ bs) [] e h = absurd (cc)
bits_are ns P (b ∷ bs) (n ∷ fs) e h =
    let first : slice_get ns b ≡ Some n = cc in
    let rest : map (slice_get ns) bs ≡ map (λ m. Some m) fs = cc in
    ((slice_get_within ns b n first, subst P (sym (get_or_from_slice_get ns b n [] first)) h.0), bits_are ns P bs fs rest h.1)

all_random : (ns : List (List ℕ)) (ports : List Port) → AllByRecursion (HasItsBits ns) ports → AllByRecursion IsMadePort ports
    → AllByRecursion (λ b. (b < length ns) × IsBitOf (codes "agm_r") (get_or ns b [])) (random_bits ports)
all_random ns [] bits made = tt
all_random ns (p ∷ ps) bits made =
    elim (cases_Bool (bytes_eq p.name (codes "agm_r"))) [
      | inl is ↦ (
          let named : p.name ≡ codes "agm_r" = (bytes_eq-Decides p.name (codes "agm_r")).0 is in
          let each = subst (λ n. AllByRecursion (IsBitOf n) (bit_names p.name p.range)) named (all_bits p.name p.range made.0.small) in
          rw is (all_joined (λ b. (b < length ns) × IsBitOf (codes "agm_r") (get_or ns b [])) p.bits (random_bits ps) (bits_are ns (IsBitOf (codes "agm_r")) p.bits (bit_names p.name p.range) bits.0 each) (all_random ns ps bits.1 made.1)))
      | inr other ↦ rw other (all_random ns ps bits.1 made.1)
    ]

pub random_wire : (net : Wiring) → IsBuilt net → (k : ℕ) → k < length (random_bits net.ports) → IsRandomWire net.wires (get_or (random_bits net.ports) k 0)
random_wire net built k lt =
    let count = length-map net.wires (λ (x : Wire). x.name) in
    let at = at_place (λ b. (b < length (names net.wires)) × IsBitOf (codes "agm_r") (name_at net.wires b)) (random_bits net.ports) k (all_random (names net.wires) net.ports built.bits_named built.ports_made) lt in
    let under = at.0 in
    record { within = omega (arith, count, under); named = at.1 }
