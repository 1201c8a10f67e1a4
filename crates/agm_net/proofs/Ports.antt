-- What the checks say of a net's ports.
use Rattle.std.proofs.Common.{◌≡◌, ℕ, ◌<◌, ◌≤◌, Bool, true, false, List, [], ◌∷◌, Option, Some, None, length, get_or, map, refl, ap, subst, ◌∙◌, arith, IsTrue}
use Rattle.std.specs.Prelude.{slice_get, nat_le}
use Rattle.std.specs.List.{list_all}
use Rattle.std.specs.Option.{option_map_or}
use Rattle.std.specs.Str.{bytes_eq}
use Rattle.std.specs.Cmp.Lexicographic.{bytes_decides}
use Rattle.std.proofs.lemmas.Bool.{and_parts, and_from, cases_lt, leb-true, le-leb}
use Rattle.std.proofs.lemmas.List.{get_or_default}
use Rattle.std.proofs.lemmas.List.Sums.{AllPass-from_list_all, list_all-from_AllPass}
use Rattle.std.proofs.lemmas.Option.{get_or_from_slice_get, slice_get-get_or, slice_get_within}
use mathlib.Core.Logic.{⊎_elim}
use Rattle.agm_net.specs.Plain.{PlainNet, bit_names}
use Rattle.agm_net.specs.WellFormed.{PortsAreRight, is_clock_port}
use Rattle.agm_net.specs.Checks.{Texts, has_name, are_named, is_named, names_differ, uses, at_most_once, port_bits, ports_fit}
use Rattle.agm_net.specs.declared.port.Port.{Port}
use Rattle.agm_net.proofs.Counts.{count, count-append, count-tail, uses-length, uses-count}
use Rattle.agm_net.proofs.Repeats.{Differ-from_test, test-from_Differ}

named-of : (o : Option (List ℕ)) (name : List ℕ) → option_map_or (λ w. bytes_eq w name) o false ≡ true → o ≡ Some name
named-of None name h = absurd (cc)
named-of (Some own) name h = ap Some ((bytes_decides own name).0 h)

test-of : (o : Option (List ℕ)) (name : List ℕ) → o ≡ Some name → option_map_or (λ w. bytes_eq w name) o false ≡ true
test-of o name is = rw is ((bytes_decides name name).1 refl)

-- the wires of bits have these names
abbrev BitsNamed : Texts → List ℕ → Texts → Type 0
BitsNamed wires bits names = map (slice_get wires) bits ≡ map (λ name. Some name) names

named-from_test : (wires : Texts) (bits : List ℕ) (names : Texts) → are_named wires bits names ≡ true → BitsNamed wires bits names
named-from_test wires [] [] h = refl
named-from_test wires [] (n ∷ ns) h = absurd (cc)
named-from_test wires (b ∷ bs) [] h = absurd (cc)
named-from_test wires (b ∷ bs) (n ∷ ns) h =
    let parts = and_parts (has_name wires b n) (are_named wires bs ns) h in
    let first = named-of (slice_get wires b) n parts.0 in
    let rest = named-from_test wires bs ns parts.1 in
    cc

test-from_named : (wires : Texts) (bits : List ℕ) (names : Texts) → BitsNamed wires bits names → are_named wires bits names ≡ true
test-from_named wires [] [] h = refl
test-from_named wires [] (n ∷ ns) h = absurd (cc)
test-from_named wires (b ∷ bs) [] h = absurd (cc)
test-from_named wires (b ∷ bs) (n ∷ ns) h =
    let first : slice_get wires b ≡ Some n = cc in
    let rest : BitsNamed wires bs ns = cc in
    and_from _ _ (test-of (slice_get wires b) n first) (test-from_named wires bs ns rest)

-- a number past the wires is no named bit
none-past : (wires : Texts) (bits : List ℕ) (names : Texts) → are_named wires bits names ≡ true → (w : ℕ) → length wires ≤ w → count w bits ≡ 0
none-past wires [] names h w past = refl
none-past wires (b ∷ bs) [] h w past = absurd (cc)
none-past wires (b ∷ bs) (n ∷ ns) h w past =
    let parts = and_parts (has_name wires b n) (are_named wires bs ns) h in
    let within = slice_get_within wires b n (named-of (slice_get wires b) n parts.0) in
    count-tail w b bs (λ same. omega arith) ∙ none-past wires bs ns parts.1 w past

none-past_ports : (wires : Texts) (ports : List Port) → list_all (is_named wires) ports ≡ true → (w : ℕ) → length wires ≤ w → count w (port_bits ports) ≡ 0
none-past_ports wires [] h w past = refl
none-past_ports wires (p ∷ ps) h w past =
    let parts = and_parts (is_named wires p) (list_all (is_named wires) ps) h in
    let first = none-past wires p.bits (bit_names p.name p.range) parts.0 w past in
    let rest = none-past_ports wires ps parts.1 w past in
    count-append w p.bits (port_bits ps) ∙ omega arith

-- no wire is a bit of two ports
once-from_test : (n : ℕ) (bits : List ℕ) → at_most_once (uses n bits) ≡ true → (w : ℕ) → w < n → count w bits ≤ 1
once-from_test n bits h w within =
    let long = uses-length n bits in
    let small = leb-true _ _ (AllPass-from_list_all (λ c. nat_le c 1) (uses n bits) h w 0 (omega arith)) in
    let here = uses-count n bits w within in
    omega arith

test-from_once : (n : ℕ) (bits : List ℕ) → ((w : ℕ) → count w bits ≤ 1) → at_most_once (uses n bits) ≡ true
test-from_once n bits once =
    let long = uses-length n bits in
    list_all-from_AllPass (λ c. nat_le c 1) (uses n bits)
    (λ k d h.
    let here = uses-count n bits k (omega arith) in
    let same = get_or_default (uses n bits) k d 0 h in
    let small = once k in
    le-leb (get_or (uses n bits) k d) 1 (omega arith))

-- a test of what stands in an option
fact-of : (p : ℕ → Bool) (o : Option ℕ) → option_map_or p o true ≡ true → (c : ℕ) → o ≡ Some c → IsTrue (p c)
fact-of p None h c is = absurd (cc)
fact-of p (Some d) h c is = let same : d ≡ c = cc in subst (λ (k : ℕ). p k ≡ true) same h

test-of_fact : (p : ℕ → Bool) (o : Option ℕ) → ((c : ℕ) → o ≡ Some c → IsTrue (p c)) → option_map_or p o true ≡ true
test-of_fact p None f = refl
test-of_fact p (Some d) f = f d refl

module _ (net : PlainNet) where
  -- the tests of ports decide whether they are right
  pub right-from_test : ports_fit net.ports net.wires net.clock ≡ true → PortsAreRight net
  right-from_test fit =
      let names = and_parts (names_differ (map (λ p. p.name) net.ports)) _ fit in
      let bits = and_parts (list_all (is_named net.wires) net.ports) _ names.1 in
      let apart = and_parts (at_most_once (uses (length net.wires) (port_bits net.ports))) _ bits.1 in
      record {
        ports_differ = Differ-from_test (map (λ p. p.name) net.ports) names.0;
        bits_named = λ n p is.
            let test = AllPass-from_list_all (is_named net.wires) net.ports bits.0 n p (slice_get_within net.ports n p is) in
            named-from_test net.wires p.bits (bit_names p.name p.range) (subst (λ (q : Port). is_named net.wires q ≡ true) (get_or_from_slice_get net.ports n p p is) test);
        one_port = λ w.
            ⊎_elim
            (λ within. once-from_test (length net.wires) (port_bits net.ports) apart.0 w within)
            (λ past. let none = none-past_ports net.wires net.ports bits.0 w past in omega arith)
            (cases_lt w (length net.wires));
        clock_fits = fact-of (λ c. option_map_or is_clock_port (slice_get net.ports c) false) net.clock apart.1;
      }

  pub test-from_right : PortsAreRight net → ports_fit net.ports net.wires net.clock ≡ true
  test-from_right right =
      and_from _ _ (test-from_Differ (map (λ p. p.name) net.ports) right.ports_differ)
      (and_from _ _
      (list_all-from_AllPass (is_named net.wires) net.ports
      (λ k d h.
      let p : Port = get_or net.ports k d in
      test-from_named net.wires p.bits (bit_names p.name p.range) (right.bits_named k p (slice_get-get_or net.ports k d h))))
      (and_from _ _
      (test-from_once (length net.wires) (port_bits net.ports) right.one_port)
      (test-of_fact (λ c. option_map_or is_clock_port (slice_get net.ports c) false) net.clock right.clock_fits)))
