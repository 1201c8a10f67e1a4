-- A port more.
use Rattle.std.proofs.Common.{◌≡◌, ◌≢◌, ◌<◌, ◌≤◌, ◌+◌, ◌-◌, ◌*◌, ◌==◌, ◌++◌, ◌⊎◌, ℕ, zero, suc, Bool, true, false, cond, List, [], ◌∷◌, Option, Some, codes, length, take, map, filter, flat_map, count_by, get_or, slice_get, IsTrue, refl, sym, ap, ap₂, subst, subst₂, inl, inr, ◌∙◌, arith, eq-eqb, append_assoc, length-append}
use Rattle.std.specs.List.{AllByRecursion, range_with_len, insert}
use Rattle.std.specs.Str.{bytes_eq}
use Rattle.std.proofs.lemmas.List.{length-map}
use Rattle.std.proofs.lemmas.List.Sums.{sum_by-append}
use Rattle.std.proofs.lemmas.List.Edits.{insert_end}
use Rattle.std.proofs.lemmas.Bool.{cases_Bool, cases_lt, ne_eqb, lt-ltb}
use Rattle.agm_net.specs.Plain.{bit_names, is_input}
use Rattle.agm_net.specs.declared.port.Port.{Port}
use Rattle.agm_net.specs.declared.port.Range.{Range}
use Rattle.agm_net.specs.declared.port.Way.{Way}
use Rattle.agm_net.specs.declared.port.Way.TheVariants.{Input as In, Output}
use Rattle.agm_net.proofs.Lists.{all_from, count_no, count_yes}
use Rattle.share_wiring.specs.Wiring.{Wiring, IsRun, Keeps, names, source_at}
use Rattle.share_wiring.specs.Own.{bit_wires, input_wires, copy_wires}
use Rattle.share_wiring.specs.Adds.{random_bits, AddsRegisters}
use Rattle.share_wiring.specs.Built.{source_fits, AreDistinct, IsNew, HasItsBits, uses, input_uses, is_stored, clock_port, IsAmong, IsInnerOrBit, IsMadePort, bits_names, IsBuilt, IsNewPort, MayBeGiven}
use Rattle.share_wiring.specs.declared.gate.Source.{Source}
use Rattle.share_wiring.specs.declared.gate.Source.TheVariants.{Input, Equation}
use Rattle.share_wiring.specs.declared.gate.Gate.TheVariants.{Same}
use Rattle.share_wiring.specs.declared.gate.Wire.{Wire}
use Rattle.share_wiring.proofs.Lists.{row_before, row_once}
use Rattle.share_wiring.proofs.Grown.{Fit, none, built_more, named_more, names_append, uses_more, source_front, source_back}
use Rattle.share_wiring.proofs.Runs.{registers_more, run_front, run_back}
use Rattle.share_wiring.proofs.OwnWires.{length-upto, get-upto, map-upto, all_upto}
use Rattle.share_wiring.proofs.PortBits.{below, below_all, at_place}
use Rattle.share_wiring.proofs.PortNames.{upto_items, bits_distinct, bits_free, bits_begun, bits_writable}

-- the wires of bits
pub bit_wire_names : (ns : List (List ℕ)) (source : ℕ → Source) → names (bit_wires ns source) ≡ ns
bit_wire_names ns source = map-upto (λ (x : Wire). x.name) (length ns) (λ i. record { name = get_or ns i []; source = source i }) ∙ upto_items ns

pub bit_wire_count : (ns : List (List ℕ)) (source : ℕ → Source) → length (bit_wires ns source) ≡ length ns
bit_wire_count ns source = length-upto (length ns) (λ i. record { name = get_or ns i []; source = source i })

pub bit_wire_sources : (P : Source → Type 0) (ns : List (List ℕ)) (source : ℕ → Source) → ((i : ℕ) → i < length ns → P (source i)) → AllByRecursion (λ wire. P wire.source) (bit_wires ns source)
bit_wire_sources P ns source h = all_upto (λ (x : Wire). P x.source) (length ns) (λ i. record { name = get_or ns i []; source = source i }) h

pub port_fits : (net : Wiring) (name : List ℕ) (range : Option Range) (source : ℕ → Source) → IsNewPort net name range
    → ((i : ℕ) → i < length (bit_names name range) → IsTrue (source_fits (source i) (length net.wires) (length net.wires))) → Fit net (bit_wires (bit_names name range) source)
port_fits net name range source new fits =
    let ns = bit_names name range in
    let same = bit_wire_names ns source in
    record {
      read = bit_wire_sources (λ s. IsTrue (source_fits s (length net.wires) (length net.wires))) ns source fits;
      distinct = rw same (bits_distinct name range new.small);
      new = rw same new.new_wires;
      free = rw same (bits_free name range new.small new.port_name (length net.wires + length (bit_wires ns source)));
      begun = rw same (bits_begun name range new.small new.port_name net.gadgets);
      writable = rw same (bits_writable name range new.small new.port_name new.written);
    }

found_at : (xs : List (List ℕ)) (n : List ℕ) (ns : List (List ℕ)) → slice_get (xs ++ (n ∷ ns)) (length xs) ≡ Some n
found_at [] n ns = refl
found_at (x ∷ xs) n ns = found_at xs n ns

-- new wires are found by their numbers
found_new : (xs ns : List (List ℕ)) → map (slice_get (xs ++ ns)) (range_with_len (length xs) (length ns)) ≡ map (λ name. Some name) ns
found_new xs [] = refl
found_new xs (n ∷ ns) =
    let longer : xs ++ (n ∷ ns) ≡ (xs ++ n ∷ []) ++ ns = sym (append_assoc xs (n ∷ []) ns) in
    let count : length xs + 1 ≡ length (xs ++ n ∷ []) = sym (length-append xs (n ∷ [])) in
    let rest = found_new (xs ++ n ∷ []) ns in
    let tail : map (slice_get (xs ++ (n ∷ ns))) (range_with_len (length xs + 1) (length ns)) ≡ map (λ name. Some name) ns =
    ap (λ ys. map (slice_get ys) (range_with_len (length xs + 1) (length ns))) longer ∙ (ap (λ k. map (slice_get ((xs ++ n ∷ []) ++ ns)) (range_with_len k (length ns))) count ∙ rest) in
    ap₂ (λ y ys. y ∷ ys) (found_at xs n ns) tail

-- it is there where the wire is a new input
row_input : (ns : List Wire) (a k : ℕ) → AllByRecursion (λ wire. input_uses wire.source ≡ 1) ns → count_by (λ b. b == a + k) (range_with_len a (length ns)) ≡ input_uses (source_at ns k)
row_input [] a k h = refl
row_input (n ∷ ns) a zero h =
    let at : a ≡ a + 0 = omega arith in
    let one = count_yes (λ b. b == a + 0) a (range_with_len (a + 1) (length ns)) (eq-eqb a (a + 0) at) in
    let rest = row_before (a + 1) (length ns) (a + 0) (omega arith) in
    let is = h.0 in
    omega (arith, one, rest, is)
row_input (n ∷ ns) a (suc k) h =
    let at : (a + 1) + k ≡ a + suc k = omega arith in
    let none_here = count_no (λ b. b == a + suc k) a (range_with_len (a + 1) (length ns)) (ne_eqb a (a + suc k) (λ e. (let same = e in omega arith))) in
    none_here ∙ (ap (λ w. count_by (λ b. b == w) (range_with_len (a + 1) (length ns))) (sym at) ∙ row_input ns (a + 1) k h.1)

-- a number past all bits is a bit of none
no_use : (xs : List ℕ) (n w : ℕ) → AllByRecursion (λ b. b < n) xs → n ≤ w → count_by (λ b. b == w) xs ≡ 0
no_use [] n w h le = refl
no_use (x ∷ xs) n w h le = let lt = h.0 in count_no (λ b. b == w) x xs (ne_eqb x w (λ e. (let same = e in omega arith))) ∙ no_use xs n w h.1 le

append_none : (xs : List ℕ) → xs ++ [] ≡ xs
append_none [] = refl
append_none (x ∷ xs) = ap (λ ys. x ∷ ys) (append_none xs)

pub among_left : (xs ys : List (List ℕ)) (x : List ℕ) → IsAmong xs x → IsAmong (xs ++ ys) x
among_left [] ys x h = absurd h
among_left (y ∷ xs) ys x (inl here) = inl here
among_left (y ∷ xs) ys x (inr there) = inr (among_left xs ys x there)

pub among_right : (xs ys : List (List ℕ)) (x : List ℕ) → IsAmong ys x → IsAmong (xs ++ ys) x
among_right [] ys x h = h
among_right (y ∷ xs) ys x h = inr (among_right xs ys x h)

pub among_cases : (xs ys : List (List ℕ)) (x : List ℕ) → IsAmong (xs ++ ys) x → IsAmong xs x ⊎ IsAmong ys x
among_cases [] ys x h = inr h
among_cases (y ∷ xs) ys x (inl here) = inl (inl here)
among_cases (y ∷ xs) ys x (inr there) = elim (among_cases xs ys x there) [ inl left ↦ inl (inr left) | inr right ↦ inr right ]

-- what holds of each name holds of one among them
pub among_all : (P : List ℕ → Type 0) (ns : List (List ℕ)) (name : List ℕ) → AllByRecursion P ns → IsAmong ns name → P name
among_all P [] name h among = absurd among
among_all P (n ∷ ns) name h (inl is) = subst P is h.0
among_all P (n ∷ ns) name h (inr among) = among_all P ns name h.1 among

-- each of some names is among them
pub each_among : (xs : List (List ℕ)) → AllByRecursion (IsAmong xs) xs
each_among [] = tt
each_among (x ∷ xs) = (inl refl, all_from (IsAmong xs) (IsAmong (x ∷ xs)) (λ y h. inr h) xs (each_among xs))

-- lists of ports with one more at a place
module _ (p : Port) where
  pub insert_all : (P : Port → Type 0) (ports : List Port) (i : ℕ) → P p → AllByRecursion P ports → AllByRecursion P (insert ports i p)
  insert_all P [] zero h g = (h, tt)
  insert_all P [] (suc i) h g = (h, tt)
  insert_all P (q ∷ qs) zero h g = (h, g)
  insert_all P (q ∷ qs) (suc i) h g = (g.0, insert_all P qs i h g.1)

  insert_names : (P : List ℕ → Type 0) (ports : List Port) (i : ℕ) → P p.name → AllByRecursion P (map (λ q. q.name) ports) → AllByRecursion P (map (λ q. q.name) (insert ports i p))
  insert_names P [] zero h g = (h, tt)
  insert_names P [] (suc i) h g = (h, tt)
  insert_names P (q ∷ qs) zero h g = (h, g)
  insert_names P (q ∷ qs) (suc i) h g = (g.0, insert_names P qs i h g.1)

  pub insert_distinct : (ports : List Port) (i : ℕ) → IsNew (map (λ q. q.name) ports) p.name → AreDistinct (map (λ q. q.name) ports) → AreDistinct (map (λ q. q.name) (insert ports i p))
  insert_distinct [] zero new h = (tt, tt)
  insert_distinct [] (suc i) new h = (tt, tt)
  insert_distinct (q ∷ qs) zero new h = (all_from (λ old. old ≢ p.name) (λ y. p.name ≢ y) (λ x other e. other (sym e)) (map (λ r. r.name) (q ∷ qs)) new, h)
  insert_distinct (q ∷ qs) (suc i) new h = (insert_names (λ y. q.name ≢ y) qs i new.0 h.0, insert_distinct qs i new.1 h.1)

  pub insert_uses : (ports : List Port) (i w : ℕ) → uses (insert ports i p) w ≡ uses ports w + count_by (λ b. b == w) p.bits
  insert_uses [] zero w = let split = sum_by-append (λ b. cond (b == w) 1 0) p.bits [] in omega (arith, split)
  insert_uses [] (suc i) w = let split = sum_by-append (λ b. cond (b == w) 1 0) p.bits [] in omega (arith, split)
  insert_uses (q ∷ qs) zero w = let split = sum_by-append (λ b. cond (b == w) 1 0) p.bits (flat_map (λ r. r.bits) (q ∷ qs)) in omega (arith, split)
  insert_uses (q ∷ qs) (suc i) w =
      let rest = insert_uses qs i w in
      let one = sum_by-append (λ b. cond (b == w) 1 0) q.bits (flat_map (λ r. r.bits) qs) in
      let two = sum_by-append (λ b. cond (b == w) 1 0) q.bits (flat_map (λ r. r.bits) (insert qs i p)) in
      omega (arith, rest, one, two)

  -- an input is added to the inputs, and an output is not
  pub insert_inputs : (ports : List Port) (i w : ℕ) → is_input p ≡ true → uses (filter is_input (insert ports i p)) w ≡ uses (filter is_input ports) w + count_by (λ b. b == w) p.bits
  insert_inputs [] zero w is = rw is (let split = sum_by-append (λ b. cond (b == w) 1 0) p.bits [] in omega (arith, split))
  insert_inputs [] (suc i) w is = rw is (let split = sum_by-append (λ b. cond (b == w) 1 0) p.bits [] in omega (arith, split))
  insert_inputs (q ∷ qs) zero w is = rw is (let split = sum_by-append (λ b. cond (b == w) 1 0) p.bits (flat_map (λ r. r.bits) (filter is_input (q ∷ qs))) in omega (arith, split))
  insert_inputs (q ∷ qs) (suc i) w is =
      let rest = insert_inputs qs i w is in
      elim (cases_Bool (is_input q)) [
        | inl kept ↦ rw kept
            (let one = sum_by-append (λ b. cond (b == w) 1 0) q.bits (flat_map (λ r. r.bits) (filter is_input qs)) in
            let two = sum_by-append (λ b. cond (b == w) 1 0) q.bits (flat_map (λ r. r.bits) (filter is_input (insert qs i p))) in
            omega (arith, rest, one, two))
        | inr left ↦ rw left rest
      ]

  pub insert_output : (ports : List Port) (i : ℕ) → is_input p ≡ false → filter is_input (insert ports i p) ≡ filter is_input ports
  insert_output [] zero is = rw is refl
  insert_output [] (suc i) is = rw is refl
  insert_output (q ∷ qs) zero is = rw is refl
  insert_output (q ∷ qs) (suc i) is = elim (cases_Bool (is_input q)) [ inl kept ↦ rw kept (ap (λ ps. q ∷ ps) (insert_output qs i is)) | inr left ↦ rw left (insert_output qs i is) ]

  pub insert_first : (ports : List Port) (i : ℕ) (first : List Port) → 0 < i → 0 < length ports → take 1 ports ≡ first → take 1 (insert ports i p) ≡ first
  insert_first [] i first some more e = absurd (omega arith)
  insert_first (q ∷ qs) zero first some more e = absurd (omega arith)
  insert_first (q ∷ qs) (suc i) first some more e = e

  -- the random bits are those of the port with their name
  pub insert_random : (ports : List Port) (i : ℕ) → bytes_eq p.name (codes "agm_r") ≡ false → random_bits (insert ports i p) ≡ random_bits ports
  insert_random [] zero is = rw is refl
  insert_random [] (suc i) is = rw is refl
  insert_random (q ∷ qs) zero is = rw is refl
  insert_random (q ∷ qs) (suc i) is = elim (cases_Bool (bytes_eq q.name (codes "agm_r"))) [ inl kept ↦ rw kept (ap (λ bs. q.bits ++ bs) (insert_random qs i is)) | inr left ↦ rw left (insert_random qs i is) ]

  pub append_random : (ports : List Port) → random_bits (ports ++ p ∷ []) ≡ random_bits ports ++ cond (bytes_eq p.name (codes "agm_r")) p.bits []
  append_random [] = elim (cases_Bool (bytes_eq p.name (codes "agm_r"))) [ inl kept ↦ rw kept (append_none p.bits) | inr left ↦ rw left refl ]
  append_random (q ∷ qs) =
      elim (cases_Bool (bytes_eq q.name (codes "agm_r"))) [
        | inl kept ↦ rw kept (ap (λ bs. q.bits ++ bs) (append_random qs) ∙ sym (append_assoc q.bits (random_bits qs) (cond (bytes_eq p.name (codes "agm_r")) p.bits [])))
        | inr left ↦ rw left (append_random qs)
      ]

  -- the names of the bits of one port more
  insert_among : (ports : List Port) (i : ℕ) (x : List ℕ) → IsAmong (bit_names p.name p.range) x ⊎ IsAmong (bits_names ports) x → IsAmong (bits_names (insert ports i p)) x
  insert_among [] zero x (inl own) = among_left (bit_names p.name p.range) [] x own
  insert_among [] (suc i) x (inl own) = among_left (bit_names p.name p.range) [] x own
  insert_among [] i x (inr old) = absurd old
  insert_among (q ∷ qs) zero x (inl own) = among_left (bit_names p.name p.range) (bits_names (q ∷ qs)) x own
  insert_among (q ∷ qs) zero x (inr old) = among_right (bit_names p.name p.range) (bits_names (q ∷ qs)) x old
  insert_among (q ∷ qs) (suc i) x (inl own) = among_right (bit_names q.name q.range) (bits_names (insert qs i p)) x (insert_among qs i x (inl own))
  insert_among (q ∷ qs) (suc i) x (inr old) =
      elim (among_cases (bit_names q.name q.range) (bits_names qs) x old) [
        | inl here ↦ among_left (bit_names q.name q.range) (bits_names (insert qs i p)) x here
        | inr there ↦ among_right (bit_names q.name q.range) (bits_names (insert qs i p)) x (insert_among qs i x (inr there))
      ]

  pub still_among : (ports : List Port) (i : ℕ) (x : List ℕ) → IsAmong (bits_names ports) x → IsAmong (bits_names (insert ports i p)) x
  still_among ports i x h = insert_among ports i x (inr h)

  pub new_among : (ports : List Port) (i : ℕ) → AllByRecursion (IsInnerOrBit (insert ports i p)) (bit_names p.name p.range)
  new_among ports i =
      all_from (IsAmong (bit_names p.name p.range)) (IsInnerOrBit (insert ports i p)) (λ x h. inr (insert_among ports i x (inl h))) (bit_names p.name p.range) (each_among (bit_names p.name p.range))

-- the clock is there, so there is a port
pub some_ports : (ports : List Port) → take 1 ports ≡ clock_port ∷ [] → 0 < length ports
some_ports [] e = absurd (cc)
some_ports (p ∷ ps) e = omega arith

-- a port whose bits are new wires
abbrev pub new_port : Wiring → List ℕ → Way → Option Range → Port
new_port net name way range = record { name = name; way = way; range = range; bits = range_with_len (length net.wires) (length (bit_names name range)) }

module _ (net : Wiring) (built : IsBuilt net) (name : List ℕ) (range : Option Range) (new : IsNewPort net name range) (place : ℕ) (some : 0 < place) where
  abbrev port : Way → Port
  port way = new_port net name way range

  abbrev wires : (ℕ → Source) → List Wire
  wires source = net.wires ++ bit_wires (bit_names name range) source

  count : length (names net.wires) ≡ length net.wires
  count = length-map net.wires (λ (x : Wire). x.name)

  named : (way : Way) (source : ℕ → Source) → AllByRecursion (HasItsBits (names (wires source))) (insert net.ports place (port way))
  named way source =
      let ns = bit_names name range in
      let all : names (wires source) ≡ names net.wires ++ ns = names_append net.wires (bit_wires ns source) ∙ ap (λ more. names net.wires ++ more) (bit_wire_names ns source) in
      let own : map (slice_get (names net.wires ++ ns)) (range_with_len (length net.wires) (length ns)) ≡ map (λ n. Some n) ns =
      subst (λ k. map (slice_get (names net.wires ++ ns)) (range_with_len k (length ns)) ≡ map (λ n. Some n) ns) count (found_new (names net.wires) ns) in
      subst (λ all. AllByRecursion (HasItsBits all) (insert net.ports place (port way))) (sym all)
      (insert_all (port way) (HasItsBits (names net.wires ++ ns)) net.ports place own (named_more (names net.wires) ns net.ports built.bits_named))

  made : (way : Way) → AllByRecursion IsMadePort (insert net.ports place (port way))
  made way = insert_all (port way) IsMadePort net.ports place (record { port_name = inr new.port_name; written = new.written; small = new.small }) built.ports_made

  -- the new wires have the names of the new port's bits
  own_names : (way : Way) (source : ℕ → Source) → AllByRecursion (IsInnerOrBit (insert net.ports place (port way))) (names (bit_wires (bit_names name range) source))
  own_names way source = rw (bit_wire_names (bit_names name range) source) (new_among (port way) net.ports place)

  -- a wire is a bit of no old port or of no new one
  one : (way : Way) (w : ℕ) → uses (insert net.ports place (port way)) w ≤ 1
  one way w =
      let split = insert_uses (port way) net.ports place w in
      let first = length net.wires in
      let many = length (bit_names name range) in
      let old = built.one_port w in
      let more = row_once first many w in
      elim (cases_lt w first) [
        | inl lt ↦ (let none = row_before first many w lt in omega (arith, split, old, none))
        | inr ge ↦ (let none = no_use (flat_map (λ p. p.bits) net.ports) (length (names net.wires)) w (below_all (names net.wires) net.ports built.bits_named) (omega (arith, count, ge)) in omega (arith, split, more, none))
      ]

  input_given : (w : ℕ) → uses (filter is_input (insert net.ports place (port In))) w ≡ input_uses (source_at (wires (λ i. Input)) w)
  input_given w =
      let ns = bit_names name range in
      let more = input_wires ns in
      let first = length net.wires in
      let split = insert_inputs (port In) net.ports place w refl in
      let old = built.inputs w in
      let len = bit_wire_count ns (λ i. Input) in
      elim (cases_lt w first) [
        | inl lt ↦ (
            let none = row_before first (length ns) w lt in
            let same = ap input_uses (source_front net.wires more w lt) in
            omega (arith, split, old, none, same))
        | inr ge ↦ (
            let k = w - first in
            let at : w ≡ first + k = omega (arith, ge) in
            let none = no_use (flat_map (λ p. p.bits) (filter is_input net.ports)) (length (names net.wires)) w (below (names net.wires) is_input net.ports built.bits_named) (omega (arith, count, ge)) in
            let row = row_input more first k (bit_wire_sources (λ s. input_uses s ≡ 1) ns (λ i. Input) (λ i lt. refl)) in
            let here : count_by (λ b. b == w) (range_with_len first (length ns)) ≡ input_uses (source_at more k) =
            ap (λ v. count_by (λ b. b == v) (range_with_len first (length ns))) at ∙ (ap (λ m. count_by (λ b. b == first + k) (range_with_len first m)) (sym len) ∙ row) in
            let is = ap input_uses (ap (source_at (net.wires ++ more)) at ∙ source_back net.wires more k) in
            omega (arith, split, none, here, is))
      ]

  pub in_built : net.given ≤ length (random_bits (insert net.ports place (port In))) → IsBuilt (record net { ports = insert net.ports place (port In); wires = net.wires ++ input_wires (bit_names name range) })
  in_built given =
      built_more net (input_wires (bit_names name range)) (insert net.ports place (port In)) built (port_fits net name range (λ i. Input) new (λ i lt. refl))
      (still_among (port In) net.ports place) (own_names In (λ i. Input))
      (insert_first (port In) net.ports place (clock_port ∷ []) some (some_ports net.ports built.clocked) built.clocked)
      (made In) (insert_distinct (port In) net.ports place new.new_port built.ports_differ)
      (named In (λ i. Input)) (one In) input_given given

  pub out_built : (bits : List ℕ) → AllByRecursion (λ b. b < length net.wires) bits → length bits ≡ length (bit_names name range) → bytes_eq name (codes "agm_r") ≡ false
      → IsBuilt (record net { ports = insert net.ports place (port Output); wires = net.wires ++ copy_wires (bit_names name range) bits })
  out_built bits inside many other =
      let ns = bit_names name range in
      let source : ℕ → Source = λ i. Equation (Same (get_or bits i 0)) in
      let N = length net.wires in
      built_more net (copy_wires ns bits) (insert net.ports place (port Output)) built
      (port_fits net name range source new (λ i lt. lt-ltb (get_or bits i 0) N (at_place (λ b. b < N) bits i inside (omega (arith, many, lt)))))
      (still_among (port Output) net.ports place) (own_names Output source)
      (insert_first (port Output) net.ports place (clock_port ∷ []) some (some_ports net.ports built.clocked) built.clocked)
      (made Output) (insert_distinct (port Output) net.ports place new.new_port built.ports_differ)
      (named Output source) (one Output)
      (λ w. ap (λ ps. uses ps w) (insert_output (port Output) net.ports place refl) ∙ (built.inputs w ∙ sym (uses_more net.wires (copy_wires ns bits) w (bit_wire_sources (λ s. input_uses s ≡ 0) ns source (λ i lt. refl)))))
      (subst (λ bs. net.given ≤ length bs) (sym (insert_random (port Output) net.ports place other)) built.given)

-- an input port at the end
pub last_in_built : (net : Wiring) (name : List ℕ) (range : Option Range) (ports : List Port) (ws : List Wire) → IsBuilt net → IsNewPort net name range
    → ports ≡ net.ports ++ new_port net name In range ∷ [] → ws ≡ net.wires ++ input_wires (bit_names name range) → IsBuilt (record net { ports = ports; wires = ws })
last_in_built net name range ports ws built new e f =
    let p = new_port net name In range in
    let end = insert_end net.ports p in
    let random = append_random p net.ports in
    let len = length-append (random_bits net.ports) (cond (bytes_eq name (codes "agm_r")) p.bits []) in
    let given = built.given in
    let same = ap (λ (bs : List ℕ). length bs) random in
    let more : net.given ≤ length (random_bits (net.ports ++ p ∷ [])) = omega (arith, len, given, same) in
    let made = in_built net built name range new (length net.ports) (some_ports net.ports built.clocked) (subst (λ ps. net.given ≤ length (random_bits ps)) (sym end) more) in
    subst₂ (λ ps qs. IsBuilt (record net { ports = ps; wires = qs })) (end ∙ sym e) (sym f) made

-- the registers of no more registers
pub none_stored : (ns : List (List ℕ)) (source : ℕ → Source) → ((i : ℕ) → is_stored (source i) ≡ 0) → (old new : Wiring) → new.wires ≡ old.wires ++ bit_wires ns source → AddsRegisters 0 old new
none_stored ns source h old new e =
    let all = registers_more old new (bit_wires ns source) 0 e (bit_wire_sources (λ s. is_stored s ≡ 0) ns source (λ i lt. h i)) in
    let zero_all : length (bit_wires ns source) * 0 ≡ 0 = omega arith in
    subst (λ k. AddsRegisters k old new) zero_all all

-- a bit that is given is a wire
pub given_within : (wires : List Wire) (name : List ℕ) (bits : List ℕ) → AllByRecursion (MayBeGiven wires name) bits → AllByRecursion (λ b. b < length wires) bits
given_within wires name bits h = all_from (MayBeGiven wires name) (λ b. b < length wires) (λ b m. m.within) bits h

-- the copies have the bits that they copy
pub copies_keep : (wires : List Wire) (ns : List (List ℕ)) (bits : List ℕ) (cycles : ℕ) (bit : ℕ → ℕ → Bool) → length bits ≡ length ns → IsRun (wires ++ copy_wires ns bits) cycles bit
    → IsRun wires cycles bit × ((t : ℕ) → t < cycles → (i : ℕ) → i < length bits → bit t (length wires + i) ≡ bit t (get_or bits i 0))
copies_keep wires ns bits cycles bit many run = (
  run_front wires (copy_wires ns bits) cycles bit run,
  λ t lt i below.
      let source : ℕ → Source = λ k. Equation (Same (get_or bits k 0)) in
      let count = bit_wire_count ns source in
      let kept = run_back wires (copy_wires ns bits) cycles bit run i (omega (arith, count, many, below)) in
      let is : source_at (copy_wires ns bits) i ≡ source i = ap (λ (x : Wire). x.source) (get-upto (length ns) i (λ k. record { name = get_or ns k []; source = source k }) none (omega (arith, many, below))) in
      let here : Keeps cycles bit (length wires + i) (source i) = subst (λ s. Keeps cycles bit (length wires + i) s) is kept in
      here t lt,
)
