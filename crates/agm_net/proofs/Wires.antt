-- The wires of a well-formed net: the bits of its ports, the wires of its equations, and the outputs of its registers.
use Rattle.std.proofs.Common.{◌≡◌, ◌<◌, ◌+◌, ◌==◌, ◌++◌, ℕ, zero, suc, Bool, true, false, ◌&&◌, cond, List, [], ◌∷◌, map, filter, take, drop, length, IsTrue, Option, None, Some, slice_get, count_by, is_none, nat_lt, refl, sym, ap, ◌∙◌, arith, flat_map, ltb-true, inl, inr}
use Rattle.std.specs.List.{AllByRecursion, list_all, list_any}
use Rattle.std.specs.Option.{option_map_or}
use Rattle.std.proofs.lemmas.Bool.{and_parts, cases_Bool}
use Rattle.std.proofs.lemmas.List.{take-append-drop, drop-drop}
use Rattle.std.proofs.lemmas.List.Elements.{filter-append}
use Rattle.std.proofs.lemmas.List.Sums.{sum_by-cons}
use Rattle.std.proofs.lemmas.Grind.{flat_map-append}
use Rattle.std.proofs.lemmas.Option.{slice_get_within}
use Rattle.agm_net.specs.Formula.{reads_below}
use Rattle.agm_net.specs.Plain.{Line, Stored, PlainNet, is_input, bits_of_port, clock_bits, input_bits, ports_but, bit_names}
use Rattle.agm_net.specs.WellFormed.{WellFormed, is_clock_port}
use Rattle.agm_net.specs.declared.port.Port.{Port}
use Rattle.agm_net.proofs.Lists.{all_joined, all_places, count_append}

-- how often a wire is among some bits
abbrev pub times : ℕ → List ℕ → ℕ
times w bits = count_by (λ b. b == w) bits

-- the bits of the input ports among some ports
abbrev pub inputs_of : List Port → List ℕ
inputs_of ports = flat_map (λ p. p.bits) (filter is_input ports)

-- whether a wire is one of them
abbrev pub is_input_of : List Port → ℕ → Bool
is_input_of ports w = list_any (λ b. b == w) (inputs_of ports)

-- the input bits of a net, its clock's among them
abbrev pub bits_in : PlainNet → List ℕ
bits_in net = inputs_of net.ports

-- whether a wire is one of them
abbrev pub is_bit_in : PlainNet → ℕ → Bool
is_bit_in net = is_input_of net.ports

-- the outputs of registers
abbrev pub outputs : PlainNet → List ℕ
outputs net = map (λ r. r.q) net.registers

-- the input bits of ports and others
pub inputs_joined : (ps qs : List Port) → inputs_of (ps ++ qs) ≡ inputs_of ps ++ inputs_of qs
inputs_joined ps qs = ap (flat_map (λ p. p.bits)) (filter-append is_input ps qs) ∙ flat_map-append (λ p. p.bits) (filter is_input ps) (filter is_input qs)

times_joined : (w : ℕ) (ps qs : List Port) → times w (inputs_of (ps ++ qs)) ≡ times w (inputs_of ps) + times w (inputs_of qs)
times_joined w ps qs = ap (times w) (inputs_joined ps qs) ∙ count_append (λ b. b == w) (inputs_of ps) (inputs_of qs)

-- ports with the one at a place in the middle
cut_at : (c : ℕ) (ports : List Port) → ports ≡ take c ports ++ (take 1 (drop c ports) ++ drop (c + 1) ports)
cut_at c ports =
    sym (take-append-drop c ports)
    ∙ ap (λ qs. take c ports ++ qs) (sym (take-append-drop 1 (drop c ports)) ∙ ap (λ qs. take 1 (drop c ports) ++ qs) (drop-drop 1 c ports))

-- the clock's port is an input
clock_is_input : (ports : List Port) (c : ℕ) → IsTrue (option_map_or is_clock_port (slice_get ports c) false) → filter is_input (take 1 (drop c ports)) ≡ take 1 (drop c ports)
clock_is_input [] c h = absurd (let no : false ≡ true = h in cc)
clock_is_input (p ∷ ps) zero h = let both = and_parts (is_input p) (is_none p.range) h in rw (both.0) refl
clock_is_input (p ∷ ps) (suc c) h = clock_is_input ps c h

-- and one of the ports
pub clock_within : (ports : List Port) (c : ℕ) → IsTrue (option_map_or is_clock_port (slice_get ports c) false) → c < length ports
clock_within [] c h = absurd (let no : false ≡ true = h in cc)
clock_within (p ∷ ps) zero h = omega arith
clock_within (p ∷ ps) (suc c) h = let rest = clock_within ps c h in omega arith

-- an input bit is one of the data or of the clock
pub times_split : (ports : List Port) (clock : Option ℕ) (w : ℕ) → ((c : ℕ) → clock ≡ Some c → IsTrue (option_map_or is_clock_port (slice_get ports c) false))
    → times w (inputs_of (ports_but clock ports)) + times w (bits_of_port ports clock) ≡ times w (inputs_of ports)
times_split ports None w fits = omega arith
times_split ports (Some c) w fits =
    let clock = take 1 (drop c ports) in
    let all = ap (λ ps. times w (inputs_of ps)) (cut_at c ports) in
    let three = times_joined w (take c ports) (clock ++ drop (c + 1) ports) in
    let two = times_joined w clock (drop (c + 1) ports) in
    let others = times_joined w (take c ports) (drop (c + 1) ports) in
    let own = ap (λ ps. times w (flat_map (λ p. p.bits) ps)) (clock_is_input ports c (fits c refl)) in
    omega arith

-- each wire is one input bit, a clock's bit, the wire of an equation, or the output of a register
pub one_way : (net : PlainNet) → WellFormed net → (w : ℕ) → w < length net.wires
    → times w (input_bits net) + times w (clock_bits net) + count_by (λ l. l.0 == w) net.lines + count_by (λ r. r.q == w) net.registers ≡ 1
one_way net well w lt =
    let split = times_split net.ports net.clock w well.ports_right.clock_fits in
    let all = well.one_driver w lt in
    omega arith

pub times_outputs : (w : ℕ) (rs : List Stored) → times w (map (λ r. r.q) rs) ≡ count_by (λ r. r.q == w) rs
times_outputs w [] = refl
times_outputs w (r ∷ rs) =
    sum_by-cons (λ b. cond (b == w) 1 0) r.q (map (λ s. s.q) rs)
    ∙ (ap (λ n. cond (r.q == w) 1 0 + n) (times_outputs w rs) ∙ sym (sum_by-cons (λ s. cond (s.q == w) 1 0) r rs))

-- wires that have names are wires
pub named_wires : (wires : List (List ℕ)) (ws : List ℕ) (names : List (List ℕ)) → map (slice_get wires) ws ≡ map (λ name. Some name) names → AllByRecursion (λ w. w < length wires) ws
named_wires wires [] names same = tt
named_wires wires (w ∷ ws) [] same = absurd (cc)
named_wires wires (w ∷ ws) (name ∷ names) same =
    let head : slice_get wires w ≡ Some name = cc in
    let tail : map (slice_get wires) ws ≡ map (λ n. Some n) names = cc in
    (slice_get_within wires w name head, named_wires wires ws names tail)

-- the bits of ports are wires
pub ports_bits : (net : PlainNet) → WellFormed net → AllByRecursion (λ p. AllByRecursion (λ w. w < length net.wires) p.bits) net.ports
ports_bits net well =
    all_places (λ p. AllByRecursion (λ w. w < length net.wires) p.bits) net.ports (λ n p at. named_wires net.wires p.bits (bit_names p.name p.range) (well.ports_right.bits_named n p at))

all_filtered : {X : Type 0} (P : X → Type 0) (test : X → Bool) (xs : List X) → AllByRecursion P xs → AllByRecursion P (filter test xs)
all_filtered P test [] h = tt
all_filtered P test (x ∷ xs) h = elim (cases_Bool (test x)) [ inl is ↦ rw is (h.0, all_filtered P test xs h.1) | inr is ↦ rw is (all_filtered P test xs h.1) ]

all_flat : (n : ℕ) (ps : List Port) → AllByRecursion (λ p. AllByRecursion (λ w. w < n) p.bits) ps → AllByRecursion (λ w. w < n) (flat_map (λ p. p.bits) ps)
all_flat n [] h = tt
all_flat n (p ∷ ps) h = all_joined (λ w. w < n) p.bits (flat_map (λ q. q.bits) ps) h.0 (all_flat n ps h.1)

-- those of some ports are
pub some_bits : (n : ℕ) (test : Port → Bool) (ps : List Port) → AllByRecursion (λ p. AllByRecursion (λ w. w < n) p.bits) ps → AllByRecursion (λ w. w < n) (flat_map (λ p. p.bits) (filter test ps))
some_bits n test ps h = all_flat n (filter test ps) (all_filtered (λ p. AllByRecursion (λ w. w < n) p.bits) test ps h)

all_taken : {X : Type 0} (P : X → Type 0) (k : ℕ) (xs : List X) → AllByRecursion P xs → AllByRecursion P (take k xs)
all_taken P zero xs h = tt
all_taken P (suc k) [] h = tt
all_taken P (suc k) (x ∷ xs) h = (h.0, all_taken P k xs h.1)

all_dropped : {X : Type 0} (P : X → Type 0) (k : ℕ) (xs : List X) → AllByRecursion P xs → AllByRecursion P (drop k xs)
all_dropped P zero xs h = h
all_dropped P (suc k) [] h = tt
all_dropped P (suc k) (x ∷ xs) h = all_dropped P k xs h.1

-- the ports without the clock's
ports_but_bits : (P : Port → Type 0) (clock : Option ℕ) (ports : List Port) → AllByRecursion P ports → AllByRecursion P (ports_but clock ports)
ports_but_bits P None ports h = h
ports_but_bits P (Some c) ports h = all_joined P (take c ports) (drop (c + 1) ports) (all_taken P c ports h) (all_dropped P (c + 1) ports h)

pub inputs_are_wires : (net : PlainNet) → WellFormed net → AllByRecursion (λ w. w < length net.wires) (input_bits net)
inputs_are_wires net well =
    let n = length net.wires in
    some_bits n is_input (ports_but net.clock net.ports) (ports_but_bits (λ p. AllByRecursion (λ w. w < n) p.bits) net.clock net.ports (ports_bits net well))

pub clock_is_wire : (net : PlainNet) → WellFormed net → AllByRecursion (λ w. w < length net.wires) (clock_bits net)
clock_is_wire net well = one_port (length net.wires) net.ports net.clock (ports_bits net well)
  where
    one_port : (n : ℕ) (ports : List Port) (clock : Option ℕ) → AllByRecursion (λ p. AllByRecursion (λ w. w < n) p.bits) ports → AllByRecursion (λ w. w < n) (bits_of_port ports clock)
    one_port n ports None h = tt
    one_port n ports (Some c) h =
        all_flat n (take 1 (drop c ports)) (all_taken (λ p. AllByRecursion (λ w. w < n) p.bits) 1 (drop c ports) (all_dropped (λ p. AllByRecursion (λ w. w < n) p.bits) c ports h))

-- equations are for wires and read wires
pub lines_fit : (net : PlainNet) → WellFormed net → AllByRecursion (λ l. (l.0 < length net.wires) × IsTrue (reads_below (length net.wires) l.1)) net.lines
lines_fit net well =
    let n = length net.wires in
    let parts = and_parts (list_all (λ l. nat_lt l.0 n && reads_below n l.1) net.lines) (list_all (λ r. nat_lt r.q n && (reads_below n r.next && nat_lt r.clock n)) net.registers) well.in_range in
    each n net.lines parts.0
  where
    each : (n : ℕ) (lines : List Line) → IsTrue (list_all (λ l. nat_lt l.0 n && reads_below n l.1) lines) → AllByRecursion (λ l. (l.0 < n) × IsTrue (reads_below n l.1)) lines
    each n [] h = tt
    each n (l ∷ ls) h =
        let parts = and_parts (nat_lt l.0 n && reads_below n l.1) (list_all (λ k. nat_lt k.0 n && reads_below n k.1) ls) h in
        let both = and_parts (nat_lt l.0 n) (reads_below n l.1) parts.0 in
        ((ltb-true l.0 n both.0, both.1), each n ls parts.1)

-- registers store and read wires
pub registers_fit : (net : PlainNet) → WellFormed net → AllByRecursion (λ r. (r.q < length net.wires) × IsTrue (reads_below (length net.wires) r.next)) net.registers
registers_fit net well =
    let n = length net.wires in
    let parts = and_parts (list_all (λ l. nat_lt l.0 n && reads_below n l.1) net.lines) (list_all (λ r. nat_lt r.q n && (reads_below n r.next && nat_lt r.clock n)) net.registers) well.in_range in
    each n net.registers parts.1
  where
    each : (n : ℕ) (rs : List Stored) → IsTrue (list_all (λ r. nat_lt r.q n && (reads_below n r.next && nat_lt r.clock n)) rs) → AllByRecursion (λ r. (r.q < n) × IsTrue (reads_below n r.next)) rs
    each n [] h = tt
    each n (r ∷ rs) h =
        let parts = and_parts (nat_lt r.q n && (reads_below n r.next && nat_lt r.clock n)) (list_all (λ x. nat_lt x.q n && (reads_below n x.next && nat_lt x.clock n)) rs) h in
        let both = and_parts (nat_lt r.q n) (reads_below n r.next && nat_lt r.clock n) parts.0 in
        let last = and_parts (reads_below n r.next) (nat_lt r.clock n) both.1 in
        ((ltb-true r.q n both.0, last.0), each n rs parts.1)
