-- The net of a builder is a net, has no loop, and each of its traces is one of the builder's wires.
use Rattle.std.proofs.Common.{◌≡◌, ◌≢◌, ◌<◌, ◌≤◌, ◌+◌, ◌==◌, ◌&&◌, ◌||◌, ℕ, zero, suc, Bool, true, false, cond, List, [], ◌∷◌, Some, length, take, map, count_by, slice_get, nat_lt, IsTrue, refl, sym, ap, ap₂, subst, inl, inr, ◌∙◌, arith, eq-eqb}
use Rattle.std.specs.List.{AllByRecursion, list_all, list_any}
use Rattle.std.specs.Option.{option_map_or}
use Rattle.std.proofs.lemmas.List.{length-map}
use Rattle.std.proofs.lemmas.List.Folds.{list_any-append}
use Rattle.std.proofs.lemmas.List.Sums.{sum_by-append}
use Rattle.std.proofs.lemmas.Bool.{cases_lt, and_parts, and_from, or_cases, lt-ltb, ltb-true, eqb-true, ne_eqb}
use Rattle.agm_net.specs.Formula.{value, reads_below, stands}
use Rattle.agm_net.specs.Plain.{PlainNet, Line, Stored, line_of, stored_of, plain}
use Rattle.agm_net.specs.declared.expr.Equation.{Equation as Equation'}
use Rattle.agm_net.specs.declared.expr.Register.{Register as Register'}
use Rattle.agm_net.specs.WellFormed.{drivers, numbers_fit, is_clock_port, WellFormed}
use Rattle.agm_net.specs.Loop.{reads, last_of, HasNoLoop}
use Rattle.agm_net.specs.Trace.{Row, bit_at, IsTrace}
use Rattle.agm_net.specs.declared.port.Port.{Port}
use Rattle.agm_net.proofs.Lists.{all_joined, all_of_one, count_no, count_yes}
use Rattle.agm_net.proofs.Ranks.{chain_falls}
use Rattle.share_wiring.specs.Gates.{gate_formula, gate_below}
use Rattle.share_wiring.specs.Wiring.{Wiring, IsRun, Keeps, names, source_at, line_at, stored_at, lines_below, stored_below, net_of}
use Rattle.share_wiring.specs.Built.{source_fits, AreDistinct, HasItsBits, input_uses, is_stored, clock_port, IsBuilt}
use Rattle.share_wiring.specs.declared.gate.Gate.{Gate}
use Rattle.share_wiring.specs.declared.gate.Gate.TheVariants.{Zero, One, Same, Not, And, Or, Xor, Mux}
use Rattle.share_wiring.specs.declared.gate.Source.{Source}
use Rattle.share_wiring.specs.declared.gate.Source.TheVariants.{Input, Equation, Register, Held}
use Rattle.share_wiring.specs.declared.gate.Wire.{Wire}
use Rattle.share_wiring.proofs.Lists.{all_front, all_back}
use Rattle.share_wiring.proofs.Distinct.{Distinct, differ_from_Distinct}
use Rattle.share_wiring.proofs.Parts.{same_below}
use Rattle.share_wiring.proofs.Grown.{gate_more}

to_distinct : {X : Type 0} (xs : List X) → AreDistinct xs → Distinct xs
to_distinct [] h = tt
to_distinct (x ∷ xs) h = (h.0, to_distinct xs h.1)

-- what holds of each wire's equation holds of all equations, and back
pub all_lines : (P : Line → Type 0) (wires : List Wire) (n : ℕ) → ((w : ℕ) → w < n → AllByRecursion P (line_at w (source_at wires w))) → AllByRecursion P (lines_below wires n)
all_lines P wires zero h = tt
all_lines P wires (suc n) h = all_joined P (lines_below wires n) (line_at n (source_at wires n)) (all_lines P wires n (λ w lt. h w (omega arith))) (h n (omega arith))

line_of_all : (P : Line → Type 0) (wires : List Wire) (n w : ℕ) → AllByRecursion P (lines_below wires n) → w < n → AllByRecursion P (line_at w (source_at wires w))
line_of_all P wires zero w h lt = absurd (omega arith)
line_of_all P wires (suc n) w h lt =
    elim (cases_lt w n) [
      | inl old ↦ line_of_all P wires n w (all_front P (lines_below wires n) (line_at n (source_at wires n)) h) old
      | inr last ↦ (let same : n ≡ w = omega arith in
          subst (λ k. AllByRecursion P (line_at k (source_at wires k))) same (all_back P (lines_below wires n) (line_at n (source_at wires n)) h))
    ]

-- the same of registers
pub all_stored : (P : Stored → Type 0) (wires : List Wire) (n : ℕ) → ((w : ℕ) → w < n → AllByRecursion P (stored_at w (source_at wires w))) → AllByRecursion P (stored_below wires n)
all_stored P wires zero h = tt
all_stored P wires (suc n) h = all_joined P (stored_below wires n) (stored_at n (source_at wires n)) (all_stored P wires n (λ w lt. h w (omega arith))) (h n (omega arith))

stored_of_all : (P : Stored → Type 0) (wires : List Wire) (n w : ℕ) → AllByRecursion P (stored_below wires n) → w < n → AllByRecursion P (stored_at w (source_at wires w))
stored_of_all P wires zero w h lt = absurd (omega arith)
stored_of_all P wires (suc n) w h lt =
    elim (cases_lt w n) [
      | inl old ↦ stored_of_all P wires n w (all_front P (stored_below wires n) (stored_at n (source_at wires n)) h) old
      | inr last ↦ (let same : n ≡ w = omega arith in
          subst (λ k. AllByRecursion P (stored_at k (source_at wires k))) same (all_back P (stored_below wires n) (stored_at n (source_at wires n)) h))
    ]

listed : {X : Type 0} (p : X → Bool) (xs : List X) → AllByRecursion (λ x. IsTrue (p x)) xs → IsTrue (list_all p xs)
listed p [] h = refl
listed p (x ∷ xs) h = and_from (p x) (list_all p xs) h.0 (listed p xs h.1)

-- numbers are in range
line_fits : (w N : ℕ) (s : Source) → w < N → IsTrue (source_fits s w N) → AllByRecursion (λ l. IsTrue (nat_lt l.0 N && reads_below N l.1)) (line_at w s)
line_fits w N Input lt h = tt
line_fits w N (Equation gate) lt h = (and_from (nat_lt w N) (reads_below N (gate_formula gate)) (lt-ltb w N lt) (same_below gate N ∙ gate_more gate w N (omega arith) h), tt)
line_fits w N (Register next clock) lt h = tt
line_fits w N Held lt h = tt

stored_fits : (w N : ℕ) (s : Source) → w < N → IsTrue (source_fits s w N) → AllByRecursion (λ r. IsTrue (nat_lt r.q N && (reads_below N r.next && nat_lt r.clock N))) (stored_at w s)
stored_fits w N Input lt h = tt
stored_fits w N (Equation gate) lt h = tt
stored_fits w N (Register next clock) lt h = (and_from (nat_lt w N) (nat_lt next N && nat_lt clock N) (lt-ltb w N lt) h, tt)
stored_fits w N Held lt h = (and_from (nat_lt w N) (nat_lt w N && nat_lt 0 N) (lt-ltb w N lt) (and_from (nat_lt w N) (nat_lt 0 N) (lt-ltb w N lt) (lt-ltb 0 N (omega arith))), tt)

fits : (net : Wiring) → IsBuilt net → IsTrue (numbers_fit (net_of net))
fits net built =
    let N = length net.wires in
    let len : length (names net.wires) ≡ N = length-map net.wires (λ (x : Wire). x.name) in
    rw len
    (and_from (list_all (λ l. nat_lt l.0 N && reads_below N l.1) (lines_below net.wires N)) (list_all (λ r. nat_lt r.q N && (reads_below N r.next && nat_lt r.clock N)) (stored_below net.wires N))
    (listed (λ l. nat_lt l.0 N && reads_below N l.1) (lines_below net.wires N) (all_lines (λ l. IsTrue (nat_lt l.0 N && reads_below N l.1)) net.wires N (λ w lt. line_fits w N (source_at net.wires w) lt (built.ordered w lt))))
    (listed (λ r. nat_lt r.q N && (reads_below N r.next && nat_lt r.clock N)) (stored_below net.wires N) (all_stored (λ r. IsTrue (nat_lt r.q N && (reads_below N r.next && nat_lt r.clock N))) net.wires N (λ w lt. stored_fits w N (source_at net.wires w) lt (built.ordered w lt)))))

-- whether a wire of this source has an equation, as a number
abbrev pub is_line : Source → ℕ
is_line (Equation gate) = 1
is_line _ = 0

line_here : (w : ℕ) (s : Source) → count_by (λ l. l.0 == w) (line_at w s) ≡ is_line s
line_here w Input = refl
line_here w (Equation gate) = count_yes (λ (l : Line). l.0 == w) (w, gate_formula gate) [] (eq-eqb w w refl)
line_here w (Register next clock) = refl
line_here w Held = refl

line_elsewhere : (w k : ℕ) (s : Source) → k ≢ w → count_by (λ l. l.0 == w) (line_at k s) ≡ 0
line_elsewhere w k Input other = refl
line_elsewhere w k (Equation gate) other = count_no (λ (l : Line). l.0 == w) (k, gate_formula gate) [] (ne_eqb k w other)
line_elsewhere w k (Register next clock) other = refl
line_elsewhere w k Held other = refl

lines_none : (wires : List Wire) (n w : ℕ) → n ≤ w → count_by (λ l. l.0 == w) (lines_below wires n) ≡ 0
lines_none wires zero w le = refl
lines_none wires (suc n) w le =
    sum_by-append (λ (l : Line). cond (l.0 == w) 1 0) (lines_below wires n) (line_at n (source_at wires n))
    ∙ ap₂ (λ x y. x + y) (lines_none wires n w (omega arith)) (line_elsewhere w n (source_at wires n) (λ e. (let same = e in omega arith)))

pub lines_one : (wires : List Wire) (n w : ℕ) → w < n → count_by (λ l. l.0 == w) (lines_below wires n) ≡ is_line (source_at wires w)
lines_one wires zero w lt = absurd (omega arith)
lines_one wires (suc n) w lt =
    let split = sum_by-append (λ (l : Line). cond (l.0 == w) 1 0) (lines_below wires n) (line_at n (source_at wires n)) in
    elim (cases_lt w n) [
      | inl old ↦ (let before = lines_one wires n w old in let here = line_elsewhere w n (source_at wires n) (λ e. (let same = e in omega arith)) in omega (arith, split, before, here))
      | inr last ↦ (let same : n ≡ w = omega arith in
          let before = lines_none wires n w (omega arith) in
          let here = subst (λ k. count_by (λ l. l.0 == w) (line_at k (source_at wires k)) ≡ is_line (source_at wires w)) (sym same) (line_here w (source_at wires w)) in
          omega (arith, split, before, here))
    ]

stored_here : (w : ℕ) (s : Source) → count_by (λ r. r.q == w) (stored_at w s) ≡ is_stored s
stored_here w Input = refl
stored_here w (Equation gate) = refl
stored_here w (Register next clock) = count_yes (λ (r : Stored). r.q == w) (record { q = w; next = gate_formula (Same next); clock = clock }) [] (eq-eqb w w refl)
stored_here w Held = count_yes (λ (r : Stored). r.q == w) (record { q = w; next = gate_formula (Same w); clock = 0 }) [] (eq-eqb w w refl)

stored_elsewhere : (w k : ℕ) (s : Source) → k ≢ w → count_by (λ r. r.q == w) (stored_at k s) ≡ 0
stored_elsewhere w k Input other = refl
stored_elsewhere w k (Equation gate) other = refl
stored_elsewhere w k (Register next clock) other = count_no (λ (r : Stored). r.q == w) (record { q = k; next = gate_formula (Same next); clock = clock }) [] (ne_eqb k w other)
stored_elsewhere w k Held other = count_no (λ (r : Stored). r.q == w) (record { q = k; next = gate_formula (Same k); clock = 0 }) [] (ne_eqb k w other)

stored_none : (wires : List Wire) (n w : ℕ) → n ≤ w → count_by (λ r. r.q == w) (stored_below wires n) ≡ 0
stored_none wires zero w le = refl
stored_none wires (suc n) w le =
    sum_by-append (λ (r : Stored). cond (r.q == w) 1 0) (stored_below wires n) (stored_at n (source_at wires n))
    ∙ ap₂ (λ x y. x + y) (stored_none wires n w (omega arith)) (stored_elsewhere w n (source_at wires n) (λ e. (let same = e in omega arith)))

pub stored_one : (wires : List Wire) (n w : ℕ) → w < n → count_by (λ r. r.q == w) (stored_below wires n) ≡ is_stored (source_at wires w)
stored_one wires zero w lt = absurd (omega arith)
stored_one wires (suc n) w lt =
    let split = sum_by-append (λ (r : Stored). cond (r.q == w) 1 0) (stored_below wires n) (stored_at n (source_at wires n)) in
    elim (cases_lt w n) [
      | inl old ↦ (let before = stored_one wires n w old in let here = stored_elsewhere w n (source_at wires n) (λ e. (let same = e in omega arith)) in omega (arith, split, before, here))
      | inr last ↦ (let same : n ≡ w = omega arith in
          let before = stored_none wires n w (omega arith) in
          let here = subst (λ k. count_by (λ r. r.q == w) (stored_at k (source_at wires k)) ≡ is_stored (source_at wires w)) (sym same) (stored_here w (source_at wires w)) in
          omega (arith, split, before, here))
    ]

one_kind : (s : Source) → input_uses s + (is_line s + is_stored s) ≡ 1
one_kind Input = refl
one_kind (Equation gate) = refl
one_kind (Register next clock) = refl
one_kind Held = refl

-- each wire has one driver
driven : (net : Wiring) → IsBuilt net → (w : ℕ) → w < length net.wires → drivers (net_of net) w ≡ 1
driven net built w lt =
    let inputs = built.inputs w in
    let lines = lines_one net.wires (length net.wires) w lt in
    let registers = stored_one net.wires (length net.wires) w lt in
    let kind = one_kind (source_at net.wires w) in
    omega (arith, inputs, lines, registers, kind)

pub first_is_clock : (ports : List Port) → take 1 ports ≡ clock_port ∷ [] → slice_get ports 0 ≡ Some clock_port
first_is_clock [] e = absurd (cc)
first_is_clock (p ∷ ps) e = let same : p ≡ clock_port = cc in ap (λ x. Some x) same

clock_is : (ports : List Port) (c : ℕ) → take 1 ports ≡ clock_port ∷ [] → Some 0 ≡ Some c → IsTrue (option_map_or is_clock_port (slice_get ports c) false)
clock_is ports c e is =
    let zero_is : 0 ≡ c = cc in
    subst (λ k. IsTrue (option_map_or is_clock_port (slice_get ports k) false)) zero_is (rw (first_is_clock ports e) refl)

pub well_formed : (net : Wiring) → IsBuilt net → WellFormed (net_of net)
well_formed net built = record {
  in_range = fits net built;
  ports_right = record {
    ports_differ = differ_from_Distinct (map (λ p. p.name) net.ports) (to_distinct (map (λ p. p.name) net.ports) built.ports_differ);
    bits_named = λ n p at. all_of_one (HasItsBits (names net.wires)) net.ports n p built.bits_named at;
    one_port = built.one_port;
    clock_fits = λ c is. clock_is net.ports c built.clocked is;
  };
  wires_differ = differ_from_Distinct (names net.wires) (to_distinct (names net.wires) built.distinct);
  one_driver = λ w lt. driven net built w (subst (λ k. w < k) (length-map net.wires (λ (x : Wire). x.name)) lt);
}

-- what a gate reads is below
below_left : (a v n : ℕ) → IsTrue (nat_lt a n) → IsTrue (a == v) → v < n
below_left a v n h e = let lt = ltb-true a n h in let same : a ≡ v = eqb-true a v e in omega arith

below_either : (a b : Bool) (c d : Bool) (v n : ℕ) → (IsTrue a → IsTrue c → v < n) → (IsTrue b → IsTrue d → v < n) → IsTrue (a && b) → IsTrue (c || d) → v < n
below_either a b c d v n f g h e = let both = and_parts a b h in elim (or_cases c d e) [ inl left ↦ f both.0 left | inr right ↦ g both.1 right ]

gate_stands : (gate : Gate) (v n : ℕ) → IsTrue (gate_below gate n) → IsTrue (stands v (gate_formula gate)) → v < n
gate_stands Zero v n h e = absurd (let no : false ≡ true = e in cc)
gate_stands One v n h e = absurd (let no : false ≡ true = e in cc)
gate_stands (Same a) v n h e = below_left a v n h e
gate_stands (Not a) v n h e = below_left a v n h e
gate_stands (And a b) v n h e = below_either (nat_lt a n) (nat_lt b n) (a == v) (b == v) v n (below_left a v n) (below_left b v n) h e
gate_stands (Or a b) v n h e = below_either (nat_lt a n) (nat_lt b n) (a == v) (b == v) v n (below_left a v n) (below_left b v n) h e
gate_stands (Xor a b) v n h e = below_either (nat_lt a n) (nat_lt b n) (a == v) (b == v) v n (below_left a v n) (below_left b v n) h e
gate_stands (Mux s a b) v n h e =
    below_either (nat_lt s n) (nat_lt a n && nat_lt b n) (s == v) ((a == v) || (b == v)) v n (below_left s v n)
    (below_either (nat_lt a n) (nat_lt b n) (a == v) (b == v) v n (below_left a v n) (below_left b v n)) h e

line_reads_lower : (k w v N : ℕ) (s : Source) → IsTrue (source_fits s k N) → IsTrue (list_any (λ l. (l.0 == w) && stands v l.1) (line_at k s)) → v < w
line_reads_lower k w v N Input h some = absurd (let no : false ≡ true = some in cc)
line_reads_lower k w v N (Equation gate) h some =
    elim (or_cases ((k == w) && stands v (gate_formula gate)) false some) [
      | inl here ↦ (let both = and_parts (k == w) (stands v (gate_formula gate)) here in let same : k ≡ w = eqb-true k w both.0 in let lt = gate_stands gate v k h both.1 in omega arith)
      | inr none ↦ absurd (let bad : false ≡ true = none in cc)
    ]
line_reads_lower k w v N (Register next clock) h some = absurd (let no : false ≡ true = some in cc)
line_reads_lower k w v N Held h some = absurd (let no : false ≡ true = some in cc)

reads_lower : (wires : List Wire) (N n w v : ℕ) → ((k : ℕ) → k < n → IsTrue (source_fits (source_at wires k) k N)) → IsTrue (list_any (λ l. (l.0 == w) && stands v l.1) (lines_below wires n)) → v < w
reads_lower wires N zero w v h some = absurd (let no : false ≡ true = some in cc)
reads_lower wires N (suc n) w v h some =
    let test : Line → Bool = λ l. (l.0 == w) && stands v l.1 in
    let split = list_any-append test (lines_below wires n) (line_at n (source_at wires n)) in
    elim (or_cases (list_any test (lines_below wires n)) (list_any test (line_at n (source_at wires n))) (sym split ∙ some)) [
      | inl before ↦ reads_lower wires N n w v (λ k lt. h k (omega arith)) before
      | inr here ↦ line_reads_lower n w v N (source_at wires n) (h n (omega arith)) here
    ]

-- equations read earlier wires, so there is no loop
pub no_loop : (net : Wiring) → IsBuilt net → HasNoLoop (net_of net)
no_loop net built [] is = is
no_loop net built (w ∷ ws) is =
    let lower : (u v : ℕ) → IsTrue (reads (net_of net) u v) → v < u = λ u v h. reads_lower net.wires (length net.wires) (length net.wires) u v built.ordered h in
    let down = chain_falls (λ k. k) (reads (net_of net)) lower w ws is.0 in
    let back = lower (last_of w ws) w is.1 in
    omega arith

-- what the net's equations and registers say is what the wires say
line_kept : (cycles w : ℕ) (bits : ℕ → ℕ → Bool) (s : Source) → ((t : ℕ) → t < cycles → AllByRecursion (λ l. bits t l.0 ≡ value (bits t) l.1) (line_at w s))
    → ((t : ℕ) → t + 1 < cycles → AllByRecursion (λ r. bits (t + 1) r.q ≡ value (bits t) r.next) (stored_at w s)) → Keeps cycles bits w s
line_kept cycles w bits Input h g = tt
line_kept cycles w bits (Equation gate) h g = λ t lt. (h t lt).0
line_kept cycles w bits (Register next clock) h g = λ t lt. (g t lt).0
line_kept cycles w bits Held h g = tt

-- each trace of the net is one of the wires
pub runs : (net : Wiring) (power : Row) (tape table : List Row) → IsTrace (net_of net) power tape table → IsRun net.wires (length table) (bit_at table)
unfolding IsRun
runs net power tape table trace w lt =
    line_kept (length table) w (bit_at table) (source_at net.wires w)
    (λ t below. line_of_all (λ l. bit_at table t l.0 ≡ value (bit_at table t) l.1) net.wires (length net.wires) w (trace.equations_hold t below) lt)
    (λ t below. stored_of_all (λ r. bit_at table (t + 1) r.q ≡ value (bit_at table t) r.next) net.wires (length net.wires) w (trace.registers_step t below) lt)

-- the parts of a finished net are those of its wiring
pub finished : (net : Wiring) (ports : List Port) (wires : List (List ℕ)) (equations : List Equation') (registers : List Register') (seen seen' : List Wire)
    → ports ≡ net.ports → wires ≡ names net.wires → seen ≡ net.wires → seen' ≡ net.wires
    → map line_of equations ≡ lines_below seen (length seen) → map stored_of registers ≡ stored_below seen' (length seen')
    → plain ports wires equations registers (Some 0) ≡ net_of net
finished net ports wires equations registers seen seen' p w s s' l r =
    let lines = l ∙ ap (λ ws. lines_below ws (length ws)) s in
    let stored = r ∙ ap (λ ws. stored_below ws (length ws)) s' in
    let first : plain ports wires equations registers (Some 0) ≡ record { ports = net.ports; wires = names net.wires; lines = map line_of equations; registers = map stored_of registers; clock = Some 0 } =
    ap₂ (λ ps ws. plain ps ws equations registers (Some 0)) p w in
    let make : List Line → List Stored → PlainNet = λ ls rs. record { ports = net.ports; wires = names net.wires; lines = ls; registers = rs; clock = Some 0 } in
    let second : make (map line_of equations) (map stored_of registers) ≡ net_of net = ap₂ make lines stored in
    first ∙ second
