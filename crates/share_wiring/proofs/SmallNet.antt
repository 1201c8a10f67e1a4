-- The net of a builder is plain, and the small form can state it where it can state each wire.
use Rattle.std.proofs.Common.{◌≡◌, ◌≢◌, ◌==◌, ◌||◌, ◌++◌, ℕ, zero, suc, false, List, [], ◌∷◌, Option, Some, None, codes, length, drop, map, flat_map, slice_get, nat_eq, IsTrue, refl, ap, subst, inl, inr, ◌∙◌, arith, eq-eqb}
use Rattle.std.specs.List.{AllByRecursion, list_any, starts_with}
use Rattle.std.proofs.lemmas.Bool.{or_left, or_right, false_from_ne_true}
use Rattle.std.proofs.lemmas.Bool.Decides.{Decides-eqb}
use Rattle.std.proofs.lemmas.List.Folds.{list_any-append}
use Rattle.std.proofs.lemmas.Slice.Eq.{starts_is}
use Rattle.agm_net.specs.Plain.{bit_names}
use Rattle.agm_net.specs.PlainForm.{IsWire, IsOneOperator, IsNextOf, RangeFits, IsPlain}
use Rattle.agm_net.specs.Small.{IsCell, IsSmallNet}
use Rattle.agm_net.specs.declared.port.Port.{Port}
use Rattle.agm_net.specs.declared.port.Range.{Range}
use Rattle.agm_net.proofs.Lists.{all_from, all_of_one}
use Rattle.share_wiring.specs.Built.{AreDistinct, HasItsBits, IsAmong, IsBuilt, IsInnerName, IsInnerOrBit, IsMadePort, IsSmallRange, bits_names}
use Rattle.share_wiring.specs.Cells.{IsCellSource, AreCells}
use Rattle.share_wiring.specs.Gates.{gate_formula}
use Rattle.share_wiring.specs.Wiring.{Wiring, names, source_at, line_at, stored_at, net_of}
use Rattle.share_wiring.specs.declared.gate.Gate.{Gate}
use Rattle.share_wiring.specs.declared.gate.Gate.TheVariants.{Zero, One, Same, Not, And, Or, Xor, Mux}
use Rattle.share_wiring.specs.declared.gate.Source.{Source}
use Rattle.share_wiring.specs.declared.gate.Source.TheVariants.{Input, Equation, Register, Held}
use Rattle.share_wiring.proofs.FinishedNet.{all_lines, all_stored}
use Rattle.share_wiring.proofs.Grown.{sources_at}
use Rattle.share_wiring.proofs.PortNames.{IsOuter, outer, outer_select, each_bit}
use Rattle.share_wiring.proofs.PortWires.{among_all, among_cases, some_ports}

-- ---- equations and registers

one_operator : (gate : Gate) → IsOneOperator (gate_formula gate)
one_operator Zero = tt
one_operator One = tt
one_operator (Same a) = tt
one_operator (Not a) = (a, refl)
one_operator (And a b) = ((a, refl), (b, refl))
one_operator (Or a b) = ((a, refl), (b, refl))
one_operator (Xor a b) = ((a, refl), (b, refl))
one_operator (Mux s a b) = ((s, refl), (a, refl), (b, refl))

line_operator : (w : ℕ) (s : Source) → AllByRecursion (λ l. IsOneOperator l.1) (line_at w s)
line_operator w Input = tt
line_operator w (Equation gate) = (one_operator gate, tt)
line_operator w (Register next clock) = tt
line_operator w Held = tt

line_cell : (w : ℕ) (s : Source) → IsCellSource s → AllByRecursion (λ l. IsCell l.1) (line_at w s)
line_cell w Input h = tt
line_cell w (Equation gate) h = (h, tt)
line_cell w (Register next clock) h = tt
line_cell w Held h = tt

stored_next : (w : ℕ) (s : Source) → AllByRecursion (λ r. IsNextOf r.q r.next) (stored_at w s)
stored_next w Input = tt
stored_next w (Equation gate) = tt
stored_next w (Register next clock) = (tt, tt)
stored_next w Held = (tt, tt)

stored_wire : (w : ℕ) (s : Source) → AllByRecursion (λ r. IsWire r.next) (stored_at w s)
stored_wire w Input = tt
stored_wire w (Equation gate) = tt
stored_wire w (Register next clock) = ((next, refl), tt)
stored_wire w Held = ((w, refl), tt)

-- ---- names

-- a name that does not begin as instances' do
abbrev IsFree : List ℕ → Type 0
IsFree name = starts_with nat_eq name (codes "agm_u") ≡ false

no_instance : (name : List ℕ) → ((rest : List ℕ) → name ≢ codes "agm_u" ++ rest) → IsFree name
no_instance name other = false_from_ne_true (starts_with nat_eq name (codes "agm_u")) (λ is. other (drop 5 name) ((starts_is Decides-eqb name (codes "agm_u") (starts_with nat_eq name (codes "agm_u")) refl).0 is))

outer_is_free : (name : List ℕ) → IsOuter name → IsFree name
outer_is_free name (inl user) = no_instance name (λ rest e. user (117 ∷ rest) e)
outer_is_free name (inr (c, rest, other, is)) = no_instance name (λ more e. (let r : c ≡ 117 = cc in other.3 r))

inner_is_free : (name : List ℕ) → IsInnerName name → IsFree name
inner_is_free name (rest, inl is) = no_instance name (λ more e. (let r : ◌≡◌ {A = ℕ} 112 117 = cc in absurd (omega (arith, r))))
inner_is_free name (rest, inr (inl is)) = no_instance name (λ more e. (let r : ◌≡◌ {A = ℕ} 100 117 = cc in absurd (omega (arith, r))))
inner_is_free name (rest, inr (inr is)) = no_instance name (λ more e. (let r : ◌≡◌ {A = ℕ} 103 117 = cc in absurd (omega (arith, r))))

not_inner : (name : List ℕ) → IsOuter name → IsInnerName name → ⊥
not_inner name (inl user) (rest, inl is) = user (112 ∷ rest) is
not_inner name (inl user) (rest, inr (inl is)) = user (100 ∷ rest) is
not_inner name (inl user) (rest, inr (inr is)) = user (103 ∷ rest) is
not_inner name (inr (c, tail, other, e)) (rest, inl is) = let r : c ≡ 112 = cc in other.0 r
not_inner name (inr (c, tail, other, e)) (rest, inr (inl is)) = let r : c ≡ 100 = cc in other.1 r
not_inner name (inr (c, tail, other, e)) (rest, inr (inr is)) = let r : c ≡ 103 = cc in other.2 r

-- so are a port's
port_outer : (p : Port) → IsMadePort p → IsOuter p.name
port_outer p made = elim made.port_name [
  | inl clock ↦ inr (99, codes "lk", ((λ e. omega (arith, e)), (λ e. omega (arith, e)), (λ e. omega (arith, e)), (λ e. omega (arith, e))), clock)
  | inr port ↦ outer p.name port
]

-- and its bits'
bits_outer : (p : Port) → IsMadePort p → AllByRecursion IsOuter (bit_names p.name p.range)
bits_outer p made = each_bit IsOuter p.name p.range made.small (port_outer p made) (λ k lt. outer_select p.name _ (port_outer p made))

all_bits_outer : (ports : List Port) (name : List ℕ) → AllByRecursion IsMadePort ports → IsAmong (bits_names ports) name → IsOuter name
all_bits_outer [] name made among = absurd among
all_bits_outer (p ∷ ps) name made among =
    elim (among_cases (bit_names p.name p.range) (bits_names ps) name among) [
      | inl here ↦ among_all IsOuter (bit_names p.name p.range) name (bits_outer p made.0) here
      | inr there ↦ all_bits_outer ps name made.1 there
    ]

wire_is_free : (ports : List Port) (name : List ℕ) → AllByRecursion IsMadePort ports → IsInnerOrBit ports name → IsFree name
wire_is_free ports name made (inl inner) = inner_is_free name inner
wire_is_free ports name made (inr bit) = outer_is_free name (all_bits_outer ports name made bit)

-- ---- a wire with a port's name is a bit of a port

-- a bit of a name
pub record HasBit (wires : List (List ℕ)) (bits : List ℕ) (name : List ℕ) : Type 0 where
  pub bit : ℕ
  pub is_bit : IsTrue (list_any (λ b. b == bit) bits)
  pub named : slice_get wires bit ≡ Some name

bit_among : (wires : List (List ℕ)) (bits : List ℕ) (ns : List (List ℕ)) (name : List ℕ) → map (slice_get wires) bits ≡ map (λ n. Some n) ns → IsAmong ns name → HasBit wires bits name
bit_among wires bits [] name e among = absurd among
bit_among wires [] (n ∷ ns) name e among = absurd (cc)
bit_among wires (b ∷ bs) (n ∷ ns) name e (inl is) =
    let here : slice_get wires b ≡ Some n = cc in
    record { bit = b; is_bit = or_left (b == b) (list_any (λ c. c == b) bs) (eq-eqb b b refl); named = here ∙ ap (λ x. Some x) is }
bit_among wires (b ∷ bs) (n ∷ ns) name e (inr among) =
    let rest : map (slice_get wires) bs ≡ map (λ x. Some x) ns = cc in
    let found = bit_among wires bs ns name rest among in
    record { bit = found.bit; is_bit = or_right (b == found.bit) (list_any (λ c. c == found.bit) bs) found.is_bit; named = found.named }

pub bit_of_port : (wires : List (List ℕ)) (ports : List Port) (name : List ℕ) → AllByRecursion (HasItsBits wires) ports → IsAmong (bits_names ports) name → HasBit wires (flat_map (λ p. p.bits) ports) name
bit_of_port wires [] name h among = absurd among
bit_of_port wires (p ∷ ps) name h among =
    let all = flat_map (λ q. q.bits) ps in
    let joined : (b : ℕ) → list_any (λ c. c == b) (p.bits ++ all) ≡ list_any (λ c. c == b) p.bits || list_any (λ c. c == b) all = λ b. list_any-append (λ c. c == b) p.bits all in
    elim (among_cases (bit_names p.name p.range) (bits_names ps) name among) [
      | inl here ↦ (
          let found = bit_among wires p.bits (bit_names p.name p.range) name h.0 here in
          record { bit = found.bit; is_bit = joined found.bit ∙ or_left (list_any (λ c. c == found.bit) p.bits) (list_any (λ c. c == found.bit) all) found.is_bit; named = found.named })
      | inr there ↦ (
          let found = bit_of_port wires ps name h.1 there in
          record { bit = found.bit; is_bit = joined found.bit ∙ or_right (list_any (λ c. c == found.bit) p.bits) (list_any (λ c. c == found.bit) all) found.is_bit; named = found.named })
    ]

-- an item that two numbers give
pub distinct_at : (xs : List (List ℕ)) (v w : ℕ) (x : List ℕ) → AreDistinct xs → slice_get xs v ≡ Some x → slice_get xs w ≡ Some x → v ≡ w
distinct_at [] v w x d p q = absurd (cc)
distinct_at (y ∷ ys) zero zero x d p q = refl
distinct_at (y ∷ ys) zero (suc w) x d p q = let here : y ≡ x = cc in absurd (all_of_one (λ z. y ≢ z) ys w x d.0 q here)
distinct_at (y ∷ ys) (suc v) zero x d p q = let here : y ≡ x = cc in absurd (all_of_one (λ z. y ≢ z) ys v x d.0 p here)
distinct_at (y ∷ ys) (suc v) (suc w) x d p q = ap suc (distinct_at ys v w x d.1 p q)

-- ---- the net

small_range : (range : Option Range) → IsSmallRange range → RangeFits range
small_range None h = tt
small_range (Some r) h = h

pub is_plain : (net : Wiring) → IsBuilt net → IsPlain (net_of net)
is_plain net built = record {
  one_operator = all_lines (λ l. IsOneOperator l.1) net.wires (length net.wires) (λ w lt. line_operator w (source_at net.wires w));
  next_kept = all_stored (λ r. IsNextOf r.q r.next) net.wires (length net.wires) (λ w lt. stored_next w (source_at net.wires w));
  ports_writable = all_from IsMadePort _ (λ p made. made.written) net.ports built.ports_made;
  wires_writable = built.writable;
  ranges_fit = all_from IsMadePort (λ p. RangeFits p.range) (λ p made. small_range p.range made.small) net.ports built.ports_made;
  port_names_are_bits = λ n w p at named.
      let made = all_of_one IsMadePort net.ports n p built.ports_made at in
      elim (all_of_one (IsInnerOrBit net.ports) (names net.wires) w p.name built.named named) [
        | inl inner ↦ absurd (not_inner p.name (port_outer p made) inner)
        | inr bit ↦ (
            let found = bit_of_port (names net.wires) net.ports p.name built.bits_named bit in
            subst (λ b. IsTrue (list_any (λ c. c == b) (flat_map (λ q. q.bits) net.ports))) (distinct_at (names net.wires) found.bit w p.name built.distinct found.named named) found.is_bit)
      ];
}

pub is_small : (net : Wiring) → IsBuilt net → AreCells net.wires → IsSmallNet (net_of net)
is_small net built cells = record {
  is_plain = is_plain net built;
  has_port = some_ports net.ports built.clocked;
  cells = all_lines (λ l. IsCell l.1) net.wires (length net.wires) (λ w lt. line_cell w (source_at net.wires w) (sources_at IsCellSource net.wires w cells lt));
  stored = all_stored (λ r. IsWire r.next) net.wires (length net.wires) (λ w lt. stored_wire w (source_at net.wires w));
  wires_named = all_from (IsInnerOrBit net.ports) IsFree (λ name h. wire_is_free net.ports name built.ports_made h) (names net.wires) built.named;
  ports_named = all_from IsMadePort (λ p. IsFree p.name) (λ p made. outer_is_free p.name (port_outer p made)) net.ports built.ports_made;
}
