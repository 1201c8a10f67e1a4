-- What a builder keeps is kept where wires are added.
use Rattle.std.proofs.Common.{◌≡◌, ◌≢◌, ◌<◌, ◌≤◌, ◌+◌, ◌-◌, ◌++◌, ◌&&◌, ℕ, zero, suc, Bool, List, [], ◌∷◌, Some, length, map, take, filter, refl, sym, ap, inl, inr, ◌∙◌, arith, IsTrue, nat_lt, length-append, slice_get}
use Rattle.std.specs.List.{AllByRecursion}
use Rattle.std.proofs.lemmas.List.{get_or_append_left, get_or-append-add, map-append}
use Rattle.std.proofs.lemmas.Bool.{cases_lt, and_parts, and_from, lt-ltb, ltb-true}
use Rattle.agm_net.specs.Plain.{bit_names, is_input}
use Rattle.agm_net.specs.Writable.{IsWritable}
use Rattle.agm_net.specs.declared.port.Port.{Port}
use Rattle.agm_net.proofs.Lists.{all_from, all_joined}
use Rattle.share_wiring.specs.Gates.{gate_below}
use Rattle.share_wiring.specs.Wiring.{Wiring, names, source_at}
use Rattle.share_wiring.specs.Adds.{random_bits}
use Rattle.share_wiring.specs.Built.{source_fits, AreDistinct, IsNew, LeavesFree, IsBegun, HasItsBits, uses, input_uses, clock_port, IsInnerName, IsInnerOrBit, IsAmong, IsMadePort, bits_names, IsBuilt}
use Rattle.share_wiring.specs.declared.gate.Gate.{Gate}
use Rattle.share_wiring.specs.declared.gate.Gate.TheVariants.{Zero, One, Same, Not, And, Or, Xor, Mux}
use Rattle.share_wiring.specs.declared.gate.Source.{Source}
use Rattle.share_wiring.specs.declared.gate.Source.TheVariants.{Input, Equation, Register, Held}
use Rattle.share_wiring.specs.declared.gate.Wire.{Wire}

-- the wire that stands for a number past the last
abbrev pub none : Wire
none = record { name = []; source = Equation Zero }

-- the wires before
pub source_front : (old more : List Wire) (w : ℕ) → w < length old → source_at (old ++ more) w ≡ source_at old w
source_front old more w lt = ap (λ (x : Wire). x.source) (get_or_append_left old more none w lt)

-- the new ones
pub source_back : (old more : List Wire) (k : ℕ) → source_at (old ++ more) (length old + k) ≡ source_at more k
source_back old more k = ap (λ (x : Wire). x.source) (get_or-append-add old more k none)

pub lt_more : (a k m : ℕ) → k ≤ m → IsTrue (nat_lt a k) → IsTrue (nat_lt a m)
lt_more a k m le h = let lt = ltb-true a k h in lt-ltb a m (omega arith)

two_more : (a b : Bool) (c d : Bool) → (IsTrue a → IsTrue c) → (IsTrue b → IsTrue d) → IsTrue (a && b) → IsTrue (c && d)
two_more a b c d f g h = let both = and_parts a b h in and_from c d (f both.0) (g both.1)

-- what a gate reads is below a greater number too
pub gate_more : (gate : Gate) (k m : ℕ) → k ≤ m → IsTrue (gate_below gate k) → IsTrue (gate_below gate m)
gate_more Zero k m le h = h
gate_more One k m le h = h
gate_more (Same a) k m le h = lt_more a k m le h
gate_more (Not a) k m le h = lt_more a k m le h
gate_more (And a b) k m le h = two_more (nat_lt a k) (nat_lt b k) (nat_lt a m) (nat_lt b m) (lt_more a k m le) (lt_more b k m le) h
gate_more (Or a b) k m le h = two_more (nat_lt a k) (nat_lt b k) (nat_lt a m) (nat_lt b m) (lt_more a k m le) (lt_more b k m le) h
gate_more (Xor a b) k m le h = two_more (nat_lt a k) (nat_lt b k) (nat_lt a m) (nat_lt b m) (lt_more a k m le) (lt_more b k m le) h
gate_more (Mux s a b) k m le h =
    two_more (nat_lt s k) (nat_lt a k && nat_lt b k) (nat_lt s m) (nat_lt a m && nat_lt b m) (lt_more s k m le)
    (two_more (nat_lt a k) (nat_lt b k) (nat_lt a m) (nat_lt b m) (lt_more a k m le) (lt_more b k m le)) h

-- so is what a source reads
pub fits_more : (source : Source) (k n k' n' : ℕ) → k ≤ k' → n ≤ n' → IsTrue (source_fits source k n) → IsTrue (source_fits source k' n')
fits_more Input k n k' n' le le' h = h
fits_more (Equation gate) k n k' n' le le' h = gate_more gate k k' le h
fits_more (Register next clock) k n k' n' le le' h = two_more (nat_lt next n) (nat_lt clock n) (nat_lt next n') (nat_lt clock n') (lt_more next n n' le') (lt_more clock n n' le') h
fits_more Held k n k' n' le le' h = h

-- what new wires want: they read old ones, and their names are new
pub record Fit (net : Wiring) (more : List Wire) : Type 0 where
  pub read : AllByRecursion (λ wire. IsTrue (source_fits wire.source (length net.wires) (length net.wires))) more
  pub distinct : AreDistinct (names more)
  pub new : AllByRecursion (IsNew (names net.wires)) (names more)
  pub free : AllByRecursion (LeavesFree (length net.wires + length more)) (names more)
  pub begun : AllByRecursion (IsBegun net.gadgets) (names more)
  pub writable : AllByRecursion IsWritable (names more)

-- what holds of each wire's source holds at each number
pub sources_at : (P : Source → Type 0) (wires : List Wire) (k : ℕ) → AllByRecursion (λ wire. P wire.source) wires → k < length wires → P (source_at wires k)
sources_at P [] k h lt = absurd (omega arith)
sources_at P (x ∷ xs) zero h lt = h.0
sources_at P (x ∷ xs) (suc k) h lt = sources_at P xs k h.1 (omega arith)

-- distinct lists with nothing in common
pub distinct_joined : (xs ys : List (List ℕ)) → AreDistinct xs → AreDistinct ys → AllByRecursion (IsNew xs) ys → AreDistinct (xs ++ ys)
distinct_joined [] ys p q h = q
distinct_joined (x ∷ xs) ys p q h = (
  all_joined (λ y. x ≢ y) xs ys p.0 (all_from (IsNew (x ∷ xs)) (λ y. x ≢ y) (λ y new. new.0) ys h),
  distinct_joined xs ys p.1 q (all_from (IsNew (x ∷ xs)) (IsNew xs) (λ y new. new.1) ys h),
)

-- a wire that is found is found among more
found_more : (old more : List (List ℕ)) (b : ℕ) (name : List ℕ) → slice_get old b ≡ Some name → slice_get (old ++ more) b ≡ Some name
found_more [] more b name e = absurd (cc)
found_more (x ∷ xs) more zero name e = e
found_more (x ∷ xs) more (suc b) name e = found_more xs more b name e

bits_more : (old more : List (List ℕ)) (bits : List ℕ) (found : List (List ℕ)) → map (slice_get old) bits ≡ map (λ name. Some name) found
    → map (slice_get (old ++ more)) bits ≡ map (λ name. Some name) found
bits_more old more [] [] e = refl
bits_more old more [] (n ∷ ns) e = absurd (cc)
bits_more old more (b ∷ bs) [] e = absurd (cc)
bits_more old more (b ∷ bs) (n ∷ ns) e =
    let head : slice_get old b ≡ Some n = cc in
    let tail : map (slice_get old) bs ≡ map (λ name. Some name) ns = cc in
    let here = found_more old more b n head in
    let there = bits_more old more bs ns tail in cc

-- ports keep their bits
pub named_more : (old more : List (List ℕ)) (ports : List Port) → AllByRecursion (HasItsBits old) ports → AllByRecursion (HasItsBits (old ++ more)) ports
named_more old more ports h = all_from (HasItsBits old) (HasItsBits (old ++ more)) (λ p e. bits_more old more p.bits (bit_names p.name p.range) e) ports h

-- wires that are no inputs are used by no input port
pub uses_more : (old more : List Wire) (w : ℕ) → AllByRecursion (λ wire. input_uses wire.source ≡ 0) more → input_uses (source_at (old ++ more) w) ≡ input_uses (source_at old w)
uses_more [] [] w h = refl
uses_more [] (x ∷ xs) zero h = h.0
uses_more [] (x ∷ xs) (suc w) h = uses_more [] xs w h.1
uses_more (x ∷ xs) more zero h = refl
uses_more (x ∷ xs) more (suc w) h = uses_more xs more w h

pub names_append : (old more : List Wire) → names (old ++ more) ≡ names old ++ names more
names_append old more = map-append (λ (x : Wire). x.name) old more

ordered_more : (net : Wiring) (more : List Wire) → IsBuilt net → Fit net more → (w : ℕ) → w < length (net.wires ++ more)
    → IsTrue (source_fits (source_at (net.wires ++ more) w) w (length (net.wires ++ more)))
ordered_more net more built fit w lt =
    let len = length-append net.wires more in
    elim (cases_lt w (length net.wires)) [
      | inl old ↦ rw (source_front net.wires more w old) (fits_more (source_at net.wires w) w (length net.wires) w (length (net.wires ++ more)) (omega arith) (omega arith) (built.ordered w old))
      | inr new ↦
          (let k = w - length net.wires in
          let at : w ≡ length net.wires + k = omega arith in
          let is : source_at (net.wires ++ more) w ≡ source_at more k = ap (source_at (net.wires ++ more)) at ∙ source_back net.wires more k in
          rw is (fits_more (source_at more k) (length net.wires) (length net.wires) w (length (net.wires ++ more)) new (omega arith)
          (sources_at (λ s. IsTrue (source_fits s (length net.wires) (length net.wires))) more k fit.read (omega arith))))
    ]

inner_still : (old new : List Port) (name : List ℕ) → ((x : List ℕ) → IsAmong (bits_names old) x → IsAmong (bits_names new) x) → IsInnerOrBit old name → IsInnerOrBit new name
inner_still old new name more (inl inner) = inl inner
inner_still old new name more (inr bit) = inr (more name bit)

-- The net with more wires, and with ports of its own.
pub built_more : (net : Wiring) (more : List Wire) (ports : List Port) → IsBuilt net → Fit net more
    → ((x : List ℕ) → IsAmong (bits_names net.ports) x → IsAmong (bits_names ports) x) → AllByRecursion (IsInnerOrBit ports) (names more)
    → take 1 ports ≡ clock_port ∷ [] → AllByRecursion IsMadePort ports → AreDistinct (map (λ p. p.name) ports) → AllByRecursion (HasItsBits (names (net.wires ++ more))) ports
    → ((w : ℕ) → uses ports w ≤ 1) → ((w : ℕ) → uses (filter is_input ports) w ≡ input_uses (source_at (net.wires ++ more) w)) → net.given ≤ length (random_bits ports)
    → IsBuilt (record net { ports = ports; wires = net.wires ++ more })
built_more net more ports built fit still own clocked made differ named one inputs given =
    let len = length-append net.wires more in
    let all = names_append net.wires more in
    let longer : (xs : List (List ℕ)) → AllByRecursion (LeavesFree (length net.wires)) xs → AllByRecursion (LeavesFree (length net.wires + length more)) xs =
    λ xs h. all_from (LeavesFree (length net.wires)) (LeavesFree (length net.wires + length more)) (λ x free n i k le small index. free n i k (omega arith) small index) xs h in
    record {
      clocked = clocked;
      ordered = ordered_more net more built fit;
      distinct = rw all (distinct_joined (names net.wires) (names more) built.distinct fit.distinct fit.new);
      free = rw all (rw len (all_joined (LeavesFree (length net.wires + length more)) (names net.wires) (names more) (longer (names net.wires) built.free) fit.free));
      begun = rw all (all_joined (IsBegun net.gadgets) (names net.wires) (names more) built.begun fit.begun);
      writable = rw all (all_joined IsWritable (names net.wires) (names more) built.writable fit.writable);
      named = rw all
          (all_joined (IsInnerOrBit ports) (names net.wires) (names more)
          (all_from (IsInnerOrBit net.ports) (IsInnerOrBit ports) (λ x h. inner_still net.ports ports x still h) (names net.wires) built.named) own);
      ports_made = made;
      ports_differ = differ;
      bits_named = named;
      one_port = one;
      inputs = inputs;
      few = built.few;
      given = given;
    }

-- The net with more wires that are no inputs.
pub built_wires : (net : Wiring) (more : List Wire) → IsBuilt net → Fit net more → AllByRecursion IsInnerName (names more) → AllByRecursion (λ wire. input_uses wire.source ≡ 0) more
    → IsBuilt (record net { wires = net.wires ++ more })
built_wires net more built fit own inner =
    built_more net more net.ports built fit (λ x h. h) (all_from IsInnerName (IsInnerOrBit net.ports) (λ x h. inl h) (names more) own) built.clocked built.ports_made built.ports_differ
    (rw (names_append net.wires more) (named_more (names net.wires) (names more) net.ports built.bits_named))
    built.one_port (λ w. built.inputs w ∙ sym (uses_more net.wires more w inner)) built.given
