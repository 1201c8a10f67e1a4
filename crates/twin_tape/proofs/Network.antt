-- HPC2 networks as the proofs see them: what each wire's driver is by its label, with a function for labels and for the wires of parts.
use Rattle.std.specs.Prelude.{ℕ, suc, ◌*◌, ◌<◌, ◌≤◌, ◌≡◌, ◌≢◌, ◌⊎◌, Bool, true, false, ◌&&◌, ◌||◌, cond, nat_eq, min, max, List, [], ◌∷◌, map, length, IsTrue, Option, Some, None}
use Rattle.std.specs.List.{All, list_any}
use Rattle.agm_net.specs.Formula.{xor, Formula, f_wire, f_not, f_and, f_xor}
use Rattle.agm_net.specs.Plain.{PlainNet}
use Rattle.agm_net.specs.Loop.{HasNoLoop}
use Rattle.agm_net.specs.Trace.{Row, bit_at}
use Rattle.probe_cones.specs.Cone.{output_bits_of}
use Rattle.probe_cones.specs.declared.probe.Probe.{Probe}
use Rattle.agm_net.specs.declared.label.PartKind.{PartKind}
use Rattle.agm_net.specs.declared.label.PartKind.TheVariants.{Clk as KClk, A as KA, B as KB, R as KR, Rr as KRr, Bb as KBb, Vx as KVx, V as KV, Na as KNa, Ux as KUx, U as KU, Wx as KWx, W as KW, Mx as KMx, M as KM, S as KS, C as KC}
use Rattle.probe_cones.specs.Inputs.{open_bit, roles, random_width, bit_with}
use Rattle.twin_tape.specs.Security.{sees, role_at}
use Rattle.twin_tape.specs.Permitted.{has, known, half_change}
use Rattle.twin_tape.specs.declared.sight.Sight.{Sight}
use Rattle.twin_tape.specs.declared.sight.Sight.TheVariants.{Nobody, One as One', Inner}
use Rattle.twin_tape.proofs.Sources.{Input, Random, Clock, Equation, Register, source, reads_ever}

-- What a wire's name says: the clock, public, the random bit of a pair, a wire of a share, or a part of a gadget.
pub data Tag : Type 0 where
  ClockWire : Tag
  Public : Tag
  RandomBit : (gadget i j : ℕ) → Tag
  Plain : (index : ℕ) → Tag
  Part : (gadget : ℕ) → PartKind → (i j : ℕ) → Tag

-- the share that a part counts as
abbrev pub part_share : PartKind → ℕ → Option ℕ
part_share KClk i = None
part_share KR i = None
part_share KRr i = None
part_share KVx i = None
part_share KV i = None
part_share KUx i = None
part_share KWx i = None
part_share _ i = Some i

abbrev pub share_of : Tag → Option ℕ
share_of (Plain i) = Some i
share_of (Part g kind i j) = part_share kind i
share_of _ = None

-- The labels of the wires, the wire of each part, and the pair that reads each random bit.
pub record Names : Type 0 where
  pub label : ℕ → Tag
  pub part : ℕ → PartKind → ℕ → ℕ → ℕ
  pub gadget_of : ℕ → ℕ
  pub small_of : ℕ → ℕ
  pub great_of : ℕ → ℕ

-- a wire of share i may read public wires and wires of share i
abbrev pub MayRead : Tag → ℕ → Type 0
MayRead label i = (label ≡ Public) ⊎ (share_of label ≡ Some i)

-- whether a part of this kind and these numbers is in a gadget of order d
abbrev pub HasPart : ℕ → PartKind → ℕ → ℕ → Type 0
HasPart d KClk i j = (i ≡ 0) × (j ≡ 0)
HasPart d KA i j = (i ≤ d) × (j ≡ 0)
HasPart d KB i j = (i ≤ d) × (j ≡ 0)
HasPart d KR i j = (i < j) × (j ≤ d)
HasPart d KRr i j = (i < j) × (j ≤ d)
HasPart d KBb i j = (i ≤ d) × (j ≡ 0)
HasPart d KVx i j = (i ≢ j) × (i ≤ d) × (j ≤ d)
HasPart d KV i j = (i ≢ j) × (i ≤ d) × (j ≤ d)
HasPart d KNa i j = (i ≤ d) × (j ≡ 0)
HasPart d KUx i j = (i ≢ j) × (i ≤ d) × (j ≤ d)
HasPart d KU i j = (i ≢ j) × (i ≤ d) × (j ≤ d)
HasPart d KWx i j = (i ≢ j) × (i ≤ d) × (j ≤ d)
HasPart d KW i j = (i ≢ j) × (i ≤ d) × (j ≤ d)
HasPart d KMx i j = (i ≤ d) × (j ≡ 0)
HasPart d KM i j = (i ≤ d) × (j ≡ 0)
HasPart d KS i j = (i ≤ d) × (1 ≤ j) × (j < 2 * d)
HasPart d KC i j = (i ≤ d) × (j ≡ 0)

module _ (net : PlainNet) (names : Names) where
  abbrev pub Stores : ℕ → ℕ → Type 0
  Stores w v = (n : ℕ) × (source net w ≡ Register n (f_wire v))

  abbrev pub ReadsShare : ℕ → ℕ → Type 0
  ReadsShare w i = (v : ℕ) → reads_ever (source net w) v ≡ true → MayRead (names.label v) i

  -- a part has its equation or register
  abbrev pub IsPart : ℕ → ℕ → PartKind → ℕ → ℕ → Type 0
  IsPart w g KClk i j = (v : ℕ) × (source net w ≡ Equation (f_wire v)) × (names.label v ≡ ClockWire)
  IsPart w g KA i j = (v : ℕ) × (source net w ≡ Equation (f_wire v)) × MayRead (names.label v) i
  IsPart w g KB i j = (v : ℕ) × (source net w ≡ Equation (f_wire v)) × MayRead (names.label v) i
  IsPart w g KR i j = (v : ℕ) × (source net w ≡ Equation (f_wire v)) × (names.label v ≡ RandomBit g i j)
  IsPart w g KRr i j = Stores w (names.part g KR i j)
  IsPart w g KBb i j = Stores w (names.part g KB i 0)
  IsPart w g KVx i j = source net w ≡ Equation (f_xor (f_wire (names.part g KB j 0)) (f_wire (names.part g KR (min i j) (max i j))))
  IsPart w g KV i j = Stores w (names.part g KVx i j)
  IsPart w g KNa i j = source net w ≡ Equation (f_not (f_wire (names.part g KA i 0)))
  IsPart w g KUx i j = source net w ≡ Equation (f_and (f_wire (names.part g KNa i 0)) (f_wire (names.part g KRr (min i j) (max i j))))
  IsPart w g KU i j = Stores w (names.part g KUx i j)
  IsPart w g KWx i j = source net w ≡ Equation (f_and (f_wire (names.part g KA i 0)) (f_wire (names.part g KV i j)))
  IsPart w g KW i j = Stores w (names.part g KWx i j)
  IsPart w g KMx i j = source net w ≡ Equation (f_and (f_wire (names.part g KA i 0)) (f_wire (names.part g KBb i 0)))
  IsPart w g KM i j = Stores w (names.part g KMx i 0)
  -- in this sketch the sums read parts that count as share i; the table of parts says which
  IsPart w g KS i j = (e : Formula) × (source net w ≡ Equation e) × ReadsShare w i
  IsPart w g KC i j = (e : Formula) × (source net w ≡ Equation e) × ReadsShare w i

  -- what a wire's label asks of its driver
  abbrev pub Keeps : ℕ → Tag → Type 0
  Keeps w ClockWire = source net w ≡ Clock
  Keeps w Public = ((v : ℕ) → reads_ever (source net w) v ≡ true → names.label v ≡ Public) × ((n : ℕ) → source net w ≡ Input n → role_at net n ≡ open_bit) × ((n : ℕ) → source net w ≢ Random n)
  Keeps w (RandomBit g i j) = (n : ℕ) × (source net w ≡ Random n) × (n < random_width net) × (names.gadget_of n ≡ g) × (names.small_of n ≡ i) × (names.great_of n ≡ j) × (i < j) × (r : ℕ) × (r < length net.wires) × (names.label r ≡ Part g KR i j)
  Keeps w (Plain i) = ReadsShare w i × ((n : ℕ) → source net w ≡ Input n → IsTrue (sees (i ∷ []) (role_at net n))) × ((n : ℕ) → source net w ≢ Random n)
  Keeps w (Part g kind i j) = IsPart w g kind i j

  -- An HPC2 network of order d. Each random bit has one pair, since its number has.
  pub record IsNetwork (d : ℕ) : Type 0 where
    pub no_loop : HasNoLoop net
    pub inside : (w v : ℕ) → w < length net.wires → reads_ever (source net w) v ≡ true → v < length net.wires
    pub ports : (w n : ℕ) → w < length net.wires → source net w ≡ Input n → n < length (roles net)
    pub keeps : (w : ℕ) → w < length net.wires → Keeps w (names.label w)
    -- with a part its whole gadget is there
    pub whole : (w g i j : ℕ) (kind : PartKind) → w < length net.wires → names.label w ≡ Part g kind i j → HasPart d kind i j × (w ≡ names.part g kind i j) ×
        ((k : PartKind) (a b : ℕ) → HasPart d k a b → (names.part g k a b < length net.wires) × (names.label (names.part g k a b) ≡ Part g k a b))
    -- each random bit has a wire that one pair reads
    pub bits : (n : ℕ) → n < random_width net → (w g i j : ℕ) × (w < length net.wires) × (source net w ≡ Random n) × (names.label w ≡ RandomBit g i j)
    -- each output bit of a share has its label
    pub outputs : (i : ℕ) → All (λ w. (w < length net.wires) × (share_of (names.label w) ≡ Some i)) (output_bits_of net i)

abbrev pub part_sight : ℕ → PartKind → ℕ → ℕ → ℕ → Sight
part_sight g KClk i j t = Nobody
part_sight g KR i j t = Inner g i j (suc t) i
part_sight g KVx i j t = Inner g (min i j) (max i j) (suc t) j
part_sight g KRr i j t = Inner g i j t i
part_sight g KV i j t = Inner g (min i j) (max i j) t i
part_sight g KUx i j t = Inner g (min i j) (max i j) t i
part_sight g KWx i j t = Inner g (min i j) (max i j) t i
part_sight g _ i j t = One' i

abbrev pub sight : Tag → ℕ → Sight
sight ClockWire t = Nobody
sight Public t = Nobody
sight (RandomBit g i j) t = Inner g i j (suc t) i
sight (Plain i) t = One' i
sight (Part g kind i j) t = part_sight g kind i j t

abbrev pub sights_of : Names → List Probe → List Sight
sights_of names probes = map (λ probe. sight (names.label probe.wire) probe.cycle) probes

-- whether v or wx of the gadget's indices h and o is probed in the cycle
abbrev pub stores_seen : Names → List Probe → ℕ → ℕ → ℕ → ℕ → Bool
stores_seen names probes g h o t = list_any (λ probe. nat_eq probe.cycle t && (nat_eq probe.wire (names.part g KV h o) || nat_eq probe.wire (names.part g KWx h o))) probes

module _ (names : Names) (probes : List Probe) (A : List ℕ) (T : ℕ) where
  abbrev pub half_at : (ℕ → ℕ → Bool) → (ℕ → ℕ → Bool) → ℕ → ℕ → ℕ → ℕ → Bool
  half_at x y t g h o =
      half_change (has (known (sights_of names probes) A T (suc (suc t))) h) (nat_eq (suc t) T) (stores_seen names probes g h o (suc t))
      (x (suc t) (names.part g KA h 0)) (x t (names.part g KB o 0)) (y t (names.part g KB o 0))

  -- what the twin changes at the random bit of a pair in cycle t, by the bits of the two worlds
  abbrev pub change : (ℕ → ℕ → Bool) → (ℕ → ℕ → Bool) → ℕ → ℕ → ℕ → ℕ → Bool
  change x y t g i j =
      let now = known (sights_of names probes) A T (suc t) in
      cond (has now i) (cond (has now j) false (half_at x y t g i j)) (cond (has now j) (half_at x y t g j i) false)

-- The twin of a random tape: each bit is changed as its pair's row of the table says, by the bits of the two worlds.
abbrev pub IsTwin : PlainNet → Names → List Probe → List ℕ → ℕ → List Bool → (first second random twin : List Row) → Type 0
IsTwin net names probes A T power first second random twin =
    (t n : ℕ) → t < T → n < random_width net →
    bit_at twin t n ≡ xor (bit_at random t n) (change names probes A T (bit_with net power first random) (bit_with net power second twin) t (names.gadget_of n) (names.small_of n) (names.great_of n))
