-- The values of a gadget's parts, by its operands and random bits.
use Rattle.std.proofs.Common.{length, ◌≡◌, ◌≢◌, ℕ, suc, ◌<◌, ◌≤◌, Bool, true, false, not, ◌&&◌, List, slice_index_or, min, max, refl, sym, ap, ◌∙◌, subst, arith, eq-eqb}
use Rattle.agm_net.specs.Formula.{f_and, f_not, f_wire, f_xor, xor}
use Rattle.agm_net.specs.Plain.{PlainNet}
use Rattle.agm_net.specs.Run.{before}
use Rattle.agm_net.specs.Trace.{Row, bit_at}
use Rattle.twin_tape.proofs.Network.{HasPart, IsNetwork, IsPart, Keeps, Names, Part, RandomBit, part_share}
use Rattle.agm_net.specs.declared.label.PartKind.{PartKind}
use Rattle.agm_net.specs.declared.label.PartKind.TheVariants.{A as KA, B as KB, Na as KNa, R as KR, Rr as KRr, U as KU, Ux as KUx, V as KV, Vx as KVx, W as KW, Wx as KWx}
use Rattle.twin_tape.proofs.ShareReads.{Sees, SharePart, kept}
use Rattle.twin_tape.proofs.Sources.{Equation, Random, Ranked, Register, Source, asked, bit_is, reads_ever, source}
use Rattle.probe_cones.specs.Inputs.{bit_with, random_width}

pub small_great : (i j : ℕ) → i ≢ j → min i j < max i j
small_great i j ne = omega arith

pub great_le : (i j d : ℕ) → i ≤ d → j ≤ d → max i j ≤ d
great_le i j d a b = omega arith

module _ (net : PlainNet) (names : Names) (d : ℕ) (hpc2 : IsNetwork net names d) (ranked : Ranked net) where
  -- a gadget is there with all its parts
  abbrev pub There : ℕ → Type 0
  There g = (k : PartKind) (a b : ℕ) → HasPart d k a b → (names.part g k a b < length net.wires) × (names.label (names.part g k a b) ≡ Part g k a b)

  -- a part that counts as a share
  pub part_sees : (Q : ℕ → Type 0) (g i j : ℕ) (k : PartKind) (there : There g) (fits : HasPart d k i j) → SharePart Q (part_share k i) → Sees Q (names.label (names.part g k i j))
  part_sees Q g i j k there fits p = subst (Sees Q) (sym (there k i j fits).1) p

  -- the random bit that a pair reads
  pub record PairBit (g i j : ℕ) : Type 0 where
    pub number : ℕ
    pub wire : ℕ
    pub small : number < (random_width net)
    pub of_gadget : names.gadget_of number ≡ g
    pub of_small : names.small_of number ≡ i
    pub of_great : names.great_of number ≡ j
    pub inside : wire < length net.wires
    pub label : names.label wire ≡ RandomBit g i j
    pub driven : source net wire ≡ Random number
    pub read : source net (names.part g KR i j) ≡ Equation (f_wire wire)

  pub there_kept : (g : ℕ) → There g → (k : PartKind) (a b : ℕ) → HasPart d k a b → IsPart net names (names.part g k a b) g k a b
  there_kept g there k a b fits = let p = there k a b fits in kept net names d hpc2 (names.part g k a b) g a b k p.0 p.1

  pub pair_bit : (g i j : ℕ) → There g → i < j → j ≤ d → PairBit g i j
  pair_bit g i j there lt le =
      let p = there KR i j (lt, le) in
      let k = there_kept g there KR i j (lt, le) in
      let inside : k.0 < length net.wires = hpc2.inside (names.part g KR i j) k.0 p.0 (subst (λ D. reads_ever D k.0 ≡ true) (sym k.1) (eq-eqb k.0 k.0 refl)) in
      let r = subst (Keeps net names k.0) k.2 (hpc2.keeps k.0 inside) in
      record { number = r.0; wire = k.0; small = r.2; of_gadget = r.3; of_small = r.4; of_great = r.5; inside = inside; label = k.2; driven = r.1; read = k.1 }

  module _ (power : List Bool) (inputs random : List Row) where
    abbrev x : ℕ → ℕ → Bool
    x = bit_with net power inputs random

    pub bit_as : (t w : ℕ) (D : Source) → w < length net.wires → source net w ≡ D → x t w ≡ asked D power inputs random (before x t) (x t) t
    bit_as t w D inside is = subst (λ D. x t w ≡ asked D power inputs random (before x t) (x t) t) is (bit_is net ranked power inputs random t w inside)

    pub random_is : (t g i j : ℕ) (p : PairBit g i j) → x t p.wire ≡ bit_at random t p.number
    random_is t g i j p = bit_as t p.wire (Random p.number) p.inside p.driven

    pub r_is : (t g i j : ℕ) (there : There g) → i < j → j ≤ d → (p : PairBit g i j) → x t (names.part g KR i j) ≡ bit_at random t p.number
    r_is t g i j there lt le p = bit_as t (names.part g KR i j) (Equation (f_wire p.wire)) (there KR i j (lt, le)).0 p.read ∙ random_is t g i j p

    -- a register's value is that of what it stores, one cycle before
    stored : (t w v n : ℕ) → w < length net.wires → source net w ≡ Register n (f_wire v) → x (suc t) w ≡ x t v
    stored t w v n inside is = bit_as (suc t) w (Register n (f_wire v)) inside is

    pub rr_is : (t g i j : ℕ) (there : There g) → i < j → j ≤ d → (p : PairBit g i j) → x (suc t) (names.part g KRr i j) ≡ bit_at random t p.number
    rr_is t g i j there lt le p =
        let k = there_kept g there KRr i j (lt, le) in
        stored t (names.part g KRr i j) (names.part g KR i j) k.0 (there KRr i j (lt, le)).0 k.1 ∙ r_is t g i j there lt le p

    pub rr_power : (g i j : ℕ) (there : There g) (fits : HasPart d KRr i j) → x 0 (names.part g KRr i j) ≡ slice_index_or power (there_kept g there KRr i j fits).0 false
    rr_power g i j there fits = bit_as 0 (names.part g KRr i j) (Register (there_kept g there KRr i j fits).0 (f_wire (names.part g KR i j))) (there KRr i j fits).0 (there_kept g there KRr i j fits).1

    pub vx_is : (t g i j : ℕ) (there : There g) (fits : HasPart d KVx i j) → (p : PairBit g (min i j) (max i j)) → x t (names.part g KVx i j) ≡ xor (x t (names.part g KB j 0)) (bit_at random t p.number)
    vx_is t g i j there fits p =
        bit_as t (names.part g KVx i j) (Equation (f_xor (f_wire (names.part g KB j 0)) (f_wire (names.part g KR (min i j) (max i j))))) (there KVx i j fits).0 (there_kept g there KVx i j fits) ∙
        ap (λ b. xor (x t (names.part g KB j 0)) b) (r_is t g (min i j) (max i j) there (small_great i j fits.0) (great_le i j d fits.1 fits.2) p)

    pub v_is : (t g i j : ℕ) (there : There g) (fits : HasPart d KV i j) → (p : PairBit g (min i j) (max i j)) → x (suc t) (names.part g KV i j) ≡ xor (x t (names.part g KB j 0)) (bit_at random t p.number)
    v_is t g i j there fits p =
        let k = there_kept g there KV i j fits in
        stored t (names.part g KV i j) (names.part g KVx i j) k.0 (there KV i j fits).0 k.1 ∙ vx_is t g i j there fits p

    pub v_power : (g i j : ℕ) (there : There g) (fits : HasPart d KV i j) → x 0 (names.part g KV i j) ≡ slice_index_or power (there_kept g there KV i j fits).0 false
    v_power g i j there fits = bit_as 0 (names.part g KV i j) (Register (there_kept g there KV i j fits).0 (f_wire (names.part g KVx i j))) (there KV i j fits).0 (there_kept g there KV i j fits).1

    na_is : (t g i j : ℕ) (there : There g) → i ≤ d → x t (names.part g KNa i 0) ≡ not (x t (names.part g KA i 0))
    na_is t g i j there le = bit_as t (names.part g KNa i 0) (Equation (f_not (f_wire (names.part g KA i 0)))) (there KNa i 0 (le, refl)).0 (there_kept g there KNa i 0 (le, refl))

    -- the cross terms by what their one-cycle side and their stored side are
    pub u_is : (t g i j : ℕ) (there : There g) (fits : HasPart d KU i j) → x (suc t) (names.part g KU i j) ≡ (not (x t (names.part g KA i 0)) && x t (names.part g KRr (min i j) (max i j)))
    u_is t g i j there fits =
        let k = there_kept g there KU i j fits in
        stored t (names.part g KU i j) (names.part g KUx i j) k.0 (there KU i j fits).0 k.1 ∙
        bit_as t (names.part g KUx i j) (Equation (f_and (f_wire (names.part g KNa i 0)) (f_wire (names.part g KRr (min i j) (max i j))))) (there KUx i j fits).0 (there_kept g there KUx i j fits) ∙
        ap (λ b. b && x t (names.part g KRr (min i j) (max i j))) (na_is t g i j there fits.1)

    pub w_is : (t g i j : ℕ) (there : There g) (fits : HasPart d KW i j) → x (suc t) (names.part g KW i j) ≡ (x t (names.part g KA i 0) && x t (names.part g KV i j))
    w_is t g i j there fits =
        let k = there_kept g there KW i j fits in
        stored t (names.part g KW i j) (names.part g KWx i j) k.0 (there KW i j fits).0 k.1 ∙
        bit_as t (names.part g KWx i j) (Equation (f_and (f_wire (names.part g KA i 0)) (f_wire (names.part g KV i j)))) (there KWx i j fits).0 (there_kept g there KWx i j fits)

    pub u_power : (g i j : ℕ) (there : There g) (fits : HasPart d KU i j) → x 0 (names.part g KU i j) ≡ slice_index_or power (there_kept g there KU i j fits).0 false
    u_power g i j there fits = bit_as 0 (names.part g KU i j) (Register (there_kept g there KU i j fits).0 (f_wire (names.part g KUx i j))) (there KU i j fits).0 (there_kept g there KU i j fits).1

    pub w_power : (g i j : ℕ) (there : There g) (fits : HasPart d KW i j) → x 0 (names.part g KW i j) ≡ slice_index_or power (there_kept g there KW i j fits).0 false
    w_power g i j there fits = bit_as 0 (names.part g KW i j) (Register (there_kept g there KW i j fits).0 (f_wire (names.part g KWx i j))) (there KW i j fits).0 (there_kept g there KW i j fits).1
