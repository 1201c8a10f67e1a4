-- HPC2 networks: masked nets whose products are HPC2 gadgets, told by single equations and names.
-- The gadget is that of Cassiers, Grégoire, Levi and Standaert, "Hardware Private Circuits: From Trivial Composition to Full
-- Verification", IEEE Transactions on Computers, 2021. Nothing here says that operands are independent, and nothing counts.
use Rattle.std.specs.Prelude.{◌&&◌, ◌≡◌, ◌≤◌, ◌<◌, ◌+◌, ◌-◌, ◌*◌, ◌/◌, ◌%◌, ◌==◌, ◌⊎◌, ◌↔◌, ℕ, cond, nat_lt, min, max, IsTrue, List, length, codes, None, Some, filter, slice_get}
use Rattle.std.specs.List.{list_any, flat_map}
use Rattle.std.specs.Str.{bytes_eq}
use Rattle.agm_net.specs.Formula.{f_wire, f_not, f_and, f_xor}
use Rattle.agm_net.specs.Plain.{PlainNet, Stored, is_input, data_ports}
use Rattle.agm_net.specs.Loop.{HasNoLoop}
use Rattle.agm_net.specs.Run.{driver, reads_ever, d_clock, d_equation, d_register}
use Rattle.agm_net.specs.Label.{part, name_of, IsBitOf, HasNumbers, HasLabel, MayServe, IsPart}
use Rattle.agm_net.specs.declared.label.Label.{Label}
use Rattle.agm_net.specs.declared.label.Label.TheVariants.{Public, Share}
use Rattle.agm_net.specs.declared.label.Part.{Part}
use Rattle.agm_net.specs.declared.label.PartKind.{PartKind}
use Rattle.agm_net.specs.declared.label.PartKind.TheVariants.{Clk, A, B, R, Rr, Bb, Vx, V, Na, Ux, U, Wx, W, Mx, M, S, C}

-- What gives a part its bit: the clock, a wire that share i may read, a bit of `agm_r`, or an operator or a register over parts.
pub data Recipe : Type 0 where
  the_clock : Recipe
  a_share : ℕ → Recipe
  a_random_bit : Recipe
  inverse : Part → Recipe
  product : Part → Part → Recipe
  sum : Part → Part → Recipe
  stored : Part → Recipe

-- the p-th of the indices other than i, in ascending order
abbrev pub other_index : ℕ → ℕ → ℕ
other_index i p = cond (nat_lt p i) p (p + 1)

-- the parts of gadget g in a net of order d
module _ (d g : ℕ) where
  -- a part of the pair of two indices, the lower one first
  abbrev pub pair_part : PartKind → ℕ → ℕ → Part
  pair_part kind i j = part g kind (min i j) (max i j)

  -- the n-th of the terms of share i behind `m`: `u` and `w` of each other index in turn
  abbrev pub term : ℕ → ℕ → Part
  term i n = part g (cond (n % 2 == 1) U W) i (other_index i ((n - 1) / 2))

  -- the n-th partial sum of share i: `m` is the one before the first, and the share of the product the last
  abbrev pub partial_sum : ℕ → ℕ → Part
  partial_sum i n = cond (n == 0) (part g M i 0) (cond (n == 2 * d) (part g C i 0) (part g S i n))

  abbrev pub next_sum : ℕ → ℕ → Recipe
  next_sum i n = sum (partial_sum i (n - 1)) (term i n)

  -- what gives each part its bit
  abbrev pub recipe : PartKind → ℕ → ℕ → Recipe
  recipe Clk i j = the_clock
  recipe A i j = a_share i
  recipe B i j = a_share i
  recipe R i j = a_random_bit
  recipe Rr i j = stored (part g R i j)
  recipe Bb i j = stored (part g B i 0)
  recipe Vx i j = sum (part g B j 0) (pair_part R i j)
  recipe V i j = stored (part g Vx i j)
  recipe Na i j = inverse (part g A i 0)
  recipe Ux i j = product (part g Na i 0) (pair_part Rr i j)
  recipe U i j = stored (part g Ux i j)
  recipe Wx i j = product (part g A i 0) (part g V i j)
  recipe W i j = stored (part g Wx i j)
  recipe Mx i j = product (part g A i 0) (part g Bb i 0)
  recipe M i j = stored (part g Mx i 0)
  recipe S i j = next_sum i j
  recipe C i j = next_sum i (2 * d)

-- the bits of the input port `agm_r`, the most significant first
abbrev pub random_bits_of : PlainNet → List ℕ
random_bits_of net = flat_map (λ p. p.bits) (filter (λ p. is_input p && bytes_eq p.name (codes "agm_r")) (data_ports net))

-- a wire of this name is there
abbrev pub HasWire : PlainNet → List ℕ → Type 0
HasWire net name = (w : ℕ) × (w < length net.wires) × (name_of net w ≡ name)

module _ (net : PlainNet) (d : ℕ) where
  -- wire w has its equation or register by a recipe
  abbrev pub IsMade : ℕ → Recipe → Type 0
  IsMade w the_clock = (v : ℕ) × (driver net w ≡ d_equation (f_wire v)) × (name_of net v ≡ codes "agm_clk")
  IsMade w (a_share i) = (v : ℕ) × (driver net w ≡ d_equation (f_wire v)) × MayServe net d i v
  IsMade w a_random_bit = (v : ℕ) × (driver net w ≡ d_equation (f_wire v)) × IsBitOf (codes "agm_r") (name_of net v)
  IsMade w (inverse p) = (v : ℕ) × (driver net w ≡ d_equation (f_not (f_wire v))) × IsPart net d v p
  IsMade w (product p q) = (u v : ℕ) × (driver net w ≡ d_equation (f_and (f_wire u) (f_wire v))) × IsPart net d u p × IsPart net d v q
  IsMade w (sum p q) = (u v : ℕ) × (driver net w ≡ d_equation (f_xor (f_wire u) (f_wire v))) × IsPart net d u p × IsPart net d v q
  IsMade w (stored p) = (n v : ℕ) × (driver net w ≡ d_register n (f_wire v)) × IsPart net d v p

  -- some wire is this part, and some wire is a part of gadget g
  abbrev pub HasPart : Part → Type 0
  HasPart p = (w : ℕ) × (w < length net.wires) × IsPart net d w p

  abbrev pub IsOfGadget : ℕ → ℕ → Type 0
  IsOfGadget w g = (p : Part) × (p.gadget ≡ g) × IsPart net d w p

  abbrev pub HasGadget : ℕ → Type 0
  HasGadget g = (w : ℕ) × (w < length net.wires) × IsOfGadget w g

  -- all parts of a gadget are there
  abbrev pub IsWhole : ℕ → Type 0
  IsWhole g = (kind : PartKind) (i j : ℕ) → HasNumbers d kind i j → HasPart (part g kind i j)

  -- a gadget whose number is the lowest of those that lack a lower one
  abbrev pub IsPastGap : ℕ → Type 0
  IsPastGap g =
      (m : ℕ) × (m < g) × ((k : ℕ) → k < m → HasGadget k) × ((k : ℕ) → m ≤ k → k < g → HasGadget k → Prim.⊥)

  -- what a register with output w may have for its clock
  abbrev pub MayClock : ℕ → ℕ → Type 0
  MayClock w c =
      (name_of net c ≡ codes "agm_clk") ⊎ (HasWire net (codes "agm_clk") × (g : ℕ) × IsOfGadget w g × IsPart net d c (part g Clk 0 0))

  -- The rules that wire w keeps.
  pub record Keeps (w : ℕ) : Type 0 where
    -- Its name gives it a label, so that each rule below knows what it may depend on; a random bit is read by one pair alone.
    pub labelled : (label : Label) × HasLabel net d w label
    -- The clock is the clock's port, and random bits come from the port that brings fresh ones.
    pub is_clock : name_of net w ≡ codes "agm_clk" → driver net w ≡ d_clock
    pub is_random : IsBitOf (codes "agm_r") (name_of net w) → IsTrue (list_any (λ b. b == w) (random_bits_of net))
    -- A public wire depends on public wires alone, so that it tells nothing of a share.
    pub public_reads : HasLabel net d w Public → (v : ℕ) → IsTrue (reads_ever (driver net w) v) → HasLabel net d v Public
    -- A wire of one share depends on that share and public wires alone, so that a probe of it tells of one share.
    pub share_reads : (i : ℕ) → HasLabel net d w (Share i None) → (v : ℕ) → IsTrue (reads_ever (driver net w) v) → MayServe net d i v
    -- A part is made of the parts of its own gadget that the table names, so that shares meet only behind random bits and registers.
    pub made : (p : Part) → IsPart net d w p → IsMade w (recipe d p.gadget p.kind p.i p.j)
    -- With a part its whole gadget is there, so that no sum lacks a random bit; and gadgets are numbered from 0 without a gap.
    pub whole : (g : ℕ) → IsOfGadget w g → IsWhole g
    pub numbered : (g : ℕ) → IsOfGadget w g → IsPastGap g → Prim.⊥
    -- A register takes its bit with the one clock, so that a cycle is the same for all.
    pub clocked : (r : Stored) (n : ℕ) → slice_get net.registers n ≡ Some r → r.q ≡ w → MayClock w r.clock

  -- A net that is an HPC2 network of order d.
  pub record Hpc2 : Type 0 where
    pub no_loop : HasNoLoop net
    pub keeps : (w : ℕ) → w < length net.wires → Keeps w

  -- A network has n gadgets: its gadgets have the numbers below n.
  abbrev pub HasGadgets : ℕ → Type 0
  HasGadgets n = (g : ℕ) → HasGadget g ↔ (g < n)
