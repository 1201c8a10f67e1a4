-- The rules of a wire, in groups that the audit looks at one after the other.
use Rattle.std.specs.Prelude.{◌≡◌, ◌==◌, ℕ, None, Some, codes, slice_get, IsTrue}
use Rattle.std.specs.List.{list_any}
use Rattle.agm_net.specs.Label.{HasLabel, IsBitOf, IsPart, MayServe, name_of}
use Rattle.agm_net.specs.Network.{IsMade, IsOfGadget, IsPastGap, IsWhole, MayClock, random_bits_of, recipe}
use Rattle.agm_net.specs.Plain.{PlainNet, Stored}
use Rattle.agm_net.specs.Run.{driver, reads_ever, d_clock}
use Rattle.agm_net.specs.declared.label.Label.{Label}
use Rattle.agm_net.specs.declared.label.Label.TheVariants.{Public, Share}
use Rattle.agm_net.specs.declared.label.Part.{Part}

module _ (net : PlainNet) (d w : ℕ) where
  -- it has a label
  abbrev pub HasSomeLabel : Type 0
  HasSomeLabel = (label : Label) × HasLabel net d w label

  -- the clock is the clock's port, and random bits come from the port that brings them
  abbrev pub KeepsPorts : Type 0
  KeepsPorts =
      (name_of net w ≡ codes "agm_clk" → driver net w ≡ d_clock)
      × (IsBitOf (codes "agm_r") (name_of net w) → IsTrue (list_any (λ b. b == w) (random_bits_of net)))

  -- a public wire reads public wires, and one of a share that is no part those and its share's
  abbrev pub KeepsReads : Type 0
  KeepsReads =
      (HasLabel net d w Public → (v : ℕ) → IsTrue (reads_ever (driver net w) v) → HasLabel net d v Public)
      × ((i : ℕ) → HasLabel net d w (Share i None) → (v : ℕ) → IsTrue (reads_ever (driver net w) v) → MayServe net d i v)

  -- a part is made of the parts that the table names
  abbrev pub KeepsMade : Type 0
  KeepsMade = (p : Part) → IsPart net d w p → IsMade net d w (recipe d p.gadget p.kind p.i p.j)

  -- with a part its whole gadget is there
  abbrev pub KeepsWhole : Type 0
  KeepsWhole = (g : ℕ) → IsOfGadget net d w g → IsWhole net d g

  -- its gadget is none that stands first behind a gap
  abbrev pub KeepsNumber : Type 0
  KeepsNumber = (g : ℕ) → IsOfGadget net d w g → IsPastGap net d g → Prim.⊥

  -- a register takes its bit with the one clock
  abbrev pub KeepsClock : Type 0
  KeepsClock = (r : Stored) (n : ℕ) → slice_get net.registers n ≡ Some r → r.q ≡ w → MayClock net d w r.clock
