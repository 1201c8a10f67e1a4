-- The twin of a random tape: for inputs that agree on the permitted indices, the tape that gives the second ones what the first give.
use Rattle.std.specs.Prelude.{◌≡◌, ◌<◌, ◌≤◌, ◌==◌, ℕ, suc, Bool, true, false, ◌&&◌, cond, List, Some, slice_get}
use Rattle.std.specs.List.{list_any}
use Rattle.agm_net.specs.Formula.{xor}
use Rattle.agm_net.specs.Label.{HasLabel, IsPart, part}
use Rattle.agm_net.specs.Network.{random_bits_of}
use Rattle.agm_net.specs.Plain.{PlainNet}
use Rattle.agm_net.specs.Trace.{Row, bit_at}
use Rattle.agm_net.specs.declared.label.Label.{Label}
use Rattle.agm_net.specs.declared.label.Label.TheVariants.{Random, Inner as InnerPart}
use Rattle.agm_net.specs.declared.label.PartKind.{PartKind}
use Rattle.agm_net.specs.declared.label.PartKind.TheVariants.{A as KA, B as KB, V as KV, Wx as KWx}
use Rattle.probe_cones.specs.declared.probe.Probe.{Probe}
use Rattle.twin_tape.specs.Permitted.{has, known, sights, half_change}
use Rattle.probe_cones.specs.Inputs.{bit_with}

-- whether a wire stores the masked factor of the gadget's indices h and o, or is its product
abbrev pub is_crossing_kind : PartKind → Bool
is_crossing_kind KV = true
is_crossing_kind KWx = true
is_crossing_kind _ = false

abbrev pub is_crossing : ℕ → ℕ → ℕ → Label → Bool
is_crossing g h o (InnerPart p) = is_crossing_kind p.kind && ((p.gadget == g) && ((p.i == h) && (p.j == o)))
is_crossing g h o _ = false

-- the labels of wires, the probes, the listed indices, and the number of cycles
module _ (label : ℕ → Label) (probes : List Probe) (A : List ℕ) (T : ℕ) where
  -- the indices whose shares are to be the same up to cycle c
  abbrev pub same_at : ℕ → List ℕ
  same_at c = known (sights label probes) A T c

  abbrev pub crossing_seen : ℕ → ℕ → ℕ → ℕ → Bool
  crossing_seen g h o t = list_any (λ p. (p.cycle == t) && is_crossing g h o (label p.wire)) probes

  -- What is changed in cycle t at the pair of i and j, by share h of the first factor in the next cycle and shares of the second one in
  -- this cycle, in the first world and in the second.
  module _ (a b b' : ℕ → Bool) where
    abbrev pub half_of : ℕ → ℕ → ℕ → ℕ → Bool
    half_of t g h o = half_change (has (same_at (suc (suc t))) h) (suc t == T) (crossing_seen g h o (suc t)) (a h) (b o) (b' o)

    abbrev pub pair_change : ℕ → ℕ → ℕ → ℕ → Bool
    pair_change t g i j =
        cond (has (same_at (suc t)) i) (cond (has (same_at (suc t)) j) false (half_of t g i j)) (cond (has (same_at (suc t)) j) (half_of t g j i) false)

-- a and b tell the wires of the shares of both factors of gadget g
abbrev pub AreFactors : PlainNet → ℕ → ℕ → (a b : ℕ → ℕ) → Type 0
AreFactors net d g a b = (h : ℕ) → h ≤ d → IsPart net d (a h) (part g KA h 0) × IsPart net d (b h) (part g KB h 0)

-- Each bit of the twin is that of the tape, changed by what its pair's factors have in the two worlds: the first inputs with the tape,
-- and the second inputs with the twin.
abbrev pub IsTwin : PlainNet → ℕ → (ℕ → Label) → List Probe → List ℕ → ℕ → (power : Row) → (first second random twin : List Row) → Type 0
IsTwin net d label probes A T power first second random twin =
    (t n w g i j : ℕ) (a b : ℕ → ℕ) → t < T → slice_get (random_bits_of net) n ≡ Some w → HasLabel net d w (Random g i j) → AreFactors net d g a b →
    bit_at twin t n ≡
    xor (bit_at random t n)
    (pair_change label probes A T (λ h. bit_with net power first random (suc t) (a h)) (λ h. bit_with net power first random t (b h))
    (λ h. bit_with net power second twin t (b h)) t g i j)
