-- The indices that probes permit, and by what the twin of a random tape differs from it.
use Rattle.std.specs.Prelude.{ℕ, zero, suc, ◌-◌, ◌<◌, Bool, false, ◌&&◌, cond, nat_eq, List, [], ◌∷◌, length, map, min, max}
use Rattle.std.specs.List.{list_any}
use Rattle.agm_net.specs.Formula.{xor}
use Rattle.agm_net.specs.Label.{HasLabel}
use Rattle.agm_net.specs.Plain.{PlainNet}
use Rattle.agm_net.specs.declared.label.Label.{Label}
use Rattle.agm_net.specs.declared.label.Label.TheVariants.{Clock, Public, Random, Share, Inner as InnerPart}
use Rattle.agm_net.specs.declared.label.Part.{Part}
use Rattle.agm_net.specs.declared.label.PartKind.{PartKind}
use Rattle.agm_net.specs.declared.label.PartKind.TheVariants.{R, Rr, Vx}
use Rattle.probe_cones.specs.declared.probe.Probe.{Probe}
use Rattle.twin_tape.specs.declared.sight.Sight.{Sight}
use Rattle.twin_tape.specs.declared.sight.Sight.TheVariants.{Nobody, One as One', Inner}

-- Whom a probe in cycle t concerns, by the label of its wire. A random bit and what it masks start in their own cycle, and what is
-- stored, or reads what is stored, one cycle before. The home is the index whose other factor is seen, or the smaller one.
abbrev pub inner_sight : PartKind → Part → ℕ → Sight
inner_sight R p t = Inner p.gadget p.i p.j (suc t) p.i
inner_sight Vx p t = Inner p.gadget (min p.i p.j) (max p.i p.j) (suc t) p.j
inner_sight Rr p t = Inner p.gadget p.i p.j t p.i
inner_sight _ p t = Inner p.gadget (min p.i p.j) (max p.i p.j) t p.i

abbrev pub sight : Label → ℕ → Sight
sight Clock t = Nobody
sight Public t = Nobody
sight (Random g i j) t = Inner g i j (suc t) i
sight (Share i p) t = One' i
sight (InnerPart p) t = inner_sight p.kind p t

abbrev pub sights : (ℕ → Label) → List Probe → List Sight
sights label probes = map (λ p. sight (label p.wire) p.cycle) probes

-- labels of all wires
abbrev pub AreLabels : PlainNet → ℕ → (ℕ → Label) → Type 0
AreLabels net d label = (w : ℕ) → w < length net.wires → HasLabel net d w (label w)

abbrev pub has : List ℕ → ℕ → Bool
has known i = list_any (nat_eq i) known

abbrev pub with : ℕ → List ℕ → List ℕ
with i known = cond (has known i) known (i ∷ known)

-- the indices once the inner probes of one stage are taken, in list order: the home, or else the other index of the pair
abbrev pub grown : List Sight → ℕ → List ℕ → List ℕ
grown [] stage known = known
grown (Nobody ∷ sights) stage known = grown sights stage known
grown (One' i ∷ sights) stage known = grown sights stage known
grown (Inner g i j s home ∷ sights) stage known =
    grown sights stage (cond (nat_eq s stage) (cond (has known home) (with (cond (nat_eq home i) j i) known) (home ∷ known)) known)

-- the listed indices and those of plain probes
abbrev pub begun : List Sight → List ℕ → List ℕ
begun [] A = A
begun (Nobody ∷ sights) A = begun sights A
begun (One' i ∷ sights) A = with i (begun sights A)
begun (Inner g i j s home ∷ sights) A = begun sights A

-- the indices once the inner probes of the n latest of the stages up to `top` are taken
abbrev pub taken : List Sight → List ℕ → ℕ → ℕ → List ℕ
taken sights A top zero = begun sights A
taken sights A top (suc n) = grown sights (top - n) (taken sights A top n)

-- the indices whose shares are to be the same in cycle c and before it
abbrev pub known : List Sight → List ℕ → ℕ → ℕ → List ℕ
known sights A T c = taken sights A T (suc T - c)

-- the permitted indices
abbrev pub permitted : List Sight → List ℕ → ℕ → List ℕ
permitted sights A T = known sights A T 0

-- What the twin changes at one pair: h's share is to be the same and o's is not.
-- a: share h of the first operand one cycle later. b, b': share o of the second operand in the two worlds.
abbrev pub half_change : (next last probed a b b' : Bool) → Bool
half_change next last probed a b b' = cond next (cond last false (a && xor b b')) (cond probed (xor b b') false)
