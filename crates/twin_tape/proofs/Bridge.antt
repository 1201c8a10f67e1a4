-- What the rules of an HPC2 network say of labels and drivers, with a function for both.
use Rattle.std.proofs.Common.{◌≡◌, ◌<◌, ◌⊎◌, ℕ, zero, suc, Bool, true, false, cond, List, [], ◌∷◌, Option, Some, None, length, codes, IsTrue, slice_index_or, bytes_eq, refl, sym, ap₂, ◌∙◌, inl, inr, arith, true≢false}
use Rattle.std.proofs.lemmas.Slice.Eq.{bytes_eq-Decides}
use Rattle.agm_net.specs.Label.{part, HasNumbers, is_share_kind}
use Rattle.agm_net.specs.declared.label.Part.{Part as PartOf}
use Rattle.agm_net.specs.declared.label.PartKind.{PartKind}
use Rattle.agm_net.specs.declared.label.PartKind.TheVariants.{Clk as KClk, A as KA, B as KB, R as KR, Rr as KRr, Bb as KBb, Vx as KVx, V as KV, Na as KNa, Ux as KUx, U as KU, Wx as KWx, W as KW, Mx as KMx, M as KM, S as KS, C as KC}
use Rattle.probe_cones.specs.Inputs.{random_bit, share_bit, open_bit, is_random, bit_role, share_role}
use Rattle.twin_tape.specs.Pairs.{wire_named}
use Rattle.twin_tape.proofs.Network.{part_share, HasPart}

pub named_found : (ns : List (List ℕ)) (name : List ℕ) (w : ℕ) → w < length ns → slice_index_or ns w [] ≡ name
    → (wire_named ns name < length ns) × (slice_index_or ns (wire_named ns name) [] ≡ name)
named_found [] name w h e = absurd (omega arith)
named_found (n ∷ ns) name w h e = go (bytes_eq n name) refl w h e (λ v h e. named_found ns name v h e)
  where
    go : (b : Bool) → bytes_eq n name ≡ b → (w : ℕ) → w < length (n ∷ ns) → slice_index_or (n ∷ ns) w [] ≡ name
        → ((v : ℕ) → v < length ns → slice_index_or ns v [] ≡ name → (wire_named ns name < length ns) × (slice_index_or ns (wire_named ns name) [] ≡ name))
        → (cond b 0 (suc (wire_named ns name)) < length (n ∷ ns)) × (slice_index_or (n ∷ ns) (cond b 0 (suc (wire_named ns name))) [] ≡ name)
    go true is w h e rest = (omega arith, (bytes_eq-Decides n name).0 is)
    go false is zero h e rest = absurd (true≢false (sym ((bytes_eq-Decides n name).1 e) ∙ is))
    go false is (suc w) h e rest = let found = rest w (omega arith) e in (omega arith, found.1)

-- where a part's numbers are those of a gadget
pub to_numbers : (d : ℕ) (k : PartKind) (i j : ℕ) → HasNumbers d k i j → HasPart d k i j
to_numbers d KClk i j h = h
to_numbers d KA i j h = h
to_numbers d KB i j h = h
to_numbers d KR i j h = (h.0, h.1)
to_numbers d KRr i j h = h
to_numbers d KBb i j h = h
to_numbers d KVx i j h = (h.2, h.0, h.1)
to_numbers d KV i j h = (h.2, h.0, h.1)
to_numbers d KNa i j h = h
to_numbers d KUx i j h = (h.2, h.0, h.1)
to_numbers d KU i j h = (h.2, h.0, h.1)
to_numbers d KWx i j h = (h.2, h.0, h.1)
to_numbers d KW i j h = (h.2, h.0, h.1)
to_numbers d KMx i j h = h
to_numbers d KM i j h = h
to_numbers d KS i j h = h
to_numbers d KC i j h = h

-- and back, but for the random bit, whose name wants a number below 2^32
abbrev pub IsBounded : PartKind → Type 0
IsBounded KR = Prim.⊥
IsBounded _ = Unit {0}

pub from_numbers : (d : ℕ) (k : PartKind) (i j : ℕ) → IsBounded k → HasPart d k i j → HasNumbers d k i j
from_numbers d KClk i j b h = h
from_numbers d KA i j b h = h
from_numbers d KB i j b h = h
from_numbers d KR i j b h = absurd b
from_numbers d KRr i j b h = h
from_numbers d KBb i j b h = h
from_numbers d KVx i j b h = (h.1, h.2, h.0)
from_numbers d KV i j b h = (h.1, h.2, h.0)
from_numbers d KNa i j b h = h
from_numbers d KUx i j b h = (h.1, h.2, h.0)
from_numbers d KU i j b h = (h.1, h.2, h.0)
from_numbers d KWx i j b h = (h.1, h.2, h.0)
from_numbers d KW i j b h = (h.1, h.2, h.0)
from_numbers d KMx i j b h = h
from_numbers d KM i j b h = h
from_numbers d KS i j b h = h
from_numbers d KC i j b h = h

pub part_is : (p : PartOf) (g : ℕ) (k : PartKind) (i j : ℕ) → p.gadget ≡ g → p.kind ≡ k → p.i ≡ i → p.j ≡ j → p ≡ part g k i j
part_is p g k i j a b c e = ap₂ (λ x y. part x y p.i p.j) a b ∙ ap₂ (λ x y. part g k x y) c e

pub share_kind_is : (k : PartKind) (i : ℕ) → IsTrue (is_share_kind k) → part_share k i ≡ Some i
share_kind_is KClk i h = absurd (true≢false (sym h))
share_kind_is KA i h = refl
share_kind_is KB i h = refl
share_kind_is KR i h = absurd (true≢false (sym h))
share_kind_is KRr i h = absurd (true≢false (sym h))
share_kind_is KBb i h = refl
share_kind_is KVx i h = absurd (true≢false (sym h))
share_kind_is KV i h = absurd (true≢false (sym h))
share_kind_is KNa i h = refl
share_kind_is KUx i h = absurd (true≢false (sym h))
share_kind_is KU i h = refl
share_kind_is KWx i h = absurd (true≢false (sym h))
share_kind_is KW i h = refl
share_kind_is KMx i h = refl
share_kind_is KM i h = refl
share_kind_is KS i h = refl
share_kind_is KC i h = refl

-- a role that is random is by the random port's name, and one of a share by that of a port with it
pub random_role : (port : List ℕ) (place : ℕ) → is_random (bit_role port place) ≡ true → bytes_eq port (codes "agm_r") ≡ true
random_role port place e = go (bytes_eq port (codes "agm_r")) (Rattle.probe_cones.specs.Shares.share_of port) e
  where
    go : (b : Bool) (o : Option (ℕ × List ℕ)) → is_random (cond b random_bit (share_role o place)) ≡ true → b ≡ true
    go true o e = refl
    go false None e = absurd (true≢false (sym e))
    go false (Some s) e = absurd (true≢false (sym e))

-- an input bit that is not random is public, or of a port with a share
pub other_role : (port : List ℕ) (place : ℕ) → is_random (bit_role port place) ≡ false
    → (bit_role port place ≡ open_bit) ⊎ ((s : ℕ × List ℕ) × (Rattle.probe_cones.specs.Shares.share_of port ≡ Some s) × (bit_role port place ≡ share_bit s.0 (s.1, place)))
other_role port place e = go (bytes_eq port (codes "agm_r")) (Rattle.probe_cones.specs.Shares.share_of port) refl e
  where
    go : (b : Bool) (o : Option (ℕ × List ℕ)) → Rattle.probe_cones.specs.Shares.share_of port ≡ o → is_random (cond b random_bit (share_role o place)) ≡ false
        → (cond b random_bit (share_role o place) ≡ open_bit) ⊎ ((s : ℕ × List ℕ) × (Rattle.probe_cones.specs.Shares.share_of port ≡ Some s) × (cond b random_bit (share_role o place) ≡ share_bit s.0 (s.1, place)))
    go true o is e = absurd (true≢false e)
    go false None is e = inl refl
    go false (Some s) is e = inr (s, is, refl)
