-- What the wires of an HPC2 network read.
use Rattle.std.proofs.Common.{length, ◌≡◌, ℕ, ◌<◌, ◌⊎◌, true, ◌||◌, Some, None, Option, nat_eq, refl, sym, ap, subst, inl, inr, ⊎_elim, arith, eqb-true}
use Rattle.agm_net.specs.Formula.{f_and, f_not, f_wire}
use Rattle.agm_net.specs.Plain.{PlainNet}
use Rattle.twin_tape.proofs.Network.{ClockWire, HasPart, IsNetwork, IsPart, Keeps, Tag, MayRead, Names, Part, Plain, Public, RandomBit, ReadsShare, part_share, share_of}
use Rattle.agm_net.specs.declared.label.PartKind.{PartKind}
use Rattle.agm_net.specs.declared.label.PartKind.TheVariants.{A as KA, B as KB, Bb as KBb, C as KC, Clk as KClk, M as KM, Mx as KMx, Na as KNa, R as KR, Rr as KRr, S as KS, U as KU, Ux as KUx, V as KV, Vx as KVx, W as KW, Wx as KWx}
use Rattle.twin_tape.proofs.Sources.{Equation, Register, Source, reads_ever, source}

-- whether a wire of this label is to agree where the indices with P are
abbrev pub SharePart : (ℕ → Type 0) → Option ℕ → Type 0
SharePart P (Some i) = P i
SharePart P None = Prim.⊥

abbrev pub Sees : (ℕ → Type 0) → Tag → Type 0
Sees P ClockWire = Unit {0}
Sees P Public = Unit {0}
Sees P (RandomBit g i j) = Prim.⊥
Sees P (Plain i) = P i
Sees P (Part g kind i j) = SharePart P (part_share kind i)

sees_share : (P : ℕ → Type 0) (label : Tag) → SharePart P (share_of label) → Sees P label
sees_share P ClockWire p = tt
sees_share P Public p = tt
sees_share P (RandomBit g i j) p = p
sees_share P (Plain i) p = p
sees_share P (Part g kind i j) p = p

pub may_read : (P : ℕ → Type 0) (label : Tag) (i : ℕ) → MayRead label i → P i → Sees P label
may_read P label i (inl e) p = subst (Sees P) (sym e) tt
may_read P label i (inr e) p = sees_share P label (subst (SharePart P) (sym e) p)

pub share_map : (P Q : ℕ → Type 0) → ((i : ℕ) → P i → Q i) → (o : Option ℕ) → SharePart P o → SharePart Q o
share_map P Q f None p = p
share_map P Q f (Some i) p = f i p

pub sees_map : (P Q : ℕ → Type 0) → ((i : ℕ) → P i → Q i) → (label : Tag) → Sees P label → Sees Q label
sees_map P Q f ClockWire p = p
sees_map P Q f Public p = p
sees_map P Q f (RandomBit g i j) p = p
sees_map P Q f (Plain i) p = f i p
sees_map P Q f (Part g kind i j) p = share_map P Q f (part_share kind i) p

-- the two bits of a gadget that a wire of share i reads of others
abbrev pub IsCross : PartKind → Type 0
IsCross KU = Unit {0}
IsCross KW = Unit {0}
IsCross _ = Prim.⊥

pub read_wire : (v u : ℕ) → nat_eq v u ≡ true → u ≡ v
read_wire v u e = sym (eqb-true v u e)

pub read_two : (a b u : ℕ) → (nat_eq a u || nat_eq b u) ≡ true → (u ≡ a) ⊎ (u ≡ b)
read_two a b u e = grind (arith, eqb-true)

module _ (net : PlainNet) (names : Names) (d : ℕ) (hpc2 : IsNetwork net names d) where
  -- a part's label, and so its share
  pub part_label : (w g i j : ℕ) (kind : PartKind) → w < length net.wires → names.label w ≡ Part g kind i j → (k : PartKind) (a b : ℕ) → HasPart d k a b → names.label (names.part g k a b) ≡ Part g k a b
  part_label w g i j kind inside is k a b has_part = ((hpc2.whole w g i j kind inside is).2 k a b has_part).1

  pub kept : (w g i j : ℕ) (kind : PartKind) → w < length net.wires → names.label w ≡ Part g kind i j → IsPart net names w g kind i j
  kept w g i j kind inside is = subst (Keeps net names w) is (hpc2.keeps w inside)

  pub in_gadget : (w g i j : ℕ) (kind : PartKind) → w < length net.wires → names.label w ≡ Part g kind i j → HasPart d kind i j
  in_gadget w g i j kind inside is = (hpc2.whole w g i j kind inside is).0

  of_driver : (w v : ℕ) (D : Source) → source net w ≡ D → reads_ever (source net w) v ≡ true → reads_ever D v ≡ true
  of_driver w v D is h = subst (λ D. reads_ever D v ≡ true) is h

  -- one wire, or two wires, that may be read
  reads_one : (w a i : ℕ) (D : Source) → source net w ≡ D → ((v : ℕ) → reads_ever D v ≡ true → v ≡ a) → MayRead (names.label a) i → ReadsShare net names w i
  reads_one w a i D is only may = λ v h. subst (λ u. MayRead (names.label u) i) (sym (only v (of_driver w v D is h))) may

  reads_two : (w a b i : ℕ) (D : Source) → source net w ≡ D → ((v : ℕ) → reads_ever D v ≡ true → (v ≡ a) ⊎ (v ≡ b)) → MayRead (names.label a) i → MayRead (names.label b) i → ReadsShare net names w i
  reads_two w a b i D is only may_a may_b = λ v h.
      ⊎_elim (λ e. subst (λ u. MayRead (names.label u) i) (sym e) may_a) (λ e. subst (λ u. MayRead (names.label u) i) (sym e) may_b) (only v (of_driver w v D is h))

  -- parts that count as share i, but for the cross terms, read public wires and wires of share i
  pub reads_share : (w g i j : ℕ) (kind : PartKind) → w < length net.wires → names.label w ≡ Part g kind i j → share_of (Part g kind i j) ≡ Some i → (IsCross kind → Prim.⊥) → ReadsShare net names w i
  reads_share w g i j KClk inside is share cross = cc
  reads_share w g i j KA inside is share cross =
      let k = kept w g i j KA inside is in reads_one w k.0 i (Equation (f_wire k.0)) k.1 (λ v h. read_wire k.0 v h) k.2
  reads_share w g i j KB inside is share cross =
      let k = kept w g i j KB inside is in reads_one w k.0 i (Equation (f_wire k.0)) k.1 (λ v h. read_wire k.0 v h) k.2
  reads_share w g i j KR inside is share cross = cc
  reads_share w g i j KRr inside is share cross = cc
  reads_share w g i j KBb inside is share cross =
      let k = kept w g i j KBb inside is in
      reads_one w (names.part g KB i 0) i (Register k.0 (f_wire (names.part g KB i 0))) k.1 (λ v h. read_wire (names.part g KB i 0) v h)
      (inr (ap share_of (part_label w g i j KBb inside is KB i 0 ((in_gadget w g i j KBb inside is).0, refl))))
  reads_share w g i j KVx inside is share cross = cc
  reads_share w g i j KV inside is share cross = cc
  reads_share w g i j KNa inside is share cross =
      reads_one w (names.part g KA i 0) i (Equation (f_not (f_wire (names.part g KA i 0)))) (kept w g i j KNa inside is) (λ v h. read_wire (names.part g KA i 0) v h)
      (inr (ap share_of (part_label w g i j KNa inside is KA i 0 ((in_gadget w g i j KNa inside is).0, refl))))
  reads_share w g i j KUx inside is share cross = cc
  reads_share w g i j KU inside is share cross = absurd (cross tt)
  reads_share w g i j KWx inside is share cross = cc
  reads_share w g i j KW inside is share cross = absurd (cross tt)
  reads_share w g i j KMx inside is share cross =
      let fits = (in_gadget w g i j KMx inside is).0 in
      reads_two w (names.part g KA i 0) (names.part g KBb i 0) i (Equation (f_and (f_wire (names.part g KA i 0)) (f_wire (names.part g KBb i 0)))) (kept w g i j KMx inside is)
      (λ v h. read_two (names.part g KA i 0) (names.part g KBb i 0) v h)
      (inr (ap share_of (part_label w g i j KMx inside is KA i 0 (fits, refl)))) (inr (ap share_of (part_label w g i j KMx inside is KBb i 0 (fits, refl))))
  reads_share w g i j KM inside is share cross =
      let k = kept w g i j KM inside is in
      reads_one w (names.part g KMx i 0) i (Register k.0 (f_wire (names.part g KMx i 0))) k.1 (λ v h. read_wire (names.part g KMx i 0) v h)
      (inr (ap share_of (part_label w g i j KM inside is KMx i 0 ((in_gadget w g i j KM inside is).0, refl))))
  reads_share w g i j KS inside is share cross = (kept w g i j KS inside is).2
  reads_share w g i j KC inside is share cross = (kept w g i j KC inside is).2
