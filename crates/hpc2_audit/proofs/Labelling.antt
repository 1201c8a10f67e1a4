-- The labels of wires, by what the tables say.
use Rattle.std.proofs.Common.{◌≡◌, ◌<◌, ◌+◌, ◌++◌, ◌⊎◌, ℕ, List, ◌∷◌, Option, Some, None, MatchOption, length, codes, IsTrue, refl, sym, ap, subst, inl, inr, ◌∙◌}
use Rattle.std.specs.Fmt.{decimal}
use Rattle.agm_net.specs.Label.{part, part_text, IsBitOf, IsPart, HasLabel, is_reader, name_of}
use Rattle.agm_net.specs.Plain.{PlainNet}
use Rattle.agm_net.specs.declared.label.Label.{Label}
use Rattle.agm_net.specs.declared.label.Label.TheVariants.{Clock, Public, Random, Share, Inner}
use Rattle.agm_net.specs.declared.label.Part.{Part}
use Rattle.agm_net.specs.declared.label.PartKind.{PartKind}
use Rattle.agm_net.specs.declared.label.PartKind.TheVariants.{Clk, A, B, R, Rr, Bb, Vx, V, Na, Ux, U, Wx, W, Mx, M, S, C}
use Rattle.agm_net.proofs.OneLabel.{random_label}
use Rattle.hpc2_audit.proofs.Ruling.{named_within}
use Rattle.hpc2_audit.proofs.Saying.{is_said, said_is, said_within}
use Rattle.hpc2_audit.specs.Labels as spec
use Rattle.hpc2_audit.specs.Readers.{Read}
use Rattle.hpc2_audit.specs.Standing.{AreSaid, said_at}
use Rattle.hpc2_audit.specs.declared.readers.Readers.{Readers}
use Rattle.hpc2_audit.specs.declared.readers.Readers.TheVariants.{Nobody, One as JustOne, Several}
use Rattle.hpc2_audit.specs.declared.spelled.Spelled.{Spelled}
use Rattle.hpc2_audit.specs.declared.spelled.Spelled.TheVariants.{OfUser, OfClock, OfPublic, OfRandom, OfShare, OfPart, OfNothing}

-- a random bit's label is that of a part which is a random bit
pair_is : (k : PartKind) (p : Part) (l : Label) → p.kind ≡ k → spec.pair_label k p ≡ Some l → (l ≡ Random p.gadget p.i p.j) × (p.kind ≡ R)
pair_is Clk p l is e = absurd (let wrong : None ≡ Some l = e in cc)
pair_is A p l is e = absurd (let wrong : None ≡ Some l = e in cc)
pair_is B p l is e = absurd (let wrong : None ≡ Some l = e in cc)
pair_is R p l is e = (let same : Random p.gadget p.i p.j ≡ l = cc in (sym same, is))
pair_is Rr p l is e = absurd (let wrong : None ≡ Some l = e in cc)
pair_is Bb p l is e = absurd (let wrong : None ≡ Some l = e in cc)
pair_is Vx p l is e = absurd (let wrong : None ≡ Some l = e in cc)
pair_is V p l is e = absurd (let wrong : None ≡ Some l = e in cc)
pair_is Na p l is e = absurd (let wrong : None ≡ Some l = e in cc)
pair_is Ux p l is e = absurd (let wrong : None ≡ Some l = e in cc)
pair_is U p l is e = absurd (let wrong : None ≡ Some l = e in cc)
pair_is Wx p l is e = absurd (let wrong : None ≡ Some l = e in cc)
pair_is W p l is e = absurd (let wrong : None ≡ Some l = e in cc)
pair_is Mx p l is e = absurd (let wrong : None ≡ Some l = e in cc)
pair_is M p l is e = absurd (let wrong : None ≡ Some l = e in cc)
pair_is S p l is e = absurd (let wrong : None ≡ Some l = e in cc)
pair_is C p l is e = absurd (let wrong : None ≡ Some l = e in cc)

read_is : (s : Spelled) (l : Label) → spec.read_by s ≡ Some l → (p : Part) × (s ≡ OfPart p) × (l ≡ Random p.gadget p.i p.j) × (p.kind ≡ R)
read_is OfUser l e = absurd (let wrong : None ≡ Some l = e in cc)
read_is OfClock l e = absurd (let wrong : None ≡ Some l = e in cc)
read_is OfPublic l e = absurd (let wrong : None ≡ Some l = e in cc)
read_is OfRandom l e = absurd (let wrong : None ≡ Some l = e in cc)
read_is (OfShare i) l e = absurd (let wrong : None ≡ Some l = e in cc)
read_is (OfPart p) l e = (let own = pair_is p.kind p l refl e in (p, refl, own.0, own.1))
read_is OfNothing l e = absurd (let wrong : None ≡ Some l = e in cc)

module _ (net : PlainNet) (d : ℕ) (said : List Spelled) (all : AreSaid net d said) (w : ℕ) (lt : w < length net.wires) where
  -- which names a label comes with
  abbrev HasSaid : Label → Type 0
  HasSaid Clock = (said_at said w ≡ OfClock) ⊎ ((p : Part) × (said_at said w ≡ OfPart p))
  HasSaid Public = said_at said w ≡ OfPublic
  HasSaid (Random g i j) = said_at said w ≡ OfRandom
  HasSaid (Share i None) = said_at said w ≡ OfShare i
  HasSaid (Share i (Some p)) = said_at said w ≡ OfPart p
  HasSaid (Inner p) = said_at said w ≡ OfPart p

  has_said : (l : Label) → HasLabel net d w l → HasSaid l
  has_said Clock (inl e) = inl (is_said net d said all w OfClock lt e)
  has_said Clock (inr (p, kind, named)) = inr (p, is_said net d said all w (OfPart p) lt named)
  has_said Public h = is_said net d said all w OfPublic lt h
  has_said (Random g i j) h = is_said net d said all w OfRandom lt h.0
  has_said (Share i None) h = is_said net d said all w (OfShare i) lt h
  has_said (Share i (Some p)) h = is_said net d said all w (OfPart p) lt h.2
  has_said (Inner p) h = is_said net d said all w (OfPart p) lt h.1

  differs : (l : Label) → (said_at said w ≡ OfUser) ⊎ (said_at said w ≡ OfNothing) → HasSaid l → Prim.⊥
  differs Clock (inl e) (inl f) = let wrong : OfUser ≡ OfClock = sym e ∙ f in cc
  differs Clock (inl e) (inr (p, f)) = let wrong : OfUser ≡ OfPart p = sym e ∙ f in cc
  differs Clock (inr e) (inl f) = let wrong : OfNothing ≡ OfClock = sym e ∙ f in cc
  differs Clock (inr e) (inr (p, f)) = let wrong : OfNothing ≡ OfPart p = sym e ∙ f in cc
  differs Public (inl e) f = let wrong : OfUser ≡ OfPublic = sym e ∙ f in cc
  differs Public (inr e) f = let wrong : OfNothing ≡ OfPublic = sym e ∙ f in cc
  differs (Random g i j) (inl e) f = let wrong : OfUser ≡ OfRandom = sym e ∙ f in cc
  differs (Random g i j) (inr e) f = let wrong : OfNothing ≡ OfRandom = sym e ∙ f in cc
  differs (Share i None) (inl e) f = let wrong : OfUser ≡ OfShare i = sym e ∙ f in cc
  differs (Share i None) (inr e) f = let wrong : OfNothing ≡ OfShare i = sym e ∙ f in cc
  differs (Share i (Some p)) (inl e) f = let wrong : OfUser ≡ OfPart p = sym e ∙ f in cc
  differs (Share i (Some p)) (inr e) f = let wrong : OfNothing ≡ OfPart p = sym e ∙ f in cc
  differs (Inner p) (inl e) f = let wrong : OfUser ≡ OfPart p = sym e ∙ f in cc
  differs (Inner p) (inr e) f = let wrong : OfNothing ≡ OfPart p = sym e ∙ f in cc

  pub no_label : (said_at said w ≡ OfUser) ⊎ (said_at said w ≡ OfNothing) → (l : Label) → HasLabel net d w l → Prim.⊥
  no_label e l h = differs l e (has_said l h)

  -- the label of a random bit
  module _ (named : IsBitOf (codes "agm_r") (name_of net w)) (readers : Readers) (told : Read readers (λ u. IsTrue (is_reader net u w))) where
    pub random_some : (l : Label) → spec.random_label said readers ≡ Some l → HasLabel net d w l
    random_some l e = go readers told e
      where
        go : (r : Readers) → Read r (λ u. IsTrue (is_reader net u w)) → spec.random_label said r ≡ Some l → HasLabel net d w l
        go Nobody h f = absurd (let wrong : None ≡ Some l = f in cc)
        go Several h f = absurd (let wrong : None ≡ Some l = f in cc)
        go (JustOne v) h f =
            let own = read_is (said_at said v) l f in
            let p = own.0 in
            let lt' = said_within net d said all v (OfPart p) (λ no. cc) own.1 in
            let is = said_is net d said all v (OfPart p) lt' own.1 in
            let there : IsPart net d v (part p.gadget R p.i p.j) = subst (λ k. IsPart net d v (part p.gadget k p.i p.j)) own.3 is in
            subst (HasLabel net d w) (sym own.2) (named, (v, there, h.0, h.1))

    pub random_none : spec.random_label said readers ≡ None → (l : Label) → HasLabel net d w l → Prim.⊥
    random_none e l h =
        let (g, i, j, (v, is, reads, only), same) = random_label net d w l h named in
        let lt' = named_within net v 97 (codes "gm_g" ++ (decimal g ++ 46 ∷ part_text (d + 1) R i j)) is.4 in
        let own = is_said net d said all v (OfPart (part g R i j)) lt' is in
        go readers told e g i j v own reads only
      where
        go : (r : Readers) → Read r (λ u. IsTrue (is_reader net u w)) → spec.random_label said r ≡ None → (g i j v : ℕ) → said_at said v ≡ OfPart (part g R i j) → IsTrue (is_reader net v w)
            → ((u : ℕ) → IsTrue (is_reader net u w) → u ≡ v) → Prim.⊥
        go Nobody h f g i j v own reads only = h v reads
        go Several h f g i j v own reads only = h.2 (only h.0 h.3 ∙ sym (only h.1 h.4))
        go (JustOne u) h f g i j v own reads only =
            let same : u ≡ v = only u h.0 in
            let here : said_at said u ≡ OfPart (part g R i j) = ap (said_at said) same ∙ own in
            let wrong : None ≡ Some (Random g i j) = sym f ∙ ap spec.read_by here in
            cc

-- the label of a random bit, if it has one
pub random_found : (net : PlainNet) (d : ℕ) (said : List Spelled) (all : AreSaid net d said) (w : ℕ) (lt : w < length net.wires) → IsBitOf (codes "agm_r") (name_of net w)
    → (readers : Readers) → Read readers (λ u. IsTrue (is_reader net u w)) → (o : Option Label) → o ≡ spec.random_label said readers
    → MatchOption o ((l : Label) → HasLabel net d w l → Prim.⊥) (HasLabel net d w)
random_found net d said all w lt named readers told None e = random_none net d said all w lt named readers told (sym e)
random_found net d said all w lt named readers told (Some l) e = random_some net d said all w lt named readers told l (sym e)
