-- A wire has one label.
use Rattle.std.proofs.Common.{◌≡◌, ◌<◌, ◌+◌, ◌==◌, ◌^◌, ◌++◌, ◌⊎◌, ℕ, zero, suc, true, false, cond, IsTrue, List, [], ◌∷◌, get_or, codes, Some, None, refl, sym, ap, subst, inl, inr, ◌∙◌, arith}
use Rattle.std.specs.Fmt.{decimal}
use Rattle.agm_net.specs.Plain.{PlainNet, select_name}
use Rattle.agm_net.specs.Role.{share_name}
use Rattle.agm_net.specs.Label.{part, name_of, IsBitOf, IsUserName, IsPublicName, IsShareName, IsPart, IsPartName, IsReadByPart, HasLabel, is_share_kind, is_inner_kind, inner_share_name, part_text, part_label}
use Rattle.agm_net.specs.declared.label.Label.{Label}
use Rattle.agm_net.specs.declared.label.Label.TheVariants.{Clock, Public, Random, Share, Inner}
use Rattle.agm_net.specs.declared.label.Part.{Part}
use Rattle.agm_net.specs.declared.label.PartKind.{PartKind}
use Rattle.agm_net.specs.declared.label.PartKind.TheVariants.{Clk, A, B, R, Rr, Bb, Vx, V, Na, Ux, U, Wx, W, Mx, M, S, C}
use Rattle.agm_net.proofs.ShareIndex.{share_index}
use Rattle.agm_net.proofs.NameCuts.{EndsNumber, cut_number, dot_ends, bracket_ends}
use Rattle.agm_net.proofs.OnePart.{one_part}

-- a name of share i, by what stands before and behind the index
pub data ShareForm (i : ℕ) (name : List ℕ) : Type 0 where
  of_port : (x : List ℕ) → name ≡ share_name i x → ShareForm i name
  of_state : (t : List ℕ) → EndsNumber t → name ≡ codes "agm_q_s" ++ (decimal i ++ t) → ShareForm i name
  of_inner : (x : List ℕ) → name ≡ inner_share_name i x → ShareForm i name

append_more : (xs ys zs : List ℕ) → (xs ++ ys) ++ zs ≡ xs ++ (ys ++ zs)
append_more [] ys zs = refl
append_more (x ∷ xs) ys zs = ap (λ r. x ∷ r) (append_more xs ys zs)

nothing_more : (xs : List ℕ) → xs ++ [] ≡ xs
nothing_more [] = refl
nothing_more (x ∷ xs) = ap (λ ys. x ∷ ys) (nothing_more xs)

pub share_form : (i : ℕ) (name : List ℕ) → IsShareName i name → ShareForm i name
share_form i name (inl (port, (small, inl (x, some, is)), inl same)) = of_port x (same ∙ is)
share_form i name (inl (port, (small, inl (x, some, is)), inr (k, few, same))) =
    of_port (x ++ 91 ∷ (decimal k ++ 93 ∷ []))
    (same ∙ (ap (λ p. select_name p k) is ∙ ap (λ r. codes "agm_s" ++ r) (append_more (decimal i) (95 ∷ x) (91 ∷ (decimal k ++ 93 ∷ [])))))
share_form i name (inl (port, (small, inr is), inl same)) = of_state [] (inl refl) (same ∙ (is ∙ ap (λ r. codes "agm_q_s" ++ r) (sym (nothing_more (decimal i)))))
share_form i name (inl (port, (small, inr is), inr (k, few, same))) =
    of_state (91 ∷ (decimal k ++ 93 ∷ [])) (bracket_ends (decimal k ++ 93 ∷ [])) (same ∙ ap (λ p. select_name p k) is)
share_form i name (inr (small, x, some, is)) = of_inner x is

pub share_small : (i : ℕ) (name : List ℕ) → IsShareName i name → i < 2 ^ 32
share_small i name (inl (port, (small, shown), same)) = small
share_small i name (inr (small, x, some, is)) = small

pub same_share : (i j : ℕ) (name : List ℕ) → i < 2 ^ 32 → j < 2 ^ 32 → ShareForm i name → ShareForm j name → i ≡ j
same_share i j name hi hj (of_port x e) (of_port y f) = share_index i j x y hi hj (sym e ∙ f)
same_share i j name hi hj (of_port x e) (of_state t h f) = let r : ◌≡◌ {A = ℕ} 115 113 = (let same = sym e ∙ f in cc) in absurd (omega (arith, r))
same_share i j name hi hj (of_port x e) (of_inner y f) = let r : ◌≡◌ {A = ℕ} 115 100 = (let same = sym e ∙ f in cc) in absurd (omega (arith, r))
same_share i j name hi hj (of_state t h e) (of_port y f) = let r : ◌≡◌ {A = ℕ} 113 115 = (let same = sym e ∙ f in cc) in absurd (omega (arith, r))
same_share i j name hi hj (of_state t h e) (of_state s g f) =
    let rest : decimal i ++ t ≡ decimal j ++ s = (let same = sym e ∙ f in cc) in
    (cut_number i j t s (omega arith) (omega arith) h g rest).0
same_share i j name hi hj (of_state t h e) (of_inner y f) = let r : ◌≡◌ {A = ℕ} 113 100 = (let same = sym e ∙ f in cc) in absurd (omega (arith, r))
same_share i j name hi hj (of_inner x e) (of_port y f) = let r : ◌≡◌ {A = ℕ} 100 115 = (let same = sym e ∙ f in cc) in absurd (omega (arith, r))
same_share i j name hi hj (of_inner x e) (of_state s g f) = let r : ◌≡◌ {A = ℕ} 100 113 = (let same = sym e ∙ f in cc) in absurd (omega (arith, r))
same_share i j name hi hj (of_inner x e) (of_inner y f) =
    let rest : decimal i ++ 46 ∷ x ≡ decimal j ++ 46 ∷ y = (let same = sym e ∙ f in cc) in
    (cut_number i j (46 ∷ x) (46 ∷ y) (omega arith) (omega arith) (dot_ends x) (dot_ends y) rest).0

-- a name of a share has one index
pub one_share : (i j : ℕ) (name : List ℕ) → IsShareName i name → IsShareName j name → i ≡ j
one_share i j name p q = same_share i j name (share_small i name p) (share_small j name q) (share_form i name p) (share_form j name q)

-- The families of names that begin with `agm_`, told by a byte or two behind: 1 the clock, 2 public, 3 random, 4 a share, 5 a part.
abbrev pub by_byte : ℕ → ℕ
by_byte c = cond (c == 99) 1 (cond (c == 108) 2 (cond (c == 112) 2 (cond (c == 114) 3 (cond (c == 115) 4 (cond (c == 100) 4 5)))))

abbrev pub family : List ℕ → ℕ
family rest = cond (get_or rest 0 0 == 113) (by_byte (get_or rest 2 0)) (by_byte (get_or rest 0 0))

abbrev pub IsIn : ℕ → List ℕ → Type 0
IsIn k name = (rest : List ℕ) × (name ≡ codes "agm_" ++ rest) × (family rest ≡ k)

pub one_family : (k l : ℕ) (name : List ℕ) → IsIn k name → IsIn l name → k ≡ l
one_family k l name (x, e, p) (y, f, q) = let same : x ≡ y = (let both = sym e ∙ f in cc) in sym p ∙ (ap family same ∙ q)

pub no_user : (k : ℕ) (name : List ℕ) → IsUserName name → IsIn k name → Prim.⊥
no_user k name user (x, e, p) = user x e

pub public_in : (name : List ℕ) → IsPublicName name → IsIn 2 name
public_in name (inl (inl e)) = (codes "load", e, refl)
public_in name (inl (inr (k, small, e))) = (codes "load" ++ 91 ∷ (decimal k ++ 93 ∷ []), e, refl)
public_in name (inr (inl (inl e))) = (codes "q_p", e, refl)
public_in name (inr (inl (inr (k, small, e)))) = (codes "q_p" ++ 91 ∷ (decimal k ++ 93 ∷ []), e, refl)
public_in name (inr (inr (rest, some, e))) = (112 ∷ 46 ∷ rest, e, refl)

pub random_in : (name : List ℕ) → IsBitOf (codes "agm_r") name → IsIn 3 name
random_in name (inl e) = (codes "r", e, refl)
random_in name (inr (k, small, e)) = (codes "r" ++ 91 ∷ (decimal k ++ 93 ∷ []), e, refl)

pub form_in : (i : ℕ) (name : List ℕ) → ShareForm i name → IsIn 4 name
form_in i name (of_port x e) = (115 ∷ (decimal i ++ 95 ∷ x), e, refl)
form_in i name (of_state t h e) = (113 ∷ 95 ∷ 115 ∷ (decimal i ++ t), e, refl)
form_in i name (of_inner x e) = (100 ∷ (decimal i ++ 46 ∷ x), e, refl)

pub part_in : (d : ℕ) (p : Part) (name : List ℕ) → IsPartName d p name → IsIn 5 name
part_in d p name h = (103 ∷ (decimal p.gadget ++ 46 ∷ part_text (d + 1) p.kind p.i p.j), h.4, refl)

inner_label : (k : PartKind) (p : Part) → IsTrue (is_inner_kind k) → part_label k p ≡ Inner p
inner_label R p h = refl
inner_label Rr p h = refl
inner_label Vx p h = refl
inner_label V p h = refl
inner_label Ux p h = refl
inner_label Wx p h = refl
inner_label Clk p h = absurd (let wrong : false ≡ true = h in cc)
inner_label A p h = absurd (let wrong : false ≡ true = h in cc)
inner_label B p h = absurd (let wrong : false ≡ true = h in cc)
inner_label Bb p h = absurd (let wrong : false ≡ true = h in cc)
inner_label Na p h = absurd (let wrong : false ≡ true = h in cc)
inner_label U p h = absurd (let wrong : false ≡ true = h in cc)
inner_label W p h = absurd (let wrong : false ≡ true = h in cc)
inner_label Mx p h = absurd (let wrong : false ≡ true = h in cc)
inner_label M p h = absurd (let wrong : false ≡ true = h in cc)
inner_label S p h = absurd (let wrong : false ≡ true = h in cc)
inner_label C p h = absurd (let wrong : false ≡ true = h in cc)

share_label : (k : PartKind) (p : Part) → IsTrue (is_share_kind k) → part_label k p ≡ Share p.i (Some p)
share_label R p h = absurd (let wrong : false ≡ true = h in cc)
share_label Rr p h = absurd (let wrong : false ≡ true = h in cc)
share_label Vx p h = absurd (let wrong : false ≡ true = h in cc)
share_label V p h = absurd (let wrong : false ≡ true = h in cc)
share_label Ux p h = absurd (let wrong : false ≡ true = h in cc)
share_label Wx p h = absurd (let wrong : false ≡ true = h in cc)
share_label Clk p h = absurd (let wrong : false ≡ true = h in cc)
share_label A p h = refl
share_label B p h = refl
share_label Bb p h = refl
share_label Na p h = refl
share_label U p h = refl
share_label W p h = refl
share_label Mx p h = refl
share_label M p h = refl
share_label S p h = refl
share_label C p h = refl

same_random : (g i j g' i' j' : ℕ) → part g R i j ≡ part g' R i' j' → Random g i j ≡ Random g' i' j'
same_random g i j g' i' j' e = ap (λ p. Random p.gadget p.i p.j) e

module _ (net : PlainNet) (d w : ℕ) where
  -- what a family of names says of a label
  abbrev Told : ℕ → Label → Type 0
  Told zero a = Prim.⊥
  Told (suc zero) a = a ≡ Clock
  Told (suc (suc zero)) a = a ≡ Public
  Told (suc (suc (suc zero))) a = (g : ℕ) × (i : ℕ) × (j : ℕ) × IsReadByPart net d w (part g R i j) × (a ≡ Random g i j)
  Told (suc (suc (suc (suc zero)))) a = (i : ℕ) × IsShareName i (name_of net w) × (a ≡ Share i None)
  Told (suc (suc (suc (suc (suc k))))) a = (p : Part) × IsPart net d w p × (a ≡ part_label p.kind p)

  one_reader : (g i j g' i' j' : ℕ) → IsReadByPart net d w (part g R i j) → IsReadByPart net d w (part g' R i' j') → Random g i j ≡ Random g' i' j'
  one_reader g i j g' i' j' (v, named, reads, only) (v', named', reads', only') =
      let same : v ≡ v' = only' v reads in
      let there = subst (λ u. IsPart net d u (part g R i j)) same named in
      same_random g i j g' i' j' (one_part d (name_of net v') (part g R i j) (part g' R i' j') there named')

  agree : (k : ℕ) (a b : Label) → Told k a → Told k b → a ≡ b
  agree zero a b p q = absurd p
  agree (suc zero) a b p q = p ∙ sym q
  agree (suc (suc zero)) a b p q = p ∙ sym q
  agree (suc (suc (suc zero))) a b (g, i, j, read, p) (g', i', j', read', q) = p ∙ (one_reader g i j g' i' j' read read' ∙ sym q)
  agree (suc (suc (suc (suc zero)))) a b (i, named, p) (j, named', q) = p ∙ (ap (λ k. Share k None) (one_share i j (name_of net w) named named') ∙ sym q)
  agree (suc (suc (suc (suc (suc k))))) a b (x, named, p) (y, named', q) = p ∙ (ap (λ z. part_label z.kind z) (one_part d (name_of net w) x y named named') ∙ sym q)

  abbrev Seen : Label → Type 0
  Seen a = (k : ℕ) × IsIn k (name_of net w) × Told k a

  seen : (a : Label) → HasLabel net d w a → (IsUserName (name_of net w) × (a ≡ Public)) ⊎ Seen a
  seen Clock (inl e) = inr (1, (codes "clk", e, refl), refl)
  seen Clock (inr (p, kind, named)) = inr (5, part_in d p (name_of net w) named, (p, named, ap (λ k. part_label k p) (sym kind)))
  seen Public (inl named) = inr (2, public_in (name_of net w) named, refl)
  seen Public (inr (user, bit)) = inl (user, refl)
  seen (Random g i j) (named, read) = inr (3, random_in (name_of net w) named, (g, i, j, read, refl))
  seen (Share i None) (small, named) = inr (4, form_in i (name_of net w) (share_form i (name_of net w) named), (i, named, refl))
  seen (Share i (Some p)) (kind, same, named) =
      inr (5, part_in d p (name_of net w) named, (p, named, sym (share_label p.kind p kind ∙ ap (λ k. Share k (Some p)) same)))
  seen (Inner p) (kind, named) = inr (5, part_in d p (name_of net w) named, (p, named, sym (inner_label p.kind p kind)))

  -- a wire has one label
  pub one_label : (a b : Label) → HasLabel net d w a → HasLabel net d w b → a ≡ b
  one_label a b p q = go (seen a p) (seen b q)
    where
      go : (IsUserName (name_of net w) × (a ≡ Public)) ⊎ Seen a → (IsUserName (name_of net w) × (b ≡ Public)) ⊎ Seen b → a ≡ b
      go (inl (user, e)) (inl (user', f)) = e ∙ sym f
      go (inl (user, e)) (inr (k, is, told)) = absurd (no_user k (name_of net w) user is)
      go (inr (k, is, told)) (inl (user, f)) = absurd (no_user k (name_of net w) user is)
      go (inr (k, is, told)) (inr (l, is', told')) = agree k a b told (subst (λ m. Told m b) (sym (one_family k l (name_of net w) is is')) told')

  -- a bit of `agm_r` has the label of the pair that reads it
  pub random_label : (label : Label) → HasLabel net d w label → IsBitOf (codes "agm_r") (name_of net w) → (g : ℕ) × (i : ℕ) × (j : ℕ) × IsReadByPart net d w (part g R i j) × (label ≡ Random g i j)
  random_label a p named = go (seen a p)
    where
      go : (IsUserName (name_of net w) × (a ≡ Public)) ⊎ Seen a → (g : ℕ) × (i : ℕ) × (j : ℕ) × IsReadByPart net d w (part g R i j) × (a ≡ Random g i j)
      go (inl (user, e)) = absurd (no_user 3 (name_of net w) user (random_in (name_of net w) named))
      go (inr (k, is, told)) = subst (λ m. Told m a) (one_family k 3 (name_of net w) is (random_in (name_of net w) named)) told

  -- a part has its label
  pub has_part_label : (p : Part) → IsPart net d w p → HasLabel net d w (part_label p.kind p)
  has_part_label p named = go p.kind refl
    where
      go : (k : PartKind) → p.kind ≡ k → HasLabel net d w (part_label k p)
      go Clk is = inr (p, is, named)
      go A is = (subst (λ m. IsTrue (is_share_kind m)) (sym is) refl, refl, named)
      go B is = (subst (λ m. IsTrue (is_share_kind m)) (sym is) refl, refl, named)
      go R is = (subst (λ m. IsTrue (is_inner_kind m)) (sym is) refl, named)
      go Rr is = (subst (λ m. IsTrue (is_inner_kind m)) (sym is) refl, named)
      go Bb is = (subst (λ m. IsTrue (is_share_kind m)) (sym is) refl, refl, named)
      go Vx is = (subst (λ m. IsTrue (is_inner_kind m)) (sym is) refl, named)
      go V is = (subst (λ m. IsTrue (is_inner_kind m)) (sym is) refl, named)
      go Na is = (subst (λ m. IsTrue (is_share_kind m)) (sym is) refl, refl, named)
      go Ux is = (subst (λ m. IsTrue (is_inner_kind m)) (sym is) refl, named)
      go U is = (subst (λ m. IsTrue (is_share_kind m)) (sym is) refl, refl, named)
      go Wx is = (subst (λ m. IsTrue (is_inner_kind m)) (sym is) refl, named)
      go W is = (subst (λ m. IsTrue (is_share_kind m)) (sym is) refl, refl, named)
      go Mx is = (subst (λ m. IsTrue (is_share_kind m)) (sym is) refl, refl, named)
      go M is = (subst (λ m. IsTrue (is_share_kind m)) (sym is) refl, refl, named)
      go S is = (subst (λ m. IsTrue (is_share_kind m)) (sym is) refl, refl, named)
      go C is = (subst (λ m. IsTrue (is_share_kind m)) (sym is) refl, refl, named)
