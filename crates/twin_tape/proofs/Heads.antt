-- What the first bytes of a name tell of its label.
use Rattle.std.proofs.Common.{◌≡◌, ◌<◌, ◌^◌, ◌==◌, ◌⊎◌, ◌++◌, ℕ, true, cond, List, [], ◌∷◌, Some, None, codes, slice_index_or, bytes_eq, refl, sym, ap, ◌∙◌, inl, inr, ⊎_elim, arith, append_assoc, append-nil}
use Rattle.std.specs.Fmt.{decimal}
use Rattle.std.proofs.lemmas.Slice.Eq.{bytes_eq-Decides}
use Rattle.agm_net.specs.Label.{name_of, IsPublicName, IsShareName, IsPart, HasLabel}
use Rattle.agm_net.specs.Plain.{PlainNet, select_name}
use Rattle.agm_net.specs.declared.label.Label.{Label}
use Rattle.agm_net.specs.declared.label.Label.TheVariants.{Clock as l_clock, Public as l_public, Random as l_random, Share as l_share, Inner as l_inner}
use Rattle.agm_net.specs.declared.label.Part.{Part}
use Rattle.agm_net.proofs.NameCuts.{EndsNumber, cut_number, dot_ends, bracket_ends, line_ends}
use Rattle.probe_cones.specs.Shares.{share_of}
use Rattle.probe_cones.specs.Laws.{IsNamed}
use Rattle.probe_cones.proofs.ShareNames.{share_text}
use Rattle.twin_tape.proofs.PortNames.{IsBitName}

-- the byte that tells: the first behind `agm_`, or behind `agm_q_`
abbrev pub lead : List ℕ → ℕ
lead name = cond (slice_index_or name 4 0 == 113) (slice_index_or name 6 0) (slice_index_or name 4 0)

abbrev pub IsOwn : List ℕ → Type 0
IsOwn name = (rest : List ℕ) × (name ≡ codes "agm_" ++ rest)

-- a name of share i, with what stands before and behind the index
abbrev pub Headed : ℕ → List ℕ → Type 0
Headed i name =
    (t : List ℕ) × EndsNumber t ×
    ((name ≡ codes "agm_s" ++ (decimal i ++ t)) ⊎ ((name ≡ codes "agm_q_s" ++ (decimal i ++ t)) ⊎ (name ≡ codes "agm_d" ++ (decimal i ++ t))))

pub headed_lead : (i : ℕ) (name : List ℕ) → Headed i name → IsOwn name × ((lead name ≡ 115) ⊎ (lead name ≡ 100))
headed_lead i name (t, ends, inl e) = ((115 ∷ (decimal i ++ t), e), inl (ap lead e))
headed_lead i name (t, ends, inr (inl e)) = ((113 ∷ 95 ∷ 115 ∷ (decimal i ++ t), e), inl (ap lead e))
headed_lead i name (t, ends, inr (inr e)) = ((100 ∷ (decimal i ++ t), e), inr (ap lead e))

pub headed_one : (i j : ℕ) (name : List ℕ) → i < 2 ^ 32 → j < 2 ^ 32 → Headed i name → Headed j name → i ≡ j
headed_one i j name hi hj (t, a, inl e) (s, b, inl f) = (cut_number i j t s (omega arith) (omega arith) a b (let same = sym e ∙ f in cc)).0
headed_one i j name hi hj (t, a, inl e) (s, b, inr (inl f)) = let r : ◌≡◌ {A = ℕ} 115 113 = (let same = sym e ∙ f in cc) in absurd (omega (arith, r))
headed_one i j name hi hj (t, a, inl e) (s, b, inr (inr f)) = let r : ◌≡◌ {A = ℕ} 115 100 = (let same = sym e ∙ f in cc) in absurd (omega (arith, r))
headed_one i j name hi hj (t, a, inr (inl e)) (s, b, inl f) = let r : ◌≡◌ {A = ℕ} 113 115 = (let same = sym e ∙ f in cc) in absurd (omega (arith, r))
headed_one i j name hi hj (t, a, inr (inl e)) (s, b, inr (inl f)) = (cut_number i j t s (omega arith) (omega arith) a b (let same = sym e ∙ f in cc)).0
headed_one i j name hi hj (t, a, inr (inl e)) (s, b, inr (inr f)) = let r : ◌≡◌ {A = ℕ} 113 100 = (let same = sym e ∙ f in cc) in absurd (omega (arith, r))
headed_one i j name hi hj (t, a, inr (inr e)) (s, b, inl f) = let r : ◌≡◌ {A = ℕ} 100 115 = (let same = sym e ∙ f in cc) in absurd (omega (arith, r))
headed_one i j name hi hj (t, a, inr (inr e)) (s, b, inr (inl f)) = let r : ◌≡◌ {A = ℕ} 100 113 = (let same = sym e ∙ f in cc) in absurd (omega (arith, r))
headed_one i j name hi hj (t, a, inr (inr e)) (s, b, inr (inr f)) = (cut_number i j t s (omega arith) (omega arith) a b (let same = sym e ∙ f in cc)).0

pub of_share_name : (i : ℕ) (name : List ℕ) → IsShareName i name → (i < 2 ^ 32) × Headed i name
of_share_name i name (inl (port, (small, inl (x, some, is)), inl same)) = (small, (95 ∷ x, line_ends x, inl (same ∙ is)))
of_share_name i name (inl (port, (small, inl (x, some, is)), inr (k, few, same))) = (
  small,
  (
    95 ∷ (x ++ 91 ∷ (decimal k ++ 93 ∷ [])),
    line_ends (x ++ 91 ∷ (decimal k ++ 93 ∷ [])),
    inl (same ∙ (ap (λ p. select_name p k) is ∙ ap (λ r. codes "agm_s" ++ r) (append_assoc (decimal i) (95 ∷ x) (91 ∷ (decimal k ++ 93 ∷ []))))),
  ),
)
of_share_name i name (inl (port, (small, inr is), inl same)) = (small, ([], inl refl, inr (inl (same ∙ (is ∙ ap (λ r. codes "agm_q_s" ++ r) (sym (append-nil (decimal i))))))))
of_share_name i name (inl (port, (small, inr is), inr (k, few, same))) =
    (small, (91 ∷ (decimal k ++ 93 ∷ []), bracket_ends (decimal k ++ 93 ∷ []), inr (inl (same ∙ ap (λ p. select_name p k) is))))
of_share_name i name (inr (small, x, some, is)) = (small, (46 ∷ x, dot_ends x, inr (inr is)))

-- a bit of a port with a share
pub of_port : (port name : List ℕ) (s : ℕ × List ℕ) → share_of port ≡ Some s → IsBitName port name → (s.0 < 2 ^ 32) × Headed s.0 name × (lead name ≡ 115)
of_port port name s e bit = go (share_text port s e) bit
  where
    go : IsNamed port s → IsBitName port name → (s.0 < 2 ^ 32) × Headed s.0 name × (lead name ≡ 115)
    go (small, inl (some, is)) (inl same) = (small, (95 ∷ s.1, line_ends s.1, inl (same ∙ is)), ap lead (same ∙ is))
    go (small, inl (some, is)) (inr (rest, same)) =
        let whole = same ∙ (ap (λ p. p ++ 91 ∷ rest) is ∙ ap (λ r. codes "agm_s" ++ r) (append_assoc (decimal s.0) (95 ∷ s.1) (91 ∷ rest))) in
        (small, (95 ∷ (s.1 ++ 91 ∷ rest), line_ends (s.1 ++ 91 ∷ rest), inl whole), ap lead whole)
    go (small, inr (none, is)) (inl same) =
        let whole = same ∙ (is ∙ ap (λ r. codes "agm_q_s" ++ r) (sym (append-nil (decimal s.0)))) in (small, ([], inl refl, inr (inl whole)), ap lead whole)
    go (small, inr (none, is)) (inr (rest, same)) = let whole = same ∙ ap (λ p. p ++ 91 ∷ rest) is in (small, (91 ∷ rest, bracket_ends rest, inr (inl whole)), ap lead whole)

-- a bit of the random port
pub of_random : (port name : List ℕ) → bytes_eq port (codes "agm_r") ≡ true → IsBitName port name → IsOwn name × (lead name ≡ 114)
of_random port name e (inl same) = let whole = same ∙ (bytes_eq-Decides port (codes "agm_r")).0 e in ((codes "r", whole), ap lead whole)
of_random port name e (inr (rest, same)) = let whole = same ∙ ap (λ p. p ++ 91 ∷ rest) ((bytes_eq-Decides port (codes "agm_r")).0 e) in ((114 ∷ 91 ∷ rest, whole), ap lead whole)

pub public_lead : (name : List ℕ) → IsPublicName name → (lead name ≡ 108) ⊎ (lead name ≡ 112)
public_lead name (inl (inl e)) = inl (ap lead e)
public_lead name (inl (inr (k, small, e))) = inl (ap lead e)
public_lead name (inr (inl (inl e))) = inr (ap lead e)
public_lead name (inr (inl (inr (k, small, e)))) = inr (ap lead e)
public_lead name (inr (inr (rest, some, e))) = inr (ap lead e)

module _ (net : PlainNet) (d w : ℕ) where
  pub part_lead : (p : Part) → IsPart net d w p → lead (name_of net w) ≡ 103
  part_lead p h = ap lead h.4

  -- a public wire is no bit of the random port, and none of a port with a share
  pub not_public : (n : ℕ) → (n ≡ 114) ⊎ ((n ≡ 115) ⊎ (n ≡ 100)) → IsOwn (name_of net w) → lead (name_of net w) ≡ n → HasLabel net d w l_public → Prim.⊥
  not_public n one own e (inl named) = go one (public_lead (name_of net w) named) e
    where
      go : (n ≡ 114) ⊎ ((n ≡ 115) ⊎ (n ≡ 100)) → (lead (name_of net w) ≡ 108) ⊎ (lead (name_of net w) ≡ 112) → lead (name_of net w) ≡ n → Prim.⊥
      go (inl a) (inl b) e = let r : ◌≡◌ {A = ℕ} 108 114 = sym b ∙ (e ∙ a) in omega (arith, r)
      go (inl a) (inr b) e = let r : ◌≡◌ {A = ℕ} 112 114 = sym b ∙ (e ∙ a) in omega (arith, r)
      go (inr (inl a)) (inl b) e = let r : ◌≡◌ {A = ℕ} 108 115 = sym b ∙ (e ∙ a) in omega (arith, r)
      go (inr (inl a)) (inr b) e = let r : ◌≡◌ {A = ℕ} 112 115 = sym b ∙ (e ∙ a) in omega (arith, r)
      go (inr (inr a)) (inl b) e = let r : ◌≡◌ {A = ℕ} 108 100 = sym b ∙ (e ∙ a) in omega (arith, r)
      go (inr (inr a)) (inr b) e = let r : ◌≡◌ {A = ℕ} 112 100 = sym b ∙ (e ∙ a) in omega (arith, r)
  not_public n one own e (inr (user, bit)) = user own.0 own.1

  -- a wire with the name of a random bit has the label of one, and one with a port's share that of its share
  pub random_label : (label : Label) → HasLabel net d w label → IsOwn (name_of net w) → lead (name_of net w) ≡ 114 → (g : ℕ) × (i : ℕ) × (j : ℕ) × HasLabel net d w (l_random g i j)
  random_label l_clock (inl e) own is = let r : ◌≡◌ {A = ℕ} 99 114 = sym (ap lead e) ∙ is in absurd (omega (arith, r))
  random_label l_clock (inr (p, kind, h)) own is = let r : ◌≡◌ {A = ℕ} 103 114 = sym (part_lead p h) ∙ is in absurd (omega (arith, r))
  random_label l_public h own is = absurd (not_public 114 (inl refl) own is h)
  random_label (l_random g i j) h own is = (g, i, j, h)
  random_label (l_share i None) h own is =
      ⊎_elim (λ a. let r : ◌≡◌ {A = ℕ} 115 114 = sym a ∙ is in absurd (omega (arith, r))) (λ a. let r : ◌≡◌ {A = ℕ} 100 114 = sym a ∙ is in absurd (omega (arith, r)))
      (headed_lead i (name_of net w) (of_share_name i (name_of net w) h.1).1).1
  random_label (l_share i (Some p)) h own is = let r : ◌≡◌ {A = ℕ} 103 114 = sym (part_lead p h.2) ∙ is in absurd (omega (arith, r))
  random_label (l_inner p) h own is = let r : ◌≡◌ {A = ℕ} 103 114 = sym (part_lead p h.1) ∙ is in absurd (omega (arith, r))

  pub random_lead : (g i j : ℕ) → HasLabel net d w (l_random g i j) → lead (name_of net w) ≡ 114
  random_lead g i j (inl e, read) = ap lead e
  random_lead g i j (inr (k, small, e), read) = ap lead e

  pub share_label : (label : Label) → HasLabel net d w label → IsOwn (name_of net w) → lead (name_of net w) ≡ 115 → (i : ℕ) × HasLabel net d w (l_share i None)
  share_label l_clock (inl e) own is = let r : ◌≡◌ {A = ℕ} 99 115 = sym (ap lead e) ∙ is in absurd (omega (arith, r))
  share_label l_clock (inr (p, kind, h)) own is = let r : ◌≡◌ {A = ℕ} 103 115 = sym (part_lead p h) ∙ is in absurd (omega (arith, r))
  share_label l_public h own is = absurd (not_public 115 (inr (inl refl)) own is h)
  share_label (l_random g i j) h own is = let r : ◌≡◌ {A = ℕ} 114 115 = sym (random_lead g i j h) ∙ is in absurd (omega (arith, r))
  share_label (l_share i None) h own is = (i, h)
  share_label (l_share i (Some p)) h own is = let r : ◌≡◌ {A = ℕ} 103 115 = sym (part_lead p h.2) ∙ is in absurd (omega (arith, r))
  share_label (l_inner p) h own is = let r : ◌≡◌ {A = ℕ} 103 115 = sym (part_lead p h.1) ∙ is in absurd (omega (arith, r))
