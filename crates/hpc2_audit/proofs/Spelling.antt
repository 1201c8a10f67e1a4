-- What the names of wires say.
use Rattle.std.proofs.Common.{◌≡◌, ◌≢◌, ◌<◌, ◌^◌, ◌++◌, ◌⊎◌, ◌↔◌, ℕ, Bool, true, false, not, IsTrue, List, [], ◌∷◌, Option, Some, None, MatchOption, length, codes, refl, sym, ap, subst, inl, inr, ◌∙◌, arith, length-append}
use Rattle.std.specs.Prelude.{◌==◌, is_some, ◌||◌}
use Rattle.std.specs.Fmt.{decimal}
use Rattle.std.proofs.lemmas.Bool.{eqb-false, ne_eqb}
use Rattle.agm_net.specs.Label.{IsBitOf, IsPartName, IsPublicName, IsShareName, IsUserName}
use Rattle.agm_net.specs.Plain.{select_name}
use Rattle.agm_net.specs.Role.{state_name}
use Rattle.agm_net.specs.declared.label.Part.{Part}
use Rattle.agm_net.proofs.NameCuts.{cut_number, bracket_ends}
use Rattle.agm_net.proofs.OneLabel.{one_family, form_in, share_form, part_in, one_share}
use Rattle.hpc2_audit.specs.Cuts.{EndsRun, IsBracketed}
use Rattle.hpc2_audit.specs.Spelled.{HasFront, IsIndexed, IsOther, IsStateBit}

pub cancel : (f x y : List ℕ) → f ++ x ≡ f ++ y → x ≡ y
cancel [] x y e = e
cancel (c ∷ f) x y e = cancel f x y (let rest : f ++ x ≡ f ++ y = cc in rest)

pub nothing_more : (xs : List ℕ) → xs ++ [] ≡ xs
nothing_more [] = refl
nothing_more (x ∷ xs) = ap (λ ys. x ∷ ys) (nothing_more xs)

append_more : (xs ys zs : List ℕ) → (xs ++ ys) ++ zs ≡ xs ++ (ys ++ zs)
append_more [] ys zs = refl
append_more (x ∷ xs) ys zs = ap (λ r. x ∷ r) (append_more xs ys zs)

-- a front and something behind it
pub more_tells : (name front rest : List ℕ) (b : Bool) → name ≡ front ++ rest → b ≡ (length rest == 0) → IsTrue (not b) ↔ HasFront front name
more_tells name front rest b e is = (
  λ h. (rest, (let other : length rest ≢ 0 = eqb-false (length rest) 0 (sym is ∙ not_no b h) in omega arith), e),
  λ h. not_yes b (is ∙ ne_eqb (length rest) 0 (λ none. (
      let same : rest ≡ h.0 = cancel front rest h.0 (sym e ∙ h.2) in
      let long = h.1 in
      let as_long : length rest ≡ length h.0 = ap (λ (xs : List ℕ). length xs) same in
      absurd (omega arith)))),
)
  where
    not_no : (b : Bool) → IsTrue (not b) → b ≡ false
    not_no true h = absurd (let wrong : false ≡ true = h in cc)
    not_no false h = refl

    not_yes : (b : Bool) → b ≡ false → IsTrue (not b)
    not_yes b h = subst (λ c. IsTrue (not c)) (sym h) refl

pub no_front : (name front : List ℕ) → ((rest : List ℕ) → name ≢ front ++ rest) → IsTrue false ↔ HasFront front name
no_front name front none = (λ h. absurd (let wrong : false ≡ true = h in cc), λ h. absurd (none h.0 h.2))

-- nothing, or a number in brackets
pub bare_tells : (rest : List ℕ) (empty : Bool) (r : Option ℕ) → empty ≡ (length rest == 0) → MatchOption r ((i : ℕ) → IsBracketed i rest → Prim.⊥) (λ i. IsBracketed i rest)
    → IsTrue (empty || is_some r) ↔ IsBitOf [] rest
bare_tells [] empty r is h = (λ h. inl refl, λ h. subst (λ b. IsTrue (b || is_some r)) (sym is) refl)
bare_tells (c ∷ cs) empty (Some i) is h =
    let no : empty ≡ false = is ∙ ne_eqb (length (c ∷ cs)) 0 (λ e. absurd (omega arith)) in
    (λ yes. inr (i, h.0, h.1), λ bit. subst (λ b. IsTrue (b || true)) (sym no) refl)
bare_tells (c ∷ cs) empty None is h =
    let no : empty ≡ false = is ∙ ne_eqb (length (c ∷ cs)) 0 (λ e. absurd (omega arith)) in (
      λ yes. absurd (let wrong : false ≡ true = subst (λ b. IsTrue (b || false)) no yes in cc),
      λ bit. elim bit [ inl e ↦ absurd (cc) | inr b ↦ absurd (h b.0 (b.1, b.2)) ],
    )

-- a bit of a port, behind the port's name
pub bit_behind : (port name rest : List ℕ) → name ≡ port ++ rest → IsBitOf [] rest ↔ IsBitOf port name
bit_behind port name rest e = (
  λ bit. elim bit [
    | inl none ↦ inl (e ∙ (ap (λ r. port ++ r) none ∙ nothing_more port))
    | inr b ↦ inr (b.0, b.1, e ∙ ap (λ r. port ++ r) b.2)
  ],
  λ bit. elim bit [
    | inl same ↦ inl (cancel port rest [] (sym e ∙ (same ∙ sym (nothing_more port))))
    | inr b ↦ inr (b.0, b.1, cancel port rest (91 ∷ (decimal b.0 ++ 93 ∷ [])) (sym e ∙ b.2))
  ],
)

front_of_bit : (port name : List ℕ) → IsBitOf port name → (rest : List ℕ) × (name ≡ port ++ rest)
front_of_bit port name (inl e) = ([], e ∙ sym (nothing_more port))
front_of_bit port name (inr (k, small, e)) = (91 ∷ (decimal k ++ 93 ∷ []), e)

pub no_bit : (port name : List ℕ) → ((rest : List ℕ) → name ≢ port ++ rest) → IsTrue false ↔ IsBitOf port name
no_bit port name none = (λ h. absurd (let wrong : false ≡ true = h in cc), λ bit. absurd (let f = front_of_bit port name bit in none f.0 f.1))

-- a number, a mark and something behind it
mark_ends : (mark : ℕ) (rest : List ℕ) → (mark < 48) ⊎ (57 < mark) → EndsRun 48 57 (mark ∷ rest)
mark_ends mark rest other = inr (mark, rest, other, refl)

module _ (behind : List ℕ) (mark : ℕ) (other : (mark < 48) ⊎ (57 < mark)) where
  pub before_none : ((i : ℕ) (t : List ℕ) → i < 2 ^ 32 → EndsRun 48 57 t → behind ≡ decimal i ++ t → Prim.⊥) → (i : ℕ) → IsIndexed [] mark i behind → Prim.⊥
  before_none none i is = none i (mark ∷ is.1) is.0 (mark_ends mark is.1 other) is.3

  module _ (i : ℕ) (rest : List ℕ) (small : i < 2 ^ 32) (ends : EndsRun 48 57 rest) (cut : behind ≡ decimal i ++ rest) where
    pub before_some : HasFront (mark ∷ []) rest → IsIndexed [] mark i behind
    before_some front = (small, front.0, front.1, cut ∙ ap (λ r. decimal i ++ r) front.2)

    pub before_other : (HasFront (mark ∷ []) rest → Prim.⊥) → (j : ℕ) → IsIndexed [] mark j behind → Prim.⊥
    before_other never j is =
        let few = is.0 in
        let both = cut_number i j rest (mark ∷ is.1) (omega arith) (omega arith) ends (mark_ends mark is.1 other) (sym cut ∙ is.3) in
        never (is.1, is.2, both.1)

pub indexed_behind : (front behind name : List ℕ) (mark i : ℕ) → name ≡ front ++ behind → IsIndexed [] mark i behind → IsIndexed front mark i name
indexed_behind front behind name mark i e is = (is.0, is.1, is.2, e ∙ ap (λ r. front ++ r) is.3)

pub indexed_in : (front behind name : List ℕ) (mark i : ℕ) → name ≡ front ++ behind → IsIndexed front mark i name → IsIndexed [] mark i behind
indexed_in front behind name mark i e is = (is.0, is.1, is.2, cancel front behind (decimal i ++ mark ∷ is.1) (sym e ∙ is.3))

pub no_indexed : (front name : List ℕ) (mark : ℕ) → ((rest : List ℕ) → name ≢ front ++ rest) → (i : ℕ) → IsIndexed front mark i name → Prim.⊥
no_indexed front name mark none i is = none (decimal i ++ mark ∷ is.1) is.3

-- a number of which a port has a bit
tail_of_bit : (i : ℕ) (behind : List ℕ) → IsBitOf (decimal i) behind → (t : List ℕ) × EndsRun 48 57 t × (behind ≡ decimal i ++ t)
tail_of_bit i behind (inl e) = ([], inl refl, e ∙ sym (nothing_more (decimal i)))
tail_of_bit i behind (inr (k, small, e)) = (91 ∷ (decimal k ++ 93 ∷ []), bracket_ends (decimal k ++ 93 ∷ []), e)

module _ (behind : List ℕ) where
  pub number_none : ((i : ℕ) (t : List ℕ) → i < 2 ^ 32 → EndsRun 48 57 t → behind ≡ decimal i ++ t → Prim.⊥) → (i : ℕ) → i < 2 ^ 32 → IsBitOf (decimal i) behind → Prim.⊥
  number_none none i small bit = let t = tail_of_bit i behind bit in none i t.0 small t.1 t.2

  module _ (i : ℕ) (rest : List ℕ) (small : i < 2 ^ 32) (ends : EndsRun 48 57 rest) (cut : behind ≡ decimal i ++ rest) where
    pub number_some : IsBitOf [] rest → (i < 2 ^ 32) × IsBitOf (decimal i) behind
    number_some bit = (small, (bit_behind (decimal i) behind rest cut).0 bit)

    pub number_other : (IsBitOf [] rest → Prim.⊥) → (j : ℕ) → j < 2 ^ 32 → IsBitOf (decimal j) behind → Prim.⊥
    number_other never j few bit =
        let t = tail_of_bit j behind bit in
        let both = cut_number i j rest t.0 (omega arith) (omega arith) ends t.1 (sym cut ∙ t.2) in
        never ((bit_behind (decimal i) behind rest cut).1 (subst (λ n. IsBitOf (decimal n) behind) (sym both.0) bit))

pub state_some : (i : ℕ) (name behind : List ℕ) → name ≡ codes "agm_q_s" ++ behind → (i < 2 ^ 32) × IsBitOf (decimal i) behind → IsStateBit i name
state_some i name behind e (small, inl same) = (small, inl (e ∙ ap (λ r. codes "agm_q_s" ++ r) same))
state_some i name behind e (small, inr (k, few, same)) = (small, inr (k, few, e ∙ ap (λ r. codes "agm_q_s" ++ r) same))

pub state_in : (i : ℕ) (name behind : List ℕ) → name ≡ codes "agm_q_s" ++ behind → IsStateBit i name → (i < 2 ^ 32) × IsBitOf (decimal i) behind
state_in i name behind e (small, inl same) = (small, inl (cancel (codes "agm_q_s") behind (decimal i) (sym e ∙ same)))
state_in i name behind e (small, inr (k, few, same)) = (small, inr (k, few, cancel (codes "agm_q_s") behind (select_name (decimal i) k) (sym e ∙ same)))

pub no_state : (i : ℕ) (name : List ℕ) → ((rest : List ℕ) → name ≢ codes "agm_q_s" ++ rest) → IsStateBit i name → Prim.⊥
no_state i name none (small, inl same) = none (decimal i) same
no_state i name none (small, inr (k, few, same)) = none (select_name (decimal i) k) same

-- the three forms of a share's name
abbrev pub IsThree : ℕ → List ℕ → Type 0
IsThree i name = IsIndexed (codes "agm_s") 95 i name ⊎ (IsIndexed (codes "agm_d") 46 i name ⊎ IsStateBit i name)

longer : (x y : List ℕ) → 0 < length x → 0 < length (x ++ y)
longer x y some = omega (arith, length-append x y)

pub three_of : (i : ℕ) (name : List ℕ) → IsShareName i name → IsThree i name
three_of i name (inl (port, (small, inl (x, some, is)), inl same)) = inl (small, x, some, same ∙ is)
three_of i name (inl (port, (small, inl (x, some, is)), inr (k, few, same))) =
    let more = 91 ∷ (decimal k ++ 93 ∷ []) in
    inl (small, x ++ more, longer x more some, same ∙ (ap (λ p. select_name p k) is ∙ ap (λ r. codes "agm_s" ++ r) (append_more (decimal i) (95 ∷ x) more)))
three_of i name (inl (port, (small, inr is), inl same)) = inr (inr (small, inl (same ∙ is)))
three_of i name (inl (port, (small, inr is), inr (k, few, same))) = inr (inr (small, inr (k, few, same ∙ ap (λ p. select_name p k) is)))
three_of i name (inr (small, x, some, is)) = inr (inl (small, x, some, is))

pub of_three : (i : ℕ) (name : List ℕ) → IsThree i name → IsShareName i name
of_three i name (inl (small, x, some, is)) = inl (name, (small, inl (x, some, is)), inl refl)
of_three i name (inr (inl (small, x, some, is))) = inr (small, x, some, is)
of_three i name (inr (inr (small, bit))) = inl (state_name i, (small, inr refl), bit)

pub no_three : (name : List ℕ) → ((i : ℕ) → IsIndexed (codes "agm_s") 95 i name → Prim.⊥) → ((i : ℕ) → IsIndexed (codes "agm_d") 46 i name → Prim.⊥) → ((i : ℕ) → IsStateBit i name → Prim.⊥)
    → (i : ℕ) → IsShareName i name → Prim.⊥
no_three name p q r i share = elim (three_of i name share) [ inl h ↦ p i h | inr rest ↦ elim rest [ inl h ↦ q i h | inr h ↦ r i h ] ]

-- a share above the order leaves a name without a label
pub share_other : (d i : ℕ) (name : List ℕ) → d < i → IsShareName i name → ((IsUserName name → Prim.⊥) × (name ≡ codes "agm_clk" → Prim.⊥) × (IsPublicName name → Prim.⊥) × (IsBitOf (codes "agm_r") name → Prim.⊥))
    → IsOther d name × ((p : Part) → IsPartName d p name → Prim.⊥)
share_other d i name above share h = (
  record { no_user = h.0; no_clock = h.1; no_public = h.2; no_random = h.3; no_share = λ j le other. (let same = one_share i j name share other in omega arith) },
  λ p named. (let wrong : ◌≡◌ {A = ℕ} 4 5 = one_family 4 5 name (form_in i name (share_form i name share)) (part_in d p name named) in omega (arith, wrong)),
)
