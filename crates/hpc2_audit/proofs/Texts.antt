-- What the text of a part tells.
use Rattle.std.proofs.Common.{◌≡◌, ◌<◌, ◌≤◌, ◌+◌, ◌-◌, ◌^◌, ◌++◌, ℕ, zero, suc, cond, List, [], ◌∷◌, Some, length, take, drop, length-drop, true, false, Bool, refl, sym, ap, ap₂, subst, inl, inr, ◌∙◌, arith}
use Rattle.std.specs.Prelude.{◌==◌, slice_get}
use Rattle.std.specs.Fmt.{decimal}
use Rattle.std.proofs.lemmas.Bool.{cases_lt}
use Rattle.agm_net.specs.Label.{part, part_text, part_name, gadget_name, pairs_before, pair_number, HasNumbers, IsPartName}
use Rattle.agm_net.specs.declared.label.Part.{Part}
use Rattle.agm_net.specs.declared.label.PartKind.{PartKind}
use Rattle.agm_net.specs.declared.label.PartKind.TheVariants.{Clk, A, B, R, Rr, Bb, Vx, V, Na, Ux, U, Wx, W, Mx, M, S, C}
use Rattle.agm_net.proofs.NameCuts.{cut_run, cut_number, close_ends, line_ends, dot_ends}
use Rattle.agm_net.proofs.OnePart.{word, word_letters, tail, text_is}
use Rattle.hpc2_audit.specs.Cuts.{AreBetween, EndsRun}
use Rattle.hpc2_audit.specs.Kinds.{AreNumbers, IsPair, IsShaped, shape, shaped}
use Rattle.hpc2_audit.specs.Parts.{HasIndices, IsText, Writes}
use Rattle.hpc2_audit.specs.declared.kinds.Shape.{Shape}
use Rattle.hpc2_audit.specs.declared.kinds.Shape.TheVariants.{Bare, Bracket, Single, Double}

-- the words of two kinds differ
abbrev code : List ℕ → ℕ
code [] = 0
code (c ∷ []) = c
code (c ∷ d ∷ cs) = 1000 + c

abbrev kind_at : ℕ → PartKind
kind_at c =
    cond (c == 1099) Clk (cond (c == 97) A (cond (c == 98) B (cond (c == 114) R (cond (c == 1114) Rr (cond (c == 1098) Bb (cond (c == 1118) Vx (cond (c == 118) V (cond (c == 1110) Na
    (cond (c == 1117) Ux (cond (c == 117) U (cond (c == 1119) Wx (cond (c == 119) W (cond (c == 1109) Mx (cond (c == 109) M (cond (c == 115) S C)))))))))))))))

kind_back : (k : PartKind) → kind_at (code (word k)) ≡ k
kind_back Clk = refl
kind_back A = refl
kind_back B = refl
kind_back R = refl
kind_back Rr = refl
kind_back Bb = refl
kind_back Vx = refl
kind_back V = refl
kind_back Na = refl
kind_back Ux = refl
kind_back U = refl
kind_back Wx = refl
kind_back W = refl
kind_back Mx = refl
kind_back M = refl
kind_back S = refl
kind_back C = refl

pub one_kind : (k l : PartKind) → word k ≡ word l → k ≡ l
one_kind k l e = sym (kind_back k) ∙ (ap (λ w. kind_at (code w)) e ∙ kind_back l)

shape_ends : (s : Shape) (i j : ℕ) → EndsRun 97 122 (shaped s i j)
shape_ends Bare i j = inl refl
shape_ends Bracket i j = inr (91, decimal i ++ 93 ∷ [], inl (omega arith), refl)
shape_ends Single i j = inr (95, decimal i, inl (omega arith), refl)
shape_ends Double i j = inr (95, decimal i ++ 95 ∷ decimal j, inl (omega arith), refl)

nothing_more : (xs : List ℕ) → xs ++ [] ≡ xs
nothing_more [] = refl
nothing_more (x ∷ xs) = ap (λ ys. x ∷ ys) (nothing_more xs)

one_number : (i k : ℕ) → i < 2 ^ 32 → k < 2 ^ 32 → decimal i ≡ decimal k → i ≡ k
one_number i k hi hk e = (cut_number i k [] [] (omega arith) (omega arith) (inl refl) (inl refl) (nothing_more (decimal i) ∙ (e ∙ sym (nothing_more (decimal k))))).0

-- a text of a shape has its numbers alone
pub one_shaped : (s : Shape) (i j k l : ℕ) → AreNumbers s i j → AreNumbers s k l → shaped s i j ≡ shaped s k l → (i ≡ k) × (j ≡ l)
one_shaped Bare i j k l p q e = (p.0 ∙ sym q.0, p.1 ∙ sym q.1)
one_shaped Bracket i j k l p q e =
    let hi = p.0 in
    let hk = q.0 in
    let rest : decimal i ++ 93 ∷ [] ≡ decimal k ++ 93 ∷ [] = cc in
    ((cut_number i k (93 ∷ []) (93 ∷ []) (omega arith) (omega arith) (close_ends []) (close_ends []) rest).0, p.1 ∙ sym q.1)
one_shaped Single i j k l p q e = let rest : decimal i ≡ decimal k = cc in (one_number i k p.0 q.0 rest, p.1 ∙ sym q.1)
one_shaped Double i j k l p q e =
    let hi = p.0 in
    let hk = q.0 in
    let rest : decimal i ++ 95 ∷ decimal j ≡ decimal k ++ 95 ∷ decimal l = cc in
    let both = cut_number i k (95 ∷ decimal j) (95 ∷ decimal l) (omega arith) (omega arith) (line_ends (decimal j)) (line_ends (decimal l)) rest in
    let last : decimal j ≡ decimal l = (let r = both.1 in cc) in
    (both.0, one_number j l p.1 q.1 last)

-- a text is cut behind its letters in one way
pub cut_text : (front rest : List ℕ) (k : PartKind) (i j : ℕ) → AreBetween 97 122 front → EndsRun 97 122 rest → front ++ rest ≡ word k ++ shaped (shape k) i j → (front ≡ word k) × (rest ≡ shaped (shape k) i j)
cut_text front rest k i j letters ends e = cut_run 97 122 front (word k) rest (shaped (shape k) i j) letters (word_letters k) ends (shape_ends (shape k) i j) e

-- what is read of a text, by its letters and the rest
module _ (text front rest : List ℕ) (cut : front ++ rest ≡ text) (letters : AreBetween 97 122 front) (ends : EndsRun 97 122 rest) where
  pub text_none : ((k : PartKind) → front ≡ word k → Prim.⊥) → (k : PartKind) (i j : ℕ) → IsText k i j text → Prim.⊥
  text_none none k i j is = none k (cut_text front rest k i j letters ends (cut ∙ is.1)).0

  pub tail_none : (k : PartKind) → front ≡ word k → ((i j : ℕ) → IsShaped (shape k) i j rest → Prim.⊥) → (l : PartKind) (i j : ℕ) → IsText l i j text → Prim.⊥
  tail_none k here none l i j is =
      let both = cut_text front rest l i j letters ends (cut ∙ is.1) in
      let same : l ≡ k = one_kind l k (sym both.0 ∙ here) in
      none i j (subst (λ m. IsShaped (shape m) i j rest) same (is.0, both.1))

  pub text_some : (k : PartKind) (i j : ℕ) → front ≡ word k → IsShaped (shape k) i j rest → IsText k i j text
  text_some k i j here is = (is.0, sym cut ∙ ap₂ (λ a b. a ++ b) here is.1)

-- a text has one kind and its numbers
pub one_text : (text : List ℕ) (k l : PartKind) (i j a b : ℕ) → IsText k i j text → IsText l a b text → (k ≡ l) × (i ≡ a) × (j ≡ b)
one_text text k l i j a b p q =
    let both = cut_run 97 122 (word k) (word l) (shaped (shape k) i j) (shaped (shape l) a b) (word_letters k) (word_letters l) (shape_ends (shape k) i j) (shape_ends (shape l) a b) (sym p.1 ∙ q.1) in
    let same = one_kind k l both.0 in
    let numbers = subst (λ m. AreNumbers (shape m) a b → shaped (shape k) i j ≡ shaped (shape m) a b → (i ≡ a) × (j ≡ b)) same (λ h e. one_shaped (shape k) i j a b p.0 h e) q.0 both.1 in
    (same, numbers.0, numbers.1)

-- pairs and their numbers
before_grows : (n i k : ℕ) → i < k → k ≤ n → pairs_before n i + (n - 1 - i) ≤ pairs_before n k
before_grows n i zero lt le = absurd (omega arith)
before_grows n i (suc k) lt le =
    elim (cases_lt i k) [
      | inl less ↦ (let rest = before_grows n i k less (omega arith) in omega arith)
      | inr last ↦ (let same : i ≡ k = omega arith in subst (λ m. pairs_before n i + (n - 1 - i) ≤ pairs_before n (suc m)) same (omega arith))
    ]

pub no_pair : (d p left i : ℕ) → d ≤ i → i ≤ d → left + pairs_before (d + 1) i ≡ p → (a b : ℕ) → IsPair d p a b → Prim.⊥
no_pair d p left i ge le e a b is =
    let lt = is.0 in
    let few = is.1 in
    let same = is.2 in
    let here : i ≡ d = omega arith in
    let all : left + pairs_before (d + 1) d ≡ p = subst (λ m. left + pairs_before (d + 1) m ≡ p) here e in
    let grows = before_grows (d + 1) a d (omega arith) (omega arith) in
    omega arith

pub next_row : (n i left p : ℕ) → left + pairs_before n i ≡ p → n - 1 - i ≤ left → (left - (n - 1 - i)) + pairs_before n (i + 1) ≡ p
next_row n i left p e le =
    let one : i + 1 ≡ suc i = omega arith in
    subst (λ m. (left - (n - 1 - i)) + pairs_before n m ≡ p) (sym one) (omega arith)

-- indices and the numbers in a name
abbrev pub is_pair_kind : PartKind → Bool
is_pair_kind R = true
is_pair_kind _ = false

moved : (P : ℕ → ℕ → Type 0) (a b i j : ℕ) → P a b → (a ≡ i) × (b ≡ j) → P i j
moved P a b i j h e = subst (P i) e.1 (subst (λ m. P m b) e.0 h)

module _ (d : ℕ) where
  pub indices_some : (k : PartKind) (i j : ℕ) → is_pair_kind k ≡ false → HasIndices d k i j → HasNumbers d k i j × Writes d k i j i j
  indices_some Clk i j other h = (h, (refl, refl))
  indices_some A i j other h = (h, (refl, refl))
  indices_some B i j other h = (h, (refl, refl))
  indices_some R i j other h = absurd (cc)
  indices_some Rr i j other h = (h, (refl, refl))
  indices_some Bb i j other h = (h, (refl, refl))
  indices_some Vx i j other h = (h, (refl, refl))
  indices_some V i j other h = (h, (refl, refl))
  indices_some Na i j other h = (h, (refl, refl))
  indices_some Ux i j other h = (h, (refl, refl))
  indices_some U i j other h = (h, (refl, refl))
  indices_some Wx i j other h = (h, (refl, refl))
  indices_some W i j other h = (h, (refl, refl))
  indices_some Mx i j other h = (h, (refl, refl))
  indices_some M i j other h = (h, (refl, refl))
  indices_some S i j other h = (h, (refl, refl))
  indices_some C i j other h = (h, (refl, refl))

  pub indices_none : (k : PartKind) (i j : ℕ) → is_pair_kind k ≡ false → (HasIndices d k i j → Prim.⊥) → (a b : ℕ) → HasNumbers d k a b → Writes d k a b i j → Prim.⊥
  indices_none Clk i j other h a b has e = h (moved (HasNumbers d Clk) a b i j has e)
  indices_none A i j other h a b has e = h (moved (HasNumbers d A) a b i j has e)
  indices_none B i j other h a b has e = h (moved (HasNumbers d B) a b i j has e)
  indices_none R i j other h a b has e = absurd (cc)
  indices_none Rr i j other h a b has e = h (moved (HasNumbers d Rr) a b i j has e)
  indices_none Bb i j other h a b has e = h (moved (HasNumbers d Bb) a b i j has e)
  indices_none Vx i j other h a b has e = h (moved (HasNumbers d Vx) a b i j has e)
  indices_none V i j other h a b has e = h (moved (HasNumbers d V) a b i j has e)
  indices_none Na i j other h a b has e = h (moved (HasNumbers d Na) a b i j has e)
  indices_none Ux i j other h a b has e = h (moved (HasNumbers d Ux) a b i j has e)
  indices_none U i j other h a b has e = h (moved (HasNumbers d U) a b i j has e)
  indices_none Wx i j other h a b has e = h (moved (HasNumbers d Wx) a b i j has e)
  indices_none W i j other h a b has e = h (moved (HasNumbers d W) a b i j has e)
  indices_none Mx i j other h a b has e = h (moved (HasNumbers d Mx) a b i j has e)
  indices_none M i j other h a b has e = h (moved (HasNumbers d M) a b i j has e)
  indices_none S i j other h a b has e = h (moved (HasNumbers d S) a b i j has e)
  indices_none C i j other h a b has e = h (moved (HasNumbers d C) a b i j has e)

  pub pair_some : (i j a b : ℕ) → i < 2 ^ 32 → j ≡ 0 → IsPair d i a b → HasNumbers d R a b × Writes d R a b i j
  pair_some i j a b small none is = let e = is.2 in ((is.0, is.1, omega arith), (is.2, none))

  pub pair_none : (i j : ℕ) → ((a b : ℕ) → IsPair d i a b → Prim.⊥) → (a b : ℕ) → HasNumbers d R a b → Writes d R a b i j → Prim.⊥
  pair_none i j none a b has e = none a b (has.0, has.1, e.0)

  -- the numbers in the name of a part
  abbrev pub first : PartKind → ℕ → ℕ → ℕ
  first Clk a b = a
  first A a b = a
  first B a b = a
  first R a b = pair_number (d + 1) a b
  first Rr a b = a
  first Bb a b = a
  first Vx a b = a
  first V a b = a
  first Na a b = a
  first Ux a b = a
  first U a b = a
  first Wx a b = a
  first W a b = a
  first Mx a b = a
  first M a b = a
  first S a b = a
  first C a b = a

  abbrev pub second : PartKind → ℕ → ℕ → ℕ
  second Clk a b = b
  second A a b = b
  second B a b = b
  second R a b = 0
  second Rr a b = b
  second Bb a b = b
  second Vx a b = b
  second V a b = b
  second Na a b = b
  second Ux a b = b
  second U a b = b
  second Wx a b = b
  second W a b = b
  second Mx a b = b
  second M a b = b
  second S a b = b
  second C a b = b

  pub tail_is : (k : PartKind) (a b : ℕ) → tail (d + 1) k a b ≡ shaped (shape k) (first k a b) (second k a b)
  tail_is Clk a b = refl
  tail_is A a b = refl
  tail_is B a b = refl
  tail_is R a b = refl
  tail_is Rr a b = refl
  tail_is Bb a b = refl
  tail_is Vx a b = refl
  tail_is V a b = refl
  tail_is Na a b = refl
  tail_is Ux a b = refl
  tail_is U a b = refl
  tail_is Wx a b = refl
  tail_is W a b = refl
  tail_is Mx a b = refl
  tail_is M a b = refl
  tail_is S a b = refl
  tail_is C a b = refl

  pub writes : (k : PartKind) (a b : ℕ) → Writes d k a b (first k a b) (second k a b)
  writes Clk a b = (refl, refl)
  writes A a b = (refl, refl)
  writes B a b = (refl, refl)
  writes R a b = (refl, refl)
  writes Rr a b = (refl, refl)
  writes Bb a b = (refl, refl)
  writes Vx a b = (refl, refl)
  writes V a b = (refl, refl)
  writes Na a b = (refl, refl)
  writes Ux a b = (refl, refl)
  writes U a b = (refl, refl)
  writes Wx a b = (refl, refl)
  writes W a b = (refl, refl)
  writes Mx a b = (refl, refl)
  writes M a b = (refl, refl)
  writes S a b = (refl, refl)
  writes C a b = (refl, refl)

  pub are_numbers : (k : PartKind) (a b : ℕ) → HasNumbers d k a b → a < 2 ^ 32 → b < 2 ^ 32 → AreNumbers (shape k) (first k a b) (second k a b)
  are_numbers Clk a b h p q = h
  are_numbers A a b h p q = (p, h.1)
  are_numbers B a b h p q = (p, h.1)
  are_numbers R a b h p q = (h.2, refl)
  are_numbers Rr a b h p q = (p, q)
  are_numbers Bb a b h p q = (p, h.1)
  are_numbers Vx a b h p q = (p, q)
  are_numbers V a b h p q = (p, q)
  are_numbers Na a b h p q = (p, h.1)
  are_numbers Ux a b h p q = (p, q)
  are_numbers U a b h p q = (p, q)
  are_numbers Wx a b h p q = (p, q)
  are_numbers W a b h p q = (p, q)
  are_numbers Mx a b h p q = (p, h.1)
  are_numbers M a b h p q = (p, h.1)
  are_numbers S a b h p q = (p, q)
  are_numbers C a b h p q = (p, h.1)

  pub writes_tail : (k : PartKind) (a b i j : ℕ) → Writes d k a b i j → tail (d + 1) k a b ≡ shaped (shape k) i j
  writes_tail Clk a b i j e = ap₂ (λ m n. shaped Bare m n) e.0 e.1
  writes_tail A a b i j e = ap₂ (λ m n. shaped Bracket m n) e.0 e.1
  writes_tail B a b i j e = ap₂ (λ m n. shaped Bracket m n) e.0 e.1
  writes_tail R a b i j e = ap (λ n. 91 ∷ (decimal n ++ 93 ∷ [])) e.0
  writes_tail Rr a b i j e = ap₂ (λ m n. shaped Double m n) e.0 e.1
  writes_tail Bb a b i j e = ap₂ (λ m n. shaped Single m n) e.0 e.1
  writes_tail Vx a b i j e = ap₂ (λ m n. shaped Double m n) e.0 e.1
  writes_tail V a b i j e = ap₂ (λ m n. shaped Double m n) e.0 e.1
  writes_tail Na a b i j e = ap₂ (λ m n. shaped Single m n) e.0 e.1
  writes_tail Ux a b i j e = ap₂ (λ m n. shaped Double m n) e.0 e.1
  writes_tail U a b i j e = ap₂ (λ m n. shaped Double m n) e.0 e.1
  writes_tail Wx a b i j e = ap₂ (λ m n. shaped Double m n) e.0 e.1
  writes_tail W a b i j e = ap₂ (λ m n. shaped Double m n) e.0 e.1
  writes_tail Mx a b i j e = ap₂ (λ m n. shaped Single m n) e.0 e.1
  writes_tail M a b i j e = ap₂ (λ m n. shaped Single m n) e.0 e.1
  writes_tail S a b i j e = ap₂ (λ m n. shaped Double m n) e.0 e.1
  writes_tail C a b i j e = ap₂ (λ m n. shaped Bracket m n) e.0 e.1

  pub are_small : (k : PartKind) (a b i j : ℕ) → d < 2 ^ 32 → i < 2 ^ 32 → j < 2 ^ 32 → HasNumbers d k a b → Writes d k a b i j → (a < 2 ^ 32) × (b < 2 ^ 32)
  are_small Clk a b i j few hi hj h e = let p = e.0 in let q = e.1 in (omega arith, omega arith)
  are_small A a b i j few hi hj h e = let p = e.0 in let q = e.1 in (omega arith, omega arith)
  are_small B a b i j few hi hj h e = let p = e.0 in let q = e.1 in (omega arith, omega arith)
  are_small R a b i j few hi hj h e = let lt = h.0 in let le = h.1 in (omega arith, omega arith)
  are_small Rr a b i j few hi hj h e = let p = e.0 in let q = e.1 in (omega arith, omega arith)
  are_small Bb a b i j few hi hj h e = let p = e.0 in let q = e.1 in (omega arith, omega arith)
  are_small Vx a b i j few hi hj h e = let p = e.0 in let q = e.1 in (omega arith, omega arith)
  are_small V a b i j few hi hj h e = let p = e.0 in let q = e.1 in (omega arith, omega arith)
  are_small Na a b i j few hi hj h e = let p = e.0 in let q = e.1 in (omega arith, omega arith)
  are_small Ux a b i j few hi hj h e = let p = e.0 in let q = e.1 in (omega arith, omega arith)
  are_small U a b i j few hi hj h e = let p = e.0 in let q = e.1 in (omega arith, omega arith)
  are_small Wx a b i j few hi hj h e = let p = e.0 in let q = e.1 in (omega arith, omega arith)
  are_small W a b i j few hi hj h e = let p = e.0 in let q = e.1 in (omega arith, omega arith)
  are_small Mx a b i j few hi hj h e = let p = e.0 in let q = e.1 in (omega arith, omega arith)
  are_small M a b i j few hi hj h e = let p = e.0 in let q = e.1 in (omega arith, omega arith)
  are_small S a b i j few hi hj h e = let p = e.0 in let q = e.1 in (omega arith, omega arith)
  are_small C a b i j few hi hj h e = let p = e.0 in let q = e.1 in (omega arith, omega arith)

  -- a part by what is read of its text, and back
  pub part_some : (g : ℕ) (text : List ℕ) (k : PartKind) (i j a b : ℕ) → d < 2 ^ 32 → g < 2 ^ 32 → i < 2 ^ 32 → j < 2 ^ 32 → IsText k i j text → HasNumbers d k a b × Writes d k a b i j
      → IsPartName d (part g k a b) (gadget_name g text)
  part_some g text k i j a b few gadget hi hj is has =
      let small = are_small k a b i j few hi hj has.0 has.1 in
      (has.0, gadget, small.0, small.1, ap (gadget_name g) (is.1 ∙ (ap (λ t. word k ++ t) (sym (writes_tail k a b i j has.1)) ∙ sym (text_is (d + 1) k a b))))

  same_text : (g : ℕ) (text other : List ℕ) → g < 2 ^ 32 → gadget_name g text ≡ gadget_name g other → text ≡ other
  same_text g text other small e =
      let rest : decimal g ++ 46 ∷ text ≡ decimal g ++ 46 ∷ other = cc in
      let cut = cut_number g g (46 ∷ text) (46 ∷ other) (omega arith) (omega arith) (dot_ends text) (dot_ends other) rest in
      let r = cut.1 in cc

  pub part_text_is : (g : ℕ) (text : List ℕ) (p : Part) → p.gadget ≡ g → IsPartName d p (gadget_name g text) → IsText p.kind (first p.kind p.i p.j) (second p.kind p.i p.j) text
  part_text_is g text p same is =
      let named : gadget_name g text ≡ gadget_name g (part_text (d + 1) p.kind p.i p.j) = is.4 ∙ ap (λ n. gadget_name n (part_text (d + 1) p.kind p.i p.j)) same in
      let here = same_text g text (part_text (d + 1) p.kind p.i p.j) (subst (λ n. n < 2 ^ 32) same is.1) named in
      (are_numbers p.kind p.i p.j is.0 is.2 is.3, here ∙ (text_is (d + 1) p.kind p.i p.j ∙ ap (λ t. word p.kind ++ t) (tail_is p.kind p.i p.j)))

  pub part_none : (g : ℕ) (text : List ℕ) (k : PartKind) (i j : ℕ) → IsText k i j text → ((a b : ℕ) → HasNumbers d k a b → Writes d k a b i j → Prim.⊥)
      → (p : Part) → p.gadget ≡ g → IsPartName d p (gadget_name g text) → Prim.⊥
  part_none g text k i j read none p same is =
      let one = one_text text p.kind k (first p.kind p.i p.j) (second p.kind p.i p.j) i j (part_text_is g text p same is) read in
      let Claim : PartKind → Type 0 = λ m. HasNumbers d m p.i p.j × Writes d m p.i p.j i j in
      let own : Claim p.kind = (is.0, subst (λ n. Writes d p.kind p.i p.j n j) one.1 (subst (λ n. Writes d p.kind p.i p.j (first p.kind p.i p.j) n) one.2 (writes p.kind p.i p.j))) in
      let there = subst Claim one.0 own in
      none p.i p.j there.0 there.1

-- all kinds, in their order
abbrev pub all_kinds : List PartKind
all_kinds = Clk ∷ A ∷ B ∷ R ∷ Rr ∷ Bb ∷ Vx ∷ V ∷ Na ∷ Ux ∷ U ∷ Wx ∷ W ∷ Mx ∷ M ∷ S ∷ C ∷ []

pub has_kind : (k : PartKind) → (n : ℕ) × (slice_get all_kinds n ≡ Some k)
has_kind Clk = (0, refl)
has_kind A = (1, refl)
has_kind B = (2, refl)
has_kind R = (3, refl)
has_kind Rr = (4, refl)
has_kind Bb = (5, refl)
has_kind Vx = (6, refl)
has_kind V = (7, refl)
has_kind Na = (8, refl)
has_kind Ux = (9, refl)
has_kind U = (10, refl)
has_kind Wx = (11, refl)
has_kind W = (12, refl)
has_kind Mx = (13, refl)
has_kind M = (14, refl)
has_kind S = (15, refl)
has_kind C = (16, refl)

-- a part's name begins with its gadget's number
pub part_gadget : (d g : ℕ) (text name : List ℕ) (p : Part) → g < 2 ^ 32 → name ≡ gadget_name g text → IsPartName d p name → p.gadget ≡ g
part_gadget d g text name p small e is =
    let few = is.1 in
    let names : gadget_name g text ≡ part_name (d + 1) p.gadget p.kind p.i p.j = sym e ∙ is.4 in
    let rest : decimal g ++ 46 ∷ text ≡ decimal p.gadget ++ 46 ∷ part_text (d + 1) p.kind p.i p.j = cc in
    sym (cut_number g p.gadget (46 ∷ text) (46 ∷ part_text (d + 1) p.kind p.i p.j) (omega arith) (omega arith) (dot_ends text) (dot_ends (part_text (d + 1) p.kind p.i p.j)) rest).0

take_all : {X : Type 0} (n : ℕ) (xs : List X) → length xs ≤ n → take n xs ≡ xs
take_all zero [] h = refl
take_all (suc n) [] h = refl
take_all zero (x ∷ xs) h = absurd (omega arith)
take_all (suc n) (x ∷ xs) h = ap (λ ys. x ∷ ys) (take_all n xs (omega arith))

-- what stands behind an end
pub rest_is : (text : List ℕ) (end : ℕ) → take (length text - end) (drop end text) ≡ drop end text
rest_is text end = take_all (length text - end) (drop end text) (omega (arith, length-drop end text))
