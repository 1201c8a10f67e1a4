-- The name of a part tells which it is.
use Rattle.std.proofs.Common.{◌≡◌, ◌<◌, ◌≤◌, ◌+◌, ◌-◌, ◌==◌, ◌^◌, ◌++◌, ℕ, zero, suc, cond, List, [], ◌∷◌, codes, refl, sym, ap, subst, inl, inr, ◌∙◌, arith}
use Rattle.std.specs.Fmt.{decimal}
use Rattle.std.proofs.lemmas.Bool.{cases_lt}
use Rattle.agm_net.specs.Label.{part, part_text, part_name, pairs_before, pair_number, HasNumbers, IsPartName}
use Rattle.agm_net.specs.declared.label.Part.{Part}
use Rattle.agm_net.specs.declared.label.PartKind.{PartKind}
use Rattle.agm_net.specs.declared.label.PartKind.TheVariants.{Clk, A, B, R, Rr, Bb, Vx, V, Na, Ux, U, Wx, W, Mx, M, S, C}
use Rattle.agm_net.proofs.NameCuts.{AreBetween, EndsRun, cut_run, cut_number, dot_ends, close_ends, line_ends}

-- the letters of a kind, and what stands behind them
abbrev pub word : PartKind → List ℕ
word Clk = codes "clk"
word A = codes "a"
word B = codes "b"
word R = codes "r"
word Rr = codes "rr"
word Bb = codes "bb"
word Vx = codes "vx"
word V = codes "v"
word Na = codes "na"
word Ux = codes "ux"
word U = codes "u"
word Wx = codes "wx"
word W = codes "w"
word Mx = codes "mx"
word M = codes "m"
word S = codes "s"
word C = codes "c"

abbrev in_brackets : ℕ → List ℕ
in_brackets i = 91 ∷ (decimal i ++ 93 ∷ [])

abbrev one_number : ℕ → List ℕ
one_number i = 95 ∷ decimal i

abbrev two_numbers : ℕ → ℕ → List ℕ
two_numbers i j = 95 ∷ (decimal i ++ 95 ∷ decimal j)

abbrev pub tail : ℕ → PartKind → ℕ → ℕ → List ℕ
tail n Clk i j = []
tail n A i j = in_brackets i
tail n B i j = in_brackets i
tail n R i j = in_brackets (pair_number n i j)
tail n Rr i j = two_numbers i j
tail n Bb i j = one_number i
tail n Vx i j = two_numbers i j
tail n V i j = two_numbers i j
tail n Na i j = one_number i
tail n Ux i j = two_numbers i j
tail n U i j = two_numbers i j
tail n Wx i j = two_numbers i j
tail n W i j = two_numbers i j
tail n Mx i j = one_number i
tail n M i j = one_number i
tail n S i j = two_numbers i j
tail n C i j = in_brackets i

pub text_is : (n : ℕ) (k : PartKind) (i j : ℕ) → part_text n k i j ≡ word k ++ tail n k i j
text_is n Clk i j = refl
text_is n A i j = refl
text_is n B i j = refl
text_is n R i j = refl
text_is n Rr i j = refl
text_is n Bb i j = refl
text_is n Vx i j = refl
text_is n V i j = refl
text_is n Na i j = refl
text_is n Ux i j = refl
text_is n U i j = refl
text_is n Wx i j = refl
text_is n W i j = refl
text_is n Mx i j = refl
text_is n M i j = refl
text_is n S i j = refl
text_is n C i j = refl

abbrev AreLetters : List ℕ → Type 0
AreLetters bytes = AreBetween 97 122 bytes

pub word_letters : (k : PartKind) → AreLetters (word k)
word_letters Clk = ((omega arith, omega arith), ((omega arith, omega arith), ((omega arith, omega arith), tt)))
word_letters A = ((omega arith, omega arith), tt)
word_letters B = ((omega arith, omega arith), tt)
word_letters R = ((omega arith, omega arith), tt)
word_letters Rr = ((omega arith, omega arith), ((omega arith, omega arith), tt))
word_letters Bb = ((omega arith, omega arith), ((omega arith, omega arith), tt))
word_letters Vx = ((omega arith, omega arith), ((omega arith, omega arith), tt))
word_letters V = ((omega arith, omega arith), tt)
word_letters Na = ((omega arith, omega arith), ((omega arith, omega arith), tt))
word_letters Ux = ((omega arith, omega arith), ((omega arith, omega arith), tt))
word_letters U = ((omega arith, omega arith), tt)
word_letters Wx = ((omega arith, omega arith), ((omega arith, omega arith), tt))
word_letters W = ((omega arith, omega arith), tt)
word_letters Mx = ((omega arith, omega arith), ((omega arith, omega arith), tt))
word_letters M = ((omega arith, omega arith), tt)
word_letters S = ((omega arith, omega arith), tt)
word_letters C = ((omega arith, omega arith), tt)

abbrev EndsWord : List ℕ → Type 0
EndsWord t = EndsRun 97 122 t

bracket : (rest : List ℕ) → EndsWord (91 ∷ rest)
bracket rest = inr (91, rest, inl (omega arith), refl)

line : (rest : List ℕ) → EndsWord (95 ∷ rest)
line rest = inr (95, rest, inl (omega arith), refl)

tail_ends : (n : ℕ) (k : PartKind) (i j : ℕ) → EndsWord (tail n k i j)
tail_ends n Clk i j = inl refl
tail_ends n A i j = bracket (decimal i ++ 93 ∷ [])
tail_ends n B i j = bracket (decimal i ++ 93 ∷ [])
tail_ends n R i j = bracket (decimal (pair_number n i j) ++ 93 ∷ [])
tail_ends n Rr i j = line (decimal i ++ 95 ∷ decimal j)
tail_ends n Bb i j = line (decimal i)
tail_ends n Vx i j = line (decimal i ++ 95 ∷ decimal j)
tail_ends n V i j = line (decimal i ++ 95 ∷ decimal j)
tail_ends n Na i j = line (decimal i)
tail_ends n Ux i j = line (decimal i ++ 95 ∷ decimal j)
tail_ends n U i j = line (decimal i ++ 95 ∷ decimal j)
tail_ends n Wx i j = line (decimal i ++ 95 ∷ decimal j)
tail_ends n W i j = line (decimal i ++ 95 ∷ decimal j)
tail_ends n Mx i j = line (decimal i)
tail_ends n M i j = line (decimal i)
tail_ends n S i j = line (decimal i ++ 95 ∷ decimal j)
tail_ends n C i j = bracket (decimal i ++ 93 ∷ [])

-- the kind that a word gives back
abbrev code : List ℕ → ℕ
code [] = 0
code (c ∷ []) = c
code (c ∷ d ∷ cs) = 1000 + c

abbrev kind_at : ℕ → PartKind
kind_at c =
    cond (c == 1099) Clk (cond (c == 97) A (cond (c == 98) B (cond (c == 114) R (cond (c == 1114) Rr (cond (c == 1098) Bb (cond (c == 1118) Vx (cond (c == 118) V (cond (c == 1110) Na
    (cond (c == 1117) Ux (cond (c == 117) U (cond (c == 1119) Wx (cond (c == 119) W (cond (c == 1109) Mx (cond (c == 109) M (cond (c == 115) S C)))))))))))))))

kind_back : (k : PartKind) → kind_at (code (word k)) ≡ k
kind_back Clk = refl
kind_back A = refl
kind_back B = refl
kind_back R = refl
kind_back Rr = refl
kind_back Bb = refl
kind_back Vx = refl
kind_back V = refl
kind_back Na = refl
kind_back Ux = refl
kind_back U = refl
kind_back Wx = refl
kind_back W = refl
kind_back Mx = refl
kind_back M = refl
kind_back S = refl
kind_back C = refl

-- pairs of one number are one pair
before_grows : (n i k : ℕ) → i < k → k ≤ n → pairs_before n i + (n - 1 - i) ≤ pairs_before n k
before_grows n i zero lt le = absurd (omega arith)
before_grows n i (suc k) lt le =
    elim (cases_lt i k) [
      | inl less ↦ (let rest = before_grows n i k less (omega arith) in omega arith)
      | inr last ↦ (let same : i ≡ k = omega arith in subst (λ m. pairs_before n i + (n - 1 - i) ≤ pairs_before n (suc m)) same (omega arith))
    ]

earlier : (n i j k l : ℕ) → i < k → i < j → j < n → k < l → l < n → pair_number n i j < pair_number n k l
earlier n i j k l lt hi hj hk hl = let grows = before_grows n i k lt (omega arith) in omega arith

pub pair_apart : (n i j k l : ℕ) → i < j → j < n → k < l → l < n → pair_number n i j ≡ pair_number n k l → (i ≡ k) × (j ≡ l)
pair_apart n i j k l hi hj hk hl e =
    elim (cases_lt i k) [
      | inl less ↦ absurd (let lt = earlier n i j k l less hi hj hk hl in omega arith)
      | inr ge ↦ elim (cases_lt k i) [
        | inl more ↦ absurd (let lt = earlier n k l i j more hk hl hi hj in omega arith)
        | inr le ↦ (
            let same : i ≡ k = omega arith in
            let there = subst (λ m. pair_number n i j ≡ pair_number n m l) (sym same) e in
            (same, omega arith))
      ]
    ]

by_brackets : (i k : ℕ) → i < 2 ^ 64 → k < 2 ^ 64 → in_brackets i ≡ in_brackets k → i ≡ k
by_brackets i k hi hk e =
    let rest : decimal i ++ 93 ∷ [] ≡ decimal k ++ 93 ∷ [] = cc in
    (cut_number i k (93 ∷ []) (93 ∷ []) hi hk (close_ends []) (close_ends []) rest).0

nothing_more : (xs : List ℕ) → xs ++ [] ≡ xs
nothing_more [] = refl
nothing_more (x ∷ xs) = ap (λ ys. x ∷ ys) (nothing_more xs)

by_number : (i k : ℕ) → i < 2 ^ 64 → k < 2 ^ 64 → decimal i ≡ decimal k → i ≡ k
by_number i k hi hk e = (cut_number i k [] [] hi hk (inl refl) (inl refl) (nothing_more (decimal i) ∙ (e ∙ sym (nothing_more (decimal k))))).0

by_two : (i j k l : ℕ) → i < 2 ^ 64 → j < 2 ^ 64 → k < 2 ^ 64 → l < 2 ^ 64 → two_numbers i j ≡ two_numbers k l → (i ≡ k) × (j ≡ l)
by_two i j k l hi hj hk hl e =
    let rest : decimal i ++ 95 ∷ decimal j ≡ decimal k ++ 95 ∷ decimal l = cc in
    let both = cut_number i k (95 ∷ decimal j) (95 ∷ decimal l) hi hk (line_ends (decimal j)) (line_ends (decimal l)) rest in
    let last : decimal j ≡ decimal l = (let r = both.1 in cc) in
    (both.0, by_number j l hj hl last)

-- what a kind has of numbers is told by the tail
module _ (d i j k l : ℕ) (hi : i < 2 ^ 32) (hj : j < 2 ^ 32) (hk : k < 2 ^ 32) (hl : l < 2 ^ 32) where
  index : (j ≡ 0) → (l ≡ 0) → in_brackets i ≡ in_brackets k → (i ≡ k) × (j ≡ l)
  index p q e = (by_brackets i k (omega arith) (omega arith) e, p ∙ sym q)

  number : (j ≡ 0) → (l ≡ 0) → one_number i ≡ one_number k → (i ≡ k) × (j ≡ l)
  number p q e = let rest : decimal i ≡ decimal k = cc in (by_number i k (omega arith) (omega arith) rest, p ∙ sym q)

  pair : two_numbers i j ≡ two_numbers k l → (i ≡ k) × (j ≡ l)
  pair e = by_two i j k l (omega arith) (omega arith) (omega arith) (omega arith) e

  pub same_numbers : (kind : PartKind) → HasNumbers d kind i j → HasNumbers d kind k l → tail (d + 1) kind i j ≡ tail (d + 1) kind k l → (i ≡ k) × (j ≡ l)
  same_numbers Clk p q e = (p.0 ∙ sym q.0, p.1 ∙ sym q.1)
  same_numbers A p q e = index p.1 q.1 e
  same_numbers B p q e = index p.1 q.1 e
  same_numbers R p q e =
      let few = p.2 in
      let less = q.2 in
      let numbers = by_brackets (pair_number (d + 1) i j) (pair_number (d + 1) k l) (omega arith) (omega arith) e in
      let hj' = p.1 in
      let hl' = q.1 in
      pair_apart (d + 1) i j k l p.0 (omega arith) q.0 (omega arith) numbers
  same_numbers Rr p q e = pair e
  same_numbers Bb p q e = number p.1 q.1 e
  same_numbers Vx p q e = pair e
  same_numbers V p q e = pair e
  same_numbers Na p q e = number p.1 q.1 e
  same_numbers Ux p q e = pair e
  same_numbers U p q e = pair e
  same_numbers Wx p q e = pair e
  same_numbers W p q e = pair e
  same_numbers Mx p q e = number p.1 q.1 e
  same_numbers M p q e = number p.1 q.1 e
  same_numbers S p q e = pair e
  same_numbers C p q e = index p.1 q.1 e

-- texts of parts tell their kinds and tails
pub same_text : (n m : ℕ) (kind kind' : PartKind) (i j k l : ℕ) → part_text n kind i j ≡ part_text m kind' k l → (kind ≡ kind') × (tail n kind i j ≡ tail m kind' k l)
same_text n m kind kind' i j k l e =
    let cut = sym (text_is n kind i j) ∙ (e ∙ text_is m kind' k l) in
    let both = cut_run 97 122 (word kind) (word kind') (tail n kind i j) (tail m kind' k l) (word_letters kind) (word_letters kind') (tail_ends n kind i j) (tail_ends m kind' k l) cut in
    (sym (kind_back kind) ∙ (ap (λ w. kind_at (code w)) both.0 ∙ kind_back kind'), both.1)

same_part : (g g' : ℕ) (kind kind' : PartKind) (i j k l : ℕ) → g ≡ g' → kind ≡ kind' → (i ≡ k) × (j ≡ l) → part g kind i j ≡ part g' kind' k l
same_part g g' kind kind' i j k l e f h = cc

pub one_part : (d : ℕ) (name : List ℕ) (p q : Part) → IsPartName d p name → IsPartName d q name → p ≡ q
one_part d name p q hp hq =
    let names : part_name (d + 1) p.gadget p.kind p.i p.j ≡ part_name (d + 1) q.gadget q.kind q.i q.j = sym hp.4 ∙ hq.4 in
    let rest : decimal p.gadget ++ 46 ∷ part_text (d + 1) p.kind p.i p.j ≡ decimal q.gadget ++ 46 ∷ part_text (d + 1) q.kind q.i q.j = cc in
    let small = hp.1 in
    let small' = hq.1 in
    let cut = cut_number p.gadget q.gadget (46 ∷ part_text (d + 1) p.kind p.i p.j) (46 ∷ part_text (d + 1) q.kind q.i q.j) (omega arith) (omega arith) (dot_ends _) (dot_ends _) rest in
    let texts : part_text (d + 1) p.kind p.i p.j ≡ part_text (d + 1) q.kind q.i q.j = (let r = cut.1 in cc) in
    let kinds = same_text (d + 1) (d + 1) p.kind q.kind p.i p.j q.i q.j texts in
    let Claim : PartKind → Type 0 = λ k. HasNumbers d k q.i q.j → tail (d + 1) p.kind p.i p.j ≡ tail (d + 1) k q.i q.j → (p.i ≡ q.i) × (p.j ≡ q.j) in
    let numbers = subst Claim kinds.0 (λ h e. same_numbers d p.i p.j q.i q.j hp.2 hp.3 hq.2 hq.3 p.kind hp.0 h e) hq.0 kinds.1 in
    same_part p.gadget q.gadget p.kind q.kind p.i p.j q.i q.j cut.0 kinds.0 numbers
