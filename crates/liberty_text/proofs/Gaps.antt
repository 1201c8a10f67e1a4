-- What stands behind a gap.
use Rattle.std.proofs.Common.{◌≡◌, ◌≢◌, ◌==◌, ◌≤◌, ◌<◌, ◌++◌, ◌&&◌, ◌⊎◌, ℕ, Bool, true, false, cond, length, drop, List, [], ◌∷◌, Option, Some, None, refl, sym, ap, ◌∙◌, subst, inl, inr, IsTrue, suc, arith, length-append, length-drop}
use Rattle.std.proofs.lemmas.Bool.Decides.{nat_tests}
use Rattle.liberty_text.specs.Bytes.{is_blank, begins, line_end}
use Rattle.liberty_text.specs.First.{behind_close, line_at, gap_at}
use Rattle.liberty_text.specs.Cuts.{Blank, Break, Comment}
use Rattle.liberty_text.proofs.Runs.{chosen}

pub both : (a b : Bool) → (a && b) ≡ true → (a ≡ true) × (b ≡ true)
both true b h = (refl, h)
both false b h = absurd (cc)

pub same_number : (a b : ℕ) → (a == b) ≡ true → a ≡ b
same_number a b h = grind (arith, nat_tests)

pub begins_is : (b : ℕ) (bs : List ℕ) → begins b bs ≡ true → bs ≡ b ∷ drop 1 bs
begins_is b [] h = absurd (cc)
begins_is b (c ∷ cs) h = ap (λ x. x ∷ cs) (same_number c b h)

pub not_zero : (n : ℕ) → 0 < n → (n == 0) ≡ false
not_zero n h = grind (arith, nat_tests)

pub some_number : (n : ℕ) → (n == 0) ≡ false → 0 < n
some_number n h = grind (arith, nat_tests)

-- one of three kinds of gap
abbrev pub IsGap : (bytes rest : List ℕ) → Type 0
IsGap bytes rest = Blank bytes rest ⊎ (Break bytes rest ⊎ Comment bytes rest)

-- comments
close_here : (b : ℕ) (bs rest : List ℕ) → ((front behind : List ℕ) → (b ∷ bs) ++ 42 ∷ [] ≢ front ++ 42 ∷ 47 ∷ behind) → (b == 42) ≡ true → begins 47 (bs ++ 42 ∷ 47 ∷ rest) ≡ true → ⊥
close_here b [] rest h e f = absurd (cc)
close_here b (c ∷ cs) rest h e f = h [] (cs ++ 42 ∷ []) (ap (λ x. x ∷ ((c ∷ cs) ++ 42 ∷ [])) (same_number b 42 e) ∙ ap (λ x. 42 ∷ x ∷ (cs ++ 42 ∷ [])) (same_number c 47 f))

close_step : (b : ℕ) (bs rest : List ℕ) → ((front behind : List ℕ) → (b ∷ bs) ++ 42 ∷ [] ≢ front ++ 42 ∷ 47 ∷ behind)
    → (((front behind : List ℕ) → bs ++ 42 ∷ [] ≢ front ++ 42 ∷ 47 ∷ behind) → behind_close (bs ++ 42 ∷ 47 ∷ rest) ≡ Some rest)
    → (q : Bool) → ((b == 42) && begins 47 (bs ++ 42 ∷ 47 ∷ rest)) ≡ q → behind_close ((b ∷ bs) ++ 42 ∷ 47 ∷ rest) ≡ Some rest
close_step b bs rest h more true e = absurd (close_here b bs rest h (both _ _ e).0 (both _ _ e).1)
close_step b bs rest h more false e = rw e (more (λ u v k. h (b ∷ u) v (ap (λ w. b ∷ w) k)))

close_first : (inner rest : List ℕ) → ((front behind : List ℕ) → inner ++ 42 ∷ [] ≢ front ++ 42 ∷ 47 ∷ behind) → behind_close (inner ++ 42 ∷ 47 ∷ rest) ≡ Some rest
close_first [] rest h = refl
close_first (b ∷ bs) rest h = close_step b bs rest h (λ k. close_first bs rest k) ((b == 42) && begins 47 (bs ++ 42 ∷ 47 ∷ rest)) refl

pub record Closed (bytes rest : List ℕ) : Type 0 where
  pub inner : List ℕ
  pub whole : bytes ≡ inner ++ 42 ∷ 47 ∷ rest
  pub inside : (front behind : List ℕ) → inner ++ 42 ∷ [] ≢ front ++ 42 ∷ 47 ∷ behind

closed_at : (b : ℕ) (bs inner rest behind : List ℕ) → bs ≡ inner ++ 42 ∷ 47 ∷ rest → ((b == 42) && begins 47 bs) ≡ false → b ≡ 42 → inner ++ 42 ∷ [] ≡ 47 ∷ behind → ⊥
closed_at b bs [] rest behind w e f k = absurd (cc)
closed_at b bs (c ∷ cs) rest behind w e f k =
    let g : c ≡ 47 = cc in
    let again : ((42 == 42) && begins 47 (47 ∷ (cs ++ 42 ∷ 47 ∷ rest))) ≡ false = subst (λ x. ((42 == 42) && begins 47 (x ∷ (cs ++ 42 ∷ 47 ∷ rest))) ≡ false) g (subst (λ x. ((x == 42) && begins 47 (c ∷ (cs ++ 42 ∷ 47 ∷ rest))) ≡ false) f (subst (λ v. ((b == 42) && begins 47 v) ≡ false) w e)) in
    absurd (cc)

closed_here : (b : ℕ) (bs inner rest : List ℕ) → bs ≡ inner ++ 42 ∷ 47 ∷ rest → ((front behind : List ℕ) → inner ++ 42 ∷ [] ≢ front ++ 42 ∷ 47 ∷ behind) → ((b == 42) && begins 47 bs) ≡ false
    → (front behind : List ℕ) → (b ∷ inner) ++ 42 ∷ [] ≢ front ++ 42 ∷ 47 ∷ behind
closed_here b bs inner rest w h e [] behind k = closed_at b bs inner rest behind w e (cc) (cc)
closed_here b bs inner rest w h e (f ∷ fs) behind k = h fs behind (cc)

closed : (bytes rest : List ℕ) → behind_close bytes ≡ Some rest → Closed bytes rest
closed [] rest h = absurd (cc)
closed (b ∷ bs) rest h = elim (chosen ((b == 42) && begins 47 bs) (Some (drop 1 bs)) (behind_close bs) (Some rest) h) [
  | inl e ↦ record {
    inner = [];
    whole = let f : drop 1 bs ≡ rest = cc (e.1) in ap (λ x. x ∷ bs) (same_number b 42 (both _ _ e.0).0) ∙ (ap (λ w. 42 ∷ w) (begins_is 47 bs (both _ _ e.0).1) ∙ ap (λ w. 42 ∷ 47 ∷ w) f);
    inside = λ front behind k. omega (arith, ap length k, length-append front (42 ∷ 47 ∷ behind));
  }
  | inr e ↦ let c = closed bs rest e.1 in record {
    inner = b ∷ c.inner;
    whole = ap (λ w. b ∷ w) c.whole;
    inside = λ front behind k. closed_here b bs c.inner rest c.whole c.inside e.0 front behind k;
  }
]

-- line ends
line_le : (bytes : List ℕ) → line_end bytes ≤ length bytes
line_le [] = omega arith
line_le (b ∷ []) = line_case (b == 10) (b == 13)
  where
    line_case : (p q : Bool) → cond p 1 (cond (q && false) 2 0) ≤ 1
    line_case true q = omega arith
    line_case false true = omega arith
    line_case false false = omega arith
line_le (b ∷ c ∷ cs) = line_case (b == 10) ((b == 13) && (c == 10)) (length cs)
  where
    line_case : (p q : Bool) (n : ℕ) → cond p 1 (cond q 2 0) ≤ suc (suc n)
    line_case true q n = omega arith
    line_case false true n = omega arith
    line_case false false n = omega arith

blank_not : (b : ℕ) → IsTrue (is_blank b) → ((b == 47) ≡ false) × ((b == 92) ≡ false)
blank_not b h = (grind (arith, nat_tests), grind (arith, nat_tests))

pub gap_found : (bytes rest : List ℕ) → IsGap bytes rest → gap_at bytes ≡ Some rest
gap_found bytes rest (inl g) = ap gap_at g.whole ∙ rw ((blank_not g.byte g.blank).0, (blank_not g.byte g.blank).1, g.blank) refl
gap_found bytes rest (inr (inl g)) = ap gap_at g.whole ∙ rw (not_zero _ g.line_ends) (ap (λ (w : List ℕ). Some w) (sym g.rest_is))
gap_found bytes rest (inr (inr g)) = ap gap_at g.whole ∙ close_first g.inner rest g.inside

two_first : (a c b : ℕ) (bs : List ℕ) → ((b == a) && begins c bs) ≡ true → b ∷ bs ≡ a ∷ c ∷ drop 1 bs
two_first a c b bs h = ap (λ x. x ∷ bs) (same_number b a (both _ _ h).0) ∙ ap (λ w. a ∷ w) (begins_is c bs (both _ _ h).1)

abbrev blank_step : ℕ → List ℕ → Option (List ℕ)
blank_step b bs = cond (is_blank b) (Some bs) None

abbrev break_step : ℕ → List ℕ → Option (List ℕ)
break_step b bs = cond (b == 92) (line_at bs) (blank_step b bs)

break_found : (b : ℕ) (bs rest : List ℕ) → (b == 92) ≡ true → line_at bs ≡ Some rest → Break (b ∷ bs) rest
break_found b bs rest e h = elim (chosen (line_end bs == 0) None (Some (drop (line_end bs) bs)) (Some rest) h) [
  | inl f ↦ absurd (cc (f.1))
  | inr f ↦ record { behind = bs; whole = ap (λ x. x ∷ bs) (same_number b 92 e); line_ends = some_number _ f.0; rest_is = cc (f.1) }
]

pub found_gap : (bytes rest : List ℕ) → gap_at bytes ≡ Some rest → IsGap bytes rest
found_gap [] rest h = absurd (cc)
found_gap (b ∷ bs) rest h =
    elim (chosen ((b == 47) && begins 42 bs) (behind_close (drop 1 bs)) (break_step b bs) (Some rest) h) [
      | inl f ↦
          let c = closed (drop 1 bs) rest f.1 in
          inr (inr (record { inner = c.inner; whole = two_first 47 42 b bs f.0 ∙ ap (λ w. 47 ∷ 42 ∷ w) c.whole; inside = c.inside }))
      | inr f ↦
          elim (chosen (b == 92) (line_at bs) (blank_step b bs) (Some rest) f.1) [
            | inl g ↦ inr (inl (break_found b bs rest g.0 g.1))
            | inr g ↦
                elim (chosen (is_blank b) (Some bs) None (Some rest) g.1) [
                  | inl k ↦ let same : bs ≡ rest = cc (k.1) in inl (record { byte = b; whole = ap (λ w. b ∷ w) same; blank = k.0 })
                  | inr k ↦ absurd (cc (k.1))
                ]
          ]
    ]

shorter_gap : (bytes rest : List ℕ) → IsGap bytes rest → length rest < length bytes
shorter_gap bytes rest (inl g) = omega (arith, ap length g.whole)
shorter_gap bytes rest (inr (inl g)) = omega (arith, ap length g.whole, g.line_ends, ap length g.rest_is, line_le g.behind, length-drop (line_end g.behind) g.behind)
shorter_gap bytes rest (inr (inr g)) = omega (arith, ap length g.whole, length-append g.inner (42 ∷ 47 ∷ rest))

-- what stands behind a gap is shorter
pub gap_shorter : (bytes rest : List ℕ) → gap_at bytes ≡ Some rest → length rest < length bytes
gap_shorter bytes rest h = shorter_gap bytes rest (found_gap bytes rest h)
