-- The longest token in front, by steps and as a relation.
use Rattle.std.proofs.Common.{◌≡◌, ◌==◌, ◌≤◌, ◌<◌, ◌+◌, ◌-◌, ◌++◌, ◌&&◌, ℕ, zero, suc, Bool, true, false, cond, length, take, drop, get_or, List, [], ◌∷◌, Option, Some, None, refl, sym, ap, ◌∙◌, subst, inl, inr, IsTrue, arith, append-nil, append_assoc, take-append-drop, length-append, length-drop}
use Rattle.std.specs.List.{take_while, AllByRecursion}
use Rattle.std.proofs.lemmas.Bool.Decides.{nat_tests}
use Rattle.std.proofs.lemmas.List.{take-append-le, get_or-take, length-take-le}
use Rattle.std.proofs.Math.Seq.{drop-cons, take-append_seam, drop-append_seam}
use Rattle.liberty_text.specs.Bytes.{is_symbol, is_word, is_text, begins, begins_comment, ends}
use Rattle.liberty_text.specs.First.{run, word_run, word_at, string_at, token_at}
use Rattle.liberty_text.specs.Cuts.{Token, word, text, symbol, wrong, unbroken, is_broken, Spells, First}
use Rattle.liberty_text.proofs.Runs.{chosen, run_none, run_over, all_of_run, split_run, taken_run}
use Rattle.liberty_text.proofs.Gaps.{both, same_number, begins_is, not_zero, some_number}

-- kinds of bytes
word_not : (b : ℕ) → IsTrue (is_word b) → ((b == 34) ≡ false) × (is_symbol b ≡ false)
word_not b h = (grind (arith, nat_tests), grind (arith, nat_tests))

symbol_not : (b : ℕ) → IsTrue (is_symbol b) → ((b == 34) ≡ false) × ((b == 47) ≡ false)
symbol_not b h = (grind (arith, nat_tests), grind (arith, nat_tests))

quote_ends : is_text 34 ≡ false
quote_ends = refl

abbrev pub hit : Token → List ℕ → Option (Token × List ℕ)
hit t rest = Some (t, rest)

abbrev pub Hit : Type 0
Hit = Token × List ℕ

pub got : {t u : Token} {rest more : List ℕ} → hit u more ≡ hit t rest → (u ≡ t) × (more ≡ rest)
got {t} {u} {rest} {more} h =
    let a : Hit = (u, more) in
    let b : Hit = (t, rest) in
    let e : a ≡ b = cc in
    (ap (λ (p : Hit). p.0) e, ap (λ (p : Hit). p.1) e)

-- the token that steps find takes in each token that is spelled in front
abbrev Covers : Token → List ℕ → List ℕ → Type 0
Covers other front behind =
    (t : Token) × (rest : List ℕ) × (token_at (front ++ behind) ≡ Some (t, rest)) × (length rest ≤ length behind) × (length rest ≡ length behind → t ≡ other)

-- words
abbrev IsWord : List ℕ → Type 0
IsWord w = AllByRecursion (λ b. IsTrue (is_word b)) w

run_is : (w behind : List ℕ) → IsWord w → run is_word (w ++ behind) ≡ length w + run is_word behind
run_is w behind h = ap length (run_over is_word w behind h) ∙ length-append w (take_while is_word behind)

run_le : (xs : List ℕ) → run is_word xs ≤ length xs
run_le xs = omega (arith, ap length (split_run is_word xs), length-append (take_while is_word xs) (drop (run is_word xs) xs))

-- how long a word is that a last `\` shortens
abbrev kept : Bool → ℕ → ℕ
kept q n = cond q (n - 1) n

abbrev broken_at : ℕ → List ℕ → Bool
broken_at n bytes = is_broken (take n bytes) (drop n bytes)

kept_le : (q : Bool) (n : ℕ) → kept q n ≤ n
kept_le true n = omega arith
kept_le false n = omega arith

run_kept : (bytes : List ℕ) → word_run bytes ≡ kept (broken_at (run is_word bytes) bytes) (run is_word bytes)
run_kept bytes = refl

-- a word that is spelled in front is no longer than the one that steps find
kept_covers : (n m : ℕ) (bytes : List ℕ) (q : Bool) → m ≤ n → broken_at m bytes ≡ false → broken_at n bytes ≡ q → m ≤ kept q n
kept_covers n m bytes false h e f = h
kept_covers n m bytes true h e f = less (m == n) refl
  where
    less : (q : Bool) → (m == n) ≡ q → m ≤ n - 1
    less true g = let s : m ≡ n = same_number m n g in let k : broken_at n bytes ≡ false = subst (λ i. broken_at i bytes ≡ false) s e in absurd (cc)
    less false g = grind (arith, nat_tests)

word_covers : (w behind : List ℕ) → IsWord w → is_broken w behind ≡ false → length w ≤ word_run (w ++ behind)
word_covers w behind h e =
    let broken : broken_at (length w) (w ++ behind) ≡ false = ap (λ (v : List ℕ). is_broken v (drop (length w) (w ++ behind))) (take-append_seam w behind) ∙ (ap (λ (v : List ℕ). is_broken w v) (drop-append_seam w behind) ∙ e) in
    kept_covers (run is_word (w ++ behind)) (length w) (w ++ behind) _ (omega (arith, run_is w behind h)) broken refl

found_word : (b : ℕ) (bs : List ℕ) → begins_comment (b ∷ bs) ≡ false → is_word b ≡ true → token_at (b ∷ bs) ≡ word_at (b ∷ bs)
found_word b bs c h = rw (c, (word_not b h).0, (word_not b h).1) refl

word_run_le : (bytes : List ℕ) → word_run bytes ≤ length bytes
word_run_le bytes = omega (arith, kept_le (broken_at (run is_word bytes) bytes) (run is_word bytes), run_le bytes)

covers_word_at : (w behind : List ℕ) → 0 < length w → IsWord w → is_broken w behind ≡ false → token_at (w ++ behind) ≡ word_at (w ++ behind) → Covers (word w) w behind
covers_word_at w behind n h e found =
    let n1 = word_run (w ++ behind) in
    let long : length w ≤ n1 = word_covers w behind h e in
    let some : (n1 == 0) ≡ false = not_zero n1 (omega arith) in (
      word (take n1 (w ++ behind)),
      drop n1 (w ++ behind),
      found ∙ rw some refl,
      omega (arith, length-drop n1 (w ++ behind), length-append w behind),
      λ same.
          let eq : n1 ≡ length w = omega (arith, length-drop n1 (w ++ behind), length-append w behind, word_run_le (w ++ behind)) in
          ap (λ (v : List ℕ). word v) (ap (λ i. take i (w ++ behind)) eq ∙ take-append_seam w behind),
    )

covers_word : (w behind : List ℕ) → 0 < length w → IsWord w → begins_comment (w ++ behind) ≡ false → is_broken w behind ≡ false → Covers (word w) w behind
covers_word [] behind n h c e = absurd (omega arith)
covers_word (b ∷ bs) behind n h c e = covers_word_at (b ∷ bs) behind n h e (found_word b (bs ++ behind) c h.0)

empty : (w : List ℕ) → length w ≡ 0 → w ≡ []
empty [] h = refl
empty (x ∷ xs) h = absurd (omega arith)

run_stops : (behind : List ℕ) → take_while is_text (34 ∷ behind) ≡ []
run_stops behind = empty (take_while is_text (34 ∷ behind)) (run_none is_text 34 behind refl)

-- strings
text_run : (inner behind : List ℕ) → AllByRecursion (λ b. IsTrue (is_text b)) inner → take_while is_text (inner ++ 34 ∷ behind) ≡ inner
text_run inner behind h = run_over is_text inner (34 ∷ behind) h ∙ (ap (λ w. inner ++ w) (run_stops behind) ∙ append-nil inner)

covers_text : (v inner behind : List ℕ) → AllByRecursion (λ b. IsTrue (is_text b)) inner → v ≡ unbroken inner → Covers (text v) (34 ∷ (inner ++ 34 ∷ [])) behind
covers_text v inner behind h e =
    let all : run is_text (inner ++ 34 ∷ behind) ≡ length inner = ap length (text_run inner behind h) in
    let rest : drop (run is_text (inner ++ 34 ∷ behind)) (inner ++ 34 ∷ behind) ≡ 34 ∷ behind = ap (λ n. drop n (inner ++ 34 ∷ behind)) all ∙ drop-append_seam inner (34 ∷ behind) in
    let front : take (run is_text (inner ++ 34 ∷ behind)) (inner ++ 34 ∷ behind) ≡ inner = ap (λ n. take n (inner ++ 34 ∷ behind)) all ∙ take-append_seam inner (34 ∷ behind) in
    let seam : (inner ++ 34 ∷ []) ++ behind ≡ inner ++ 34 ∷ behind = append_assoc inner (34 ∷ []) behind in (
      text v,
      behind,
      ap (λ w. token_at (34 ∷ w)) seam ∙ (rw (rest, front) (ap (λ (u : List ℕ). hit (text u) behind) (sym e))),
      omega arith,
      λ same. refl,
    )

covers_symbol : (s : ℕ) (behind : List ℕ) → IsTrue (is_symbol s) → Covers (symbol s) (s ∷ []) behind
covers_symbol s behind h = (symbol s, behind, rw ((symbol_not s h).1, (symbol_not s h).0, h) refl, omega arith, λ same. refl)

pub covers : (other : Token) (front behind : List ℕ) → Spells other front behind → Covers other front behind
covers (word w) front behind h =
    subst (λ v. Covers (word w) v behind) (sym h.0) (covers_word w behind h.1 h.2 h.3 h.4)
covers (text v) front behind h = subst (λ w. Covers (text v) w behind) (sym h.1) (covers_text v h.0 behind h.2 h.3)
covers (symbol s) front behind h = subst (λ w. Covers (symbol s) w behind) (sym h.0) (covers_symbol s behind h.1)
covers wrong front behind h = absurd h

-- what steps find is spelled
pub record Found (bytes : List ℕ) (t : Token) (rest : List ℕ) : Type 0 where
  pub spelled : List ℕ
  pub whole : bytes ≡ spelled ++ rest
  pub spells : Spells t spelled rest
  pub some : 0 < length spelled

moved : {bytes : List ℕ} {t u : Token} {rest more : List ℕ} → Found bytes u more → hit u more ≡ hit t rest → Found bytes t rest
moved {bytes} {t} {u} {rest} {more} f h = subst (λ r. Found bytes t r) (got h).1 (subst (λ v. Found bytes v more) (got h).0 f)

all_taken : (p : ℕ → Bool) (n : ℕ) (xs : List ℕ) → AllByRecursion (λ b. IsTrue (p b)) xs → AllByRecursion (λ b. IsTrue (p b)) (take n xs)
all_taken p zero xs h = subst (AllByRecursion (λ b. IsTrue (p b))) (sym (take_none xs)) tt
  where
    take_none : (xs : List ℕ) → take 0 xs ≡ []
    take_none [] = refl
    take_none (x ∷ xs) = refl
all_taken p (suc n) [] h = tt
all_taken p (suc n) (x ∷ xs) h = (h.0, all_taken p n xs h.1)

take_of_run : (n : ℕ) (bytes : List ℕ) → n ≤ run is_word bytes → take n bytes ≡ take n (take_while is_word bytes)
take_of_run n bytes h =
    ap (take n) (sym (split_run is_word bytes)) ∙ take-append-le n (take_while is_word bytes) (drop (run is_word bytes) bytes) h

and_false : (a : Bool) → (a && false) ≡ false
and_false true = refl
and_false false = refl

-- the last byte of a shortened word has a `\` behind it, and no line end
not_broken : (m : ℕ) (bytes : List ℕ) → m < length bytes → get_or bytes m 0 ≡ 92 → broken_at m bytes ≡ false
not_broken m bytes l h =
    ap (λ (r : List ℕ). is_broken (take m bytes) r) (drop-cons bytes m 0 l ∙ ap (λ x. x ∷ drop (suc m) bytes) h)
    ∙ and_false (ends 92 (take m bytes))

kept_unbroken : (n : ℕ) (bytes : List ℕ) → n ≤ length bytes → (q : Bool) → broken_at n bytes ≡ q → broken_at (kept q n) bytes ≡ false
kept_unbroken n bytes l false e = e
kept_unbroken zero [] l true e = absurd (cc)
kept_unbroken zero (b ∷ bs) l true e = absurd (cc)
kept_unbroken (suc m) bytes l true e =
    let last : get_or (take (suc m) bytes) (length (take (suc m) bytes) - 1) 0 ≡ 92 = same_number _ 92 (both _ _ e).0 in
    let long : length (take (suc m) bytes) ≡ suc m = length-take-le (suc m) bytes l in
    let at : length (take (suc m) bytes) - 1 ≡ m = omega (arith, long) in
    let here : get_or bytes m 0 ≡ 92 = sym (get_or-take (suc m) bytes m 0 (omega arith)) ∙ (ap (λ i. get_or (take (suc m) bytes) i 0) (sym at) ∙ last) in
    let less : suc m - 1 ≡ m = omega arith in
    subst (λ i. broken_at i bytes ≡ false) (sym less) (not_broken m bytes (omega arith) here)

sound_word : (b : ℕ) (bs : List ℕ) (t : Token) (rest : List ℕ) → begins_comment (b ∷ bs) ≡ false → word_at (b ∷ bs) ≡ Some (t, rest) → Found (b ∷ bs) t rest
sound_word b bs t rest c h =
    let n : ℕ = word_run (b ∷ bs) in
    let whole : take n (b ∷ bs) ++ drop n (b ∷ bs) ≡ b ∷ bs = take-append-drop n (b ∷ bs) in
    elim (chosen (n == 0) None (hit (word (take n (b ∷ bs))) (drop n (b ∷ bs))) (hit t rest) h) [
      | inl e ↦ absurd (cc (e.1))
      | inr e ↦
          let long : length (take n (b ∷ bs)) ≡ n = length-take-le n (b ∷ bs) (word_run_le (b ∷ bs)) in
          let some : 0 < n = some_number n e.0 in
          let all : IsWord (take n (b ∷ bs)) =
          subst IsWord (sym (take_of_run n (b ∷ bs) (kept_le (broken_at (run is_word (b ∷ bs)) (b ∷ bs)) (run is_word (b ∷ bs))))) (all_taken is_word n (take_while is_word (b ∷ bs)) (all_of_run is_word (b ∷ bs))) in
          moved (record {
            spelled = take n (b ∷ bs);
            whole = sym whole;
            spells = (refl, omega arith, all, ap begins_comment whole ∙ c, kept_unbroken (run is_word (b ∷ bs)) (b ∷ bs) (run_le (b ∷ bs)) _ refl);
            some = omega arith;
          }) e.1
    ]

sound_string : (b : ℕ) (bs : List ℕ) (t : Token) (rest : List ℕ) → (b == 34) ≡ true → string_at bs ≡ Some (t, rest) → Found (b ∷ bs) t rest
sound_string b bs t rest e h =
    let n : ℕ = run is_text bs in
    elim (chosen (begins 34 (drop n bs)) (hit (text (unbroken (take n bs))) (drop 1 (drop n bs))) None (hit t rest) h) [
      | inl f ↦
          let closes : drop n bs ≡ 34 ∷ drop 1 (drop n bs) = begins_is 34 (drop n bs) f.0 in
          let whole : bs ≡ take n bs ++ 34 ∷ drop 1 (drop n bs) = sym (take-append-drop n bs) ∙ ap (λ (w : List ℕ). take n bs ++ w) closes in
          let all : AllByRecursion (λ c. IsTrue (is_text c)) (take n bs) = subst (AllByRecursion (λ c. IsTrue (is_text c))) (sym (taken_run is_text bs)) (all_of_run is_text bs) in
          moved (record {
            spelled = 34 ∷ (take n bs ++ 34 ∷ []);
            whole = ap (λ x. x ∷ bs) (same_number b 34 e) ∙ ap (λ w. 34 ∷ w) (whole ∙ sym (append_assoc (take n bs) (34 ∷ []) (drop 1 (drop n bs))));
            spells = (take n bs, refl, all, refl);
            some = omega arith;
          }) f.1
      | inr f ↦ absurd (cc (f.1))
    ]

abbrev symbol_step : ℕ → List ℕ → Option (Token × List ℕ)
symbol_step b bs = cond (is_symbol b) (hit (symbol b) bs) (word_at (b ∷ bs))

abbrev string_step : ℕ → List ℕ → Option (Token × List ℕ)
string_step b bs = cond (b == 34) (string_at bs) (symbol_step b bs)

pub sound : (bytes : List ℕ) (t : Token) (rest : List ℕ) → token_at bytes ≡ Some (t, rest) → Found bytes t rest
sound [] t rest h = absurd (cc)
sound (b ∷ bs) t rest h =
    elim (chosen ((b == 47) && begins 42 bs) None (string_step b bs) (hit t rest) h) [
      | inl e ↦ absurd (cc (e.1))
      | inr e ↦
          elim (chosen (b == 34) (string_at bs) (symbol_step b bs) (hit t rest) e.1) [
            | inl f ↦ sound_string b bs t rest f.0 f.1
            | inr f ↦
                elim (chosen (is_symbol b) (hit (symbol b) bs) (word_at (b ∷ bs)) (hit t rest) f.1) [
                  | inl g ↦ moved (record { spelled = b ∷ []; whole = refl; spells = (refl, g.0); some = omega arith }) g.1
                  | inr g ↦ sound_word b bs t rest e.0 g.1
                ]
          ]
    ]

-- what stands behind a token is shorter
pub token_shorter : (bytes : List ℕ) (found : Hit) → token_at bytes ≡ Some found → length found.1 < length bytes
token_shorter bytes found h = let f = sound bytes found.0 found.1 h in omega (arith, ap length f.whole, length-append f.spelled found.1, f.some)

-- the token that steps find is the longest
pub found_first : (bytes : List ℕ) (t : Token) (rest : List ℕ) → token_at bytes ≡ Some (t, rest) → First bytes t rest
found_first bytes t rest h =
    let f = sound bytes t rest h in
    record {
      spelled = f.spelled;
      whole = f.whole;
      spells = f.spells;
      longest = λ other front behind e s.
          let c = covers other front behind s in
          let same : hit c.0 c.1 ≡ hit t rest = sym c.2 ∙ (ap token_at (sym e) ∙ h) in
          omega (arith, c.3, ap length (got same).1, ap length e, ap length f.whole, length-append front behind, length-append f.spelled rest);
    }

-- the longest token is the one that steps find
pub first_found : (bytes : List ℕ) (t : Token) (rest : List ℕ) → First bytes t rest → token_at bytes ≡ Some (t, rest)
first_found bytes t rest f =
    let c = covers t f.spelled rest f.spells in
    let here : token_at bytes ≡ hit c.0 c.1 = ap token_at f.whole ∙ c.2 in
    let s = sound bytes c.0 c.1 here in
    let long = f.longest c.0 s.spelled c.1 s.whole s.spells in
    let even : length c.1 ≡ length rest = omega (arith, c.3, ap length f.whole, ap length s.whole, length-append f.spelled rest, length-append s.spelled c.1, long) in
    let fronts : s.spelled ++ c.1 ≡ f.spelled ++ rest = sym s.whole ∙ f.whole in
    let rests : c.1 ≡ rest = same_end s.spelled f.spelled c.1 rest fronts even in
    here ∙ ap (λ (p : Hit). Some p) (let e : c.0 ≡ t = c.4 even in cc)
  where
    same_end : (u v x y : List ℕ) → u ++ x ≡ v ++ y → length x ≡ length y → x ≡ y
    same_end [] [] x y e l = e
    same_end [] (b ∷ bs) x y e l = absurd (omega (arith, ap length e, length-append bs y))
    same_end (b ∷ bs) [] x y e l = absurd (omega (arith, ap length e, length-append bs x))
    same_end (b ∷ bs) (c ∷ cs) x y e l = same_end bs cs x y (cc) l
