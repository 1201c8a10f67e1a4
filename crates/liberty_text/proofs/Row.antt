-- The tokens of a text and its cuts.
use Rattle.std.proofs.Common.{◌≡◌, ◌≢◌, ◌==◌, ◌≤◌, ◌++◌, ◌&&◌, not, ℕ, zero, suc, Bool, true, false, length, List, [], ◌∷◌, Option, Some, None, refl, sym, ap, ◌∙◌, subst, inl, inr, IsTrue, arith}
use Rattle.std.specs.List.{AllByRecursion}
use Rattle.std.specs.Option.{option_map}
use Rattle.std.proofs.lemmas.Bool.Decides.{nat_tests}
use Rattle.liberty_text.specs.Bytes.{is_word, is_symbol, is_blank, line_end, begins_comment}
use Rattle.liberty_text.specs.Cuts.{Token, word, text, symbol, wrong, is_broken, Spells, First, Cuts, nothing, blank, line, comment, token}
use Rattle.liberty_text.specs.First.{gap_at, token_at}
use Rattle.liberty_text.specs.Row.{row_of_gap, row_of_token}
use Rattle.liberty_text.specs.Tokens.{tokens_of, front_of, is_nil, IsWhole}
use Rattle.liberty_text.proofs.Gaps.{IsGap, not_zero, gap_found, found_gap, gap_shorter}
use Rattle.liberty_text.proofs.Longest.{Hit, sound, token_shorter, found_first, first_found}
use Rattle.liberty_text.proofs.Rows.{Shrinks, row_is}

shrinks : Shrinks gap_at token_at
shrinks = record { gaps = gap_shorter; tokens = token_shorter }

tokens_are : (bytes : List ℕ) → tokens_of bytes ≡ row_of_gap wrong tokens_of bytes (gap_at bytes) (token_at bytes)
unfolding tokens_of
tokens_are bytes = row_is wrong gap_at token_at shrinks bytes

pub over_gap : (bytes rest : List ℕ) → gap_at bytes ≡ Some rest → tokens_of rest ≡ tokens_of bytes
over_gap bytes rest h = sym (tokens_are bytes ∙ ap (λ o. row_of_gap wrong tokens_of bytes o (token_at bytes)) h)

no_gap : (bytes : List ℕ) → gap_at bytes ≡ None → tokens_of bytes ≡ row_of_token wrong tokens_of bytes (token_at bytes)
no_gap bytes h = tokens_are bytes ∙ ap (λ o. row_of_gap wrong tokens_of bytes o (token_at bytes)) h

over_token : (bytes rest : List ℕ) (t : Token) → gap_at bytes ≡ None → token_at bytes ≡ Some (t, rest) → tokens_of bytes ≡ t ∷ tokens_of rest
over_token bytes rest t h k = no_gap bytes h ∙ ap (row_of_token wrong tokens_of bytes) k

-- no token begins as a gap does
word_no_gap : (b : ℕ) (bs behind : List ℕ) → AllByRecursion (λ c. IsTrue (is_word c)) (b ∷ bs) → begins_comment (b ∷ (bs ++ behind)) ≡ false → is_broken (b ∷ bs) behind ≡ false → gap_at (b ∷ (bs ++ behind)) ≡ None
word_no_gap b bs behind h c e = breaks (b == 92) refl
  where
    not_blank : (b : ℕ) → IsTrue (is_word b) → is_blank b ≡ false
    not_blank b h = grind (arith, nat_tests)

    no_line : (b : ℕ) (bs : List ℕ) → IsTrue (is_word b) → line_end (b ∷ bs) ≡ 0
    no_line b bs h = let e : (b == 10) ≡ false = grind (arith, nat_tests) in let f : (b == 13) ≡ false = grind (arith, nat_tests) in rw (e, f) refl

    zero_so : (n : ℕ) → (true && not (n == 0)) ≡ false → (n == 0) ≡ true
    zero_so n h = grind (arith, nat_tests)

    alone : (b : ℕ) (behind : List ℕ) → (b == 92) ≡ true → is_broken (b ∷ []) behind ≡ false → (line_end behind == 0) ≡ true
    alone b behind e f = zero_so (line_end behind) (ap (λ q. q && not (line_end behind == 0)) (sym e) ∙ f)

    ends_none : (b : ℕ) (bs behind : List ℕ) → (b == 92) ≡ true → AllByRecursion (λ c. IsTrue (is_word c)) bs → is_broken (b ∷ bs) behind ≡ false → (line_end (bs ++ behind) == 0) ≡ true
    ends_none b [] behind e h f = alone b behind e f
    ends_none b (d ∷ ds) behind e h f = ap (λ n. n == 0) (no_line d (ds ++ behind) h.0)

    breaks : (q : Bool) → (b == 92) ≡ q → gap_at (b ∷ (bs ++ behind)) ≡ None
    breaks true k = rw (c, k, ends_none b bs behind k h.1 e) refl
    breaks false k = rw (c, k, not_blank b h.0) refl

spelled_no_gap : (t : Token) (spelled behind : List ℕ) → Spells t spelled behind → gap_at (spelled ++ behind) ≡ None
spelled_no_gap (word []) spelled behind h = absurd (omega (arith, h.1))
spelled_no_gap (word (b ∷ bs)) spelled behind h = ap (λ w. gap_at (w ++ behind)) h.0 ∙ word_no_gap b bs behind h.2 h.3 h.4
spelled_no_gap (text v) spelled behind h = ap (λ w. gap_at (w ++ behind)) h.1
spelled_no_gap (symbol s) spelled behind h = ap (λ w. gap_at (w ++ behind)) h.0 ∙ none s behind h.1
  where
    none : (s : ℕ) (behind : List ℕ) → IsTrue (is_symbol s) → gap_at (s ∷ behind) ≡ None
    none s behind h =
        let e : (s == 47) ≡ false = grind (arith, nat_tests) in
        let f : (s == 92) ≡ false = grind (arith, nat_tests) in
        let g : is_blank s ≡ false = grind (arith, nat_tests) in
        rw (e, f, g) refl
spelled_no_gap wrong spelled behind h = absurd h

first_no_gap : (bytes rest : List ℕ) (t : Token) → First bytes t rest → gap_at bytes ≡ None
first_no_gap bytes rest t f = ap gap_at f.whole ∙ spelled_no_gap t f.spelled rest f.spells

-- a text that is cut has these tokens
pub cut_tokens : {bytes : List ℕ} {ts : List Token} → Cuts bytes ts → tokens_of bytes ≡ ts
cut_tokens nothing = tokens_are []
cut_tokens {bytes} (blank {rest = r} g c) = sym (over_gap bytes r (gap_found bytes r (inl g))) ∙ cut_tokens c
cut_tokens {bytes} (line {rest = r} g c) = sym (over_gap bytes r (gap_found bytes r (inr (inl g)))) ∙ cut_tokens c
cut_tokens {bytes} (comment {rest = r} g c) = sym (over_gap bytes r (gap_found bytes r (inr (inr g)))) ∙ cut_tokens c
cut_tokens {bytes} (token {rest = r} {t = t} f c) = over_token bytes r t (first_no_gap bytes r t f) (first_found bytes t r f) ∙ ap (λ us. t ∷ us) (cut_tokens c)

spelled_token : (t : Token) (spelled rest : List ℕ) → Spells t spelled rest → t ≢ wrong
spelled_token (word w) spelled rest h = λ e. cc
spelled_token (text w) spelled rest h = λ e. cc
spelled_token (symbol w) spelled rest h = λ e. cc
spelled_token wrong spelled rest h = absurd h

-- the tokens of a cut are no wrong pieces
pub cut_whole : {bytes : List ℕ} {ts : List Token} → Cuts bytes ts → IsWhole ts
cut_whole nothing = tt
cut_whole (blank g c) = cut_whole c
cut_whole (line g c) = cut_whole c
cut_whole (comment g c) = cut_whole c
cut_whole {bytes} (token {rest = r} {t = t} f c) = (spelled_token t f.spelled r f.spells, cut_whole c)

between : {bytes rest : List ℕ} {ts : List Token} → IsGap bytes rest → Cuts rest ts → Cuts bytes ts
between (inl g) c = blank g c
between (inr (inl g)) c = line g c
between (inr (inr g)) c = comment g c

cut_step : (n : ℕ) (again : (rest : List ℕ) → length rest ≤ n → IsWhole (tokens_of rest) → Cuts rest (tokens_of rest)) (bytes : List ℕ) → length bytes ≤ suc n → IsWhole (tokens_of bytes) → (o : Option (List ℕ)) → gap_at bytes ≡ o → (p : Option Hit) → token_at bytes ≡ p → Cuts bytes (tokens_of bytes)
cut_step n again bytes l w (Some rest) e p f =
    let same = over_gap bytes rest e in
    subst (Cuts bytes) same (between (found_gap bytes rest e) (again rest (omega (arith, gap_shorter bytes rest e)) (subst IsWhole (sym same) w)))
cut_step n again bytes l w None e (Some found) f =
    let same = over_token bytes found.1 found.0 e f in
    subst (Cuts bytes) (sym same) (token (found_first bytes found.0 found.1 f) (again found.1 (omega (arith, token_shorter bytes found f)) (subst IsWhole same w).1))
cut_step n again [] l w None e None f = subst (Cuts []) (sym (tokens_are [])) nothing
cut_step n again (b ∷ bs) l w None e None f =
    let same : tokens_of (b ∷ bs) ≡ wrong ∷ [] = no_gap (b ∷ bs) e ∙ ap (row_of_token wrong tokens_of (b ∷ bs)) f in
    absurd ((subst IsWhole same w).0 refl)

cut_below : (n : ℕ) (bytes : List ℕ) → length bytes ≤ n → IsWhole (tokens_of bytes) → Cuts bytes (tokens_of bytes)
cut_below zero [] l w = subst (Cuts []) (sym (tokens_are [])) nothing
cut_below zero (b ∷ bs) l w = absurd (omega arith)
cut_below (suc n) bytes l w = cut_step n (cut_below n) bytes l w (gap_at bytes) refl (token_at bytes) refl

-- a text without wrong pieces is cut into its tokens
pub tokens_cut : (bytes : List ℕ) → IsWhole (tokens_of bytes) → Cuts bytes (tokens_of bytes)
tokens_cut bytes w = cut_below (length bytes) bytes (omega arith) w

-- the first token of a text that begins with no gap
abbrev with_tokens : Option Hit → Option (Token × List Token)
with_tokens o = option_map (λ (p : Hit). (p.0, tokens_of p.1)) o

front_case : (bytes : List ℕ) → gap_at bytes ≡ None → (p : Option Hit) → token_at bytes ≡ p → front_of (tokens_of bytes) ≡ with_tokens p
front_case bytes h (Some (word w, rest)) e = ap front_of (over_token bytes rest (word w) h e)
front_case bytes h (Some (text w, rest)) e = ap front_of (over_token bytes rest (text w) h e)
front_case bytes h (Some (symbol w, rest)) e = ap front_of (over_token bytes rest (symbol w) h e)
front_case bytes h (Some (wrong, rest)) e = absurd ((sound bytes wrong rest e).spells)
front_case [] h None e = ap front_of (tokens_are [])
front_case (b ∷ bs) h None e = ap front_of (no_gap (b ∷ bs) h ∙ ap (row_of_token wrong tokens_of (b ∷ bs)) e)

pub front_is : (bytes : List ℕ) → gap_at bytes ≡ None → with_tokens (token_at bytes) ≡ front_of (tokens_of bytes)
front_is bytes h = sym (front_case bytes h (token_at bytes) refl)

abbrev hit_of : Token → List ℕ → Hit
hit_of t rest = (t, rest)

abbrev both_of : Token → List Token → Token × List Token
both_of t ts = (t, ts)

pub mapped : {X : Type 0} (f : X → Token) (g : X → List ℕ) (o : Option X) (p : Option Hit) → option_map (λ (x : X). hit_of (f x) (g x)) o ≡ p → option_map (λ (x : X). both_of (f x) (tokens_of (g x))) o ≡ with_tokens p
mapped f g (Some x) p e = ap with_tokens e
mapped f g None p e = ap with_tokens e

nil_case : (bytes : List ℕ) → gap_at bytes ≡ None → (p : Option Hit) → token_at bytes ≡ p → is_nil (tokens_of bytes) ≡ (length bytes == 0)
nil_case bytes h (Some found) e = ap is_nil (over_token bytes found.1 found.0 h e) ∙ sym (not_zero (length bytes) (omega (arith, token_shorter bytes found e)))
nil_case [] h None e = ap is_nil (tokens_are [])
nil_case (b ∷ bs) h None e = ap is_nil (no_gap (b ∷ bs) h ∙ ap (row_of_token wrong tokens_of (b ∷ bs)) e) ∙ sym (not_zero (length (b ∷ bs)) (omega arith))

pub nil_is : (bytes : List ℕ) → gap_at bytes ≡ None → is_nil (tokens_of bytes) ≡ (length bytes == 0)
nil_is bytes h = nil_case bytes h (token_at bytes) refl
