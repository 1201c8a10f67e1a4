-- Gaps: what the function reads is one, and each is read.
use Rattle.std.proofs.Common.{◌≡◌, ◌≢◌, ◌==◌, ◌<◌, ◌++◌, ◌&&◌, ◌||◌, ◌⊎◌, ℕ, Bool, true, false, cond, length, take, drop, List, [], ◌∷◌, Option, Some, None, refl, sym, ap, ◌∙◌, subst, inl, inr, IsTrue, arith, length-append, length-drop}
use Rattle.std.specs.List.{take_while, list_all, list_any}
use Rattle.std.specs.Str.{bytes_eq}
use Rattle.std.proofs.lemmas.Bool.Decides.{nat_tests}
use Rattle.std.proofs.lemmas.List.{take-append-drop}
use Rattle.std.proofs.lemmas.Slice.Eq.{bytes_eq-Decides}
use Rattle.small_text.specs.Bytes.{is_word, is_blank}
use Rattle.small_text.specs.Cuts.{Blank}
use Rattle.small_text.specs.First.{run, begins}
use Rattle.small_text.proofs.ByteKinds.{chosen, both, either, same_number, begins_is, all_pass}
use Rattle.small_text.proofs.Runs.{AllOf, run_first, run_none, all_of_run, split_run, taken_run, run_le, run_seam, run_front, run_rest}
use Rattle.verilog_tokens.specs.Bytes.{is_in_line, is_in_directive, directives, is_directive}
use Rattle.verilog_tokens.specs.Cuts.{EndsLine, LineComment, BlockComment, EndsWord, Directive, Gap, blank, line_comment, block_comment, directive}
use Rattle.verilog_tokens.specs.Gaps.{behind_close, ends_line, within, directive_rest, directive_at, comment_at, gap_at}

-- the first `*/`
close_here : (b : ℕ) (bs rest : List ℕ) → ((front behind : List ℕ) → (b ∷ bs) ++ 42 ∷ [] ≢ front ++ 42 ∷ 47 ∷ behind) → (b == 42) ≡ true → begins 47 (bs ++ 42 ∷ 47 ∷ rest) ≡ true → ⊥
close_here b [] rest h e f = absurd (cc)
close_here b (c ∷ cs) rest h e f = h [] (cs ++ 42 ∷ []) (ap (λ x. x ∷ c ∷ (cs ++ 42 ∷ [])) (same_number b 42 e) ∙ ap (λ x. 42 ∷ x ∷ (cs ++ 42 ∷ [])) (same_number c 47 f))

close_step : (b : ℕ) (bs rest : List ℕ) → ((front behind : List ℕ) → (b ∷ bs) ++ 42 ∷ [] ≢ front ++ 42 ∷ 47 ∷ behind)
    → (((front behind : List ℕ) → bs ++ 42 ∷ [] ≢ front ++ 42 ∷ 47 ∷ behind) → behind_close (bs ++ 42 ∷ 47 ∷ rest) ≡ Some rest)
    → (q : Bool) → ((b == 42) && begins 47 (bs ++ 42 ∷ 47 ∷ rest)) ≡ q → behind_close ((b ∷ bs) ++ 42 ∷ 47 ∷ rest) ≡ Some rest
close_step b bs rest h more true e = absurd (close_here b bs rest h (both _ _ e).0 (both _ _ e).1)
close_step b bs rest h more false e = rw e (more (λ u v k. h (b ∷ u) v (ap (λ w. b ∷ w) k)))

close_first : (text rest : List ℕ) → ((front behind : List ℕ) → text ++ 42 ∷ [] ≢ front ++ 42 ∷ 47 ∷ behind) → behind_close (text ++ 42 ∷ 47 ∷ rest) ≡ Some rest
close_first [] rest h = refl
close_first (b ∷ bs) rest h = close_step b bs rest h (λ k. close_first bs rest k) ((b == 42) && begins 47 (bs ++ 42 ∷ 47 ∷ rest)) refl

record Closed (bytes rest : List ℕ) : Type 0 where
  text : List ℕ
  whole : bytes ≡ text ++ 42 ∷ 47 ∷ rest
  inside : (front behind : List ℕ) → text ++ 42 ∷ [] ≢ front ++ 42 ∷ 47 ∷ behind

closed_at : (b : ℕ) (bs text rest behind : List ℕ) → bs ≡ text ++ 42 ∷ 47 ∷ rest → ((b == 42) && begins 47 bs) ≡ false → b ≡ 42 → text ++ 42 ∷ [] ≡ 47 ∷ behind → ⊥
closed_at b bs [] rest behind w e f k = absurd (cc)
closed_at b bs (c ∷ cs) rest behind w e f k =
    let g : c ≡ 47 = cc in
    let again : ((42 == 42) && begins 47 (47 ∷ (cs ++ 42 ∷ 47 ∷ rest))) ≡ false = subst (λ x. ((42 == 42) && begins 47 (x ∷ (cs ++ 42 ∷ 47 ∷ rest))) ≡ false) g (subst (λ x. ((x == 42) && begins 47 (c ∷ (cs ++ 42 ∷ 47 ∷ rest))) ≡ false) f (subst (λ v. ((b == 42) && begins 47 v) ≡ false) w e)) in
    absurd (cc)

closed_here : (b : ℕ) (bs text rest : List ℕ) → bs ≡ text ++ 42 ∷ 47 ∷ rest → ((front behind : List ℕ) → text ++ 42 ∷ [] ≢ front ++ 42 ∷ 47 ∷ behind) → ((b == 42) && begins 47 bs) ≡ false
    → (front behind : List ℕ) → (b ∷ text) ++ 42 ∷ [] ≢ front ++ 42 ∷ 47 ∷ behind
closed_here b bs text rest w h e [] behind k = closed_at b bs text rest behind w e (cc) (cc)
closed_here b bs text rest w h e (f ∷ fs) behind k = h fs behind (cc)

closed : (bytes rest : List ℕ) → behind_close bytes ≡ Some rest → Closed bytes rest
closed [] rest h = absurd (cc)
closed (b ∷ bs) rest h = elim (chosen ((b == 42) && begins 47 bs) (Some (drop 1 bs)) (behind_close bs) (Some rest) h) [
  | inl e ↦ record {
    text = [];
    whole = let f : drop 1 bs ≡ rest = cc (e.1) in ap (λ x. x ∷ bs) (same_number b 42 (both _ _ e.0).0) ∙ (ap (λ w. 42 ∷ w) (begins_is 47 bs (both _ _ e.0).1) ∙ ap (λ w. 42 ∷ 47 ∷ w) f);
    inside = λ front behind k. omega (arith, ap length k, length-append front (42 ∷ 47 ∷ behind));
  }
  | inr e ↦ let c = closed bs rest e.1 in record {
    text = b ∷ c.text;
    whole = ap (λ w. b ∷ w) c.whole;
    inside = λ front behind k. closed_here b bs c.text rest c.whole c.inside e.0 front behind k;
  }
]

-- a run leaves bytes that do not go on with it
run_ended : (kind : ℕ → Bool) (bytes : List ℕ) → run kind (drop (run kind bytes) bytes) ≡ 0
run_ended kind bytes =
    let rest = drop (run kind bytes) bytes in
    let whole : drop (run kind bytes) bytes ≡ drop (run kind rest) rest = sym (ap (λ w. drop (run kind w) w) (split_run kind bytes)) ∙ run_seam kind (take_while kind bytes) rest (all_of_run kind bytes) in
    omega (arith, ap length whole, length-drop (run kind rest) rest, run_le kind rest)

no_run_case : (kind : ℕ → Bool) (b : ℕ) (bs : List ℕ) (q : Bool) → kind b ≡ q → run kind (b ∷ bs) ≡ 0 → q ≡ false
no_run_case kind b bs true e h = absurd (omega (arith, h, ap length (run_first kind b bs e)))
no_run_case kind b bs false e h = refl

-- where no run begins, the byte is of another kind
no_run : (kind : ℕ → Bool) (b : ℕ) (bs : List ℕ) → run kind (b ∷ bs) ≡ 0 → kind b ≡ false
no_run kind b bs h = no_run_case kind b bs (kind b) refl h

line_ended : (bytes : List ℕ) → EndsLine bytes → run is_in_line bytes ≡ 0
line_ended [] h = refl
line_ended (b ∷ bs) h = run_none is_in_line b bs (grind (arith, nat_tests))

directive_ended : (bytes : List ℕ) → EndsLine bytes → run is_in_directive bytes ≡ 0
directive_ended [] h = refl
directive_ended (b ∷ bs) h = run_none is_in_directive b bs (grind (arith, nat_tests))

word_ended : (bytes : List ℕ) → EndsWord bytes → run is_word bytes ≡ 0
word_ended [] h = refl
word_ended (b ∷ bs) h = run_none is_word b bs h

end_of : (b : ℕ) → is_in_line b ≡ false → b ≡ 10
end_of b h = grind (arith, nat_tests)

ended_line : (bytes : List ℕ) → run is_in_line bytes ≡ 0 → EndsLine bytes
ended_line [] h = tt
ended_line (b ∷ bs) h = end_of b (no_run is_in_line b bs h)

ended_word : (bytes : List ℕ) → run is_word bytes ≡ 0 → EndsWord bytes
ended_word [] h = tt
ended_word (b ∷ bs) h = no_run is_word b bs h

test_ends : (bytes : List ℕ) → ends_line bytes ≡ true → EndsLine bytes
test_ends [] h = tt
test_ends (b ∷ bs) h = same_number b 10 h

ends_test : (bytes : List ℕ) → EndsLine bytes → ends_line bytes ≡ true
ends_test [] h = refl
ends_test (b ∷ bs) h = rw h refl

-- a directive's word is a word
words_among : (words : List (List ℕ)) (w : List ℕ) → list_all (list_all is_word) words ≡ true → list_any (λ k. bytes_eq k w) words ≡ true → list_all is_word w ≡ true
words_among [] w all h = absurd (cc)
words_among (k ∷ ks) w all h =
    let parts = both (list_all is_word k) (list_all (list_all is_word) ks) all in
    elim (either (bytes_eq k w) (list_any (λ v. bytes_eq v w) ks) h) [
      | inl e ↦ ap (list_all is_word) (sym ((bytes_eq-Decides k w).0 e)) ∙ parts.0
      | inr e ↦ words_among ks w parts.1 e
    ]

directive_word : (w : List ℕ) → IsTrue (is_directive w) → AllOf is_word w
directive_word w h = all_pass is_word w (words_among directives w refl h)

-- the line that is read over is read
directive_found : (bytes rest : List ℕ) (word text : List ℕ) → bytes ≡ word ++ (text ++ rest) → IsTrue (is_directive word) → EndsWord (text ++ rest) → AllOf is_in_directive text → EndsLine rest → directive_at bytes ≡ Some rest
directive_found bytes rest word text whole known apart inside ended =
    let ends : run is_word (text ++ rest) ≡ 0 = word_ended (text ++ rest) apart in
    let all = directive_word word known in
    let front : take (run is_word (word ++ (text ++ rest))) (word ++ (text ++ rest)) ≡ word = run_front is_word word (text ++ rest) all ends in
    let tail : drop (run is_word (word ++ (text ++ rest))) (word ++ (text ++ rest)) ≡ text ++ rest = run_rest is_word word (text ++ rest) all ends in
    let behind : drop (run is_in_directive (text ++ rest)) (text ++ rest) ≡ rest = run_rest is_in_directive text rest inside (directive_ended rest ended) in
    let last : directive_rest (word ++ (text ++ rest)) ≡ rest = ap (λ w. drop (run is_in_directive w) w) tail ∙ behind in
    ap directive_at whole ∙ rw (front, last, known, ends_test rest ended) refl

-- and what is read is one
found_directive : (b : ℕ) (bytes rest : List ℕ) → b ≡ 96 → directive_at bytes ≡ Some rest → Directive (b ∷ bytes) rest
found_directive b bytes rest e h =
    let word = take (run is_word bytes) bytes in
    let tail = drop (run is_word bytes) bytes in
    elim (chosen (is_directive word && ends_line (directive_rest bytes)) (Some (directive_rest bytes)) None (Some rest) h) [
      | inl f ↦
          let parts = both (is_directive word) (ends_line (directive_rest bytes)) f.0 in
          let same : directive_rest bytes ≡ rest = cc (f.1) in
          let text = take (run is_in_directive tail) tail in
          let split : tail ≡ text ++ rest = sym (take-append-drop (run is_in_directive tail) tail) ∙ ap (λ w. text ++ w) same in
          record {
            word = word;
            text = text;
            whole = ap (λ x. x ∷ bytes) e ∙ ap (λ w. 96 ∷ w) (sym (take-append-drop (run is_word bytes) bytes) ∙ ap (λ w. word ++ w) split);
            known = parts.0;
            apart = subst EndsWord split (ended_word tail (run_ended is_word bytes));
            inside = subst (AllOf is_in_directive) (sym (taken_run is_in_directive tail)) (all_of_run is_in_directive tail);
            ended = subst EndsLine same (test_ends (directive_rest bytes) parts.1);
          }
      | inr f ↦ absurd (cc (f.1))
    ]

-- a comment that stands there is read
line_found : (bytes rest text : List ℕ) → bytes ≡ 47 ∷ (text ++ rest) → AllOf is_in_line text → EndsLine rest → comment_at bytes ≡ Some rest
line_found bytes rest text whole inside ended =
    let behind : drop (run is_in_line (text ++ rest)) (text ++ rest) ≡ rest = run_rest is_in_line text rest inside (line_ended rest ended) in
    ap comment_at whole ∙ ap (λ w. Some w) behind

block_found : (bytes rest text : List ℕ) → bytes ≡ 42 ∷ (text ++ 42 ∷ 47 ∷ rest) → ((front behind : List ℕ) → text ++ 42 ∷ [] ≢ front ++ 42 ∷ 47 ∷ behind) → comment_at bytes ≡ Some rest
block_found bytes rest text whole inside = ap comment_at whole ∙ close_first text rest inside

-- and what is read is one
found_comment : (b : ℕ) (bytes rest : List ℕ) → b ≡ 47 → comment_at bytes ≡ Some rest → LineComment (b ∷ bytes) rest ⊎ BlockComment (b ∷ bytes) rest
found_comment b bytes rest e h =
    elim (chosen (begins 47 bytes) (Some (drop (run is_in_line (drop 1 bytes)) (drop 1 bytes))) (cond (begins 42 bytes) (behind_close (drop 1 bytes)) None) (Some rest) h) [
      | inl f ↦
          let same : drop (run is_in_line (drop 1 bytes)) (drop 1 bytes) ≡ rest = cc (f.1) in
          inl (record {
            text = take (run is_in_line (drop 1 bytes)) (drop 1 bytes);
            whole = ap (λ x. x ∷ bytes) e ∙ (ap (λ w. 47 ∷ w) (begins_is 47 bytes f.0) ∙ ap (λ w. 47 ∷ 47 ∷ w) (sym (take-append-drop (run is_in_line (drop 1 bytes)) (drop 1 bytes)) ∙ ap (λ w. take (run is_in_line (drop 1 bytes)) (drop 1 bytes) ++ w) same));
            inside = subst (AllOf is_in_line) (sym (taken_run is_in_line (drop 1 bytes))) (all_of_run is_in_line (drop 1 bytes));
            ended = subst EndsLine same (ended_line _ (run_ended is_in_line (drop 1 bytes)));
          })
      | inr f ↦ elim (chosen (begins 42 bytes) (behind_close (drop 1 bytes)) None (Some rest) f.1) [
        | inl g ↦
            let c = closed (drop 1 bytes) rest g.1 in
            inr (record {
              text = c.text;
              whole = ap (λ x. x ∷ bytes) e ∙ (ap (λ w. 47 ∷ w) (begins_is 42 bytes g.0) ∙ ap (λ w. 47 ∷ 42 ∷ w) c.whole);
              inside = c.inside;
            })
        | inr g ↦ absurd (cc (g.1))
      ]
    ]

-- what is read of a gap
abbrev pub Behind : Type 0
Behind = Bool × List ℕ

abbrev pub behind_gap : Bool → List ℕ → Option Behind
behind_gap begins rest = Some (begins, rest)

pub same_gap : (q p : Bool) (r s : List ℕ) → behind_gap q r ≡ behind_gap p s → (q ≡ p) × (r ≡ s)
same_gap q p r s h =
    let a : Behind = (q, r) in
    let b : Behind = (p, s) in
    let e : a ≡ b = cc in
    (ap (λ (v : Behind). v.0) e, ap (λ (v : Behind). v.1) e)

within_is : (o : Option (List ℕ)) (behind : Bool) (rest : List ℕ) → within o ≡ behind_gap behind rest → (o ≡ Some rest) × (behind ≡ false)
within_is None behind rest h = absurd (cc)
within_is (Some r) behind rest h = let e = same_gap false behind r rest h in (ap (λ w. Some w) e.1, sym e.0)

moved : (line behind q : Bool) (bytes rest r : List ℕ) → q ≡ behind → r ≡ rest → Gap line bytes q r → Gap line bytes behind rest
moved line behind q bytes rest r e f g = subst (λ s. Gap line bytes behind s) f (subst (λ p. Gap line bytes p r) e g)

comment_gap : (line behind : Bool) (bytes rest : List ℕ) → behind ≡ false → LineComment bytes rest ⊎ BlockComment bytes rest → Gap line bytes behind rest
comment_gap line behind bytes rest e (inl c) = line_comment c e
comment_gap line behind bytes rest e (inr c) = block_comment c e

-- what is read is a gap
pub gap_so : (line : Bool) (bytes : List ℕ) (behind : Bool) (rest : List ℕ) → gap_at line bytes ≡ Some (behind, rest) → Gap line bytes behind rest
gap_so line [] behind rest h = absurd (cc)
gap_so line (b ∷ bs) behind rest h =
    elim (chosen (is_blank b) (behind_gap (line || (b == 10)) bs) (cond (b == 47) (within (comment_at bs)) (cond ((b == 96) && line) (within (directive_at bs)) None)) (behind_gap behind rest) h) [
      | inl e ↦
          let same = same_gap (line || (b == 10)) behind bs rest e.1 in
          blank (record { byte = b; whole = ap (λ w. b ∷ w) same.1; blank = e.0 }) (sym same.0)
      | inr e ↦ elim (chosen (b == 47) (within (comment_at bs)) (cond ((b == 96) && line) (within (directive_at bs)) None) (behind_gap behind rest) e.1) [
        | inl f ↦
            let w = within_is (comment_at bs) behind rest f.1 in
            comment_gap line behind (b ∷ bs) rest w.1 (found_comment b bs rest (same_number b 47 f.0) w.0)
        | inr f ↦ elim (chosen ((b == 96) && line) (within (directive_at bs)) None (behind_gap behind rest) f.1) [
          | inl g ↦
              let w = within_is (directive_at bs) behind rest g.1 in
              let parts = both (b == 96) line g.0 in
              directive (found_directive b bs rest (same_number b 96 parts.0) w.0) parts.1 w.1
          | inr g ↦ absurd (cc (g.1))
        ]
      ]
    ]

blank_gap : (line : Bool) (bytes rest : List ℕ) (g : Blank bytes rest) → gap_at line bytes ≡ behind_gap (line || (g.byte == 10)) rest
blank_gap line bytes rest g = ap (gap_at line) g.whole ∙ rw (g.blank) refl

-- a gap is read
pub so_gap : (line : Bool) (bytes : List ℕ) (behind : Bool) (rest : List ℕ) → Gap line bytes behind rest → gap_at line bytes ≡ Some (behind, rest)
so_gap line bytes behind rest (blank g e) = blank_gap line bytes rest g ∙ ap (λ p. behind_gap p rest) (sym e)
so_gap line bytes behind rest (line_comment c e) =
    ap (gap_at line) c.whole ∙ (ap within (line_found (47 ∷ (c.text ++ rest)) rest c.text refl c.inside c.ended) ∙ ap (λ p. behind_gap p rest) (sym e))
so_gap line bytes behind rest (block_comment c e) =
    ap (gap_at line) c.whole ∙ (ap within (block_found (42 ∷ (c.text ++ 42 ∷ 47 ∷ rest)) rest c.text refl c.inside) ∙ ap (λ p. behind_gap p rest) (sym e))
so_gap line bytes behind rest (directive d e f) =
    ap (gap_at line) d.whole
    ∙ (ap (λ q. cond q (within (directive_at (d.word ++ (d.text ++ rest)))) None) e
    ∙ (ap within (directive_found (d.word ++ (d.text ++ rest)) rest d.word d.text refl d.known d.apart d.inside d.ended) ∙ ap (λ p. behind_gap p rest) (sym f)))

-- what stands behind a gap is shorter
shorter : (line : Bool) (bytes : List ℕ) (behind : Bool) (rest : List ℕ) → Gap line bytes behind rest → length rest < length bytes
shorter line bytes behind rest (blank g e) = omega (arith, ap length g.whole)
shorter line bytes behind rest (line_comment c e) = omega (arith, ap length c.whole, length-append c.text rest)
shorter line bytes behind rest (block_comment c e) = omega (arith, ap length c.whole, length-append c.text (42 ∷ 47 ∷ rest))
shorter line bytes behind rest (directive d e f) = omega (arith, ap length d.whole, length-append d.word (d.text ++ rest), length-append d.text rest)

pub gap_shorter : (line : Bool) (bytes : List ℕ) (behind : Bool) (rest : List ℕ) → gap_at line bytes ≡ Some (behind, rest) → length rest < length bytes
gap_shorter line bytes behind rest h = shorter line bytes behind rest (gap_so line bytes behind rest h)
