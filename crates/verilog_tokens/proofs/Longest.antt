-- The longest token in front, by steps and as a relation.
use Rattle.std.proofs.Common.{◌≡◌, ◌==◌, ◌≤◌, ◌<◌, ◌+◌, ◌++◌, ◌||◌, ◌&&◌, not, ℕ, suc, Bool, true, false, cond, length, take, drop, List, [], ◌∷◌, Option, Some, None, refl, sym, ap, ◌∙◌, subst, inl, inr, IsTrue, arith, append_assoc, length-append, length-drop}
use Rattle.std.specs.List.{take_while}
use Rattle.std.proofs.lemmas.Bool.Decides.{nat_tests}
use Rattle.std.proofs.lemmas.List.{take-append-drop}
use Rattle.std.proofs.Math.Seq.{take-append_seam, drop-append-add}
use Rattle.agm_net.specs.Writable.{is_graphic, IsWritable}
use Rattle.small_text.specs.Bytes.{is_letter, is_digit, is_word, is_key, number_of}
use Rattle.small_text.specs.First.{run, begins, begins_blank}
use Rattle.small_text.specs.Cuts.{IsSimpleName, BeginsBlank}
use Rattle.verilog_tokens.specs.Bytes.{is_symbol, step_run}
use Rattle.verilog_tokens.specs.Constants.{constant_bits, IsConstant}
use Rattle.verilog_tokens.specs.First.{Hit, named, word_at, number_at, sized_at, or_number, numeral_at, escaped_at, string_step, string_run, string_at, unmarked_at, token_at}
use Rattle.verilog_tokens.specs.Cuts.{IsString, Spells, First}
use Rattle.verilog_tokens.specs.Token.{Token, Name, Key, Number, Constant, Text, Symbol, Open, Close, Stray}
use Rattle.verilog_tokens.proofs.ByteKinds.{symbol_kinds}
use Rattle.small_text.proofs.ByteKinds.{IsPlainByte, chosen, first_choice, second_choice, not_both, both, neither, same_number, not_zero, above_zero, letter_kinds, digit_kinds, digit_no_letter, blank_no_graphic, begins_is, key_simple}
use Rattle.small_text.proofs.Runs.{AllOf, run_first, run_none, all_of_run, split_run, taken_run, run_le, run_seam, run_front, run_rest}
use Rattle.verilog_tokens.proofs.Steps.{run_over, run_taken, run_stops, string_after, after_string}
use Rattle.verilog_tokens.proofs.Constants.{Sized, got, sized_is, sized_shorter, sized_found}

-- a token and what stands behind it
abbrev pub hit : Token → List ℕ → Option Hit
hit t rest = Some (t, rest)

-- the choices of `token_at`, from the last one on
abbrev symbol_step : ℕ → List ℕ → Option Hit
symbol_step b bs = cond (is_symbol b) (hit (Symbol b) bs) None

abbrev numeral_step : ℕ → List ℕ → Option Hit
numeral_step b bs = cond (is_digit b) (Some (numeral_at (b ∷ bs))) (symbol_step b bs)

abbrev quote_step : ℕ → List ℕ → Option Hit
quote_step b bs = cond (b == 34) (string_at bs) (unmarked_at (b ∷ bs))

abbrev escaped_step : ℕ → List ℕ → Option Hit
escaped_step b bs = cond (b == 92) (escaped_at bs) (quote_step b bs)

abbrev close_step : ℕ → List ℕ → Option Hit
close_step b bs = cond ((b == 42) && begins 41 bs) (hit Close (drop 1 bs)) (escaped_step b bs)

-- the token that steps find takes in each token that is spelled in front
abbrev Covers : Token → List ℕ → List ℕ → Type 0
Covers other front behind =
    (t : Token) × (rest : List ℕ) × (token_at (front ++ behind) ≡ Some (t, rest)) × (length rest ≤ length behind) × (length rest ≡ length behind → t ≡ other)

-- a key word is a token of its own
pub named_key : (w : List ℕ) → IsTrue (is_key w) → named w ≡ Key w
named_key w h = rw h refl

-- another word is a name
pub named_name : (w : List ℕ) → is_key w ≡ false → named w ≡ Name w
named_name w h = rw h refl

-- where dropping leaves the length, nothing is dropped
none_dropped : (n : ℕ) (xs : List ℕ) → n ≤ length xs → length (drop n xs) ≡ length xs → n ≡ 0
none_dropped n xs h e = omega (arith, length-drop n xs)

-- where what a run leaves is as long as what stands behind, the run ends there
run_ends : (kind : ℕ → Bool) (front behind : List ℕ) → AllOf kind front → length (drop (run kind (front ++ behind)) (front ++ behind)) ≡ length behind → run kind behind ≡ 0
run_ends kind front behind h same = none_dropped _ behind (run_le kind behind) (sym (ap length (run_seam kind front behind h)) ∙ same)

-- what a run leaves is no longer than what stands behind bytes of its kind
run_leaves : (kind : ℕ → Bool) (front behind : List ℕ) → AllOf kind front → length (drop (run kind (front ++ behind)) (front ++ behind)) ≤ length behind
run_leaves kind front behind h = omega (arith, ap length (run_seam kind front behind h), length-drop (run kind behind) behind)

-- a byte that marks nothing begins a word, a numeral or a symbol
skipped : {X : Type 0} (p q r s : Bool) (u v w x y : X) → p ≡ false → q ≡ false → r ≡ false → s ≡ false → cond p u (cond q v (cond r w (cond s x y))) ≡ y
skipped p q r s u v w x y a b c d = rw (a, b, c, d) refl

-- and `token_at` is `unmarked_at` there
unmarked_found : (b : ℕ) (bs : List ℕ) → IsPlainByte b → token_at (b ∷ bs) ≡ unmarked_at (b ∷ bs)
unmarked_found b bs plain =
    skipped ((b == 40) && begins 42 bs) ((b == 42) && begins 41 bs) (b == 92) (b == 34)
    (hit Open (drop 1 bs)) (hit Close (drop 1 bs)) (escaped_at bs) (string_at bs) (unmarked_at (b ∷ bs))
    (not_both (b == 40) (begins 42 bs) plain.parenthesis) (not_both (b == 42) (begins 41 bs) plain.star) plain.backslash plain.quote

-- a word stands where a letter does
pub word_unmarked : (b : ℕ) (bs : List ℕ) → IsTrue (is_letter b) → unmarked_at (b ∷ bs) ≡ Some (word_at (b ∷ bs))
word_unmarked b bs h = first_choice (is_letter b) (Some (word_at (b ∷ bs))) (numeral_step b bs) h

-- and it is the token
pub at_letter : (b : ℕ) (bs : List ℕ) → IsTrue (is_letter b) → token_at (b ∷ bs) ≡ Some (word_at (b ∷ bs))
at_letter b bs h = unmarked_found b bs (letter_kinds b h) ∙ word_unmarked b bs h

-- a numeral stands where a digit does
pub at_digit : (b : ℕ) (bs : List ℕ) → IsTrue (is_digit b) → token_at (b ∷ bs) ≡ Some (numeral_at (b ∷ bs))
at_digit b bs h =
    unmarked_found b bs (digit_kinds b h)
    ∙ (second_choice (is_letter b) (Some (word_at (b ∷ bs))) (numeral_step b bs) (digit_no_letter b h)
    ∙ first_choice (is_digit b) (Some (numeral_at (b ∷ bs))) (symbol_step b bs) h)

-- a word takes in each word
covers_word : (other : Token) (w behind : List ℕ) → IsSimpleName w → named w ≡ other → Covers other w behind
covers_word other [] behind s e = absurd s
covers_word other (b ∷ bs) behind s e =
    let all : AllOf is_word (b ∷ bs) = (rw s.0 refl, s.1) in (
      (word_at (b ∷ (bs ++ behind))).0,
      (word_at (b ∷ (bs ++ behind))).1,
      at_letter b (bs ++ behind) s.0,
      run_leaves is_word (b ∷ bs) behind all,
      λ same. ap named (run_front is_word (b ∷ bs) behind all (run_ends is_word (b ∷ bs) behind all same)) ∙ e,
    )

-- the numeral in front takes in the digits
abbrev CoversNumber : (w behind : List ℕ) → Hit → Type 0
CoversNumber w behind found = (length found.1 ≤ length behind) × (length found.1 ≡ length behind → found.0 ≡ Number (number_of w))

-- whether a constant stands there or not
covers_numeral : (w behind : List ℕ) → AllOf is_digit w → (o : Option Hit) →
    sized_at (number_of (take (run is_digit (w ++ behind)) (w ++ behind))) (drop (run is_digit (w ++ behind)) (w ++ behind)) ≡ o → CoversNumber w behind (or_number o (number_at (w ++ behind)))
covers_numeral w behind h (Some c) e =
    let s = sized_is (number_of (take (run is_digit (w ++ behind)) (w ++ behind))) (drop (run is_digit (w ++ behind)) (w ++ behind)) c.0 c.1 e in
    let less : length c.1 < length behind = omega (arith, sized_shorter _ _ c.0 c.1 s, run_leaves is_digit w behind h) in
    (omega arith, λ same. absurd (omega arith))
covers_numeral w behind h None e = (
  run_leaves is_digit w behind h,
  λ same. ap (λ v. Number (number_of v)) (run_front is_digit w behind h (run_ends is_digit w behind h same)),
)

-- a numeral takes in each number
covers_number : (w behind : List ℕ) → 0 < length w → AllOf is_digit w → Covers (Number (number_of w)) w behind
covers_number [] behind n s = absurd (omega arith)
covers_number (b ∷ bs) behind n s =
    let covered = covers_numeral (b ∷ bs) behind s _ refl in (
      (numeral_at (b ∷ (bs ++ behind))).0,
      (numeral_at (b ∷ (bs ++ behind))).1,
      at_digit b (bs ++ behind) s.0,
      covered.0,
      covered.1,
    )

-- what is dropped behind a front is dropped from what stands behind it
longer_rest : (digits behind : List ℕ) (n : ℕ) → n ≤ length behind → length (drop (length digits + n) (digits ++ behind)) + n ≡ length behind
longer_rest digits behind n h = omega (arith, ap length (drop-append-add digits behind n), length-drop n behind)

same_digits : (digits behind : List ℕ) (n : ℕ) → n ≡ 0 → take (length digits + n) (digits ++ behind) ≡ digits
same_digits digits behind n e = let k : length digits + n ≡ length digits = omega (arith, e) in ap (λ j. take j (digits ++ behind)) k ∙ take-append_seam digits behind

-- what is read at digits with a constant behind them
numeral_found : (size tail : List ℕ) (c : Hit) → AllOf is_digit size → sized_at (number_of size) (39 ∷ tail) ≡ Some c → numeral_at (size ++ 39 ∷ tail) ≡ c
numeral_found size tail c h e =
    let ended : run is_digit (39 ∷ tail) ≡ 0 = run_none is_digit 39 tail refl in
    let front : take (run is_digit (size ++ 39 ∷ tail)) (size ++ 39 ∷ tail) ≡ size = run_front is_digit size (39 ∷ tail) h ended in
    let rest : drop (run is_digit (size ++ 39 ∷ tail)) (size ++ 39 ∷ tail) ≡ 39 ∷ tail = run_rest is_digit size (39 ∷ tail) h ended in
    ap (λ w. or_number (sized_at (number_of w) (drop (run is_digit (size ++ 39 ∷ tail)) (size ++ 39 ∷ tail))) (number_at (size ++ 39 ∷ tail))) front
    ∙ (ap (λ w. or_number (sized_at (number_of size) w) (number_at (size ++ 39 ∷ tail))) rest ∙ ap (λ o. or_number o (number_at (size ++ 39 ∷ tail))) e)

-- and that is the token
digits_found : (size tail : List ℕ) (c : Hit) → 1 ≤ number_of size → AllOf is_digit size → sized_at (number_of size) (39 ∷ tail) ≡ Some c → token_at (size ++ 39 ∷ tail) ≡ Some c
digits_found [] tail c least h e = absurd (omega (arith, least))
digits_found (b ∷ bs) tail c least h e = at_digit b (bs ++ 39 ∷ tail) h.0 ∙ ap (λ (v : Hit). Some v) (numeral_found (b ∷ bs) tail c h e)

-- a constant takes in each constant
covers_constant : (text behind : List ℕ) (bits : List Bool) → IsConstant text bits → Covers (Constant bits) text behind
covers_constant text behind bits c =
    let l = sized_found (number_of c.size) c.base c.mark c.digits behind c.least c.most c.based c.spelled c.fits in
    let whole : text ++ behind ≡ c.size ++ 39 ∷ c.mark ∷ (c.digits ++ behind) = ap (λ w. w ++ behind) c.whole ∙ append_assoc c.size (39 ∷ c.mark ∷ c.digits) behind in
    let n = length c.digits + l.more in (
      Constant (constant_bits c.base (number_of c.size) (take n (c.digits ++ behind))),
      drop n (c.digits ++ behind),
      ap token_at whole ∙ digits_found c.size (c.mark ∷ (c.digits ++ behind)) _ c.least c.decimal l.found,
      omega (arith, longer_rest c.digits behind l.more l.within),
      λ same. ap (λ w. Constant (constant_bits c.base (number_of c.size) w)) (same_digits c.digits behind l.more (omega (arith, same, longer_rest c.digits behind l.more l.within))) ∙ ap Constant (sym c.value),
    )

-- white space ends an escaped name
no_graphics : (behind : List ℕ) → BeginsBlank behind → run is_graphic behind ≡ 0
no_graphics [] h = absurd h
no_graphics (b ∷ bs) h = run_none is_graphic b bs (blank_no_graphic b h)

-- the test of white space in front
begins_blank_is : (behind : List ℕ) → BeginsBlank behind → begins_blank behind ≡ true
begins_blank_is [] h = absurd h
begins_blank_is (b ∷ bs) h = h

-- an escaped name with white space behind it
pub escaped_found : (name behind : List ℕ) → IsWritable name → BeginsBlank behind → token_at (92 ∷ (name ++ behind)) ≡ Some (Name name, behind)
escaped_found name behind h white =
    let ended = no_graphics behind white in
    let rest : drop (run is_graphic (name ++ behind)) (name ++ behind) ≡ behind = run_rest is_graphic name behind h.1 ended in
    let text : take (run is_graphic (name ++ behind)) (name ++ behind) ≡ name = run_front is_graphic name behind h.1 ended in
    let some : (run is_graphic (name ++ behind) == 0) ≡ false = not_zero _ (omega (arith, ap length rest, length-drop (run is_graphic (name ++ behind)) (name ++ behind), length-append name behind, h.0)) in
    rw (some, rest, text, begins_blank_is behind white) refl

-- no byte goes on a string before a quote
quote_ends : (behind : List ℕ) → step_run string_step (34 ∷ behind) false ≡ 0
quote_ends behind = refl

length_front : (front behind : List ℕ) (n : ℕ) → n ≡ length front → take n (front ++ behind) ≡ front
length_front front behind n e = ap (λ k. take k (front ++ behind)) e ∙ take-append_seam front behind

length_rest : (front behind : List ℕ) (n : ℕ) → n ≡ length front → drop n (front ++ behind) ≡ behind
length_rest front behind n e = let k : n ≡ length front + 0 = omega (arith, e) in ap (λ j. drop j (front ++ behind)) k ∙ drop-append-add front behind 0

-- a string
pub text_found : (string behind : List ℕ) → IsString string → token_at ((34 ∷ (string ++ 34 ∷ [])) ++ behind) ≡ Some (Text string, behind)
text_found string behind h =
    let count : string_run (string ++ 34 ∷ behind) false ≡ length string = omega (arith, run_over string_step string (34 ∷ behind) false false (string_after string h), quote_ends behind) in
    let rest : drop (string_run (string ++ 34 ∷ behind) false) (string ++ 34 ∷ behind) ≡ 34 ∷ behind = length_rest string (34 ∷ behind) _ count in
    let text : take (string_run (string ++ 34 ∷ behind) false) (string ++ 34 ∷ behind) ≡ string = length_front string (34 ∷ behind) _ count in
    ap (λ w. token_at (34 ∷ w)) (append_assoc string (34 ∷ []) behind) ∙ rw (rest, text) refl

-- a symbol that begins no `(*`
pub symbol_found : (s : ℕ) (behind : List ℕ) → IsTrue (is_symbol s) → ((s == 40) && begins 42 behind) ≡ false → token_at (s ∷ behind) ≡ Some (Symbol s, behind)
symbol_found s behind h e = let no = symbol_kinds s h in rw (e, no.star, no.backslash, no.quote, no.letter, no.digit, h) refl

-- a symbol or `(*` takes in a symbol
covers_symbol_case : (s : ℕ) (behind : List ℕ) → IsTrue (is_symbol s) → (b : Bool) → ((s == 40) && begins 42 behind) ≡ b → Covers (Symbol s) (s ∷ []) behind
covers_symbol_case s behind h false e = (Symbol s, behind, symbol_found s behind h e, omega arith, λ same. refl)
covers_symbol_case s [] h true e = absurd (grind (arith, nat_tests))
covers_symbol_case s (c ∷ cs) h true e = (Open, cs, rw e refl, omega arith, λ same. absurd (omega arith))

-- whichever it is
covers_symbol : (s : ℕ) (behind : List ℕ) → IsTrue (is_symbol s) → Covers (Symbol s) (s ∷ []) behind
covers_symbol s behind h = covers_symbol_case s behind h _ refl

-- the token that steps find takes in each token
covers : (other : Token) (front behind : List ℕ) → Spells other front behind → Covers other front behind
covers (Name name) front behind (inl h) = subst (λ w. Covers (Name name) w behind) (sym h.0) (covers_word (Name name) name behind h.1 (named_name name h.2))
covers (Name name) front behind (inr h) = subst (λ w. Covers (Name name) w behind) (sym h.0) (Name name, behind, escaped_found name behind h.1 h.2, omega arith, λ same. refl)
covers (Key word) front behind h = subst (λ w. Covers (Key word) w behind) (sym h.0) (covers_word (Key word) word behind (key_simple word h.1) (named_key word h.1))
covers (Number n) front behind h = subst (λ k. Covers (Number k) front behind) h.2 (covers_number front behind h.0 h.1)
covers (Constant bits) front behind h = covers_constant front behind bits h
covers (Text string) front behind h = subst (λ w. Covers (Text string) w behind) (sym h.0) (Text string, behind, text_found string behind h.1, omega arith, λ same. refl)
covers (Symbol s) front behind h = subst (λ w. Covers (Symbol s) w behind) (sym h.0) (covers_symbol s behind h.1)
covers Open front behind h = subst (λ w. Covers Open w behind) (sym h) (Open, behind, refl, omega arith, λ same. refl)
covers Close front behind h = subst (λ w. Covers Close w behind) (sym h) (Close, behind, refl, omega arith, λ same. refl)
covers Stray front behind h = absurd h

-- a token in front that is spelled, and a rest behind it
record Found (bytes : List ℕ) (t : Token) (rest : List ℕ) : Type 0 where
  text : List ℕ
  whole : bytes ≡ text ++ rest
  spells : Spells t text rest
  some : 0 < length text

-- what is found, at equal parts
moved : {bytes : List ℕ} {t u : Token} {rest more : List ℕ} → Found bytes u more → hit u more ≡ hit t rest → Found bytes t rest
moved {bytes} {t} {u} {rest} {more} f h = subst (λ r. Found bytes t r) (got h).1 (subst (λ v. Found bytes v more) (got h).0 f)

-- a word spells its token, by the test of key words
spelled_case : (w rest : List ℕ) → IsSimpleName w → (q : Bool) → is_key w ≡ q → Spells (cond q (Key w) (Name w)) w rest
spelled_case w rest s true e = (refl, e)
spelled_case w rest s false e = inl (refl, s, e)

-- a word spells its token
spelled_word : (w rest : List ℕ) → IsSimpleName w → Spells (named w) w rest
spelled_word w rest s = spelled_case w rest s _ refl

-- what the test of white space says
pub begins_blank_so : (bytes : List ℕ) → begins_blank bytes ≡ true → BeginsBlank bytes
begins_blank_so [] h = absurd (cc)
begins_blank_so (b ∷ bs) h = h

-- `(*` or `*)` is found
found_pair : (a c : ℕ) (t : Token) (b : ℕ) (bs : List ℕ) → ((b == a) && begins c bs) ≡ true → Spells t (a ∷ c ∷ []) (drop 1 bs) → Found (b ∷ bs) t (drop 1 bs)
found_pair a c t b bs h s =
    let parts = both (b == a) (begins c bs) h in
    record {
      text = a ∷ c ∷ [];
      whole = ap (λ x. x ∷ bs) (same_number b a parts.0) ∙ ap (λ w. a ∷ w) (begins_is c bs parts.1);
      spells = s;
      some = omega arith;
    }

-- a word is found
found_word : (b : ℕ) (bs : List ℕ) → is_letter b ≡ true → Found (b ∷ bs) (word_at (b ∷ bs)).0 (word_at (b ∷ bs)).1
found_word b bs h =
    let word : is_word b ≡ true = rw h refl in
    let text : take_while is_word (b ∷ bs) ≡ b ∷ take_while is_word bs = run_first is_word b bs word in
    let simple : IsSimpleName (take_while is_word (b ∷ bs)) = subst IsSimpleName (sym text) (h, all_of_run is_word bs) in
    record {
      text = take_while is_word (b ∷ bs);
      whole = sym (split_run is_word (b ∷ bs));
      spells = subst (λ w. Spells (named w) (take_while is_word (b ∷ bs)) (drop (run is_word (b ∷ bs)) (b ∷ bs))) (sym (taken_run is_word (b ∷ bs))) (spelled_word _ _ simple);
      some = omega (arith, ap length text);
    }

-- a number is found
found_number : (b : ℕ) (bs : List ℕ) → is_digit b ≡ true → Found (b ∷ bs) (number_at (b ∷ bs)).0 (number_at (b ∷ bs)).1
found_number b bs h =
    let some : 0 < run is_digit (b ∷ bs) = omega (arith, ap length (run_first is_digit b bs h)) in
    record {
      text = take_while is_digit (b ∷ bs);
      whole = sym (split_run is_digit (b ∷ bs));
      spells = (some, all_of_run is_digit (b ∷ bs), ap number_of (sym (taken_run is_digit (b ∷ bs))));
      some = some;
    }

-- a constant is found
found_constant : (b : ℕ) (bs : List ℕ) (t : Token) (rest : List ℕ) → is_digit b ≡ true →
    Sized (number_of (take (run is_digit (b ∷ bs)) (b ∷ bs))) (drop (run is_digit (b ∷ bs)) (b ∷ bs)) t rest → Found (b ∷ bs) t rest
found_constant b bs t rest h s =
    let size = take (run is_digit (b ∷ bs)) (b ∷ bs) in
    let digits : AllOf is_digit size = subst (AllOf is_digit) (sym (taken_run is_digit (b ∷ bs))) (all_of_run is_digit (b ∷ bs)) in
    record {
      text = size ++ 39 ∷ s.mark ∷ s.digits;
      whole = sym (take-append-drop (run is_digit (b ∷ bs)) (b ∷ bs)) ∙ (ap (λ w. size ++ w) s.whole ∙ sym (append_assoc size (39 ∷ s.mark ∷ s.digits) rest));
      spells = subst (λ v. Spells v (size ++ 39 ∷ s.mark ∷ s.digits) rest) (sym s.value) (record {
        size = size;
        mark = s.mark;
        base = s.base;
        digits = s.digits;
        whole = refl;
        decimal = digits;
        least = s.least;
        most = s.most;
        based = s.based;
        spelled = s.spelled;
        fits = s.fits;
        value = refl;
      });
      some = omega (arith, length-append size (39 ∷ s.mark ∷ s.digits));
    }

-- a numeral is found, whether a constant stands there or not
found_numeral_case : (b : ℕ) (bs : List ℕ) → is_digit b ≡ true → (o : Option Hit) →
    sized_at (number_of (take (run is_digit (b ∷ bs)) (b ∷ bs))) (drop (run is_digit (b ∷ bs)) (b ∷ bs)) ≡ o →
    Found (b ∷ bs) (or_number o (number_at (b ∷ bs))).0 (or_number o (number_at (b ∷ bs))).1
found_numeral_case b bs h (Some c) e = found_constant b bs c.0 c.1 h (sized_is _ _ c.0 c.1 e)
found_numeral_case b bs h None e = found_number b bs h

-- a numeral is found
found_numeral : (b : ℕ) (bs : List ℕ) → is_digit b ≡ true → Found (b ∷ bs) (numeral_at (b ∷ bs)).0 (numeral_at (b ∷ bs)).1
found_numeral b bs h = found_numeral_case b bs h _ refl

-- an escaped name is found
found_escaped : (b : ℕ) (bs : List ℕ) (t : Token) (rest : List ℕ) → (b == 92) ≡ true → escaped_at bs ≡ Some (t, rest) → Found (b ∷ bs) t rest
found_escaped b bs t rest h e =
    elim (chosen ((run is_graphic bs == 0) || not (begins_blank (drop (run is_graphic bs) bs))) None (hit (Name (take (run is_graphic bs) bs)) (drop (run is_graphic bs) bs)) (hit t rest) e) [
      | inl n ↦ absurd (cc (n.1))
      | inr n ↦
          let parts = neither _ _ n.0 in
          let taken = taken_run is_graphic bs in
          moved (record {
            text = 92 ∷ take_while is_graphic bs;
            whole = ap (λ x. x ∷ bs) (same_number b 92 h) ∙ ap (λ w. 92 ∷ w) (sym (split_run is_graphic bs));
            spells = inr (ap (λ w. 92 ∷ w) (sym taken), (omega (arith, ap length taken, above_zero _ parts.0), subst (AllOf is_graphic) (sym taken) (all_of_run is_graphic bs)), begins_blank_so _ parts.1);
            some = omega arith;
          }) n.1
    ]

-- a string ends where no `\` waits for its pair
ends_unpaired : (u : Bool) (bytes rest : List ℕ) → bytes ≡ 34 ∷ rest → step_run string_step bytes u ≡ 0 → u ≡ false
ends_unpaired false bytes rest e h = refl
ends_unpaired true bytes rest e h =
    let one : step_run string_step bytes true ≡ suc (step_run string_step rest false) = ap (λ w. step_run string_step w true) e in
    absurd (omega (arith, one, h))

-- a string is found
found_text : (b : ℕ) (bs : List ℕ) (t : Token) (rest : List ℕ) → (b == 34) ≡ true → string_at bs ≡ Some (t, rest) → Found (b ∷ bs) t rest
found_text b bs t rest h e =
    let n = string_run bs false in
    elim (chosen (begins 34 (drop n bs)) (hit (Text (take n bs)) (drop 1 (drop n bs))) None (hit t rest) e) [
      | inl c ↦
          let quote = begins_is 34 (drop n bs) c.0 in
          let state = run_taken string_step bs false in
          let closed : state.0 ≡ false = ends_unpaired state.0 (drop n bs) (drop 1 (drop n bs)) quote (run_stops string_step bs false state.0 state.1) in
          moved (record {
            text = 34 ∷ (take n bs ++ 34 ∷ []);
            whole =
                ap (λ x. x ∷ bs) (same_number b 34 h)
                ∙ ap (λ w. 34 ∷ w) (sym (take-append-drop n bs) ∙ (ap (λ w. take n bs ++ w) quote ∙ sym (append_assoc (take n bs) (34 ∷ []) (drop 1 (drop n bs)))));
            spells = (refl, after_string (take n bs) (state.1 ∙ ap (λ (v : Bool). Some v) closed));
            some = omega arith;
          }) c.1
      | inr c ↦ absurd (cc (c.1))
    ]

-- a symbol is found
found_symbol : (b : ℕ) (bs : List ℕ) (t : Token) (rest : List ℕ) → symbol_step b bs ≡ hit t rest → Found (b ∷ bs) t rest
found_symbol b bs t rest h =
    elim (chosen (is_symbol b) (hit (Symbol b) bs) None (hit t rest) h) [
      | inl k ↦ moved (record { text = b ∷ []; whole = refl; spells = (refl, k.0); some = omega arith }) k.1
      | inr k ↦ absurd (cc (k.1))
    ]

-- a token that no mark begins is found
found_plain : (b : ℕ) (bs : List ℕ) (t : Token) (rest : List ℕ) → unmarked_at (b ∷ bs) ≡ hit t rest → Found (b ∷ bs) t rest
found_plain b bs t rest h =
    elim (chosen (is_letter b) (Some (word_at (b ∷ bs))) (numeral_step b bs) (hit t rest) h) [
      | inl k ↦ moved (found_word b bs k.0) k.1
      | inr k ↦
          elim (chosen (is_digit b) (Some (numeral_at (b ∷ bs))) (symbol_step b bs) (hit t rest) k.1) [
            | inl l ↦ moved (found_numeral b bs l.0) l.1
            | inr l ↦ found_symbol b bs t rest l.1
          ]
    ]

-- a token that may begin with a mark is found
found_marked : (b : ℕ) (bs : List ℕ) (t : Token) (rest : List ℕ) → escaped_step b bs ≡ hit t rest → Found (b ∷ bs) t rest
found_marked b bs t rest h =
    elim (chosen (b == 92) (escaped_at bs) (quote_step b bs) (hit t rest) h) [
      | inl k ↦ found_escaped b bs t rest k.0 k.1
      | inr k ↦
          elim (chosen (b == 34) (string_at bs) (unmarked_at (b ∷ bs)) (hit t rest) k.1) [
            | inl l ↦ found_text b bs t rest l.0 l.1
            | inr l ↦ found_plain b bs t rest l.1
          ]
    ]

-- what steps find is spelled
sound : (bytes : List ℕ) (t : Token) (rest : List ℕ) → token_at bytes ≡ Some (t, rest) → Found bytes t rest
sound [] t rest h = absurd (cc)
sound (b ∷ bs) t rest h =
    elim (chosen ((b == 40) && begins 42 bs) (hit Open (drop 1 bs)) (close_step b bs) (hit t rest) h) [
      | inl e ↦ moved (found_pair 40 42 Open b bs e.0 refl) e.1
      | inr e ↦
          elim (chosen ((b == 42) && begins 41 bs) (hit Close (drop 1 bs)) (escaped_step b bs) (hit t rest) e.1) [
            | inl f ↦ moved (found_pair 42 41 Close b bs f.0 refl) f.1
            | inr f ↦ found_marked b bs t rest f.1
          ]
    ]

-- lists of one length in front are equal, and so are the rests
same_ends : (a b x y : List ℕ) → a ++ x ≡ b ++ y → length a ≡ length b → (a ≡ b) × (x ≡ y)
same_ends [] [] x y h e = (refl, h)
same_ends [] (c ∷ cs) x y h e = absurd (omega arith)
same_ends (c ∷ cs) [] x y h e = absurd (omega arith)
same_ends (c ∷ cs) (d ∷ ds) x y h e =
    let more = same_ends cs ds x y (cc) (omega arith) in
    let head : c ≡ d = cc in
    (ap (λ w. c ∷ w) more.0 ∙ ap (λ k. k ∷ ds) head, more.1)

-- what steps find leaves the least
covers_at : (bytes : List ℕ) (t : Token) (rest : List ℕ) → token_at bytes ≡ Some (t, rest) → (other : Token) (front behind : List ℕ) → bytes ≡ front ++ behind → Spells other front behind → length rest ≤ length behind
covers_at bytes t rest h other front behind whole s =
    let c = covers other front behind s in
    let same : hit c.0 c.1 ≡ hit t rest = sym c.2 ∙ (ap token_at (sym whole) ∙ h) in
    omega (arith, c.3, ap length (got same).1)

-- what steps find is the first token
pub found_first : (bytes : List ℕ) (t : Token) (rest : List ℕ) → token_at bytes ≡ Some (t, rest) → First bytes t rest
found_first bytes t rest h =
    let f = sound bytes t rest h in
    record {
      text = f.text;
      whole = f.whole;
      spells = f.spells;
      longest = λ other front behind whole s. omega (arith, covers_at bytes t rest h other front behind whole s, ap length whole, ap length f.whole, length-append front behind, length-append f.text rest);
    }

-- findings of equal parts are equal
same_hit : {t u : Token} {rest more : List ℕ} → u ≡ t → more ≡ rest → hit u more ≡ hit t rest
same_hit {t} {u} {rest} {more} token behind = ap (λ v. hit v more) token ∙ ap (λ r. hit t r) behind

-- the first token is what steps find
pub first_found : (bytes : List ℕ) (t : Token) (rest : List ℕ) → First bytes t rest → token_at bytes ≡ Some (t, rest)
first_found bytes t rest f =
    let c = covers t f.text rest f.spells in
    let e : token_at bytes ≡ hit c.0 c.1 = ap token_at f.whole ∙ c.2 in
    let g = sound bytes c.0 c.1 e in
    let lengths : length f.text + length rest ≡ length g.text + length c.1 = sym (length-append f.text rest) ∙ (ap length (sym f.whole ∙ g.whole) ∙ length-append g.text c.1) in
    let below : length g.text ≤ length f.text = f.longest c.0 g.text c.1 g.whole g.spells in
    let same : length c.1 ≡ length rest = omega (arith, lengths, below, c.3) in
    let ends = same_ends g.text f.text c.1 rest (sym g.whole ∙ f.whole) (omega (arith, lengths, same)) in
    e ∙ same_hit (c.4 same) ends.1

-- what stands behind a token is shorter
pub found_shorter : (bytes : List ℕ) (t : Token) (rest : List ℕ) → token_at bytes ≡ Some (t, rest) → length rest < length bytes
found_shorter bytes t rest h = let f = sound bytes t rest h in omega (arith, f.some, ap length f.whole, length-append f.text rest)
