-- Tokens that are laid out are cut again.
use Rattle.std.proofs.Common.{◌≡◌, ◌==◌, ◌≤◌, ◌<◌, ◌+◌, ◌-◌, ◌*◌, ◌/◌, ◌%◌, ◌^◌, ◌++◌, ◌||◌, ◌&&◌, not, ◌⊎◌, ℕ, Bool, true, false, cond, length, List, [], ◌∷◌, Some, refl, sym, ap, ◌∙◌, subst, inl, inr, IsTrue, arith, codes, nat_eq, append_assoc, length-append}
use Rattle.std.specs.List.{starts_with, list_all}
use Rattle.std.specs.Fmt.{decimal}
use Rattle.std.proofs.lemmas.Bool.Decides.{nat_tests}
use Rattle.std.proofs.lemmas.Fmt.{decimal_by_steps}
use Rattle.std.proofs.lemmas.List.Sums.{fold-append}
use Rattle.agm_net.specs.Writable.{IsWritable}
use Rattle.small_text.specs.Bytes.{is_letter, is_digit, is_word, is_blank, is_symbol, is_key, number_of}
use Rattle.small_text.specs.First.{run, begins, begins_blank, named, word_at, number_at, numeral_at, token_at}
use Rattle.small_text.specs.Cuts.{IsSimpleName, Cuts, nothing, blank, token}
use Rattle.small_text.specs.Layout.{Piece, is_simple_name, token_text, is_symbol_token, is_close, may_touch, IsToken, IsPiece, IsLaidOut, piece_text, laid_text, laid_tokens}
use Rattle.small_text.specs.declared.token.Token.{Token}
use Rattle.small_text.specs.declared.token.Token.TheVariants.{Name, Key, Number, Constant, Text, Symbol, Open, Close}
use Rattle.small_text.proofs.ByteKinds.{both, all_pass, key_simple, letter_kinds, digit_kinds, symbol_kinds}
use Rattle.small_text.proofs.Runs.{AllOf, run_none, run_front, run_rest}
use Rattle.small_text.proofs.Longest.{hit, at_letter, at_digit, starts_so, second_no_digit, named_key, named_name, begins_blank_so, escaped_found, text_found, symbol_found, found_first}

-- digits that spell a number
record Spelled (n : ℕ) (digits : List ℕ) : Type 0 where
  some : 0 < length digits
  digits_alone : AllOf is_digit digits
  value : number_of digits ≡ n

-- the digit of a number below ten
digit_is : (n : ℕ) → n < 10 → IsTrue (is_digit (48 + n))
digit_is n h = grind (arith, nat_tests)

-- lists of one kind, joined
all_append : (kind : ℕ → Bool) (front behind : List ℕ) → AllOf kind front → AllOf kind behind → AllOf kind (front ++ behind)
all_append kind [] behind a b = b
all_append kind (x ∷ xs) behind a b = (a.0, all_append kind xs behind a.1 b)

-- one digit
spelled_digit : (n : ℕ) → n < 10 → Spelled n ((48 + n) ∷ [])
spelled_digit n h = record { some = omega arith; digits_alone = (digit_is n h, tt); value = omega arith }

-- one more digit
spelled_more : (n : ℕ) (digits : List ℕ) → 10 ≤ n → Spelled (n / 10) digits → Spelled n (digits ++ ((48 + n % 10) ∷ []))
spelled_more n digits h s =
    let last : n % 10 < 10 = omega arith in
    let value : number_of (digits ++ ((48 + n % 10) ∷ [])) ≡ number_of digits * 10 + ((48 + n % 10) - 48) = fold-append (λ m d. m * 10 + (d - 48)) 0 digits ((48 + n % 10) ∷ []) in
    record {
      some = omega (arith, length-append digits ((48 + n % 10) ∷ []));
      digits_alone = all_append is_digit digits ((48 + n % 10) ∷ []) s.digits_alone (digit_is (n % 10) last, tt);
      value = omega (arith, value, s.value);
    }

-- a number is spelled by its decimal digits
spelled_decimal : (n : ℕ) → n < 2 ^ 64 → Spelled n (decimal n)
spelled_decimal = decimal_by_steps Spelled spelled_digit spelled_more

-- whether a symbol stands in front
abbrev begins_symbol : List ℕ → Bool
begins_symbol [] = false
begins_symbol (b ∷ bs) = is_symbol b

-- whether no word and no number goes on
abbrev begins_stop : List ℕ → Bool
begins_stop rest = begins_blank rest || begins_symbol rest

-- whether nothing of a rest belongs to the token that is written in front of it
abbrev ends : Token → List ℕ → Bool
ends (Name name) rest = begins_blank rest || (is_simple_name name && begins_symbol rest)
ends (Key word) rest = begins_stop rest
ends (Number n) rest = begins_stop rest
ends (Constant v) rest = true
ends (Text string) rest = true
ends (Symbol s) rest = not ((s == 40) && begins 42 rest)
ends Open rest = true
ends Close rest = true

-- `||` holds where its second test does
or_right : (a b : Bool) → b ≡ true → (a || b) ≡ true
or_right true b h = refl
or_right false b h = h

-- where `not a` holds, a fails
is_false : (a : Bool) → not a ≡ true → a ≡ false
is_false true h = absurd (cc)
is_false false h = refl

-- white space and symbols are no bytes of words
stop_no_word : (b : ℕ) → (is_blank b || is_symbol b) ≡ true → is_word b ≡ false
stop_no_word b h = grind (arith, nat_tests)

-- and no digits
stop_no_digit : (b : ℕ) → (is_blank b || is_symbol b) ≡ true → is_digit b ≡ false
stop_no_digit b h = grind (arith, nat_tests)

-- no word goes on there
no_words : (rest : List ℕ) → begins_stop rest ≡ true → run is_word rest ≡ 0
no_words [] h = refl
no_words (b ∷ bs) h = run_none is_word b bs (stop_no_word b h)

-- no number goes on there
no_digits : (rest : List ℕ) → begins_stop rest ≡ true → run is_digit rest ≡ 0
no_digits [] h = refl
no_digits (b ∷ bs) h = run_none is_digit b bs (stop_no_digit b h)

-- a word is found where it ends
word_found : (w rest : List ℕ) → IsSimpleName w → begins_stop rest ≡ true → token_at (w ++ rest) ≡ Some (named w, rest)
word_found [] rest s e = absurd s
word_found (b ∷ bs) rest s e =
    let all : AllOf is_word (b ∷ bs) = (rw s.0 refl, s.1) in
    let text = run_front is_word (b ∷ bs) rest all (no_words rest e) in
    let behind = run_rest is_word (b ∷ bs) rest all (no_words rest e) in
    at_letter b (bs ++ rest) s.0
    ∙ (ap (λ w. hit (named w) (word_at (b ∷ (bs ++ rest))).1) text ∙ ap (λ r. hit (named (b ∷ bs)) r) behind)

-- no constant stands where digits end
constant_apart : (w rest more : List ℕ) → 0 < length w → AllOf is_digit w → begins_stop rest ≡ true → w ++ rest ≡ 49 ∷ 39 ∷ more → ⊥
constant_apart [] rest more some h e whole = omega arith
constant_apart (b ∷ []) rest more some h e whole = let behind : rest ≡ 39 ∷ more = cc in let again : begins_stop (39 ∷ more) ≡ true = subst (λ r. begins_stop r ≡ true) behind e in absurd (cc)
constant_apart (b ∷ c ∷ w) rest more some h e whole = second_no_digit c (cc) h.1.0

-- the tests of constants fail there
no_constant : (w rest : List ℕ) (last : ℕ) → 0 < length w → AllOf is_digit w → begins_stop rest ≡ true → (q : Bool) → starts_with nat_eq (w ++ rest) (49 ∷ 39 ∷ 98 ∷ last ∷ []) ≡ q → q ≡ false
no_constant w rest last some h e true s = absurd (constant_apart w rest _ some h e (starts_so (w ++ rest) (49 ∷ 39 ∷ 98 ∷ last ∷ []) s))
no_constant w rest last some h e false s = refl

-- where no constant stands, a numeral is a number
numeral_number : (bytes : List ℕ) → starts_with nat_eq bytes (codes "1'b0") ≡ false → starts_with nat_eq bytes (codes "1'b1") ≡ false → numeral_at bytes ≡ number_at bytes
numeral_number bytes e f = rw (e, f) refl

-- a number is found where its digits end
number_found : (w rest : List ℕ) → 0 < length w → AllOf is_digit w → begins_stop rest ≡ true → token_at (w ++ rest) ≡ Some (Number (number_of w), rest)
number_found [] rest some h e = absurd (omega arith)
number_found (b ∷ bs) rest some h e =
    let zero = no_constant (b ∷ bs) rest 48 some h e _ refl in
    let one = no_constant (b ∷ bs) rest 49 some h e _ refl in
    let text = run_front is_digit (b ∷ bs) rest h (no_digits rest e) in
    let behind = run_rest is_digit (b ∷ bs) rest h (no_digits rest e) in
    at_digit b (bs ++ rest) h.0
    ∙ (ap (λ (f : Token × List ℕ). Some f) (numeral_number (b ∷ (bs ++ rest)) zero one)
    ∙ (ap (λ w. hit (Number (number_of w)) (number_at (b ∷ (bs ++ rest))).1) text ∙ ap (λ r. hit (Number (number_of (b ∷ bs))) r) behind))

-- what a simple name is
simple_so : (name : List ℕ) → is_simple_name name ≡ true → IsSimpleName name × (is_key name ≡ false)
simple_so [] h = absurd (cc)
simple_so (b ∷ bs) h =
    let first = both (is_letter b) (list_all is_word bs && not (is_key (b ∷ bs))) h in
    let more = both (list_all is_word bs) (not (is_key (b ∷ bs))) first.1 in
    ((first.0, all_pass is_word bs more.0), is_false (is_key (b ∷ bs)) more.1)

-- an escaped name ends in white space alone
escaped_ends : (a b : Bool) → (a || (false && b)) ≡ true → a ≡ true
escaped_ends true b h = refl
escaped_ends false b h = absurd (cc)

-- a name is found, simple or escaped
name_found : (name rest : List ℕ) → IsWritable name → (q : Bool) → is_simple_name name ≡ q → (begins_blank rest || (q && begins_symbol rest)) ≡ true → token_at (cond q name (92 ∷ name) ++ rest) ≡ Some (Name name, rest)
name_found name rest h true s e = let simple = simple_so name s in word_found name rest simple.0 e ∙ ap (λ t. hit t rest) (named_name name simple.1)
name_found name rest h false s e = escaped_found name rest h (begins_blank_so rest (escaped_ends (begins_blank rest) (begins_symbol rest) e))

-- a written token is found where it ends
written_found : (t : Token) (rest : List ℕ) → IsToken t → ends t rest ≡ true → token_at (token_text t ++ rest) ≡ Some (t, rest)
written_found (Name name) rest h e = name_found name rest h _ refl e
written_found (Key word) rest h e = word_found word rest (key_simple word h) e ∙ ap (λ t. hit t rest) (named_key word h)
written_found (Number n) rest h e = let s = spelled_decimal n h in number_found (decimal n) rest s.some s.digits_alone e ∙ ap (λ k. hit (Number k) rest) s.value
written_found (Constant false) rest h e = refl
written_found (Constant true) rest h e = refl
written_found (Text string) rest h e = text_found string rest h
written_found (Symbol s) rest h e = symbol_found s rest h (is_false _ e)
written_found Open rest h e = refl
written_found Close rest h e = refl

-- white space is no `*`
blank_no_star : (b : ℕ) → IsTrue (is_blank b) → (b == 42) ≡ false
blank_no_star b h = grind (arith, nat_tests)

-- the test for `(*` fails
no_open : (a b : Bool) → b ≡ false → not (a && b) ≡ true
no_open true b h = ap not h
no_open false b h = refl

-- white space ends each token
blank_ends : (t : Token) (b : ℕ) (rest : List ℕ) → IsTrue (is_blank b) → ends t (b ∷ rest) ≡ true
blank_ends (Name name) b rest h = rw h refl
blank_ends (Key word) b rest h = rw h refl
blank_ends (Number n) b rest h = rw h refl
blank_ends (Constant v) b rest h = refl
blank_ends (Text string) b rest h = refl
blank_ends (Symbol s) b rest h = no_open (s == 40) (b == 42) (blank_no_star b h)
blank_ends Open b rest h = refl
blank_ends Close b rest h = refl

-- a symbol begins with itself
symbol_begins : (t : Token) (rest : List ℕ) → IsToken t → is_symbol_token t ≡ true → begins_symbol (token_text t ++ rest) ≡ true
symbol_begins (Symbol s) rest h e = h
symbol_begins (Name name) rest h e = absurd (cc)
symbol_begins (Key word) rest h e = absurd (cc)
symbol_begins (Number n) rest h e = absurd (cc)
symbol_begins (Constant v) rest h e = absurd (cc)
symbol_begins (Text string) rest h e = absurd (cc)
symbol_begins Open rest h e = absurd (cc)
symbol_begins Close rest h e = absurd (cc)

-- no word begins with `*`
word_no_star : (w rest : List ℕ) → IsSimpleName w → begins 42 (w ++ rest) ≡ false
word_no_star [] rest s = absurd s
word_no_star (b ∷ bs) rest s = (letter_kinds b s.0).star

-- no name begins with `*`
name_no_star : (name rest : List ℕ) → (q : Bool) → is_simple_name name ≡ q → begins 42 (cond q name (92 ∷ name) ++ rest) ≡ false
name_no_star name rest true s = word_no_star name rest (simple_so name s).0
name_no_star name rest false s = refl

-- no number begins with `*`
digits_no_star : (w rest : List ℕ) → 0 < length w → AllOf is_digit w → begins 42 (w ++ rest) ≡ false
digits_no_star [] rest some h = absurd (omega arith)
digits_no_star (b ∷ bs) rest some h = (digit_kinds b h.0).star

-- `*` begins `*)` alone
star_begins : (t : Token) (rest : List ℕ) → IsToken t → begins 42 (token_text t ++ rest) ≡ is_close t
star_begins (Name name) rest h = name_no_star name rest _ refl
star_begins (Key word) rest h = word_no_star word rest (key_simple word h)
star_begins (Number n) rest h = let s = spelled_decimal n h in digits_no_star (decimal n) rest s.some s.digits_alone
star_begins (Constant false) rest h = refl
star_begins (Constant true) rest h = refl
star_begins (Text string) rest h = refl
star_begins (Symbol s) rest h = (symbol_kinds s h).star
star_begins Open rest h = refl
star_begins Close rest h = refl

-- the test that ends a simple name
simple_touch : (a b c d : Bool) → (b && c) ≡ true → (c ≡ true → d ≡ true) → (a || (b && d)) ≡ true
simple_touch a true c d h more = or_right a d (more h)
simple_touch a false c d h more = absurd (cc)

-- a token ends where one stands that it may touch
touch_ends : (t u : Token) (rest : List ℕ) → IsToken u → may_touch t u ≡ true → ends t (token_text u ++ rest) ≡ true
touch_ends (Name name) u rest h e = simple_touch (begins_blank (token_text u ++ rest)) (is_simple_name name) (is_symbol_token u) (begins_symbol (token_text u ++ rest)) e (symbol_begins u rest h)
touch_ends (Key word) u rest h e = or_right (begins_blank (token_text u ++ rest)) _ (symbol_begins u rest h e)
touch_ends (Number n) u rest h e = or_right (begins_blank (token_text u ++ rest)) _ (symbol_begins u rest h e)
touch_ends (Constant v) u rest h e = refl
touch_ends (Text string) u rest h e = refl
touch_ends (Symbol s) u rest h e = ap (λ b. not ((s == 40) && b)) (star_begins u rest h) ∙ e
touch_ends Open u rest h e = refl
touch_ends Close u rest h e = refl

-- a gap ends each token
gap_ends : (t : Token) (gap rest : List ℕ) → AllOf is_blank gap → 0 < length gap → ends t (gap ++ rest) ≡ true
gap_ends t [] rest h some = absurd (omega arith)
gap_ends t (b ∷ bs) rest h some = blank_ends t b (bs ++ rest) h.0

-- a token ends at its gap, or at the token that it may touch
piece_ends : (t u : Token) (gap rest : List ℕ) → AllOf is_blank gap → IsToken u → ((0 < length gap) ⊎ IsTrue (may_touch t u)) → ends t (gap ++ (token_text u ++ rest)) ≡ true
piece_ends t u gap rest h next (inl some) = gap_ends t gap (token_text u ++ rest) h some
piece_ends t u [] rest h next (inr touch) = touch_ends t u rest next touch
piece_ends t u (b ∷ bs) rest h next (inr touch) = gap_ends t (b ∷ bs) (token_text u ++ rest) h (omega arith)

-- a gap adds no token
over_gap : {ts : List Token} (gap rest : List ℕ) → AllOf is_blank gap → Cuts rest ts → Cuts (gap ++ rest) ts
over_gap [] rest h c = c
over_gap (b ∷ bs) rest h c = blank (record { byte = b; whole = refl; blank = h.0 }) (over_gap bs rest h.1 c)

-- a piece is cut into its token
piece_cut : {ts : List Token} (p : Piece) (rest : List ℕ) → IsPiece p → ends p.token (p.gap ++ rest) ≡ true → Cuts rest ts → Cuts (piece_text p ++ rest) (p.token ∷ ts)
piece_cut {ts} p rest h e c =
    subst (λ w. Cuts w (p.token ∷ ts)) (sym (append_assoc (token_text p.token) p.gap rest))
    (token (found_first _ _ _ (written_found p.token (p.gap ++ rest) h.0 e)) (over_gap p.gap rest h.1 c))

-- the second token can be written
next_token : (q : Piece) (ps : List Piece) → IsLaidOut (q ∷ ps) → IsToken q.token
next_token q [] h = h.0.0
next_token q (p ∷ ps) h = h.0.0

-- what is laid out is cut into its tokens
pub laid_out : (pieces : List Piece) → IsLaidOut pieces → Cuts (laid_text pieces) (laid_tokens pieces)
laid_out [] h = nothing
laid_out (p ∷ []) h = piece_cut p [] h.0 (gap_ends p.token p.gap [] h.0.1 h.1) nothing
laid_out (p ∷ q ∷ ps) h =
    let next = append_assoc (token_text q.token) q.gap (laid_text ps) in
    let ended = subst (λ w. ends p.token (p.gap ++ w) ≡ true) (sym next) (piece_ends p.token q.token p.gap (q.gap ++ laid_text ps) h.0.1 (next_token q ps h.2) h.1) in
    piece_cut p (laid_text (q ∷ ps)) h.0 ended (laid_out (q ∷ ps) h.2)
