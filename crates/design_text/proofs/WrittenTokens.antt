-- A written token is the longest one at its place, where what stands behind ends it.
use Rattle.std.proofs.Common.{◌≡◌, ◌==◌, ◌≤◌, ◌<◌, ◌^◌, ◌++◌, ◌||◌, ◌&&◌, not, ℕ, Bool, true, false, cond, length, take, drop, map, List, [], ◌∷◌, Option, Some, None, refl, ap, ◌∙◌, IsTrue, arith, nat_le, append_assoc}
use Rattle.std.specs.List.{list_all}
use Rattle.std.specs.Fmt.{decimal}
use Rattle.std.proofs.lemmas.Bool.Decides.{nat_tests}
use Rattle.agm_net.specs.Writable.{IsWritable}
use Rattle.small_text.specs.Bytes.{is_letter, is_digit, is_word, is_blank, is_key, number_of}
use Rattle.small_text.specs.First.{run, begins, begins_blank}
use Rattle.small_text.specs.Cuts.{IsSimpleName}
use Rattle.small_text.specs.Layout.{is_simple_name}
use Rattle.small_text.proofs.ByteKinds.{both, all_pass, key_simple, letter_kinds, digit_kinds}
use Rattle.small_text.proofs.Runs.{AllOf, run_none, run_front, run_rest}
use Rattle.verilog_tokens.specs.Bytes.{is_symbol}
use Rattle.verilog_tokens.specs.Constants.{is_digit_or_rule, constant_bits}
use Rattle.verilog_tokens.specs.First.{Hit, named, word_at, number_at, constant_at, sized_at, or_number, numeral_at, token_at}
use Rattle.verilog_tokens.specs.Cuts.{IsString}
use Rattle.verilog_tokens.specs.Token.{Token, Name, Key, Number, Constant, Text, Symbol, Open, Close, Stray}
use Rattle.verilog_tokens.specs.declared.constant.Base.TheVariants.{Binary}
use Rattle.verilog_tokens.proofs.Longest.{hit, named_key, named_name, at_letter, at_digit, escaped_found, text_found, symbol_found, begins_blank_so}
use Rattle.design_text.specs.Parts.{token_text, bit_digit}
use Rattle.design_text.specs.Writable.{HasSize}
use Rattle.design_text.proofs.Digits.{spelled_decimal, all_binary, binary_value}

-- a token that can be written
abbrev pub IsToken : Token → Type 0
IsToken (Name name) = IsWritable name
IsToken (Key word) = IsTrue (is_key word)
IsToken (Number n) = n < 2 ^ 128
IsToken (Constant bits) = HasSize bits
IsToken (Text string) = IsString string
IsToken (Symbol s) = IsTrue (is_symbol s)
IsToken Open = Unit {0}
IsToken Close = Unit {0}
IsToken Stray = Prim.⊥

-- whether a symbol stands in front
abbrev pub begins_symbol : List ℕ → Bool
begins_symbol [] = false
begins_symbol (b ∷ bs) = is_symbol b

-- whether no word and no numeral goes on
abbrev pub stops : List ℕ → Bool
stops rest = begins_blank rest || begins_symbol rest

-- whether nothing of a rest belongs to the token that is written in front of it
abbrev pub ends : Token → List ℕ → Bool
ends (Name name) rest = begins_blank rest || (is_simple_name name && begins_symbol rest)
ends (Key word) rest = stops rest
ends (Number n) rest = stops rest
ends (Constant bits) rest = stops rest
ends (Text string) rest = true
ends (Symbol s) rest = not ((s == 40) && begins 42 rest)
ends Open rest = true
ends Close rest = true
ends Stray rest = true

-- where `not a` holds, a fails
is_false : (a : Bool) → not a ≡ true → a ≡ false
is_false true h = absurd (cc)
is_false false h = refl

-- white space and symbols are no bytes of words, no digits, and no `'`
stop_no_word : (b : ℕ) → (is_blank b || is_symbol b) ≡ true → is_word b ≡ false
stop_no_word b h = grind (arith, nat_tests)

stop_no_digit : (b : ℕ) → (is_blank b || is_symbol b) ≡ true → is_digit b ≡ false
stop_no_digit b h = grind (arith, nat_tests)

stop_no_rule : (b : ℕ) → (is_blank b || is_symbol b) ≡ true → is_digit_or_rule Binary b ≡ false
stop_no_rule b h = grind (arith, nat_tests)

stop_no_quote : (b : ℕ) → (is_blank b || is_symbol b) ≡ true → (b == 39) ≡ false
stop_no_quote b h = grind (arith, nat_tests)

no_words : (rest : List ℕ) → stops rest ≡ true → run is_word rest ≡ 0
no_words [] h = refl
no_words (b ∷ bs) h = run_none is_word b bs (stop_no_word b h)

no_digits : (rest : List ℕ) → stops rest ≡ true → run is_digit rest ≡ 0
no_digits [] h = refl
no_digits (b ∷ bs) h = run_none is_digit b bs (stop_no_digit b h)

no_rules : (rest : List ℕ) → stops rest ≡ true → run (is_digit_or_rule Binary) rest ≡ 0
no_rules [] h = refl
no_rules (b ∷ bs) h = run_none (is_digit_or_rule Binary) b bs (stop_no_rule b h)

no_quote : (rest : List ℕ) → stops rest ≡ true → begins 39 rest ≡ false
no_quote [] h = refl
no_quote (b ∷ bs) h = stop_no_quote b h

-- a word is found where it ends
word_found : (w rest : List ℕ) → IsSimpleName w → stops rest ≡ true → token_at (w ++ rest) ≡ Some (named w, rest)
word_found [] rest s e = absurd s
word_found (b ∷ bs) rest s e =
    let all : AllOf is_word (b ∷ bs) = (rw s.0 refl, s.1) in
    let text = run_front is_word (b ∷ bs) rest all (no_words rest e) in
    let behind = run_rest is_word (b ∷ bs) rest all (no_words rest e) in
    at_letter b (bs ++ rest) s.0
    ∙ (ap (λ w. hit (named w) (word_at (b ∷ (bs ++ rest))).1) text ∙ ap (λ r. hit (named (b ∷ bs)) r) behind)

-- no constant stands where no `'` does
no_constant : (size : ℕ) (rest : List ℕ) → begins 39 rest ≡ false → sized_at size rest ≡ None
no_constant size rest h = rw h refl

-- a number is found where its digits end
number_found : (w rest : List ℕ) → 0 < length w → AllOf is_digit w → stops rest ≡ true → token_at (w ++ rest) ≡ Some (Number (number_of w), rest)
number_found [] rest some h e = absurd (omega arith)
number_found (b ∷ bs) rest some h e =
    let text = run_front is_digit (b ∷ bs) rest h (no_digits rest e) in
    let behind = run_rest is_digit (b ∷ bs) rest h (no_digits rest e) in
    let size = number_of (take (run is_digit (b ∷ (bs ++ rest))) (b ∷ (bs ++ rest))) in
    let none : sized_at size (drop (run is_digit (b ∷ (bs ++ rest))) (b ∷ (bs ++ rest))) ≡ None = ap (λ r. sized_at size r) behind ∙ no_constant size rest (no_quote rest e) in
    at_digit b (bs ++ rest) h.0
    ∙ (ap (λ o. let found : Option Hit = Some (or_number o (number_at (b ∷ (bs ++ rest)))) in found) none
    ∙ (ap (λ w. hit (Number (number_of w)) (number_at (b ∷ (bs ++ rest))).1) text ∙ ap (λ r. hit (Number (number_of (b ∷ bs))) r) behind))

-- what is read at digits with a constant behind them
numeral_found : (size tail : List ℕ) (c : Hit) → AllOf is_digit size → sized_at (number_of size) (39 ∷ tail) ≡ Some c → numeral_at (size ++ 39 ∷ tail) ≡ c
numeral_found size tail c h e =
    let ended : run is_digit (39 ∷ tail) ≡ 0 = run_none is_digit 39 tail refl in
    let front : take (run is_digit (size ++ 39 ∷ tail)) (size ++ 39 ∷ tail) ≡ size = run_front is_digit size (39 ∷ tail) h ended in
    let rest : drop (run is_digit (size ++ 39 ∷ tail)) (size ++ 39 ∷ tail) ≡ 39 ∷ tail = run_rest is_digit size (39 ∷ tail) h ended in
    ap (λ w. or_number (sized_at (number_of w) (drop (run is_digit (size ++ 39 ∷ tail)) (size ++ 39 ∷ tail))) (number_at (size ++ 39 ∷ tail))) front
    ∙ (ap (λ w. or_number (sized_at (number_of size) w) (number_at (size ++ 39 ∷ tail))) rest ∙ ap (λ o. or_number o (number_at (size ++ 39 ∷ tail))) e)

digits_found : (size tail : List ℕ) (c : Hit) → 0 < length size → AllOf is_digit size → sized_at (number_of size) (39 ∷ tail) ≡ Some c → token_at (size ++ 39 ∷ tail) ≡ Some c
digits_found [] tail c some h e = absurd (omega (arith, some))
digits_found (b ∷ bs) tail c some h e = at_digit b (bs ++ 39 ∷ tail) h.0 ∙ ap (λ (v : Hit). Some v) (numeral_found (b ∷ bs) tail c h e)

le_test : (a b : ℕ) → a ≤ b → nat_le a b ≡ true
le_test a b h = grind (arith, nat_tests)

-- a digit of bits stands in front of their digits
front_digit : (bits : List Bool) (rest : List ℕ) → 1 ≤ length bits → (n : ℕ) → 1 ≤ n → n ≤ 65535 →
    sized_at n (39 ∷ 98 ∷ (map bit_digit bits ++ rest)) ≡ Some (constant_at (constant_bits Binary n (take (run (is_digit_or_rule Binary) (map bit_digit bits ++ rest)) (map bit_digit bits ++ rest))) (run (is_digit_or_rule Binary) (map bit_digit bits ++ rest)) (map bit_digit bits ++ rest))
front_digit [] rest some n least most = absurd (omega (arith, some))
front_digit (true ∷ bits) rest some n least most = rw (le_test 1 n least, le_test n 65535 most) refl
front_digit (false ∷ bits) rest some n least most = rw (le_test 1 n least, le_test n 65535 most) refl

-- a constant is found behind its size
sized : (bits : List Bool) (rest : List ℕ) → HasSize bits → stops rest ≡ true → (n : ℕ) → n ≡ length bits → sized_at n (39 ∷ 98 ∷ (map bit_digit bits ++ rest)) ≡ Some (Constant bits, rest)
sized bits rest h e n same =
    let text = run_front (is_digit_or_rule Binary) (map bit_digit bits) rest (all_binary bits) (no_rules rest e) in
    let behind = run_rest (is_digit_or_rule Binary) (map bit_digit bits) rest (all_binary bits) (no_rules rest e) in
    let count = run (is_digit_or_rule Binary) (map bit_digit bits ++ rest) in
    front_digit bits rest h.0 n (omega (arith, h.0, same)) (omega (arith, h.1, same))
    ∙ (ap (λ w. hit (Constant (constant_bits Binary n w)) (drop count (map bit_digit bits ++ rest))) text
    ∙ (ap (λ r. hit (Constant (constant_bits Binary n (map bit_digit bits))) r) behind
    ∙ (ap (λ k. hit (Constant (constant_bits Binary k (map bit_digit bits))) rest) same ∙ ap (λ bs. hit (Constant bs) rest) (binary_value bits))))

constant_found : (bits : List Bool) (rest : List ℕ) → HasSize bits → stops rest ≡ true → token_at (token_text (Constant bits) ++ rest) ≡ Some (Constant bits, rest)
constant_found bits rest h e =
    let s = spelled_decimal (length bits) (omega (arith, h.1)) in
    ap token_at (append_assoc (decimal (length bits)) (39 ∷ 98 ∷ map bit_digit bits) rest)
    ∙ digits_found (decimal (length bits)) (98 ∷ (map bit_digit bits ++ rest)) (Constant bits, rest) s.some s.digits_alone (sized bits rest h e (number_of (decimal (length bits))) s.value)

-- what a simple name is
simple_so : (name : List ℕ) → is_simple_name name ≡ true → IsSimpleName name × (is_key name ≡ false)
simple_so [] h = absurd (cc)
simple_so (b ∷ bs) h =
    let first = both (is_letter b) (list_all is_word bs && not (is_key (b ∷ bs))) h in
    let more = both (list_all is_word bs) (not (is_key (b ∷ bs))) first.1 in
    ((first.0, all_pass is_word bs more.0), is_false (is_key (b ∷ bs)) more.1)

-- an escaped name ends in white space alone
escaped_ends : (a b : Bool) → (a || (false && b)) ≡ true → a ≡ true
escaped_ends true b h = refl
escaped_ends false b h = absurd (cc)

-- a name is found, simple or escaped
name_found : (name rest : List ℕ) → IsWritable name → (q : Bool) → is_simple_name name ≡ q → (begins_blank rest || (q && begins_symbol rest)) ≡ true → token_at (cond q name (92 ∷ name) ++ rest) ≡ Some (Name name, rest)
name_found name rest h true s e = let simple = simple_so name s in word_found name rest simple.0 e ∙ ap (λ t. hit t rest) (named_name name simple.1)
name_found name rest h false s e = escaped_found name rest h (begins_blank_so rest (escaped_ends (begins_blank rest) (begins_symbol rest) e))

-- a written token is found where it ends
pub written_found : (t : Token) (rest : List ℕ) → IsToken t → ends t rest ≡ true → token_at (token_text t ++ rest) ≡ Some (t, rest)
written_found (Name name) rest h e = name_found name rest h _ refl e
written_found (Key word) rest h e = word_found word rest (key_simple word h) e ∙ ap (λ t. hit t rest) (named_key word h)
written_found (Number n) rest h e = let s = spelled_decimal n (omega (arith, h)) in number_found (decimal n) rest s.some s.digits_alone e ∙ ap (λ k. hit (Number k) rest) s.value
written_found (Constant bits) rest h e = constant_found bits rest h e
written_found (Text string) rest h e = text_found string rest h
written_found (Symbol s) rest h e = symbol_found s rest h (is_false _ e)
written_found Open rest h e = refl
written_found Close rest h e = refl
written_found Stray rest h e = absurd h

-- a name, a number and a constant do not begin with `*`

word_no_star : (w rest : List ℕ) → IsSimpleName w → begins 42 (w ++ rest) ≡ false
word_no_star [] rest s = absurd s
word_no_star (b ∷ bs) rest s = (letter_kinds b s.0).star

name_star_case : (name rest : List ℕ) → (q : Bool) → is_simple_name name ≡ q → begins 42 (cond q name (92 ∷ name) ++ rest) ≡ false
name_star_case name rest true s = word_no_star name rest (simple_so name s).0
name_star_case name rest false s = refl

pub name_no_star : (name rest : List ℕ) → begins 42 (token_text (Name name) ++ rest) ≡ false
name_no_star name rest = name_star_case name rest _ refl

digits_no_star : (w rest : List ℕ) → 0 < length w → AllOf is_digit w → begins 42 (w ++ rest) ≡ false
digits_no_star [] rest some h = absurd (omega arith)
digits_no_star (b ∷ bs) rest some h = (digit_kinds b h.0).star

pub constant_no_star : (bits : List Bool) (rest : List ℕ) → HasSize bits → begins 42 (token_text (Constant bits) ++ rest) ≡ false
constant_no_star bits rest h =
    let s = spelled_decimal (length bits) (omega (arith, h.1)) in
    ap (begins 42) (append_assoc (decimal (length bits)) (39 ∷ 98 ∷ map bit_digit bits) rest) ∙ digits_no_star (decimal (length bits)) (39 ∷ 98 ∷ (map bit_digit bits ++ rest)) s.some s.digits_alone
