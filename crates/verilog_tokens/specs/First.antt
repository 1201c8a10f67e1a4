-- The token in front of a text and what stands behind it, as functions.
use Rattle.std.specs.Prelude.{◌==◌, ℕ, Bool, true, false, not, ◌||◌, ◌&&◌, cond, nat_le, List, [], ◌∷◌, Option, Some, None, take, drop}
use Rattle.agm_net.specs.Writable.{is_graphic}
use Rattle.small_text.specs.Bytes.{is_letter, is_digit, is_word, is_text, is_key, number_of}
use Rattle.small_text.specs.First.{run, begins, begins_blank}
use Rattle.verilog_tokens.specs.Bytes.{is_symbol, is_printed, step_run}
use Rattle.verilog_tokens.specs.Constants.{base_of, is_digit_of, is_digit_or_rule, constant_bits, decimal_run}
use Rattle.verilog_tokens.specs.Token.{Token, Name, Key, Number, Constant, Text, Symbol, Open, Close}
use Rattle.verilog_tokens.specs.declared.constant.Base.{Base}
use Rattle.verilog_tokens.specs.declared.constant.Base.TheVariants.{Binary, Octal, Decimal, Hexadecimal}

-- a token and what stands behind it
abbrev pub Hit : Type 0
Hit = Token × List ℕ

-- the token that a word is
abbrev pub named : List ℕ → Token
named word = cond (is_key word) (Key word) (Name word)

-- a key word or a simple name
abbrev pub word_at : List ℕ → Hit
word_at bytes = (named (take (run is_word bytes) bytes), drop (run is_word bytes) bytes)

-- digits
abbrev pub number_at : List ℕ → Hit
number_at bytes = (Number (number_of (take (run is_digit bytes) bytes)), drop (run is_digit bytes) bytes)

-- how many bytes the digits of a constant take
abbrev pub digits_run : Base → List ℕ → ℕ
digits_run Binary bytes = run (is_digit_or_rule Binary) bytes
digits_run Octal bytes = run (is_digit_or_rule Octal) bytes
digits_run Decimal bytes = decimal_run bytes 0
digits_run Hexadecimal bytes = run (is_digit_or_rule Hexadecimal) bytes

-- whether a digit of the base stands in front
abbrev pub begins_digit : Base → List ℕ → Bool
begins_digit base [] = false
begins_digit base (b ∷ bs) = is_digit_of base b

-- a constant whose digits take so many bytes
abbrev pub constant_at : List Bool → ℕ → List ℕ → Hit
constant_at bits count bytes = (Constant bits, drop count bytes)

-- a constant from behind its base on
abbrev pub digits_at : ℕ → Base → List ℕ → Option Hit
digits_at size base bytes =
    cond (begins_digit base bytes) (Some (constant_at (constant_bits base size (take (digits_run base bytes) bytes)) (digits_run base bytes) bytes)) None

abbrev pub digits_of : ℕ → Option Base → List ℕ → Option Hit
digits_of size None bytes = None
digits_of size (Some base) bytes = digits_at size base bytes

-- from behind its `'` on
abbrev pub based_at : ℕ → List ℕ → Option Hit
based_at size [] = None
based_at size (mark ∷ bytes) = digits_of size (base_of mark) bytes

-- from behind its size on
abbrev pub sized_at : ℕ → List ℕ → Option Hit
sized_at size bytes = cond (begins 39 bytes && (nat_le 1 size && nat_le size 65535)) (based_at size (drop 1 bytes)) None

abbrev pub or_number : Option Hit → Hit → Hit
or_number None number = number
or_number (Some constant) number = constant

-- a constant, and else digits
abbrev pub numeral_at : List ℕ → Hit
numeral_at bytes = or_number (sized_at (number_of (take (run is_digit bytes) bytes)) (drop (run is_digit bytes) bytes)) (number_at bytes)

-- a name behind a backslash, with white space behind it
abbrev pub escaped_at : List ℕ → Option Hit
escaped_at bytes =
    cond ((run is_graphic bytes == 0) || not (begins_blank (drop (run is_graphic bytes) bytes))) None
    (Some (Name (take (run is_graphic bytes) bytes), drop (run is_graphic bytes) bytes))

-- whether a string goes on with a byte, and then whether that is a `\` that another byte pairs
abbrev pub string_step : (paired : Bool) → ℕ → Option Bool
string_step true b = cond (is_printed b) (Some false) None
string_step false b = cond (is_text b) (Some false) (cond (b == 92) (Some true) None)

-- how many bytes go on a string, behind a `\` or not
abbrev pub string_run : List ℕ → (paired : Bool) → ℕ
string_run = step_run string_step

-- a string from behind its first quote on
abbrev pub string_at : List ℕ → Option Hit
string_at bytes =
    cond (begins 34 (drop (string_run bytes false) bytes)) (Some (Text (take (string_run bytes false) bytes), drop 1 (drop (string_run bytes false) bytes))) None

-- a token that no mark begins
abbrev pub unmarked_at : List ℕ → Option Hit
unmarked_at [] = None
unmarked_at (b ∷ bs) =
    cond (is_letter b) (Some (word_at (b ∷ bs)))
    (cond (is_digit b) (Some (numeral_at (b ∷ bs)))
    (cond (is_symbol b) (Some (Symbol b, bs)) None))

-- the longest token
abbrev pub token_at : List ℕ → Option Hit
token_at [] = None
token_at (b ∷ bs) =
    cond ((b == 40) && begins 42 bs) (Some (Open, drop 1 bs))
    (cond ((b == 42) && begins 41 bs) (Some (Close, drop 1 bs))
    (cond (b == 92) (escaped_at bs)
    (cond (b == 34) (string_at bs) (unmarked_at (b ∷ bs)))))
