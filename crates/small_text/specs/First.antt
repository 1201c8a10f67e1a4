-- The token in front of a text and what stands behind it, as functions.
use Rattle.std.specs.Prelude.{◌==◌, ℕ, Bool, true, false, not, ◌||◌, ◌&&◌, cond, List, [], ◌∷◌, Option, Some, None, length, take, drop, nat_eq, codes}
use Rattle.std.specs.List.{take_while, starts_with}
use Rattle.agm_net.specs.Writable.{is_graphic}
use Rattle.small_text.specs.Bytes.{is_letter, is_digit, is_word, is_text, is_blank, is_symbol, is_key, number_of}
use Rattle.small_text.specs.declared.token.Token.{Token}
use Rattle.small_text.specs.declared.token.Token.TheVariants.{Name, Key, Number, Constant, Text, Symbol, Open, Close}

-- how many bytes from the front on are of a kind
abbrev pub run : (ℕ → Bool) → List ℕ → ℕ
run kind bytes = length (take_while kind bytes)

-- whether a byte stands in front
abbrev pub begins : ℕ → List ℕ → Bool
begins b [] = false
begins b (c ∷ cs) = c == b

-- whether white space stands in front
abbrev pub begins_blank : List ℕ → Bool
begins_blank [] = false
begins_blank (b ∷ bs) = is_blank b

-- the token that a word is
abbrev pub named : List ℕ → Token
named word = cond (is_key word) (Key word) (Name word)

-- a key word or a simple name
abbrev pub word_at : List ℕ → Token × List ℕ
word_at bytes = (named (take (run is_word bytes) bytes), drop (run is_word bytes) bytes)

-- digits
abbrev pub number_at : List ℕ → Token × List ℕ
number_at bytes = (Number (number_of (take (run is_digit bytes) bytes)), drop (run is_digit bytes) bytes)

-- a constant, and else digits
abbrev pub numeral_at : List ℕ → Token × List ℕ
numeral_at bytes =
    cond (starts_with nat_eq bytes (codes "1'b0")) (Constant false, drop 4 bytes)
    (cond (starts_with nat_eq bytes (codes "1'b1")) (Constant true, drop 4 bytes) (number_at bytes))

-- a name behind a backslash, with white space behind it
abbrev pub escaped_at : List ℕ → Option (Token × List ℕ)
escaped_at bytes =
    cond ((run is_graphic bytes == 0) || not (begins_blank (drop (run is_graphic bytes) bytes))) None
    (Some (Name (take (run is_graphic bytes) bytes), drop (run is_graphic bytes) bytes))

-- a string from behind its first quote on
abbrev pub string_at : List ℕ → Option (Token × List ℕ)
string_at bytes =
    cond (begins 34 (drop (run is_text bytes) bytes)) (Some (Text (take (run is_text bytes) bytes), drop 1 (drop (run is_text bytes) bytes))) None

-- a token that no mark begins
abbrev pub unmarked_at : List ℕ → Option (Token × List ℕ)
unmarked_at [] = None
unmarked_at (b ∷ bs) =
    cond (is_letter b) (Some (word_at (b ∷ bs)))
    (cond (is_digit b) (Some (numeral_at (b ∷ bs)))
    (cond (is_symbol b) (Some (Symbol b, bs)) None))

-- the longest token
abbrev pub token_at : List ℕ → Option (Token × List ℕ)
token_at [] = None
token_at (b ∷ bs) =
    cond ((b == 40) && begins 42 bs) (Some (Open, drop 1 bs))
    (cond ((b == 42) && begins 41 bs) (Some (Close, drop 1 bs))
    (cond (b == 92) (escaped_at bs)
    (cond (b == 34) (string_at bs) (unmarked_at (b ∷ bs)))))
