-- What stands in front of a text and what stands behind that, as functions.
use Rattle.std.specs.Prelude.{◌==◌, ◌-◌, ℕ, Bool, ◌&&◌, cond, List, [], ◌∷◌, Option, Some, None, length, take, drop}
use Rattle.std.specs.List.{take_while}
use Rattle.liberty_text.specs.Bytes.{is_blank, is_symbol, is_word, is_text, begins, line_end}
use Rattle.liberty_text.specs.Cuts.{Token, word, text, symbol, unbroken, is_broken}

-- how many bytes from the front on are of a kind
abbrev pub run : (ℕ → Bool) → List ℕ → ℕ
run kind bytes = length (take_while kind bytes)

-- what stands behind the first `*/`
abbrev pub behind_close : List ℕ → Option (List ℕ)
behind_close [] = None
behind_close (b ∷ bs) = cond ((b == 42) && begins 47 bs) (Some (drop 1 bs)) (behind_close bs)

-- what stands behind a line end
abbrev pub line_at : List ℕ → Option (List ℕ)
line_at bytes = cond (line_end bytes == 0) None (Some (drop (line_end bytes) bytes))

-- what stands behind one byte of white space, a `\` and a line end, or a comment
abbrev pub gap_at : List ℕ → Option (List ℕ)
gap_at [] = None
gap_at (b ∷ bs) =
    cond ((b == 47) && begins 42 bs) (behind_close (drop 1 bs))
    (cond (b == 92) (line_at bs)
    (cond (is_blank b) (Some bs) None))

-- how long the word in front is: a last `\` before a line end is none of its bytes
abbrev pub word_run : List ℕ → ℕ
word_run bytes =
    cond (is_broken (take (run is_word bytes) bytes) (drop (run is_word bytes) bytes)) (run is_word bytes - 1) (run is_word bytes)

abbrev pub word_at : List ℕ → Option (Token × List ℕ)
word_at bytes = cond (word_run bytes == 0) None (Some (word (take (word_run bytes) bytes), drop (word_run bytes) bytes))

-- a string from behind its first quote on
abbrev pub string_at : List ℕ → Option (Token × List ℕ)
string_at bytes =
    cond (begins 34 (drop (run is_text bytes) bytes))
    (Some (text (unbroken (take (run is_text bytes) bytes)), drop 1 (drop (run is_text bytes) bytes))) None

-- the longest token
abbrev pub token_at : List ℕ → Option (Token × List ℕ)
token_at [] = None
token_at (b ∷ bs) =
    cond ((b == 47) && begins 42 bs) None
    (cond (b == 34) (string_at bs)
    (cond (is_symbol b) (Some (symbol b, bs)) (word_at (b ∷ bs))))
