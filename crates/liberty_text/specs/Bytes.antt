-- Kinds of bytes of a Liberty text, and its line ends.
use Rattle.std.specs.Prelude.{◌==◌, ◌-◌, ℕ, Bool, false, not, ◌&&◌, ◌||◌, cond, List, [], ◌∷◌, length, nat_le, slice_index}

-- white space: space, tab, line feed, form feed, carriage return
abbrev pub is_blank : ℕ → Bool
is_blank b = (b == 32) || ((nat_le 9 b && nat_le b 10) || (nat_le 12 b && nat_le b 13))

-- ( ) , : ; { }
abbrev pub is_symbol : ℕ → Bool
is_symbol b = (b == 40) || ((b == 41) || ((b == 44) || ((b == 58) || ((b == 59) || ((b == 123) || (b == 125))))))

-- a byte of a word: 33 to 126 without `"` and the symbols
abbrev pub is_word : ℕ → Bool
is_word b = (nat_le 33 b && nat_le b 126) && (not (b == 34) && not (is_symbol b))

-- a byte of a string: any but `"`
abbrev pub is_text : ℕ → Bool
is_text b = not (b == 34)

-- whether a byte stands in front
abbrev pub begins : ℕ → List ℕ → Bool
begins b [] = false
begins b (c ∷ cs) = c == b

-- how long the line end in front is: a line feed, or a carriage return and a line feed; 0 where none is
abbrev pub line_end : List ℕ → ℕ
line_end [] = 0
line_end (b ∷ bs) = cond (b == 10) 1 (cond ((b == 13) && begins 10 bs) 2 0)

-- whether a byte is the last
abbrev pub ends : ℕ → List ℕ → Bool
ends b bytes = slice_index bytes (length bytes - 1) == b

-- whether a comment begins in front
abbrev pub begins_comment : List ℕ → Bool
begins_comment [] = false
begins_comment (b ∷ bs) = (b == 47) && begins 42 bs
