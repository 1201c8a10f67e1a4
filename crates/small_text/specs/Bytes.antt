-- Kinds of bytes, and the words that are no identifiers.
use Rattle.std.specs.Prelude.{◌==◌, ◌+◌, ◌-◌, ◌*◌, ℕ, Bool, not, ◌&&◌, ◌||◌, List, [], ◌∷◌, nat_le, codes, fold}
use Rattle.std.specs.List.{list_any}
use Rattle.std.specs.Str.{bytes_eq}

-- a letter or `_`
abbrev pub is_letter : ℕ → Bool
is_letter b = (nat_le 97 b && nat_le b 122) || ((nat_le 65 b && nat_le b 90) || (b == 95))

abbrev pub is_digit : ℕ → Bool
is_digit b = nat_le 48 b && nat_le b 57

-- a byte of a simple identifier: a letter, a digit, `_` or `$`
abbrev pub is_word : ℕ → Bool
is_word b = is_letter b || (is_digit b || (b == 36))

-- a byte of a string: 32 to 126 without `"` and `\`
abbrev pub is_text : ℕ → Bool
is_text b = (nat_le 32 b && nat_le b 126) && (not (b == 34) && not (b == 92))

-- white space: space, tab, line feed, form feed, carriage return
abbrev pub is_blank : ℕ → Bool
is_blank b = (b == 32) || ((nat_le 9 b && nat_le b 10) || (nat_le 12 b && nat_le b 13))

-- ( ) [ ] , ; : . =
abbrev pub is_symbol : ℕ → Bool
is_symbol b = (b == 40) || ((b == 41) || ((b == 91) || ((b == 93) || ((b == 44) || ((b == 59) || ((b == 58) || ((b == 46) || (b == 61))))))))

-- the number that digits spell in base ten
abbrev pub number_of : List ℕ → ℕ
number_of digits = fold (λ n d. n * 10 + (d - 48)) 0 digits

abbrev pub key_words : List (List ℕ)
key_words =
    codes "module" ∷ codes "endmodule" ∷ codes "input" ∷ codes "output" ∷ codes "inout" ∷ codes "wire" ∷ codes "assign" ∷ codes "reg"
    ∷ codes "tri" ∷ codes "supply0" ∷ codes "supply1" ∷ codes "parameter" ∷ codes "localparam" ∷ codes "defparam" ∷ codes "always"
    ∷ codes "initial" ∷ codes "generate" ∷ codes "function" ∷ codes "task" ∷ codes "specify" ∷ codes "signed" ∷ codes "and" ∷ codes "nand"
    ∷ codes "or" ∷ codes "nor" ∷ codes "xor" ∷ codes "xnor" ∷ codes "not" ∷ codes "buf" ∷ []

-- whether a word is a token of its own and no identifier
abbrev pub is_key : List ℕ → Bool
is_key word = list_any (λ k. bytes_eq k word) key_words
