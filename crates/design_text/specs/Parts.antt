-- Tokens and white space, and how each token is written.
use Rattle.std.specs.Prelude.{ℕ, Bool, false, true, cond, List, [], ◌∷◌, ◌++◌, length, map, codes}
use Rattle.std.specs.List.{flat_map}
use Rattle.std.specs.Fmt.{decimal}
use Rattle.small_text.specs.Layout.{name_text}
use Rattle.verilog_tokens.specs.Token.{Token, Name, Key, Number, Constant, Text, Symbol, Open, Close, Stray}

-- a token, or white space
pub data Part : Type 0 where
  word : Token → Part
  space : List ℕ → Part

abbrev pub bit_digit : Bool → ℕ
bit_digit false = 48
bit_digit true = 49

-- a name is escaped where it is no simple identifier; a constant is written in binary
abbrev pub token_text : Token → List ℕ
token_text (Name name) = name_text name
token_text (Key key) = key
token_text (Number n) = decimal n
token_text (Constant bits) = decimal (length bits) ++ (codes "'b" ++ map bit_digit bits)
token_text (Text string) = 34 ∷ (string ++ 34 ∷ [])
token_text (Symbol s) = s ∷ []
token_text Open = codes "(*"
token_text Close = codes "*)"
token_text Stray = []

abbrev pub part_text : Part → List ℕ
part_text (word t) = token_text t
part_text (space bytes) = bytes

abbrev pub parts_text : List Part → List ℕ
parts_text parts = flat_map part_text parts

abbrev pub symbol : ℕ → Part
symbol s = word (Symbol s)

abbrev pub blank : Part
blank = space (32 ∷ [])

-- a line feed and the indent of the next line
abbrev pub next_line : Part
next_line = space (10 ∷ 32 ∷ 32 ∷ [])
