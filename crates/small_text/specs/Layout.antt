-- How tokens are written, with white space between them.
use Rattle.std.specs.Prelude.{◌<◌, ◌⊎◌, ◌==◌, ◌++◌, ◌^◌, ℕ, Bool, true, false, not, ◌&&◌, cond, List, [], ◌∷◌, length, map, codes, IsTrue}
use Rattle.std.specs.List.{flat_map, list_all, AllByRecursion}
use Rattle.std.specs.Fmt.{decimal}
use Rattle.agm_net.specs.Writable.{IsWritable}
use Rattle.small_text.specs.Bytes.{is_letter, is_word, is_text, is_blank, is_symbol, is_key}
use Rattle.small_text.specs.declared.token.Token.{Token}
use Rattle.small_text.specs.declared.token.Token.TheVariants.{Name, Key, Number, Constant, Text, Symbol, Open, Close}

-- a token, and the white space behind it
pub record Piece : Type 0 where
  pub token : Token
  pub gap : List ℕ

-- whether a name is a simple identifier, so that it is written as it stands
abbrev pub is_simple_name : List ℕ → Bool
is_simple_name [] = false
is_simple_name (b ∷ bs) = is_letter b && (list_all is_word bs && not (is_key (b ∷ bs)))

abbrev pub name_text : List ℕ → List ℕ
name_text name = cond (is_simple_name name) name (92 ∷ name)

abbrev pub constant_text : Bool → List ℕ
constant_text false = codes "1'b0"
constant_text true = codes "1'b1"

abbrev pub token_text : Token → List ℕ
token_text (Name name) = name_text name
token_text (Key word) = word
token_text (Number n) = decimal n
token_text (Constant v) = constant_text v
token_text (Text string) = 34 ∷ (string ++ 34 ∷ [])
token_text (Symbol s) = s ∷ []
token_text Open = codes "(*"
token_text Close = codes "*)"

abbrev pub is_symbol_token : Token → Bool
is_symbol_token (Symbol s) = true
is_symbol_token _ = false

abbrev pub is_close : Token → Bool
is_close Close = true
is_close _ = false

-- whether a token may be written directly in front of the next one
abbrev pub may_touch : Token → Token → Bool
may_touch (Name name) next = is_simple_name name && is_symbol_token next
may_touch (Key word) next = is_symbol_token next
may_touch (Number n) next = is_symbol_token next
may_touch (Constant v) next = is_symbol_token next
may_touch (Symbol s) next = not ((s == 40) && is_close next)
may_touch (Text string) next = true
may_touch Open next = true
may_touch Close next = true

-- a token that can be written
abbrev pub IsToken : Token → Type 0
IsToken (Name name) = IsWritable name
IsToken (Key word) = IsTrue (is_key word)
IsToken (Number n) = n < 2 ^ 64
IsToken (Constant v) = Unit {0}
IsToken (Text string) = AllByRecursion (λ b. IsTrue (is_text b)) string
IsToken (Symbol s) = IsTrue (is_symbol s)
IsToken Open = Unit {0}
IsToken Close = Unit {0}

abbrev pub IsPiece : Piece → Type 0
IsPiece p = IsToken p.token × AllByRecursion (λ b. IsTrue (is_blank b)) p.gap

-- each gap is white space, and is empty only between tokens that may touch
abbrev pub IsLaidOut : List Piece → Type 0
IsLaidOut [] = Unit {0}
IsLaidOut (p ∷ []) = IsPiece p × (0 < length p.gap)
IsLaidOut (p ∷ q ∷ ps) = IsPiece p × ((0 < length p.gap) ⊎ IsTrue (may_touch p.token q.token)) × IsLaidOut (q ∷ ps)

abbrev pub piece_text : Piece → List ℕ
piece_text p = token_text p.token ++ p.gap

abbrev pub laid_text : List Piece → List ℕ
laid_text pieces = flat_map piece_text pieces

abbrev pub laid_tokens : List Piece → List Token
laid_tokens pieces = map (λ p. p.token) pieces
