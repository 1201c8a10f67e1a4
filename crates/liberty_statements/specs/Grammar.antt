-- The grammar of Liberty statements: groups, complex attributes and simple attributes, in the profile of docs/FORMATS.md. A define statement is a complex attribute.
use Rattle.std.specs.Prelude.{ℕ, suc, Bool, true, false, List, [], ◌∷◌, ◌++◌, max, map}
use Rattle.liberty_text.specs.Cuts.{Token, word, text, symbol}

-- string | word { ":" word }
pub data Arg : Type 0 where
  quoted : List ℕ → Arg
  worded : List ℕ → List (List ℕ) → Arg

-- [ arg { [ "," ] arg } ]: each argument but the first with whether a comma stands before it
pub data Args : Type 0 where
  no_args : Args
  some_args : Arg → List (Bool × Arg) → Args

-- word | "," | "(" | ")"
pub data Piece : Type 0 where
  a_word : List ℕ → Piece
  a_comma : Piece
  an_open : Piece
  a_close : Piece

-- string | piece { piece }
pub data Value : Type 0 where
  quoted_value : List ℕ → Value
  pieces : Piece → List Piece → Value

-- A group, a complex attribute and a simple attribute. The flag says whether `;` stands behind.
mutual
  pub data Statement : Type 0 where
    group : List ℕ → Args → Statements → Bool → Statement
    complex : List ℕ → Args → Bool → Statement
    simple : List ℕ → Value → Statement

  pub data Statements : Type 0 where
    none : Statements
    first : Statement → Statements → Statements

-- the tokens of each part in front of a rest
abbrev pub more_words : List (List ℕ) → List Token → List Token
more_words [] rest = rest
more_words (w ∷ ws) rest = symbol 58 ∷ word w ∷ more_words ws rest

abbrev pub arg_tokens : Arg → List Token → List Token
arg_tokens (quoted v) rest = text v ∷ rest
arg_tokens (worded w ws) rest = word w ∷ more_words ws rest

abbrev pub next_arg : Bool × Arg → List Token → List Token
next_arg (true, a) rest = symbol 44 ∷ arg_tokens a rest
next_arg (false, a) rest = arg_tokens a rest

abbrev pub more_args : List (Bool × Arg) → List Token → List Token
more_args [] rest = rest
more_args (a ∷ xs) rest = next_arg a (more_args xs rest)

abbrev pub args_tokens : Args → List Token → List Token
args_tokens no_args rest = rest
args_tokens (some_args a xs) rest = arg_tokens a (more_args xs rest)

abbrev pub piece_token : Piece → Token
piece_token (a_word w) = word w
piece_token a_comma = symbol 44
piece_token an_open = symbol 40
piece_token a_close = symbol 41

abbrev pub more_pieces : List Piece → List Token → List Token
more_pieces [] rest = rest
more_pieces (p ∷ ps) rest = piece_token p ∷ more_pieces ps rest

abbrev pub value_tokens : Value → List Token → List Token
value_tokens (quoted_value v) rest = text v ∷ rest
value_tokens (pieces p ps) rest = piece_token p ∷ more_pieces ps rest

-- `;` or nothing
abbrev pub end_tokens : Bool → List Token → List Token
end_tokens true rest = symbol 59 ∷ rest
end_tokens false rest = rest

abbrev mutual
  pub statement_tokens : Statement → List Token → List Token
  statement_tokens (group n xs ss e) rest = word n ∷ symbol 40 ∷ args_tokens xs (symbol 41 ∷ symbol 123 ∷ statements_tokens ss (symbol 125 ∷ end_tokens e rest))
  statement_tokens (complex n xs e) rest = word n ∷ symbol 40 ∷ args_tokens xs (symbol 41 ∷ end_tokens e rest)
  statement_tokens (simple n v) rest = word n ∷ symbol 58 ∷ value_tokens v (symbol 59 ∷ rest)

  pub statements_tokens : Statements → List Token → List Token
  statements_tokens none rest = rest
  statements_tokens (first s ss) rest = statement_tokens s (statements_tokens ss rest)

-- how many groups nest in each other
abbrev mutual
  pub depth_of : Statement → ℕ
  depth_of (group n xs ss e) = suc (depth_of_all ss)
  depth_of (complex n xs e) = 0
  depth_of (simple n v) = 0

  pub depth_of_all : Statements → ℕ
  depth_of_all none = 0
  depth_of_all (first s ss) = max (depth_of s) (depth_of_all ss)

-- The name that an argument gives: a string's value, or its words with their colons.
abbrev pub colon_words : List (List ℕ) → List ℕ
colon_words [] = []
colon_words (w ∷ ws) = 58 ∷ (w ++ colon_words ws)

abbrev pub arg_name : Arg → List ℕ
arg_name (quoted v) = v
arg_name (worded w ws) = w ++ colon_words ws

abbrev pub second_name : Bool × Arg → List ℕ
second_name a = arg_name a.1

abbrev pub names_of : Args → List (List ℕ)
names_of no_args = []
names_of (some_args a xs) = arg_name a ∷ map second_name xs

-- The text of a value: a string's value, or its pieces with one space between them.
abbrev pub piece_text : Piece → List ℕ
piece_text (a_word w) = w
piece_text a_comma = 44 ∷ []
piece_text an_open = 40 ∷ []
piece_text a_close = 41 ∷ []

abbrev pub spaced : List Piece → List ℕ
spaced [] = []
spaced (p ∷ ps) = 32 ∷ (piece_text p ++ spaced ps)

abbrev pub text_of : Value → List ℕ
text_of (quoted_value v) = v
text_of (pieces p ps) = piece_text p ++ spaced ps
