-- All tokens of a text, as a function, and the first of them.
use Rattle.std.specs.Prelude.{◌≢◌, ℕ, Bool, true, false, List, [], ◌∷◌, Option, Some, None}
use Rattle.std.specs.List.{AllByRecursion}
use Rattle.liberty_text.specs.Cuts as cuts
use Rattle.liberty_text.specs.Cuts.{unbroken}
use Rattle.liberty_text.specs.First.{gap_at, token_at}
use Rattle.liberty_text.specs.Row.{row}
use Rattle.liberty_text.specs.declared.token.Token.{Token}
use Rattle.liberty_text.specs.declared.token.Token.TheVariants.{Word, Text, Symbol}

-- the tokens up to the first piece that is none, and that piece
unfoldable pub tokens_of : List ℕ → List cuts.Token
tokens_of bytes = row cuts.wrong gap_at token_at bytes

-- the token that stands for a part of the text
abbrev pub token_of : Token → cuts.Token
token_of (Word w) = cuts.word w.now
token_of (Text inner) = cuts.text (unbroken inner.now)
token_of (Symbol s) = cuts.symbol s

-- the first token and those behind it
abbrev pub front_of : List cuts.Token → Option (cuts.Token × List cuts.Token)
front_of [] = None
front_of (cuts.word w ∷ ts) = Some (cuts.word w, ts)
front_of (cuts.text v ∷ ts) = Some (cuts.text v, ts)
front_of (cuts.symbol s ∷ ts) = Some (cuts.symbol s, ts)
front_of (cuts.wrong ∷ ts) = None

abbrev pub is_nil : List cuts.Token → Bool
is_nil [] = true
is_nil (t ∷ ts) = false

-- no token is a piece that is none
abbrev pub IsWhole : List cuts.Token → Type 0
IsWhole ts = AllByRecursion (λ t. t ≢ cuts.wrong) ts
