-- Tokens.
use Rattle.std.specs.Prelude.{ℕ, Bool, List}

pub data Token : Type 0 where
  -- an identifier, without the `\` of an escaped one
  Name : List ℕ → Token
  -- a word that is no identifier
  Key : List ℕ → Token
  -- decimal digits, as their number
  Number : ℕ → Token
  -- a sized constant, as its bits from the most significant on
  Constant : List Bool → Token
  -- a string, as the bytes between its quotes
  Text : List ℕ → Token
  -- one of ( ) [ ] { } , ; : . =
  Symbol : ℕ → Token
  -- `(*`
  Open : Token
  -- `*)`
  Close : Token
  -- a piece that is no token: no text spells it
  Stray : Token
