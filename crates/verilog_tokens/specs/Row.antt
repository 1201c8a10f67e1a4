-- The tokens of a text, one behind the other, as a function.
use Rattle.std.specs.Prelude.{ℕ, zero, suc, Bool, false, List, [], ◌∷◌, Option, Some, None, length}
use Rattle.verilog_tokens.specs.Token.{Token, Stray}
use Rattle.verilog_tokens.specs.Gaps.{gap_at}
use Rattle.verilog_tokens.specs.First.{Hit, token_at}

-- a token and the tokens behind it; where no token stands, a piece that is none, and nothing behind it
abbrev pub with_token : (List ℕ → List Token) → Option Hit → List Token
with_token row None = Stray ∷ []
with_token row (Some hit) = hit.0 ∷ row hit.1

-- the tokens behind a gap, or behind a token where no gap stands
abbrev pub with_gap : (Bool → List ℕ → List Token) → Option (Bool × List ℕ) → Option Hit → List Token
with_gap row None token = with_token (row false) token
with_gap row (Some behind) token = row behind.0 behind.1

-- the tokens of the bytes, in at most so many steps
abbrev pub row : ℕ → (begins : Bool) → List ℕ → List Token
row zero begins bytes = []
row (suc k) begins [] = []
row (suc k) begins (b ∷ bs) = with_gap (row k) (gap_at begins (b ∷ bs)) (token_at (b ∷ bs))

-- the tokens from a place on that begins a line, or does not
unfoldable pub tokens_from : (begins : Bool) → List ℕ → List Token
tokens_from begins bytes = row (length bytes) begins bytes

-- the tokens from a place within a line on
abbrev pub tokens_of : List ℕ → List Token
tokens_of bytes = tokens_from false bytes

-- neither is a token in front
abbrev pub NoToken : List Token → Type 0
NoToken [] = Unit {0}
NoToken (Stray ∷ ts) = Unit {0}
NoToken (t ∷ ts) = Prim.⊥

-- each piece is a token
abbrev pub AllTokens : List Token → Type 0
AllTokens [] = Unit {0}
AllTokens (Stray ∷ ts) = Prim.⊥
AllTokens (t ∷ ts) = AllTokens ts
