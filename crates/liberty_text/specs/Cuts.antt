-- The tokens of a Liberty text, by the Liberty syntax of Synopsys' Library Compiler in the profile of docs/FORMATS.md.
use Rattle.std.specs.Prelude.{◌≡◌, ◌≢◌, ◌≤◌, ◌<◌, ◌==◌, ◌&&◌, ℕ, zero, suc, Bool, false, not, cond, List, [], ◌∷◌, ◌++◌, length, drop, IsTrue}
use Rattle.std.specs.List.{AllByRecursion}
use Rattle.liberty_text.specs.Bytes.{is_blank, is_symbol, is_word, is_text, line_end, ends, begins_comment}

-- a word, a string's value, one of the symbols ( ) , : ; { }, or a piece that is no token
pub data Token : Type 0 where
  word : List ℕ → Token
  text : List ℕ → Token
  symbol : ℕ → Token
  wrong : Token

-- the bytes from behind the next so many on, with each `\` and the line end behind it as one space
abbrev pub unbroken_behind : ℕ → List ℕ → List ℕ
unbroken_behind skip [] = []
unbroken_behind (suc skip) (b ∷ bs) = unbroken_behind skip bs
unbroken_behind zero (b ∷ bs) = cond ((b == 92) && not (line_end bs == 0)) (32 ∷ unbroken_behind (line_end bs) bs) (b ∷ unbroken_behind 0 bs)

-- the value of a string: its bytes, where `\` and a line end count as one space
abbrev pub unbroken : List ℕ → List ℕ
unbroken bytes = unbroken_behind 0 bytes

-- whether a `\` that counts as white space is the last of these bytes: one with a line end behind it
abbrev pub is_broken : (bytes rest : List ℕ) → Bool
is_broken bytes rest = ends 92 bytes && not (line_end rest == 0)

-- A text spells a token where a rest stands behind it. A word does not begin with `/*`.
abbrev pub Spells : Token → (spelled rest : List ℕ) → Type 0
Spells (word w) spelled rest =
    (spelled ≡ w) × (0 < length w) × AllByRecursion (λ b. IsTrue (is_word b)) w × (begins_comment (w ++ rest) ≡ false) × (is_broken w rest ≡ false)
Spells (text v) spelled rest = (inner : List ℕ) × (spelled ≡ 34 ∷ (inner ++ 34 ∷ [])) × AllByRecursion (λ b. IsTrue (is_text b)) inner × (v ≡ unbroken inner)
Spells (symbol s) spelled rest = (spelled ≡ s ∷ []) × IsTrue (is_symbol s)
Spells wrong spelled rest = ⊥

-- a token in front of the bytes, the longest there, and a rest behind it
pub record First (bytes : List ℕ) (token : Token) (rest : List ℕ) : Type 0 where
  pub spelled : List ℕ
  pub whole : bytes ≡ spelled ++ rest
  pub spells : Spells token spelled rest
  pub longest : (other : Token) (front behind : List ℕ) → bytes ≡ front ++ behind → Spells other front behind → length front ≤ length spelled

-- one byte of white space in front of the bytes, and a rest behind it
pub record Blank (bytes rest : List ℕ) : Type 0 where
  pub byte : ℕ
  pub whole : bytes ≡ byte ∷ rest
  pub blank : IsTrue (is_blank byte)

-- `\` and a line end, which counts as white space
pub record Break (bytes rest : List ℕ) : Type 0 where
  pub behind : List ℕ
  pub whole : bytes ≡ 92 ∷ behind
  pub line_ends : 0 < line_end behind
  pub rest_is : rest ≡ drop (line_end behind) behind

-- `/*` to the first `*/`
pub record Comment (bytes rest : List ℕ) : Type 0 where
  pub inner : List ℕ
  pub whole : bytes ≡ 47 ∷ 42 ∷ (inner ++ 42 ∷ 47 ∷ rest)
  pub inside : (front behind : List ℕ) → inner ++ 42 ∷ [] ≢ front ++ 42 ∷ 47 ∷ behind

-- the bytes are a row of tokens, each the longest at its place, with white space and comments between them
pub data Cuts : List ℕ → List Token → Type 0 where
  nothing : Cuts [] []
  blank : {bytes rest : List ℕ} {ts : List Token} → Blank bytes rest → Cuts rest ts → Cuts bytes ts
  line : {bytes rest : List ℕ} {ts : List Token} → Break bytes rest → Cuts rest ts → Cuts bytes ts
  comment : {bytes rest : List ℕ} {ts : List Token} → Comment bytes rest → Cuts rest ts → Cuts bytes ts
  token : {bytes rest : List ℕ} {t : Token} {ts : List Token} → First bytes t rest → Cuts rest ts → Cuts bytes (t ∷ ts)
