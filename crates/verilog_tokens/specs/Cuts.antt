-- The tokens of a text, by IEEE 1364-2005 in the profile of docs/FORMATS.md.
use Rattle.std.specs.Prelude.{◌≡◌, ◌≢◌, ◌≤◌, ◌<◌, ◌⊎◌, ◌||◌, ◌==◌, ℕ, Bool, true, false, List, [], ◌∷◌, ◌++◌, length, IsTrue, codes}
use Rattle.std.specs.List.{AllByRecursion}
use Rattle.agm_net.specs.Writable.{IsWritable}
use Rattle.small_text.specs.Bytes.{is_digit, is_word, is_text, is_key, number_of}
use Rattle.small_text.specs.Cuts.{IsSimpleName, BeginsBlank, Blank}
use Rattle.verilog_tokens.specs.Bytes.{is_symbol, is_printed, is_in_line, is_in_directive, is_directive}
use Rattle.verilog_tokens.specs.Constants.{IsConstant}
use Rattle.verilog_tokens.specs.Token.{Token, Name, Key, Number, Constant, Text, Symbol, Open, Close, Stray}

-- the inside of a string: bytes 32 to 126 other than `"` and `\`, and pairs of `\` and a byte 32 to 126
abbrev mutual
  pub IsString : List ℕ → Type 0
  IsString [] = Unit {0}
  IsString (b ∷ bs) = (IsTrue (is_text b) × IsString bs) ⊎ ((b ≡ 92) × IsPaired bs)

  -- the inside of a string from behind a `\` on
  pub IsPaired : List ℕ → Type 0
  IsPaired [] = Prim.⊥
  IsPaired (b ∷ bs) = IsTrue (is_printed b) × IsString bs

-- A text spells a token where a rest stands behind it. An escaped identifier is `\` and a name, and white space stands behind it.
abbrev pub Spells : Token → (text rest : List ℕ) → Type 0
Spells (Name name) text rest =
    ((text ≡ name) × IsSimpleName name × (is_key name ≡ false))
    ⊎ ((text ≡ 92 ∷ name) × IsWritable name × BeginsBlank rest)
Spells (Key word) text rest = (text ≡ word) × IsTrue (is_key word)
Spells (Number n) text rest = (0 < length text) × AllByRecursion (λ b. IsTrue (is_digit b)) text × (number_of text ≡ n)
Spells (Constant bits) text rest = IsConstant text bits
Spells (Text string) text rest = (text ≡ 34 ∷ (string ++ 34 ∷ [])) × IsString string
Spells (Symbol s) text rest = (text ≡ s ∷ []) × IsTrue (is_symbol s)
Spells Open text rest = text ≡ codes "(*"
Spells Close text rest = text ≡ codes "*)"
Spells Stray text rest = Prim.⊥

-- a token in front of the bytes, the longest there, and a rest behind it
pub record First (bytes : List ℕ) (token : Token) (rest : List ℕ) : Type 0 where
  pub text : List ℕ
  pub whole : bytes ≡ text ++ rest
  pub spells : Spells token text rest
  pub longest : (other : Token) (front behind : List ℕ) → bytes ≡ front ++ behind → Spells other front behind → length front ≤ length text

-- a line ends at a line feed or at the end of the bytes
abbrev pub EndsLine : List ℕ → Type 0
EndsLine [] = Unit {0}
EndsLine (b ∷ bs) = b ≡ 10

-- `//` to the end of the line
pub record LineComment (bytes rest : List ℕ) : Type 0 where
  pub text : List ℕ
  pub whole : bytes ≡ 47 ∷ 47 ∷ (text ++ rest)
  pub inside : AllByRecursion (λ b. IsTrue (is_in_line b)) text
  pub ended : EndsLine rest

-- `/*` to the first `*/`
pub record BlockComment (bytes rest : List ℕ) : Type 0 where
  pub text : List ℕ
  pub whole : bytes ≡ 47 ∷ 42 ∷ (text ++ 42 ∷ 47 ∷ rest)
  pub inside : (front behind : List ℕ) → text ++ 42 ∷ [] ≢ front ++ 42 ∷ 47 ∷ behind

-- no byte of a word stands in front
abbrev pub EndsWord : List ℕ → Type 0
EndsWord [] = Unit {0}
EndsWord (b ∷ bs) = is_word b ≡ false

-- a backquote and a directive's word, to the end of the line
pub record Directive (bytes rest : List ℕ) : Type 0 where
  pub word : List ℕ
  pub text : List ℕ
  pub whole : bytes ≡ 96 ∷ (word ++ (text ++ rest))
  pub known : IsTrue (is_directive word)
  pub apart : EndsWord (text ++ rest)
  pub inside : AllByRecursion (λ b. IsTrue (is_in_directive b)) text
  pub ended : EndsLine rest

-- What may stand before a token, and the rest behind it: a byte of white space, a comment, or a line that is read over.
-- A place begins a line where nothing but white space stands before it on its line; a directive is read over only there.
pub data Gap : (begins : Bool) (bytes : List ℕ) (begins_behind : Bool) (rest : List ℕ) → Type 0 where
  blank : {begins behind : Bool} {bytes rest : List ℕ} → (white : Blank bytes rest) → behind ≡ (begins || (white.byte == 10)) → Gap begins bytes behind rest
  line_comment : {begins behind : Bool} {bytes rest : List ℕ} → LineComment bytes rest → behind ≡ false → Gap begins bytes behind rest
  block_comment : {begins behind : Bool} {bytes rest : List ℕ} → BlockComment bytes rest → behind ≡ false → Gap begins bytes behind rest
  directive : {begins behind : Bool} {bytes rest : List ℕ} → Directive bytes rest → begins ≡ true → behind ≡ false → Gap begins bytes behind rest

-- the bytes are a row of tokens, each the longest at its place, with white space, comments and lines that are read over between them
pub data Cuts : (begins : Bool) (bytes : List ℕ) → List Token → Type 0 where
  nothing : {begins : Bool} → Cuts begins [] []
  gap : {begins behind : Bool} {bytes rest : List ℕ} {ts : List Token} → Gap begins bytes behind rest → Cuts behind rest ts → Cuts begins bytes ts
  token : {begins : Bool} {bytes rest : List ℕ} {t : Token} {ts : List Token} → First bytes t rest → Cuts false rest ts → Cuts begins bytes (t ∷ ts)
