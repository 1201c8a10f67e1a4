-- The tokens of a text, by IEEE 1364-2005 in the profile of docs/FORMATS.md.
use Rattle.std.specs.Prelude.{◌≡◌, ◌≤◌, ◌<◌, ◌⊎◌, ℕ, true, false, List, [], ◌∷◌, ◌++◌, length, IsTrue, codes}
use Rattle.std.specs.List.{AllByRecursion}
use Rattle.small_text.specs.Bytes.{is_letter, is_digit, is_word, is_text, is_blank, is_symbol, is_key, number_of}
use Rattle.agm_net.specs.Writable.{IsWritable}
use Rattle.small_text.specs.declared.token.Token.{Token}
use Rattle.small_text.specs.declared.token.Token.TheVariants.{Name, Key, Number, Constant, Text, Symbol, Open, Close}

-- a letter or `_`, then letters, digits, `_` and `$`
abbrev pub IsSimpleName : List ℕ → Type 0
IsSimpleName [] = Prim.⊥
IsSimpleName (b ∷ bs) = IsTrue (is_letter b) × AllByRecursion (λ c. IsTrue (is_word c)) bs

abbrev pub BeginsBlank : List ℕ → Type 0
BeginsBlank [] = Prim.⊥
BeginsBlank (b ∷ bs) = IsTrue (is_blank b)

-- A text spells a token where a rest stands behind it. An escaped identifier is `\` and a name, and white space stands behind it.
abbrev pub Spells : Token → (text rest : List ℕ) → Type 0
Spells (Name name) text rest =
    ((text ≡ name) × IsSimpleName name × (is_key name ≡ false))
    ⊎ ((text ≡ 92 ∷ name) × IsWritable name × BeginsBlank rest)
Spells (Key word) text rest = (text ≡ word) × IsTrue (is_key word)
Spells (Number n) text rest = (0 < length text) × AllByRecursion (λ b. IsTrue (is_digit b)) text × (number_of text ≡ n)
Spells (Constant false) text rest = text ≡ codes "1'b0"
Spells (Constant true) text rest = text ≡ codes "1'b1"
Spells (Text string) text rest = (text ≡ 34 ∷ (string ++ 34 ∷ [])) × AllByRecursion (λ b. IsTrue (is_text b)) string
Spells (Symbol s) text rest = (text ≡ s ∷ []) × IsTrue (is_symbol s)
Spells Open text rest = text ≡ codes "(*"
Spells Close text rest = text ≡ codes "*)"

-- a token in front of the bytes, the longest there, and a rest behind it
pub record First (bytes : List ℕ) (token : Token) (rest : List ℕ) : Type 0 where
  pub text : List ℕ
  pub whole : bytes ≡ text ++ rest
  pub spells : Spells token text rest
  pub longest : (other : Token) (front behind : List ℕ) → bytes ≡ front ++ behind → Spells other front behind → length front ≤ length text

-- one byte of white space in front of the bytes, and a rest behind it
pub record Blank (bytes rest : List ℕ) : Type 0 where
  pub byte : ℕ
  pub whole : bytes ≡ byte ∷ rest
  pub blank : IsTrue (is_blank byte)

-- the bytes are a row of tokens, each the longest at its place, with white space between them
pub data Cuts : List ℕ → List Token → Type 0 where
  nothing : Cuts [] []
  blank : {bytes rest : List ℕ} {ts : List Token} → Blank bytes rest → Cuts rest ts → Cuts bytes ts
  token : {bytes rest : List ℕ} {t : Token} {ts : List Token} → First bytes t rest → Cuts rest ts → Cuts bytes (t ∷ ts)
