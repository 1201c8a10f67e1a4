-- The parts of a function text: names, constants and signs, with white space between them.
use Rattle.std.specs.Prelude.{◌≡◌, ◌==◌, ◌&&◌, ◌||◌, ℕ, Bool, false, List, [], ◌∷◌, ◌++◌, nat_le, IsTrue}
use Rattle.std.specs.List.{AllByRecursion}
use Rattle.liberty_text.specs.Bytes.{is_blank}

-- a letter, `_`, `[`, `]` or `.`
abbrev pub is_first : ℕ → Bool
is_first b = (nat_le 97 b && nat_le b 122) || ((nat_le 65 b && nat_le b 90) || ((b == 95) || ((b == 91) || ((b == 93) || (b == 46)))))

-- a byte of a name: one of these, or a digit
abbrev pub is_name : ℕ → Bool
is_name b = is_first b || (nat_le 48 b && nat_le b 57)

-- 0 1 ! ' ^ * & + | ( )
abbrev pub is_sign : ℕ → Bool
is_sign b =
    (b == 48) || ((b == 49) || ((b == 33) || ((b == 39) || ((b == 94) || ((b == 42) || ((b == 38) || ((b == 43) || ((b == 124) || ((b == 40) || (b == 41))))))))))

-- a name, a constant or a sign as its byte, or a piece that is none of these
pub data Part : Type 0 where
  name : List ℕ → Part
  sign : ℕ → Part
  wrong : Part

-- no byte of a name stands in front
abbrev pub EndsName : List ℕ → Type 0
EndsName [] = Unit {0}
EndsName (b ∷ bs) = is_name b ≡ false

-- a name in front of the bytes, as long as it goes on, and a rest behind it
pub record Named (bytes spelled rest : List ℕ) : Type 0 where
  pub first : ℕ
  pub more : List ℕ
  pub spelled_is : spelled ≡ first ∷ more
  pub whole : bytes ≡ spelled ++ rest
  pub begins : IsTrue (is_first first)
  pub goes_on : AllByRecursion (λ b. IsTrue (is_name b)) more
  pub ended : EndsName rest

-- a byte of a kind in front of the bytes, and a rest behind it
pub record OneByte (kind : ℕ → Bool) (bytes : List ℕ) (byte : ℕ) (rest : List ℕ) : Type 0 where
  pub whole : bytes ≡ byte ∷ rest
  pub is_kind : IsTrue (kind byte)

-- The bytes are a row of parts with white space between them. A digit in front of no name is a constant or nothing.
pub data Cuts : List ℕ → List Part → Type 0 where
  nothing : Cuts [] []
  blank : {bytes rest : List ℕ} {b : ℕ} {ps : List Part} → OneByte is_blank bytes b rest → Cuts rest ps → Cuts bytes ps
  signed : {bytes rest : List ℕ} {b : ℕ} {ps : List Part} → OneByte is_sign bytes b rest → Cuts rest ps → Cuts bytes (sign b ∷ ps)
  named : {bytes spelled rest : List ℕ} {ps : List Part} → Named bytes spelled rest → Cuts rest ps → Cuts bytes (name spelled ∷ ps)
