-- Seeds of random bits: 32 bytes, spelled by 64 hexadecimal digits with small letters.
use Rattle.std.specs.Prelude.{◌≡◌, ℕ, cond, List, length, Option, Some, None, Result, Ok, Err}
use Rattle.std.specs.Str.{bytes_eq}
use Rattle.hex.specs.Hex.{IsBytes, decode_sized, encode_lower}
use Rattle.hex.specs.declared.error.FromHexError.{FromHexError}

abbrev pub IsSeed : List ℕ → Type 0
IsSeed seed = (length seed ≡ 32) × IsBytes seed

-- a seed, if the word spells it
abbrev pub if_spelled : (seed word : List ℕ) → Option (List ℕ)
if_spelled seed word = cond (bytes_eq (encode_lower seed) word) (Some seed) None

abbrev pub if_right : (word : List ℕ) → Result (List ℕ) FromHexError → Option (List ℕ)
if_right word (Ok seed) = if_spelled seed word
if_right word (Err e) = None

-- the seed that a word spells
abbrev pub seed_of : List ℕ → Option (List ℕ)
seed_of word = if_right word (decode_sized word 32)
