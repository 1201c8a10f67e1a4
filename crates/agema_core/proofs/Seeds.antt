-- Words are read as the seeds that they spell.
use Rattle.std.proofs.Common.{◌≡◌, ◌∙◌, ℕ, Bool, true, false, cond, List, length, Option, Some, None, Result, Ok, Err, refl, sym, ap, arith}
use Rattle.std.specs.Str.{bytes_eq}
use Rattle.std.proofs.lemmas.Slice.Eq.{bytes_eq-Decides}
use Rattle.hex.specs.Hex.{decode_of, decode_sized, encode_lower}
use Rattle.hex.specs.declared.error.FromHexError.{FromHexError}
use Rattle.hex.proofs.HexLemmas.{decode_of-ok, decode_sized-encode_lower, decode_sized-ok, decode_sized-twice}
use Rattle.agema_core.specs.Seed.{IsSeed, if_right, if_spelled, seed_of}

spelled_itself : (seed : List ℕ) → if_spelled seed (encode_lower seed) ≡ Some seed
spelled_itself seed = rw ((bytes_eq-Decides (encode_lower seed) (encode_lower seed)).1 refl) refl

pub seed_read : (seed : List ℕ) → IsSeed seed → seed_of (encode_lower seed) ≡ Some seed
seed_read seed is = ap (if_right (encode_lower seed)) (decode_sized-encode_lower seed 32 is.0 is.1) ∙ spelled_itself seed

by_test : (b : Bool) (x seed : List ℕ) → cond b (Some x) None ≡ Some seed → (b ≡ true) × (x ≡ seed)
by_test true x seed h = (refl, cc)
by_test false x seed h = cc

from_right : (word : List ℕ) (r : Result (List ℕ) FromHexError) (seed : List ℕ) → if_right word r ≡ Some seed → (r ≡ Ok seed) × (encode_lower seed ≡ word)
from_right word (Ok x) seed h =
    let spelled = by_test (bytes_eq (encode_lower x) word) x seed h in
    (ap (λ s. Ok s) spelled.1, sym (ap encode_lower spelled.1) ∙ (bytes_eq-Decides (encode_lower x) word).0 spelled.0)
from_right word (Err e) seed h = cc

pub read_seed : (word seed : List ℕ) → seed_of word ≡ Some seed → IsSeed seed × (word ≡ encode_lower seed)
read_seed word seed h =
    let right = from_right word (decode_sized word 32) seed h in
    let long = decode_sized-ok word 32 seed right.0 in
    let decoded : decode_of word ≡ Ok seed = sym (decode_sized-twice word 32 long) ∙ right.0 in
    let parts = decode_of-ok word seed decoded in
    ((omega (arith, long, parts.2), parts.3), sym right.1)
