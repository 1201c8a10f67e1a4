-- Kinds of bytes.
use Rattle.std.proofs.Common.{◌≡◌, ◌==◌, ℕ, Bool, true, false, List, [], ◌∷◌, refl, sym, ap, ◌∙◌, inl, inr, IsTrue, arith}
use Rattle.std.specs.List.{list_all, list_any}
use Rattle.std.specs.Str.{bytes_eq}
use Rattle.std.proofs.lemmas.Slice.Eq.{bytes_eq-Decides}
use Rattle.std.proofs.lemmas.Bool.Decides.{nat_tests}
use Rattle.small_text.specs.Bytes.{is_letter, is_digit, is_key, key_words}
use Rattle.small_text.proofs.ByteKinds.{both, either}
use Rattle.verilog_tokens.specs.Bytes.{is_symbol, may_be_key}

-- a symbol begins no other token but `(*`
pub record IsPlainSymbol (b : ℕ) : Type 0 where
  pub star : (b == 42) ≡ false
  pub backslash : (b == 92) ≡ false
  pub quote : (b == 34) ≡ false
  pub letter : is_letter b ≡ false
  pub digit : is_digit b ≡ false

-- a symbol is none of the other kinds
pub symbol_kinds : (b : ℕ) → IsTrue (is_symbol b) → IsPlainSymbol b
symbol_kinds b h = record {
  star = grind (arith, nat_tests);
  backslash = grind (arith, nat_tests);
  quote = grind (arith, nat_tests);
  letter = grind (arith, nat_tests);
  digit = grind (arith, nat_tests);
}

may_be_among : (words : List (List ℕ)) (w : List ℕ) → list_all may_be_key words ≡ true → list_any (λ k. bytes_eq k w) words ≡ true → may_be_key w ≡ true
may_be_among [] w all h = absurd (cc)
may_be_among (k ∷ ks) w all h =
    let parts = both (may_be_key k) (list_all may_be_key ks) all in
    elim (either (bytes_eq k w) (list_any (λ v. bytes_eq v w) ks) h) [
      | inl e ↦ ap may_be_key (sym ((bytes_eq-Decides k w).0 e)) ∙ parts.0
      | inr e ↦ may_be_among ks w parts.1 e
    ]

no_key : (q : Bool) (w : List ℕ) → is_key w ≡ q → may_be_key w ≡ false → false ≡ q
no_key false w e h = refl
no_key true w e h = absurd (cc (sym (may_be_among key_words w refl e) ∙ h))

-- a word that may not be a key is none
pub not_key : (w : List ℕ) → may_be_key w ≡ false → false ≡ is_key w
not_key w h = no_key (is_key w) w refl h
