-- Kinds of bytes, and tests that hold.
use Rattle.std.proofs.Common.{◌≡◌, ◌==◌, ◌<◌, ◌||◌, ◌&&◌, not, ◌⊎◌, ℕ, Bool, true, false, cond, List, [], ◌∷◌, drop, refl, sym, ap, ◌∙◌, inl, inr, IsTrue, arith}
use Rattle.std.specs.List.{AllByRecursion, list_all, list_any}
use Rattle.std.specs.Str.{bytes_eq}
use Rattle.std.proofs.lemmas.Bool.Decides.{nat_tests}
use Rattle.std.proofs.lemmas.Slice.Eq.{bytes_eq-Decides}
use Rattle.agm_net.specs.Writable.{is_graphic}
use Rattle.small_text.specs.Bytes.{is_letter, is_digit, is_word, is_blank, is_symbol, is_key, key_words}
use Rattle.small_text.specs.First.{begins}
use Rattle.small_text.specs.Cuts.{IsSimpleName}

-- the value of a choice, by the test
pub chosen : {X : Type 0} (b : Bool) (x y z : X) → cond b x y ≡ z → ((b ≡ true) × (x ≡ z)) ⊎ ((b ≡ false) × (y ≡ z))
chosen true x y z h = inl (refl, h)
chosen false x y z h = inr (refl, h)

-- a choice whose test holds
pub first_choice : {X : Type 0} (b : Bool) (x y : X) → b ≡ true → cond b x y ≡ x
first_choice b x y h = rw h refl

-- a choice whose test fails
pub second_choice : {X : Type 0} (b : Bool) (x y : X) → b ≡ false → cond b x y ≡ y
second_choice b x y h = rw h refl

-- `&&` fails where its first test does
pub not_both : (a b : Bool) → a ≡ false → (a && b) ≡ false
not_both a b h = rw h refl

-- `&&` holds where both tests do
pub both : (a b : Bool) → (a && b) ≡ true → (a ≡ true) × (b ≡ true)
both true b h = (refl, h)
both false b h = absurd (cc)

-- `||` holds where one test does
pub either : (a b : Bool) → (a || b) ≡ true → (a ≡ true) ⊎ (b ≡ true)
either true b h = inl refl
either false b h = inr h

-- where `a || not b` fails, a fails and b holds
pub neither : (a b : Bool) → (a || not b) ≡ false → (a ≡ false) × (b ≡ true)
neither true b h = absurd (cc)
neither false true h = (refl, refl)
neither false false h = absurd (cc)

-- the test of equality
pub same_number : (a b : ℕ) → (a == b) ≡ true → a ≡ b
same_number a b h = grind (arith, nat_tests)

-- a number above 0 is not 0
pub not_zero : (n : ℕ) → 0 < n → (n == 0) ≡ false
not_zero n h = grind (arith, nat_tests)

-- a number that is not 0 is above it
pub above_zero : (n : ℕ) → (n == 0) ≡ false → 0 < n
above_zero n h = grind (arith, nat_tests)

-- a symbol begins no other token but `(*`
pub record IsPlainSymbol (b : ℕ) : Type 0 where
  pub star : (b == 42) ≡ false
  pub backslash : (b == 92) ≡ false
  pub quote : (b == 34) ≡ false
  pub letter : is_letter b ≡ false
  pub digit : is_digit b ≡ false

-- a symbol is none of the other kinds
pub symbol_kinds : (b : ℕ) → IsTrue (is_symbol b) → IsPlainSymbol b
symbol_kinds b h = record {
  star = grind (arith, nat_tests);
  backslash = grind (arith, nat_tests);
  quote = grind (arith, nat_tests);
  letter = grind (arith, nat_tests);
  digit = grind (arith, nat_tests);
}

-- no word and no number begins as another token does
pub record IsPlainByte (b : ℕ) : Type 0 where
  pub parenthesis : (b == 40) ≡ false
  pub star : (b == 42) ≡ false
  pub backslash : (b == 92) ≡ false
  pub quote : (b == 34) ≡ false

-- a letter marks nothing
pub letter_kinds : (b : ℕ) → IsTrue (is_letter b) → IsPlainByte b
letter_kinds b h = record {
  parenthesis = grind (arith, nat_tests);
  star = grind (arith, nat_tests);
  backslash = grind (arith, nat_tests);
  quote = grind (arith, nat_tests);
}

-- a digit marks nothing
pub digit_kinds : (b : ℕ) → IsTrue (is_digit b) → IsPlainByte b
digit_kinds b h = record {
  parenthesis = grind (arith, nat_tests);
  star = grind (arith, nat_tests);
  backslash = grind (arith, nat_tests);
  quote = grind (arith, nat_tests);
}

-- a digit is no letter
pub digit_no_letter : (b : ℕ) → IsTrue (is_digit b) → is_letter b ≡ false
digit_no_letter b h = grind (arith, nat_tests)

-- white space is not seen
pub blank_no_graphic : (b : ℕ) → IsTrue (is_blank b) → is_graphic b ≡ false
blank_no_graphic b h = grind (arith, nat_tests)

-- the byte that a text begins with
pub begins_is : (b : ℕ) (bs : List ℕ) → begins b bs ≡ true → bs ≡ b ∷ drop 1 bs
begins_is b [] h = absurd (cc)
begins_is b (c ∷ cs) h = ap (λ x. x ∷ cs) (same_number c b h)

-- what a test of each element says
pub all_pass : {X : Type 0} (test : X → Bool) (xs : List X) → list_all test xs ≡ true → AllByRecursion (λ x. IsTrue (test x)) xs
all_pass test [] h = tt
all_pass test (x ∷ xs) h = let parts = both (test x) (list_all test xs) h in (parts.0, all_pass test xs parts.1)

-- a letter, then bytes of a word
abbrev has_word_shape : List ℕ → Bool
has_word_shape [] = false
has_word_shape (b ∷ bs) = is_letter b && list_all is_word bs

-- a word of that shape looks like a name
pub simple_word : (w : List ℕ) → has_word_shape w ≡ true → IsSimpleName w
simple_word [] h = absurd (cc)
simple_word (b ∷ bs) h = let parts = both (is_letter b) (list_all is_word bs) h in (parts.0, all_pass is_word bs parts.1)

-- words that the test finds equal are equal
same_bytes : (xs ys : List ℕ) → bytes_eq xs ys ≡ true → xs ≡ ys
same_bytes xs ys h = (bytes_eq-Decides xs ys).0 h

-- a word among words of that shape has it
shape_among : (words : List (List ℕ)) (w : List ℕ) → list_all has_word_shape words ≡ true → list_any (λ k. bytes_eq k w) words ≡ true → has_word_shape w ≡ true
shape_among [] w all h = absurd (cc)
shape_among (k ∷ ks) w all h =
    let shapes = both (has_word_shape k) (list_all has_word_shape ks) all in
    elim (either (bytes_eq k w) (list_any (λ v. bytes_eq v w) ks) h) [
      | inl e ↦ ap has_word_shape (sym (same_bytes k w e)) ∙ shapes.0
      | inr e ↦ shape_among ks w shapes.1 e
    ]

-- a key word looks like a name
pub key_simple : (w : List ℕ) → IsTrue (is_key w) → IsSimpleName w
key_simple w h = simple_word w (shape_among key_words w refl h)
