-- Names among the tokens of a text can be written.
use Rattle.std.proofs.Common.{ℕ, Bool, false, List, [], ◌∷◌, inl, inr, IsTrue, arith}
use Rattle.std.specs.List.{AllByRecursion}
use Rattle.std.proofs.lemmas.Bool.Decides.{nat_tests}
use Rattle.agm_net.specs.Writable.{is_graphic, IsWritable}
use Rattle.small_text.specs.Bytes.{is_letter, is_word}
use Rattle.small_text.specs.Cuts.{IsSimpleName}
use Rattle.verilog_tokens.specs.Cuts.{Spells, Cuts, nothing, gap, token}
use Rattle.verilog_tokens.specs.Token.{Token, Name, Key, Number, Constant, Text, Symbol, Open, Close, Stray}

-- a token whose name, if it is one, can be written
abbrev pub IsRight : Token → Type 0
IsRight (Name n) = IsWritable n
IsRight (Key w) = Unit {0}
IsRight (Number n) = Unit {0}
IsRight (Constant bits) = Unit {0}
IsRight (Text t) = Unit {0}
IsRight (Symbol s) = Unit {0}
IsRight Open = Unit {0}
IsRight Close = Unit {0}
IsRight Stray = Unit {0}

abbrev pub AreRight : List Token → Type 0
AreRight ts = AllByRecursion IsRight ts

letter_graphic : (b : ℕ) → IsTrue (is_letter b) → IsTrue (is_graphic b)
letter_graphic b h = grind (arith, nat_tests)

word_graphic : (b : ℕ) → IsTrue (is_word b) → IsTrue (is_graphic b)
word_graphic b h = grind (arith, nat_tests)

words_graphic : (bs : List ℕ) → AllByRecursion (λ b. IsTrue (is_word b)) bs → AllByRecursion (λ b. IsTrue (is_graphic b)) bs
words_graphic [] h = tt
words_graphic (b ∷ bs) h = (word_graphic b h.0, words_graphic bs h.1)

simple_writable : (name : List ℕ) → IsSimpleName name → IsWritable name
simple_writable [] h = absurd h
simple_writable (b ∷ bs) h = (omega arith, (letter_graphic b h.0, words_graphic bs h.1))

spelled_right : (t : Token) (text rest : List ℕ) → Spells t text rest → IsRight t
spelled_right (Name n) text rest (inl h) = simple_writable n h.1
spelled_right (Name n) text rest (inr h) = h.1
spelled_right (Key w) text rest h = tt
spelled_right (Number n) text rest h = tt
spelled_right (Constant bits) text rest h = tt
spelled_right (Text t) text rest h = tt
spelled_right (Symbol s) text rest h = tt
spelled_right Open text rest h = tt
spelled_right Close text rest h = tt
spelled_right Stray text rest h = tt

pub cuts_right : (begins : Bool) (bytes : List ℕ) (ts : List Token) → Cuts begins bytes ts → AreRight ts
cuts_right begins bytes ts nothing = tt
cuts_right begins bytes ts (gap {behind = p} {rest = r} g c) = cuts_right p r ts c
cuts_right begins bytes ts (token {rest = r} {t = t} {ts = more} f c) = (spelled_right t f.text r f.spells, cuts_right false r more c)
