-- The tokens of a part with others behind them, one behind the other.
use Rattle.std.proofs.Common.{◌≡◌, ◌++◌, ℕ, List, [], ◌∷◌, Option, codes, ap, append_assoc}
use Rattle.agm_net.specs.declared.mark.Mark.{Mark}
use Rattle.agm_net.specs.declared.port.Way.{Way}
use Rattle.agm_net.specs.declared.port.Range.{Range}
use Rattle.small_text.specs.declared.token.Token.{Token}
use Rattle.small_text.specs.declared.token.Token.TheVariants.{Name, Key, Symbol}
use Rattle.small_text.specs.declared.small.Bit.{Bit}
use Rattle.small_text.specs.declared.small.Source.{Source}
use Rattle.small_text.specs.declared.small.Declaration.TheVariants.{Port, Wires}
use Rattle.small_text.specs.declared.small.Item.TheVariants.{Assign}
use Rattle.small_text.specs.Grammar.{bit_tokens, source_tokens, names_tokens, mark_tokens, way_token, range_tokens, declaration_tokens, pin_tokens, two_pins, three_pins, item_tokens}

-- a port, and tokens behind it
pub port_spliced : (m : Mark) (w : Way) (r : Option Range) (n : List ℕ) (rest : List Token) → declaration_tokens (Port m w r n) ++ rest ≡ mark_tokens m ++ (way_token w ∷ (range_tokens r ++ Name n ∷ Symbol 59 ∷ rest))
port_spliced m w r n rest = simp append_assoc

-- wires, and tokens behind them
pub wires_spliced : (ns : List (List ℕ)) (rest : List Token) → declaration_tokens (Wires ns) ++ rest ≡ Key (codes "wire") ∷ (names_tokens ns ++ Symbol 59 ∷ rest)
wires_spliced ns rest = simp append_assoc

-- a pin, and tokens behind it
pub pin_spliced : (pin : List ℕ) (b : Bit) (rest : List Token) → pin_tokens pin b ++ rest ≡ Symbol 46 ∷ Name pin ∷ Symbol 40 ∷ (bit_tokens b ++ Symbol 41 ∷ rest)
pin_spliced pin b rest = simp append_assoc

two_parts : (p q end rest : List Token) → (p ++ Symbol 44 ∷ (q ++ end)) ++ rest ≡ p ++ Symbol 44 ∷ (q ++ (end ++ rest))
two_parts p q end rest = simp append_assoc

three_parts : (p q r end rest : List Token) → (p ++ Symbol 44 ∷ (q ++ Symbol 44 ∷ (r ++ end))) ++ rest ≡ p ++ Symbol 44 ∷ (q ++ Symbol 44 ∷ (r ++ (end ++ rest)))
three_parts p q r end rest = simp append_assoc

-- an instance with two pins, and tokens behind it
pub two_pins_spliced : (cell name first : List ℕ) (a : Bit) (second : List ℕ) (b : Bit) (rest : List Token) →
    two_pins cell name first a second b ++ rest ≡ Name cell ∷ Name name ∷ Symbol 40 ∷ (pin_tokens first a ++ Symbol 44 ∷ (pin_tokens second b ++ Symbol 41 ∷ Symbol 59 ∷ rest))
two_pins_spliced cell name first a second b rest = ap (λ w. Name cell ∷ Name name ∷ Symbol 40 ∷ w) (two_parts (pin_tokens first a) (pin_tokens second b) (Symbol 41 ∷ Symbol 59 ∷ []) rest)

-- an instance with three pins, and tokens behind it
pub three_pins_spliced : (cell name first : List ℕ) (a : Bit) (second : List ℕ) (b : Bit) (third : List ℕ) (c : Bit) (rest : List Token) →
    three_pins cell name first a second b third c ++ rest ≡ Name cell ∷ Name name ∷ Symbol 40 ∷ (pin_tokens first a ++ Symbol 44 ∷ (pin_tokens second b ++ Symbol 44 ∷ (pin_tokens third c ++ Symbol 41 ∷ Symbol 59 ∷ rest)))
three_pins_spliced cell name first a second b third c rest = ap (λ w. Name cell ∷ Name name ∷ Symbol 40 ∷ w) (three_parts (pin_tokens first a) (pin_tokens second b) (pin_tokens third c) (Symbol 41 ∷ Symbol 59 ∷ []) rest)

-- an assign, and tokens behind it
pub assign_spliced : (target : Bit) (from : Source) (rest : List Token) → item_tokens (Assign target from) ++ rest ≡ Key (codes "assign") ∷ (bit_tokens target ++ Symbol 61 ∷ (source_tokens from ++ Symbol 59 ∷ rest))
assign_spliced target from rest = simp append_assoc
