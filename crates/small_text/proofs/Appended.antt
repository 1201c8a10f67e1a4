-- Parts that are appended one behind the other.
use Rattle.std.proofs.Common.{◌≡◌, ◌++◌, ℕ, List, [], Result, Ok, Err, OnOk, sym, ap, ◌∙◌, append_assoc}
use Rattle.std.proofs.lemmas.Grind.{flat_map-append}
use Rattle.agm_bits.specs.declared.list.Memory.{Memory}
use Rattle.std.specs.List.{flat_map}
use Rattle.small_text.specs.declared.small.Declaration.{Declaration}
use Rattle.small_text.specs.declared.small.Item.{Item}
use Rattle.small_text.specs.declared.small.Small.{Small}
use Rattle.small_text.specs.Written.{Part, part_text, parts_text, declaration_parts, item_parts, head_parts, last_parts, small_parts}

-- the text of parts, and of others behind them
pub both_texts : (a b : List Part) → parts_text (a ++ b) ≡ parts_text a ++ parts_text b
both_texts a b = flat_map-append part_text a b

-- two lists of parts, appended one behind the other
pub two_more : (t u v : List ℕ) (a b : List Part) → u ≡ t ++ parts_text a → v ≡ u ++ parts_text b → v ≡ t ++ parts_text (a ++ b)
two_more t u v a b e f = f ∙ (ap (λ (w : List ℕ). w ++ parts_text b) e ∙ (append_assoc t (parts_text a) (parts_text b) ∙ ap (λ (w : List ℕ). t ++ w) (sym (both_texts a b))))

-- four lists of parts
pub four_more : (t u v w x : List ℕ) (a b c d : List Part) → u ≡ t ++ parts_text a → v ≡ u ++ parts_text b → w ≡ v ++ parts_text c → x ≡ w ++ parts_text d → x ≡ t ++ parts_text (a ++ (b ++ (c ++ d)))
four_more t u v w x a b c d e f g h = two_more t u x a (b ++ (c ++ d)) e (two_more u v x b (c ++ d) f (two_more v w x c d g h))

-- the same where the last step may run out of memory
pub four_steps : (r : Result (Unit {0}) Memory) (t u v w x : List ℕ) (a b c d : List Part) → u ≡ t ++ parts_text a → v ≡ u ++ parts_text b → w ≡ v ++ parts_text c → OnOk r (x ≡ w ++ parts_text d) → OnOk r (x ≡ t ++ parts_text (a ++ (b ++ (c ++ d))))
four_steps (Ok o) t u v w x a b c d e f g h = four_more t u v w x a b c d e f g h
four_steps (Err m) t u v w x a b c d e f g h = tt

-- five lists of parts, where the last step may run out of memory
pub five_steps : (r : Result (Unit {0}) Memory) (t u v w x y : List ℕ) (a b c d z : List Part) → u ≡ t ++ parts_text a → v ≡ u ++ parts_text b → w ≡ v ++ parts_text c → x ≡ w ++ parts_text d → OnOk r (y ≡ x ++ parts_text z) → OnOk r (y ≡ t ++ parts_text (a ++ (b ++ (c ++ (d ++ z)))))
five_steps (Ok o) t u v w x y a b c d z e f g h k = two_more t u y a (b ++ (c ++ (d ++ z))) e (four_more u v w x y b c d z f g h k)
five_steps (Err m) t u v w x y a b c d z e f g h k = tt

-- the parts of a module, one behind the other, are its whole text
pub whole_text : (s : Small) (t x : List ℕ) (ports : List (List ℕ)) (declarations : List Declaration) (items : List Item) → t ≡ [] → ports ≡ s.ports → declarations ≡ s.declarations → items ≡ s.items →
    x ≡ t ++ parts_text (head_parts s.name ports ++ (flat_map declaration_parts declarations ++ (flat_map item_parts items ++ last_parts))) → x ≡ parts_text (small_parts s)
whole_text s t x ports declarations items a b c d h =
    h ∙ (ap (λ (w : List ℕ). w ++ parts_text (head_parts s.name ports ++ (flat_map declaration_parts declarations ++ (flat_map item_parts items ++ last_parts)))) a
    ∙ (ap (λ (w : List (List ℕ)). parts_text (head_parts s.name w ++ (flat_map declaration_parts declarations ++ (flat_map item_parts items ++ last_parts)))) b
    ∙ (ap (λ (w : List Declaration). parts_text (head_parts s.name s.ports ++ (flat_map declaration_parts w ++ (flat_map item_parts items ++ last_parts)))) c
    ∙ ap (λ (w : List Item). parts_text (head_parts s.name s.ports ++ (flat_map declaration_parts s.declarations ++ (flat_map item_parts w ++ last_parts)))) d)))
