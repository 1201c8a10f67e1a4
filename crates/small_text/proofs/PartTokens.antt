-- The tokens among the parts of a module are its tokens.
use Rattle.std.proofs.Common.{◌≡◌, ◌++◌, ℕ, Bool, true, false, cond, List, [], ◌∷◌, Option, Some, None, codes, refl, sym, ap, ◌∙◌, append_assoc}
use Rattle.std.specs.List.{flat_map}
use Rattle.agm_net.specs.declared.mark.Mark.{Mark}
use Rattle.agm_net.specs.declared.mark.Mark.TheVariants as kind
use Rattle.agm_net.specs.declared.port.Way.{Way}
use Rattle.agm_net.specs.declared.port.Way.TheVariants.{Input, Output}
use Rattle.agm_net.specs.declared.port.Range.{Range}
use Rattle.small_text.specs.declared.token.Token.{Token}
use Rattle.small_text.specs.declared.token.Token.TheVariants.{Name, Key, Symbol}
use Rattle.small_text.specs.declared.small.Bit.{Bit}
use Rattle.small_text.specs.declared.small.Source.{Source}
use Rattle.small_text.specs.declared.small.Source.TheVariants as source
use Rattle.small_text.specs.declared.small.Declaration.{Declaration}
use Rattle.small_text.specs.declared.small.Declaration.TheVariants.{Port, Wires}
use Rattle.small_text.specs.declared.small.Item.{Item}
use Rattle.small_text.specs.declared.small.Item.TheVariants.{Assign, Not, Xor, And, Register}
use Rattle.small_text.specs.declared.small.Small.{Small}
use Rattle.small_text.specs.Grammar.{select_tokens, bit_tokens, source_tokens, more_names, names_tokens, mark_tokens, way_token, range_tokens, declaration_tokens, pin_tokens, two_pins, three_pins, item_tokens, small_tokens}
use Rattle.small_text.specs.Layout.{is_simple_name}
use Rattle.small_text.specs.Written.{Part, symbol, blank, name_parts, select_parts, bit_parts, source_parts, next_parts, names_parts, mark_parts, way_parts, range_parts, declaration_parts, pin_parts, next_pin_parts, cell_parts, end_parts, two_parts, three_parts, item_parts, last_parts}
use Rattle.small_text.proofs.Joined.{tokens_of}
use Rattle.small_text.proofs.Spliced.{port_spliced, wires_spliced, pin_spliced, two_pins_spliced, three_pins_spliced, assign_spliced}
use Rattle.small_text.proofs.Well.{port_rest, two_rest, three_rest, assign_rest, head_rest, body_parts, behind_module}

-- the tokens of parts are those of a value, whatever stands behind
abbrev pub Tells : {X : Type 0} → (X → List Part) → (X → List Token) → X → Type 0
Tells parts tokens x = (ps : List Part) → tokens_of (parts x ++ ps) ≡ tokens x ++ tokens_of ps

tail_tokens : (b : Bool) (ps : List Part) → tokens_of (cond b [] (blank ∷ []) ++ ps) ≡ tokens_of ps
tail_tokens true ps = refl
tail_tokens false ps = refl

name_tells : (n : List ℕ) (ps : List Part) → tokens_of (name_parts n ++ ps) ≡ Name n ∷ tokens_of ps
name_tells n ps = ap (λ w. Name n ∷ w) (tail_tokens (is_simple_name n) ps)

select_tells : (i : Option ℕ) → Tells select_parts select_tokens i
select_tells None ps = refl
select_tells (Some k) ps = refl

bit_tells : (b : Bit) → Tells bit_parts bit_tokens b
bit_tells b ps = ap tokens_of (append_assoc (name_parts b.name) (select_parts b.index) ps) ∙ (name_tells b.name (select_parts b.index ++ ps) ∙ ap (λ w. Name b.name ∷ w) (select_tells b.index ps))

source_tells : (s : Source) → Tells source_parts source_tokens s
source_tells (source.Bit b) ps = bit_tells b ps
source_tells (source.Constant v) ps = refl

more_tells : (ns : List (List ℕ)) → Tells (flat_map next_parts) more_names ns
more_tells [] ps = refl
more_tells (n ∷ ns) ps =
    ap tokens_of (append_assoc (next_parts n) (flat_map next_parts ns) ps)
    ∙ ap (λ w. Symbol 44 ∷ w) (name_tells n (flat_map next_parts ns ++ ps) ∙ ap (λ w. Name n ∷ w) (more_tells ns ps))

names_tells : (ns : List (List ℕ)) → Tells names_parts names_tokens ns
names_tells [] ps = refl
names_tells (n ∷ ns) ps =
    ap tokens_of (append_assoc (name_parts n) (flat_map next_parts ns) ps) ∙ (name_tells n (flat_map next_parts ns ++ ps) ∙ ap (λ w. Name n ∷ w) (more_tells ns ps))

mark_tells : (m : Mark) → Tells mark_parts mark_tokens m
mark_tells kind.Unmarked ps = refl
mark_tells kind.Secure ps = refl
mark_tells kind.Public ps = refl
mark_tells kind.Clock ps = refl

way_tells : (w : Way) (ps : List Part) → tokens_of (way_parts w ++ ps) ≡ way_token w ∷ tokens_of ps
way_tells Input ps = refl
way_tells Output ps = refl

range_tells : (r : Option Range) → Tells range_parts range_tokens r
range_tells None ps = refl
range_tells (Some r) ps = refl

many_tell : {X : Type 0} (parts : X → List Part) (tokens : X → List Token) → ((x : X) → Tells parts tokens x) → (xs : List X) → Tells (flat_map parts) (flat_map tokens) xs
many_tell parts tokens f [] ps = refl
many_tell parts tokens f (x ∷ xs) ps =
    ap tokens_of (append_assoc (parts x) (flat_map parts xs) ps)
    ∙ (f x (flat_map parts xs ++ ps) ∙ (ap (λ (w : List Token). tokens x ++ w) (many_tell parts tokens f xs ps) ∙ sym (append_assoc (tokens x) (flat_map tokens xs) (tokens_of ps))))

declaration_tells : (d : Declaration) → Tells declaration_parts declaration_tokens d
declaration_tells (Port m w r n) ps =
    ap tokens_of (port_rest (mark_parts m) (way_parts w) (range_parts r) (name_parts n) (symbol 59 ∷ []) ps)
    ∙ (mark_tells m (way_parts w ++ (range_parts r ++ (name_parts n ++ symbol 59 ∷ ps)))
    ∙ (ap (λ v. mark_tokens m ++ v) (way_tells w (range_parts r ++ (name_parts n ++ symbol 59 ∷ ps))
    ∙ ap (λ v. way_token w ∷ v) (range_tells r (name_parts n ++ symbol 59 ∷ ps) ∙ ap (λ v. range_tokens r ++ v) (name_tells n (symbol 59 ∷ ps))))
    ∙ sym (port_spliced m w r n (tokens_of ps))))
declaration_tells (Wires ns) ps =
    ap (λ qs. Key (codes "wire") ∷ tokens_of qs) (append_assoc (names_parts ns) (symbol 59 ∷ []) ps)
    ∙ (ap (λ v. Key (codes "wire") ∷ v) (names_tells ns (symbol 59 ∷ ps)) ∙ sym (wires_spliced ns (tokens_of ps)))

pin_tells : (pin : List ℕ) (b : Bit) → Tells (pin_parts pin) (pin_tokens pin) b
pin_tells pin b ps =
    ap (λ qs. Symbol 46 ∷ Name pin ∷ Symbol 40 ∷ tokens_of qs) (append_assoc (bit_parts b) (symbol 41 ∷ []) ps)
    ∙ (ap (λ v. Symbol 46 ∷ Name pin ∷ Symbol 40 ∷ v) (bit_tells b (symbol 41 ∷ ps)) ∙ sym (pin_spliced pin b (tokens_of ps)))

cell_tells : (cell name : List ℕ) (ps : List Part) → tokens_of (cell_parts cell name ++ ps) ≡ Name cell ∷ Name name ∷ Symbol 40 ∷ tokens_of ps
cell_tells cell name ps = ap (λ qs. Name cell ∷ tokens_of qs) (append_assoc (name_parts name) (blank ∷ symbol 40 ∷ []) ps) ∙ ap (λ v. Name cell ∷ v) (name_tells name (blank ∷ symbol 40 ∷ ps))

two_tell : (cell name first : List ℕ) (a : Bit) (second : List ℕ) (b : Bit) (ps : List Part) → tokens_of (two_parts cell name first a second b ++ ps) ≡ two_pins cell name first a second b ++ tokens_of ps
two_tell cell name first a second b ps =
    ap tokens_of (two_rest (cell_parts cell name) (pin_parts first a) (next_pin_parts second b) end_parts ps)
    ∙ (cell_tells cell name (pin_parts first a ++ (next_pin_parts second b ++ (end_parts ++ ps)))
    ∙ (ap (λ v. Name cell ∷ Name name ∷ Symbol 40 ∷ v) (pin_tells first a (next_pin_parts second b ++ (end_parts ++ ps))
    ∙ ap (λ v. pin_tokens first a ++ Symbol 44 ∷ v) (pin_tells second b (end_parts ++ ps)))
    ∙ sym (two_pins_spliced cell name first a second b (tokens_of ps))))

three_tell : (cell name first : List ℕ) (a : Bit) (second : List ℕ) (b : Bit) (third : List ℕ) (c : Bit) (ps : List Part) →
    tokens_of (three_parts cell name first a second b third c ++ ps) ≡ three_pins cell name first a second b third c ++ tokens_of ps
three_tell cell name first a second b third c ps =
    ap tokens_of (three_rest (cell_parts cell name) (pin_parts first a) (next_pin_parts second b) (next_pin_parts third c) end_parts ps)
    ∙ (cell_tells cell name (pin_parts first a ++ (next_pin_parts second b ++ (next_pin_parts third c ++ (end_parts ++ ps))))
    ∙ (ap (λ v. Name cell ∷ Name name ∷ Symbol 40 ∷ v) (pin_tells first a (next_pin_parts second b ++ (next_pin_parts third c ++ (end_parts ++ ps)))
    ∙ ap (λ v. pin_tokens first a ++ Symbol 44 ∷ v) (pin_tells second b (next_pin_parts third c ++ (end_parts ++ ps))
    ∙ ap (λ v. pin_tokens second b ++ Symbol 44 ∷ v) (pin_tells third c (end_parts ++ ps))))
    ∙ sym (three_pins_spliced cell name first a second b third c (tokens_of ps))))

item_tells : (i : Item) → Tells item_parts item_tokens i
item_tells (Assign target from) ps =
    ap (λ qs. Key (codes "assign") ∷ tokens_of qs) (assign_rest (bit_parts target) (source_parts from) (symbol 59 ∷ []) ps)
    ∙ (ap (λ v. Key (codes "assign") ∷ v) (bit_tells target (blank ∷ symbol 61 ∷ blank ∷ (source_parts from ++ symbol 59 ∷ ps))
    ∙ ap (λ v. bit_tokens target ++ Symbol 61 ∷ v) (source_tells from (symbol 59 ∷ ps)))
    ∙ sym (assign_spliced target from (tokens_of ps)))
item_tells (Not name a y) ps = two_tell (codes "AGM_NOT") name (codes "A") a (codes "Y") y ps
item_tells (Xor name a b y) ps = three_tell (codes "AGM_XOR2") name (codes "A") a (codes "B") b (codes "Y") y ps
item_tells (And name a b y) ps = three_tell (codes "AGM_AND2") name (codes "A") a (codes "B") b (codes "Y") y ps
item_tells (Register name c d q) ps = three_tell (codes "AGM_DFF") name (codes "C") c (codes "D") d (codes "Q") q ps

-- the tokens of a module
pub module_tells : (s : Small) → Key (codes "module") ∷ tokens_of (behind_module s) ≡ small_tokens s
module_tells s =
    ap (λ qs. Key (codes "module") ∷ tokens_of qs) (head_rest (name_parts s.name) (names_parts s.ports) end_parts (body_parts s))
    ∙ ap (λ v. Key (codes "module") ∷ v) (name_tells s.name (symbol 40 ∷ (names_parts s.ports ++ (end_parts ++ body_parts s)))
    ∙ ap (λ v. Name s.name ∷ Symbol 40 ∷ v) (names_tells s.ports (end_parts ++ body_parts s)
    ∙ ap (λ v. names_tokens s.ports ++ Symbol 41 ∷ Symbol 59 ∷ v) (many_tell declaration_parts declaration_tokens declaration_tells s.declarations (flat_map item_parts s.items ++ last_parts)
    ∙ ap (λ v. flat_map declaration_tokens s.declarations ++ v) (many_tell item_parts item_tokens item_tells s.items last_parts))))
