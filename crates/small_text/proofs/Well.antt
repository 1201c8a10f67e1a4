-- The parts of a module may be written so.
use Rattle.std.proofs.Common.{◌≡◌, ◌<◌, ◌++◌, ◌⊎◌, ℕ, Bool, true, false, cond, length, List, [], ◌∷◌, Option, Some, None, IsTrue, codes, refl, sym, subst, inl, inr, arith, append_assoc}
use Rattle.std.specs.List.{flat_map, AllByRecursion}
use Rattle.agm_net.specs.declared.mark.Mark.{Mark}
use Rattle.agm_net.specs.declared.mark.Mark.TheVariants as kind
use Rattle.agm_net.specs.declared.port.Way.{Way}
use Rattle.agm_net.specs.declared.port.Way.TheVariants.{Input, Output}
use Rattle.agm_net.specs.declared.port.Range.{Range}
use Rattle.agm_net.specs.Writable.{is_graphic, IsWritable}
use Rattle.small_text.specs.Bytes.{is_symbol, is_text}
use Rattle.small_text.specs.declared.token.Token.{Token}
use Rattle.small_text.specs.declared.token.Token.TheVariants.{Name, Key, Number, Constant, Symbol, Text, Open, Close}
use Rattle.small_text.specs.declared.small.Bit.{Bit}
use Rattle.small_text.specs.declared.small.Source.{Source}
use Rattle.small_text.specs.declared.small.Source.TheVariants as source
use Rattle.small_text.specs.declared.small.Declaration.{Declaration}
use Rattle.small_text.specs.declared.small.Declaration.TheVariants.{Port, Wires}
use Rattle.small_text.specs.declared.small.Item.{Item}
use Rattle.small_text.specs.declared.small.Item.TheVariants.{Assign, Not, Xor, And, Register}
use Rattle.small_text.specs.declared.small.Small.{Small}
use Rattle.small_text.specs.Grammar.{IsIndex, IsRange, IsBit, IsSource, IsDeclaration, IsItem, IsSmall, IsWritableBit, IsWritableSource, IsWritableDeclaration, IsWritableItem, HasWritableNames}
use Rattle.small_text.specs.Layout.{is_simple_name, may_touch, IsToken}
use Rattle.small_text.specs.Written.{Part, word, symbol, blank, next_line, name_parts, select_parts, bit_parts, source_parts, next_parts, names_parts, kind_parts, mark_parts, way_parts, range_parts, declaration_parts, pin_parts, next_pin_parts, cell_parts, end_parts, two_parts, three_parts, item_parts, last_parts}
use Rattle.small_text.proofs.Joined.{Well}

-- parts that may stand behind any token that a symbol may follow
abbrev After : List Part → Type 0
After ps = (t : Token) (any : Bool) → (any ≡ true) ⊎ ((s : ℕ) → IsTrue (may_touch t (Symbol s))) → Well t any ps

-- parts that may stand behind any token
abbrev Always : List Part → Type 0
Always ps = (t : Token) (any : Bool) → Well t any ps

-- parts that may stand behind white space
abbrev Spaced : List Part → Type 0
Spaced ps = (t : Token) → Well t true ps

after_always : (ps : List Part) → Always ps → After ps
after_always ps a = λ t any h. a t any

after_symbol : (s : ℕ) (ps : List Part) → IsTrue (is_symbol s) → Well (Symbol s) false ps → After (symbol s ∷ ps)
after_symbol s ps k w = λ t any h. (k, elim h [ inl e ↦ inl e | inr f ↦ inr (f s) ], w)

-- white space of one blank
blank_then : (t : Token) (any : Bool) (ps : List Part) → Well t true ps → Well t any (blank ∷ ps)
blank_then t any ps w = (omega arith, (refl, tt), w)

always_blank : (ps : List Part) → Spaced ps → Always (blank ∷ ps)
always_blank ps w = λ t any. blank_then t any ps (w t)

always_line : (ps : List Part) → Spaced ps → Always (next_line ∷ ps)
always_line ps w = λ t any. (omega arith, (refl, (refl, (refl, tt))), w t)

-- a name
name_tail : (b : Bool) (n : List ℕ) (ps : List Part) → is_simple_name n ≡ b → After ps → Well (Name n) false (cond b [] (blank ∷ []) ++ ps)
name_tail true n ps h a = a (Name n) false (inr (λ s. rw h refl))
name_tail false n ps h a = blank_then (Name n) false ps (a (Name n) true (inl refl))

well_name : (t : Token) (any : Bool) (n : List ℕ) (ps : List Part) → (any ≡ true) ⊎ IsTrue (may_touch t (Name n)) → IsWritable n → After ps → Well t any (name_parts n ++ ps)
well_name t any n ps h w a = (w, h, name_tail (is_simple_name n) n ps refl a)

-- a select and a bit
after_select : (i : Option ℕ) (ps : List Part) → IsIndex i → After ps → After (select_parts i ++ ps)
after_select None ps v a = a
after_select (Some k) ps v a = after_symbol 91 (word (Number k) ∷ symbol 93 ∷ ps) refl (omega arith, inr refl, (refl, inr refl, a (Symbol 93) false (inr (λ s. refl))))

well_bit : (t : Token) (any : Bool) (b : Bit) (ps : List Part) → (any ≡ true) ⊎ IsTrue (may_touch t (Name b.name)) → IsBit b → IsWritableBit b → After ps → Well t any (bit_parts b ++ ps)
well_bit t any b ps h v w a =
    let P : List Part → Type 0 = Well t any in
    subst P (sym (append_assoc (name_parts b.name) (select_parts b.index) ps)) (well_name t any b.name (select_parts b.index ++ ps) h w (after_select b.index ps v a))

well_source : (t : Token) (s : Source) (ps : List Part) → IsSource s → IsWritableSource s → After ps → Well t true (source_parts s ++ ps)
well_source t (source.Bit b) ps v w a = well_bit t true b ps (inl refl) v w a
well_source t (source.Constant true) ps v w a = (tt, inl refl, a (Constant true) false (inr (λ s. refl)))
well_source t (source.Constant false) ps v w a = (tt, inl refl, a (Constant false) false (inr (λ s. refl)))

-- names
after_more : (ns : List (List ℕ)) (ps : List Part) → AllByRecursion IsWritable ns → After ps → After (flat_map next_parts ns ++ ps)
after_more [] ps w a = a
after_more (n ∷ ns) ps w a =
    let P : List Part → Type 0 = After in
    let rest = after_more ns ps w.1 a in
    subst P (sym (append_assoc (next_parts n) (flat_map next_parts ns) ps))
    (after_symbol 44 (blank ∷ (name_parts n ++ (flat_map next_parts ns ++ ps))) refl (blank_then (Symbol 44) false (name_parts n ++ (flat_map next_parts ns ++ ps)) (well_name (Symbol 44) true n (flat_map next_parts ns ++ ps) (inl refl) w.0 rest)))

well_names : (t : Token) (any : Bool) (ns : List (List ℕ)) (ps : List Part) → ((n : List ℕ) → (any ≡ true) ⊎ IsTrue (may_touch t (Name n))) → 0 < length ns → AllByRecursion IsWritable ns → After ps → Well t any (names_parts ns ++ ps)
well_names t any [] ps h v w a = absurd (omega arith)
well_names t any (n ∷ ns) ps h v w a =
    let P : List Part → Type 0 = Well t any in
    subst P (sym (append_assoc (name_parts n) (flat_map next_parts ns) ps)) (well_name t any n (flat_map next_parts ns ++ ps) (h n) w.0 (after_more ns ps w.1 a))

-- a mark, a way and a range
spaced_word : (u : Token) (ps : List Part) → IsToken u → Spaced ps → Spaced (word u ∷ blank ∷ ps)
spaced_word u ps k a = λ t. (k, inl refl, blank_then u false ps (a u))

spaced_kind : (text : List ℕ) (ps : List Part) → AllByRecursion (λ b. IsTrue (is_text b)) text → Spaced ps → Spaced (kind_parts text ++ ps)
spaced_kind text ps w a =
    let close = spaced_word Close ps tt a in
    let string = spaced_word (Text text) (word Close ∷ blank ∷ ps) w close in
    let equals = spaced_word (Symbol 61) (word (Text text) ∷ blank ∷ word Close ∷ blank ∷ ps) refl string in
    let name = spaced_word (Name (codes "AGEMA")) (symbol 61 ∷ blank ∷ word (Text text) ∷ blank ∷ word Close ∷ blank ∷ ps) (omega arith, (refl, (refl, (refl, (refl, (refl, tt)))))) equals in
    spaced_word Open (word (Name (codes "AGEMA")) ∷ blank ∷ symbol 61 ∷ blank ∷ word (Text text) ∷ blank ∷ word Close ∷ blank ∷ ps) tt name

spaced_mark : (m : Mark) (ps : List Part) → Spaced ps → Spaced (mark_parts m ++ ps)
spaced_mark kind.Unmarked ps a = a
spaced_mark kind.Secure ps a = spaced_kind (codes "secure") ps (refl, (refl, (refl, (refl, (refl, (refl, tt)))))) a
spaced_mark kind.Public ps a = spaced_kind (codes "public") ps (refl, (refl, (refl, (refl, (refl, (refl, tt)))))) a
spaced_mark kind.Clock ps a = spaced_kind (codes "clock") ps (refl, (refl, (refl, (refl, (refl, tt))))) a

spaced_way : (w : Way) (ps : List Part) → Spaced ps → Spaced (way_parts w ++ ps)
spaced_way Input ps a = spaced_word (Key (codes "input")) ps refl a
spaced_way Output ps a = spaced_word (Key (codes "output")) ps refl a

spaced_range : (r : Option Range) (ps : List Part) → IsRange r → Spaced ps → Spaced (range_parts r ++ ps)
spaced_range None ps v a = a
spaced_range (Some r) ps v a = λ t.
    (refl, inl refl, (omega arith, inr refl, (refl, inr refl, (omega arith, inr refl, (refl, inr refl, blank_then (Symbol 93) false ps (a (Symbol 93)))))))

-- a declaration
pub port_rest : (a b c d e ps : List Part) → (next_line ∷ (a ++ (b ++ (c ++ (d ++ e))))) ++ ps ≡ next_line ∷ (a ++ (b ++ (c ++ (d ++ (e ++ ps)))))
port_rest a b c d e ps = simp append_assoc

-- a line of a declaration may stand behind any token
pub always_declaration : (d : Declaration) (ps : List Part) → IsDeclaration d → IsWritableDeclaration d → Always ps → Always (declaration_parts d ++ ps)
always_declaration (Port m w r n) ps v u a =
    let P : List Part → Type 0 = Always in
    let end = after_symbol 59 ps refl (a (Symbol 59) false) in
    let name : Spaced (name_parts n ++ symbol 59 ∷ ps) = λ t. well_name t true n (symbol 59 ∷ ps) (inl refl) u end in
    subst P (sym (port_rest (mark_parts m) (way_parts w) (range_parts r) (name_parts n) (symbol 59 ∷ []) ps))
    (always_line (mark_parts m ++ (way_parts w ++ (range_parts r ++ (name_parts n ++ symbol 59 ∷ ps))))
    (spaced_mark m (way_parts w ++ (range_parts r ++ (name_parts n ++ symbol 59 ∷ ps)))
    (spaced_way w (range_parts r ++ (name_parts n ++ symbol 59 ∷ ps)) (spaced_range r (name_parts n ++ symbol 59 ∷ ps) v.1 name))))
always_declaration (Wires ns) ps v u a =
    let P : List Part → Type 0 = λ qs. Always (next_line ∷ word (Key (codes "wire")) ∷ blank ∷ qs) in
    let end = after_symbol 59 ps refl (a (Symbol 59) false) in
    let names = well_names (Key (codes "wire")) true ns (symbol 59 ∷ ps) (λ n. inl refl) v u end in
    subst P (sym (append_assoc (names_parts ns) (symbol 59 ∷ []) ps))
    (always_line (word (Key (codes "wire")) ∷ blank ∷ (names_parts ns ++ symbol 59 ∷ ps)) (λ t. (refl, inl refl, blank_then (Key (codes "wire")) false (names_parts ns ++ symbol 59 ∷ ps) names)))

-- lines one behind the other
pub always_lines : {X : Type 0} (line : X → List Part) (V W : X → Type 0) → ((x : X) (ps : List Part) → V x → W x → Always ps → Always (line x ++ ps)) →
    (xs : List X) (ps : List Part) → AllByRecursion V xs → AllByRecursion W xs → Always ps → Always (flat_map line xs ++ ps)
always_lines line V W f [] ps v w a = a
always_lines line V W f (x ∷ xs) ps v w a =
    let P : List Part → Type 0 = Always in
    subst P (sym (append_assoc (line x) (flat_map line xs) ps)) (f x (flat_map line xs ++ ps) v.0 w.0 (always_lines line V W f xs ps v.1 w.1 a))

-- a pin, whose name is a simple identifier
well_pin : (t : Token) (any : Bool) (pin : List ℕ) (b : Bit) (ps : List Part) → (any ≡ true) ⊎ IsTrue (may_touch t (Symbol 46)) → IsWritable pin → is_simple_name pin ≡ true → IsBit b → IsWritableBit b → After ps → Well t any (pin_parts pin b ++ ps)
well_pin t any pin b ps h k s v w a =
    let P : List Part → Type 0 = λ qs. Well t any (symbol 46 ∷ word (Name pin) ∷ symbol 40 ∷ qs) in
    let touch : IsTrue (may_touch (Name pin) (Symbol 40)) = rw s refl in
    subst P (sym (append_assoc (bit_parts b) (symbol 41 ∷ []) ps))
    (refl, h, (k, inr refl, (refl, inr touch, well_bit (Symbol 40) false b (symbol 41 ∷ ps) (inr refl) v w (after_symbol 41 ps refl (a (Symbol 41) false (inr (λ z. refl)))))))

after_next_pin : (pin : List ℕ) (b : Bit) (ps : List Part) → IsWritable pin → is_simple_name pin ≡ true → IsBit b → IsWritableBit b → After ps → After (next_pin_parts pin b ++ ps)
after_next_pin pin b ps k s v w a =
    after_symbol 44 (blank ∷ (pin_parts pin b ++ ps)) refl (blank_then (Symbol 44) false (pin_parts pin b ++ ps) (well_pin (Symbol 44) true pin b ps (inl refl) k s v w a))

always_cell : (cell name : List ℕ) (ps : List Part) → IsWritable cell → IsWritable name → Well (Symbol 40) false ps → Always (cell_parts cell name ++ ps)
always_cell cell name ps k w a =
    let P : List Part → Type 0 = λ qs. Always (next_line ∷ word (Name cell) ∷ blank ∷ qs) in
    let open_ : Spaced (symbol 40 ∷ ps) = λ t. (refl, inl refl, a) in
    subst P (sym (append_assoc (name_parts name) (blank ∷ symbol 40 ∷ []) ps))
    (always_line (word (Name cell) ∷ blank ∷ (name_parts name ++ blank ∷ symbol 40 ∷ ps))
    (λ t. (k, inl refl, blank_then (Name cell) false (name_parts name ++ blank ∷ symbol 40 ∷ ps) (well_name (Name cell) true name (blank ∷ symbol 40 ∷ ps) (inl refl) w (after_always (blank ∷ symbol 40 ∷ ps) (always_blank (symbol 40 ∷ ps) open_))))))

after_end : (ps : List Part) → Always ps → After (end_parts ++ ps)
after_end ps a = after_symbol 41 (symbol 59 ∷ ps) refl (refl, inr refl, a (Symbol 59) false)

-- an instance with two pins, and parts behind it
pub two_rest : (c p q e ps : List Part) → (c ++ (p ++ (q ++ e))) ++ ps ≡ c ++ (p ++ (q ++ (e ++ ps)))
two_rest c p q e ps = simp append_assoc

-- an instance with three pins, and parts behind it
pub three_rest : (c p q r e ps : List Part) → (c ++ (p ++ (q ++ (r ++ e)))) ++ ps ≡ c ++ (p ++ (q ++ (r ++ (e ++ ps))))
three_rest c p q r e ps = simp append_assoc

-- a byte in capitals as a pin
abbrev IsPin : List ℕ → Type 0
IsPin pin = IsWritable pin × (is_simple_name pin ≡ true)

one_byte : (b : ℕ) → IsTrue (is_graphic b) → IsWritable (b ∷ [])
one_byte b h = (omega arith, (h, tt))

always_two : (cell name first : List ℕ) (a : Bit) (second : List ℕ) (b : Bit) (ps : List Part) → IsWritable cell → IsWritable name → IsPin first → IsPin second → IsBit a × IsBit b → IsWritableBit a × IsWritableBit b → Always ps →
    Always (two_parts cell name first a second b ++ ps)
always_two cell name first a second b ps k n f s v w z =
    let P : List Part → Type 0 = Always in
    let last = after_next_pin second b (end_parts ++ ps) s.0 s.1 v.1 w.1 (after_end ps z) in
    subst P (sym (two_rest (cell_parts cell name) (pin_parts first a) (next_pin_parts second b) end_parts ps))
    (always_cell cell name (pin_parts first a ++ (next_pin_parts second b ++ (end_parts ++ ps))) k n (well_pin (Symbol 40) false first a (next_pin_parts second b ++ (end_parts ++ ps)) (inr refl) f.0 f.1 v.0 w.0 last))

always_three : (cell name first : List ℕ) (a : Bit) (second : List ℕ) (b : Bit) (third : List ℕ) (c : Bit) (ps : List Part) → IsWritable cell → IsWritable name → IsPin first → IsPin second → IsPin third →
    IsBit a × IsBit b × IsBit c → IsWritableBit a × IsWritableBit b × IsWritableBit c → Always ps → Always (three_parts cell name first a second b third c ++ ps)
always_three cell name first a second b third c ps k n f s u v w z =
    let P : List Part → Type 0 = Always in
    let last = after_next_pin third c (end_parts ++ ps) u.0 u.1 v.2 w.2 (after_end ps z) in
    let middle = after_next_pin second b (next_pin_parts third c ++ (end_parts ++ ps)) s.0 s.1 v.1 w.1 last in
    subst P (sym (three_rest (cell_parts cell name) (pin_parts first a) (next_pin_parts second b) (next_pin_parts third c) end_parts ps))
    (always_cell cell name (pin_parts first a ++ (next_pin_parts second b ++ (next_pin_parts third c ++ (end_parts ++ ps)))) k n
    (well_pin (Symbol 40) false first a (next_pin_parts second b ++ (next_pin_parts third c ++ (end_parts ++ ps))) (inr refl) f.0 f.1 v.0 w.0 middle))

-- an assign, and parts behind it
pub assign_rest : (t f e ps : List Part) → (t ++ blank ∷ symbol 61 ∷ blank ∷ (f ++ e)) ++ ps ≡ t ++ blank ∷ symbol 61 ∷ blank ∷ (f ++ (e ++ ps))
assign_rest t f e ps = simp append_assoc

always_assign : (target : Bit) (from : Source) (ps : List Part) → IsBit target → IsSource from → IsWritableBit target → IsWritableSource from → Always ps → Always (item_parts (Assign target from) ++ ps)
always_assign target from ps v u w x a =
    let P : List Part → Type 0 = λ qs. Always (next_line ∷ word (Key (codes "assign")) ∷ blank ∷ qs) in
    let end = after_symbol 59 ps refl (a (Symbol 59) false) in
    let right : Spaced (symbol 61 ∷ blank ∷ (source_parts from ++ symbol 59 ∷ ps)) = λ t. (refl, inl refl, blank_then (Symbol 61) false (source_parts from ++ symbol 59 ∷ ps) (well_source (Symbol 61) from (symbol 59 ∷ ps) u x end)) in
    let middle = after_always (blank ∷ symbol 61 ∷ blank ∷ (source_parts from ++ symbol 59 ∷ ps)) (always_blank (symbol 61 ∷ blank ∷ (source_parts from ++ symbol 59 ∷ ps)) right) in
    subst P (sym (assign_rest (bit_parts target) (source_parts from) (symbol 59 ∷ []) ps))
    (always_line (word (Key (codes "assign")) ∷ blank ∷ (bit_parts target ++ blank ∷ symbol 61 ∷ blank ∷ (source_parts from ++ symbol 59 ∷ ps)))
    (λ t. (
      refl,
      inl refl,
      blank_then (Key (codes "assign")) false (bit_parts target ++ blank ∷ symbol 61 ∷ blank ∷ (source_parts from ++ symbol 59 ∷ ps))
          (well_bit (Key (codes "assign")) true target (blank ∷ symbol 61 ∷ blank ∷ (source_parts from ++ symbol 59 ∷ ps)) (inl refl) v w middle),
    )))

pin_a : IsPin (codes "A")
pin_a = (one_byte 65 refl, refl)

pin_b : IsPin (codes "B")
pin_b = (one_byte 66 refl, refl)

pin_y : IsPin (codes "Y")
pin_y = (one_byte 89 refl, refl)

pin_c : IsPin (codes "C")
pin_c = (one_byte 67 refl, refl)

pin_d : IsPin (codes "D")
pin_d = (one_byte 68 refl, refl)

pin_q : IsPin (codes "Q")
pin_q = (one_byte 81 refl, refl)

-- a line of an assign or an instance may stand behind any token
pub always_item : (i : Item) (ps : List Part) → IsItem i → IsWritableItem i → Always ps → Always (item_parts i ++ ps)
always_item (Assign target from) ps v w a = always_assign target from ps v.0 v.1 w.0 w.1 a
always_item (Not name p y) ps v w a =
    always_two (codes "AGM_NOT") name (codes "A") p (codes "Y") y ps (omega arith, (refl, (refl, (refl, (refl, (refl, (refl, (refl, tt)))))))) w.0 pin_a pin_y v (w.1, w.2) a
always_item (Xor name p q y) ps v w a =
    always_three (codes "AGM_XOR2") name (codes "A") p (codes "B") q (codes "Y") y ps (omega arith, (refl, (refl, (refl, (refl, (refl, (refl, (refl, (refl, tt))))))))) w.0 pin_a pin_b pin_y v (w.1, w.2, w.3) a
always_item (And name p q y) ps v w a =
    always_three (codes "AGM_AND2") name (codes "A") p (codes "B") q (codes "Y") y ps (omega arith, (refl, (refl, (refl, (refl, (refl, (refl, (refl, (refl, tt))))))))) w.0 pin_a pin_b pin_y v (w.1, w.2, w.3) a
always_item (Register name c d q) ps v w a =
    always_three (codes "AGM_DFF") name (codes "C") c (codes "D") d (codes "Q") q ps (omega arith, (refl, (refl, (refl, (refl, (refl, (refl, (refl, tt)))))))) w.0 pin_c pin_d pin_q v (w.1, w.2, w.3) a

-- the end of the module
always_last : Always last_parts
always_last = λ t any. (omega arith, (refl, tt), (refl, inl refl, (omega arith, (refl, tt), refl)))

-- the lines of a module and its end
abbrev pub body_parts : Small → List Part
body_parts s = flat_map declaration_parts s.declarations ++ (flat_map item_parts s.items ++ last_parts)

always_body : (s : Small) → IsSmall s → HasWritableNames s → Always (body_parts s)
always_body s v w =
    always_lines declaration_parts IsDeclaration IsWritableDeclaration always_declaration s.declarations (flat_map item_parts s.items ++ last_parts) v.declarations_fit w.declared_names
    (always_lines item_parts IsItem IsWritableItem always_item s.items last_parts v.items_fit w.item_names always_last)

-- what stands behind `module`
abbrev pub behind_module : Small → List Part
behind_module s = blank ∷ ((name_parts s.name ++ symbol 40 ∷ (names_parts s.ports ++ end_parts)) ++ body_parts s)

-- the head of a module, and parts behind it
pub head_rest : (n p e ps : List Part) → (n ++ symbol 40 ∷ (p ++ e)) ++ ps ≡ n ++ symbol 40 ∷ (p ++ (e ++ ps))
head_rest n p e ps = simp append_assoc

-- what stands behind `module` may be written so
pub well_module : (s : Small) → IsSmall s → HasWritableNames s → Well (Key (codes "module")) false (behind_module s)
well_module s v w =
    let P : List Part → Type 0 = λ qs. Well (Key (codes "module")) false (blank ∷ qs) in
    let ports = well_names (Symbol 40) false s.ports (end_parts ++ body_parts s) (λ n. inr refl) v.has_port w.port_names (after_end (body_parts s) (always_body s v w)) in
    let list = after_symbol 40 (names_parts s.ports ++ (end_parts ++ body_parts s)) refl ports in
    subst P (sym (head_rest (name_parts s.name) (names_parts s.ports) end_parts (body_parts s)))
    (blank_then (Key (codes "module")) false (name_parts s.name ++ symbol 40 ∷ (names_parts s.ports ++ (end_parts ++ body_parts s)))
    (well_name (Key (codes "module")) true s.name (symbol 40 ∷ (names_parts s.ports ++ (end_parts ++ body_parts s))) (inl refl) w.module_name list))
