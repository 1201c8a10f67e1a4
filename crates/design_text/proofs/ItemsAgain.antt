-- Attributes, declarations, assigns and instances.
use Rattle.std.proofs.Common.{◌≡◌, ◌≤◌, ◌++◌, not, ℕ, length, map, List, [], ◌∷◌, Option, Some, None, codes, refl, sym, ap, ◌∙◌, subst, inl, append_assoc}
use Rattle.std.specs.List.{flat_map, AllByRecursion}
use Rattle.agm_net.specs.Writable.{IsWritable}
use Rattle.agm_net.specs.PlainForm.{RangeFits}
use Rattle.agm_net.specs.declared.port.Way.{Way}
use Rattle.agm_net.specs.declared.port.Way.TheVariants.{Input, Output}
use Rattle.agm_net.specs.declared.port.Range.{Range}
use Rattle.verilog_tokens.specs.Token.{Token, Name, Key, Open, Close}
use Rattle.verilog_reader.specs.Plain.{PlainForm, PlainConnection, PlainItem, declare, assign, instance}
use Rattle.verilog_reader.specs.Grammar.{Row, IsValue, IsSet, IsBlock, AreAttributes, IsRange, IsWay, IsTarget, IsBare, IsItem}
use Rattle.verilog_reader.specs.declared.design.Attribute.{Attribute}
use Rattle.verilog_reader.specs.declared.design.Value.{Value}
use Rattle.verilog_reader.specs.declared.design.Value.TheVariants as value
use Rattle.design_text.specs.Parts.{Part, word, symbol, blank, next_line}
use Rattle.design_text.specs.Written.{name_parts, names_parts, value_parts, set_parts, attribute_parts, attributes_parts, way_parts, range_parts, form_parts, pins_parts, declared_parts, assigned_parts, placed_parts, item_parts}
use Rattle.design_text.specs.Writable.{IsWritableValue, IsWritableSet, IsWritableAttribute, AreWritableAttributes, IsWritableSource, IsWritablePin, IsWritableItem}
use Rattle.design_text.proofs.LaidOut.{tokens_of, IsLaid}
use Rattle.design_text.proofs.Lists.{MayFollow, Reads, Writes, WritesAlone, name_again, names_again}
use Rattle.design_text.proofs.FormsAgain.{index_fits, form_again, pins_again, pins_no_star}

-- attributes

value_again : (v : Value) → IsWritableValue v → Writes IsValue v (value_parts v)
value_again (value.Text text) w ps h = ((w, refl, h.0), refl)
value_again (value.Number n) w ps h = ((w, h.1, h.0), (refl, w))
value_again (value.Bits bits) w ps h = ((w, h.1, h.0), refl)

set_again : (o : Option Value) → IsWritableSet o → Writes IsSet o (set_parts o)
set_again None w ps h = (h.0, refl)
set_again (Some v) w ps h =
    let r = value_again v w ps h in
    (((refl, tt), (refl, refl, ((refl, tt), r.0))), (tokens_of (value_parts v ++ ps), refl, r.1))

set_follows : (o : Option Value) (ps : List Part) → IsLaid (set_parts o ++ blank ∷ ps) → MayFollow (set_parts o ++ blank ∷ ps)
set_follows None ps l = (l, refl)
set_follows (Some v) ps l = (l, refl)

-- the parts of a block behind its name
abbrev closed : Option Value → List Part → List Part
closed o ps = set_parts o ++ blank ∷ word Close ∷ blank ∷ ps

spliced : (n s c ps : List Part) → (n ++ (s ++ c)) ++ ps ≡ n ++ (s ++ (c ++ ps))
spliced n s c ps = simp append_assoc

attribute_again : (a : Attribute) → IsWritableAttribute a → WritesAlone IsBlock (a ∷ []) (attribute_parts a)
attribute_again a w ps h =
    let Q : List Part → Type 0 = λ qs. Reads IsBlock (a ∷ []) (word Open ∷ blank ∷ qs) ps in
    let end : MayFollow (blank ∷ word Close ∷ blank ∷ ps) = (((refl, tt), (tt, refl, ((refl, tt), h))), refl) in
    let set = set_again a.value w.1 (blank ∷ word Close ∷ blank ∷ ps) end in
    let name = name_again a.name w.0 (closed a.value ps) (set_follows a.value (word Close ∷ blank ∷ ps) set.0) in
    subst Q (sym (spliced (name_parts a.name) (set_parts a.value) (blank ∷ word Close ∷ blank ∷ []) ps))
    ((tt, refl, ((refl, tt), name.0)), (tokens_of (name_parts a.name ++ closed a.value ps), refl, (Close ∷ tokens_of ps, (tokens_of (closed a.value ps), name.1, set.1), refl)))

-- each attribute is a block of its own
abbrev alone : Attribute → List Attribute
alone a = a ∷ []

joined : (attributes : List Attribute) → attributes ≡ flat_map (λ b. b) (map alone attributes)
joined [] = refl
joined (a ∷ as_) = ap (λ bs. a ∷ bs) (joined as_)

blocks_again : (attributes : List Attribute) → AreWritableAttributes attributes → WritesAlone (Row IsBlock) (map alone attributes) (attributes_parts attributes)
blocks_again [] w ps h = (h, refl)
blocks_again (a ∷ as_) w ps h =
    let Q : List Part → Type 0 = λ qs. Reads (Row IsBlock) (alone a ∷ map alone as_) qs ps in
    let more = blocks_again as_ w.1 ps h in
    let first = attribute_again a w.0 (attributes_parts as_ ++ ps) more.0 in
    subst Q (sym (append_assoc (attribute_parts a) (attributes_parts as_) ps)) (first.0, (tokens_of (attributes_parts as_ ++ ps), first.1, more.1))

pub attributes_again : (attributes : List Attribute) → AreWritableAttributes attributes → WritesAlone AreAttributes attributes (attributes_parts attributes)
attributes_again attributes w ps h = let r = blocks_again attributes w ps h in (r.0, (map alone attributes, joined attributes, r.1))

-- declarations

way_again : (way : Option Way) → WritesAlone IsWay way (way_parts way)
way_again None ps h = ((refl, refl, ((refl, tt), h)), refl)
way_again (Some Input) ps h = ((refl, refl, ((refl, tt), h)), inl refl)
way_again (Some Output) ps h = ((refl, refl, ((refl, tt), h)), inl refl)

range_again : (range : Option Range) → RangeFits range → WritesAlone IsRange range (range_parts range)
range_again None w ps h = (h, refl)
range_again (Some r) w ps h =
    ((refl, refl, (index_fits r.msb w.0, refl, (refl, refl, (index_fits r.lsb w.1, refl, (refl, refl, ((refl, tt), h)))))), (refl, w.0, w.1))

three_spliced : (a b c d ps : List Part) → (a ++ (b ++ (c ++ d))) ++ ps ≡ a ++ (b ++ (c ++ (d ++ ps)))
three_spliced a b c d ps = simp append_assoc

declared_again : (attributes : List Attribute) (way : Option Way) (range : Option Range) (names : List (List ℕ)) → RangeFits range → 1 ≤ length names → AllByRecursion IsWritable names → WritesAlone IsBare (declare attributes way range names) (declared_parts way range names)
declared_again attributes way range names fits some w ps h =
    let Q : List Part → Type 0 = λ qs. Reads IsBare (declare attributes way range names) qs ps in
    let listed = names_again names some w (symbol 59 ∷ ps) ((refl, refl, h), refl) in
    let named = names_parts names ++ symbol 59 ∷ ps in
    let ranged = range_again range fits named listed.0 in
    let wayed = way_again way (range_parts range ++ named) ranged.0 in
    subst Q (sym (three_spliced (way_parts way) (range_parts range) (names_parts names) (symbol 59 ∷ []) ps))
    (wayed.0, (tokens_of (range_parts range ++ named), tokens_of named, wayed.1, ranged.1, listed.1))

-- assigns

assign_spliced : (l r ps : List Part) → (l ++ blank ∷ symbol 61 ∷ blank ∷ (r ++ symbol 59 ∷ [])) ++ ps ≡ l ++ blank ∷ symbol 61 ∷ blank ∷ (r ++ symbol 59 ∷ ps)
assign_spliced l r ps = simp append_assoc

assigned_again : (attributes : List Attribute) (left right : PlainForm) → IsWritableSource left → IsTarget left → IsWritableSource right → WritesAlone IsBare (assign attributes left right) (assigned_parts left right)
assigned_again attributes left right wl target wr ps h =
    let Q : List Part → Type 0 = λ qs. Reads IsBare (assign attributes left right) (word (Key (codes "assign")) ∷ blank ∷ qs) ps in
    let value = form_again right wr.0 (symbol 59 ∷ ps) ((refl, refl, h), refl) in
    let behind = blank ∷ symbol 61 ∷ blank ∷ (form_parts right ++ symbol 59 ∷ ps) in
    let set = form_again left wl.0 behind (((refl, tt), (refl, refl, ((refl, tt), value.0))), refl) in
    subst Q (sym (assign_spliced (form_parts left) (form_parts right) ps))
    ((refl, refl, ((refl, tt), set.0)), (tokens_of (form_parts left ++ behind), tokens_of (form_parts right ++ symbol 59 ∷ ps), refl, ((set.1, wl.1), target), (value.1, wr.1)))

-- instances

placed_spliced : (c n p ps : List Part) → (c ++ blank ∷ (n ++ blank ∷ symbol 40 ∷ (p ++ symbol 41 ∷ symbol 59 ∷ []))) ++ ps ≡ c ++ blank ∷ (n ++ blank ∷ symbol 40 ∷ (p ++ symbol 41 ∷ symbol 59 ∷ ps))
placed_spliced c n p ps = simp append_assoc

placed_again : (attributes : List Attribute) (cell name : List ℕ) (pins : List PlainConnection) → IsWritable cell → IsWritable name → AllByRecursion IsWritablePin pins → WritesAlone IsBare (instance attributes cell name pins) (placed_parts cell name pins)
placed_again attributes cell name pins wc wn wp ps h =
    let Q : List Part → Type 0 = λ qs. Reads IsBare (instance attributes cell name pins) qs ps in
    let inside = pins_again pins wp (symbol 41 ∷ symbol 59 ∷ ps) ((refl, refl, (refl, refl, h)), refl) in
    let listed = pins_parts pins ++ symbol 41 ∷ symbol 59 ∷ ps in
    let opened = blank ∷ symbol 40 ∷ listed in
    let own = name_again name wn opened (((refl, tt), (refl, ap not (pins_no_star pins (symbol 59 ∷ ps)), inside.0)), refl) in
    let first = name_again cell wc (blank ∷ (name_parts name ++ opened)) (((refl, tt), own.0), refl) in
    subst Q (sym (placed_spliced (name_parts cell) (name_parts name) (pins_parts pins) ps))
    (first.0, (tokens_of listed, first.1 ∙ ap (λ ts. Name cell ∷ ts) own.1, inside.1))

-- each behind its attributes, on a line of its own

behind_attributes : (item : PlainItem) (attributes : List Attribute) (bare : List Part) → AreWritableAttributes attributes → WritesAlone AreAttributes attributes (attributes_parts attributes) → WritesAlone IsBare item bare
    → (ps : List Part) → IsLaid ps → IsLaid ((next_line ∷ (attributes_parts attributes ++ bare)) ++ ps) × ((mid : List Token) × AreAttributes attributes (tokens_of ((attributes_parts attributes ++ bare) ++ ps)) mid × IsBare item mid (tokens_of ps))
behind_attributes item attributes bare w before f ps h =
    let Q : List Part → Type 0 = λ qs. IsLaid (next_line ∷ qs) × ((mid : List Token) × AreAttributes attributes (tokens_of qs) mid × IsBare item mid (tokens_of ps)) in
    let inside = f ps h in
    let front = before (bare ++ ps) inside.0 in
    subst Q (sym (append_assoc (attributes_parts attributes) bare ps))
    (((refl, (refl, (refl, tt))), front.0), (tokens_of (bare ++ ps), front.1, inside.1))

pub item_again : (item : PlainItem) → IsWritableItem item → WritesAlone IsItem item (item_parts item)
item_again (declare attributes way range names) w =
    behind_attributes (declare attributes way range names) attributes (declared_parts way range names) w.0 (attributes_again attributes w.0) (declared_again attributes way range names w.1 w.2 w.3)
item_again (assign attributes left right) w =
    behind_attributes (assign attributes left right) attributes (assigned_parts left right) w.0 (attributes_again attributes w.0) (assigned_again attributes left right w.1.0 w.1.1 w.2)
item_again (instance attributes cell name pins) w =
    behind_attributes (instance attributes cell name pins) attributes (placed_parts cell name pins) w.0 (attributes_again attributes w.0) (placed_again attributes cell name pins w.1 w.2 w.3)
