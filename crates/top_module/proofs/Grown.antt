-- What is known of a name, declaration by declaration and item by item.
use Rattle.std.proofs.Common.{◌≡◌, ℕ, ◌+◌, ◌<◌, Bool, true, false, ◌||◌, cond, Option, Some, None, List, [], ◌∷◌, ◌++◌, length, get_or, take, map, replicate, refl, sym, ap, ap₂, ◌∙◌}
use Rattle.std.specs.Prelude.{slice_get, filter, codes}
use Rattle.std.specs.List.{flat_map, filter_map, cons_option}
use Rattle.std.specs.Option.{option_or}
use Rattle.std.specs.Str.{bytes_eq}
use Rattle.std.proofs.lemmas.List.{take_more, map-append}
use Rattle.std.proofs.lemmas.List.Elements.{filter-append, filter_map-append}
use Rattle.std.proofs.lemmas.List.Folds.{list_any-append, list_any_more}
use Rattle.std.proofs.lemmas.Grind.{flat_map-append}
use Rattle.std.proofs.Math.Bool.{or-false}
use Rattle.verilog_reader.specs.Plain.{PlainItem, declare}
use Rattle.verilog_reader.specs.View.{item_view}
use Rattle.verilog_reader.specs.declared.design.Attribute.{Attribute}
use Rattle.verilog_reader.specs.declared.design.Value.{Value}
use Rattle.verilog_reader.specs.declared.design.Item.{Item}
use Rattle.verilog_reader.specs.declared.design.Item.TheVariants.{Declare}
use Rattle.agm_net.specs.declared.port.Way.{Way}
use Rattle.agm_net.specs.declared.port.Range.{Range}
use Rattle.top_module.specs.Marks.{is_among, mark_values, marks_at, says, is_unknown, mark_set}
use Rattle.top_module.specs.Ports.{kind_at}
use Rattle.top_module.specs.Steps.{mark_of, union, no_facts, joined, joined_at, joined_among, said, said_at, facts_in}
use Rattle.top_module.specs.declared.facts.Kind.{Kind}
use Rattle.top_module.specs.declared.facts.MarkSet.{MarkSet}
use Rattle.top_module.specs.declared.facts.PortFacts.{PortFacts}

abbrev set_of : Bool → Bool → Bool → Bool → MarkSet
set_of s p c u = record { secure = s; public = p; clock = c; unknown = u }

-- sets that are the same mark by mark
same_set : (a b : MarkSet) → a.secure ≡ b.secure → a.public ≡ b.public → a.clock ≡ b.clock → a.unknown ≡ b.unknown → a ≡ b
same_set a b e f g h =
    ap (λ (s : Bool). set_of s a.public a.clock a.unknown) e
    ∙ (ap (λ (p : Bool). set_of b.secure p a.clock a.unknown) f ∙ (ap (λ (c : Bool). set_of b.secure b.public c a.unknown) g ∙ ap (λ (u : Bool). set_of b.secure b.public b.clock u) h))

abbrev facts_from : Option Kind → MarkSet → PortFacts
facts_from kind marks = record { kind = kind; marks = marks }

same_facts : (a b : PortFacts) → a.kind ≡ b.kind → a.marks ≡ b.marks → a ≡ b
same_facts a b e f = ap (λ (k : Option Kind). facts_from k a.marks) e ∙ ap (λ (m : MarkSet). facts_from b.kind m) f

pub union_of : (a b : List (Option Value)) → mark_set (a ++ b) ≡ union (mark_set a) (mark_set b)
union_of a b =
    same_set (mark_set (a ++ b)) (union (mark_set a) (mark_set b)) (list_any-append (says (codes "secure")) a b) (list_any-append (says (codes "public")) a b)
    (list_any-append (says (codes "clock")) a b) (list_any-append is_unknown a b)

no_more : (a : MarkSet) → union a (mark_set []) ≡ a
no_more a = same_set (union a (mark_set [])) a (or-false a.secure) (or-false a.public) (or-false a.clock) (or-false a.unknown)

one_mark : (v : Option Value) → mark_set (v ∷ []) ≡ mark_of v
one_mark v = same_set (mark_set (v ∷ [])) (mark_of v) (or-false _) (or-false _) (or-false _) (or-false _)

abbrev is_mark : Attribute → Bool
is_mark a = bytes_eq a.name (codes "AGEMA")

-- the marks of one more attribute
pub marks_more : (attributes : List Attribute) (i : ℕ) (a : Attribute) → i < length attributes → a ≡ get_or attributes i a
    → mark_set (mark_values (take (i + 1) attributes)) ≡ cond (is_mark a) (union (mark_set (mark_values (take i attributes))) (mark_of a.value)) (mark_set (mark_values (take i attributes)))
marks_more attributes i a within here =
    let before = take i attributes in
    let more : take (i + 1) attributes ≡ before ++ a ∷ [] = take_more attributes i a within ∙ ap (λ (x : Attribute). before ++ x ∷ []) (sym here) in
    let split : mark_values (take (i + 1) attributes) ≡ mark_values before ++ mark_values (a ∷ []) =
    ap mark_values more ∙ (ap (map (λ (x : Attribute). x.value)) (filter-append is_mark before (a ∷ [])) ∙ map-append (λ (x : Attribute). x.value) (filter is_mark before) (filter is_mark (a ∷ []))) in
    ap mark_set split ∙ (union_of (mark_values before) (mark_values (a ∷ [])) ∙ last (mark_set (mark_values before)) (is_mark a) a)
  where
    last : (m : MarkSet) (b : Bool) (x : Attribute) → union m (mark_set (map (λ (y : Attribute). y.value) (cond b (x ∷ []) []))) ≡ cond b (union m (mark_of x.value)) m
    last m true x = ap (union m) (one_mark x.value)
    last m false x = no_more m

or_twice : (a b : Bool) → ((a || b) || b) ≡ (a || b)
or_twice true b = refl
or_twice false true = refl
or_twice false false = refl

kind_twice : (a b : Option Kind) → option_or (option_or a b) b ≡ option_or a b
kind_twice (Some k) b = refl
kind_twice None (Some k) = refl
kind_twice None None = refl

-- what is said twice says nothing more
joined_twice : (known more : PortFacts) → joined (joined known more) more ≡ joined known more
joined_twice known more =
    same_facts (joined (joined known more) more) (joined known more) (kind_twice known.kind more.kind)
    (same_set _ _ (or_twice known.marks.secure more.marks.secure) (or_twice known.marks.public more.marks.public) (or_twice known.marks.clock more.marks.clock) (or_twice known.marks.unknown more.marks.unknown))

joined_nothing : (known : PortFacts) → joined known no_facts ≡ known
joined_nothing known = same_facts (joined known no_facts) known (nothing known.kind) (no_more known.marks)
  where
    nothing : (a : Option Kind) → option_or a None ≡ a
    nothing (Some k) = refl
    nothing None = refl

by_cases : (before here : Bool) (more known : PortFacts) → cond (before || here) (joined known more) known ≡ cond here (joined (cond before (joined known more) known) more) (cond before (joined known more) known)
by_cases true true more known = sym (joined_twice known more)
by_cases true false more known = refl
by_cases false true more known = refl
by_cases false false more known = refl

-- one more name of a declaration
pub among_more : (names : List (List ℕ)) (i : ℕ) (own : List ℕ) (more known : PortFacts) (name : List ℕ) → i < length names → own ≡ get_or names i own
    → joined_at own more (joined_among (take i names) more known name) name ≡ joined_among (take (i + 1) names) more known name
among_more names i own more known name within here =
    sym (ap (λ (b : Bool). cond b (joined known more) known) (list_any_more (λ n. bytes_eq n name) names i own within ∙ ap (λ (n : List ℕ). is_among name (take i names) || bytes_eq n name) (sym here))
    ∙ by_cases (is_among name (take i names)) (bytes_eq own name) more known)

first_of_both : (a b : List Kind) → slice_get (a ++ b) 0 ≡ option_or (slice_get a 0) (slice_get b 0)
first_of_both [] b = refl
first_of_both (k ∷ a) b = refl

kind_more : (name : List ℕ) (items : List PlainItem) (item : PlainItem) → slice_get (filter_map (kind_at name) (items ++ item ∷ [])) 0 ≡ option_or (slice_get (filter_map (kind_at name) items) 0) (kind_at name item)
kind_more name items item =
    ap (λ (ks : List Kind). slice_get ks 0) (filter_map-append (kind_at name) items (item ∷ []))
    ∙ (first_of_both (filter_map (kind_at name) items) (filter_map (kind_at name) (item ∷ [])) ∙ ap (option_or (slice_get (filter_map (kind_at name) items) 0)) (alone (kind_at name item)))
  where
    alone : (o : Option Kind) → slice_get (cons_option o []) 0 ≡ o
    alone (Some k) = refl
    alone None = refl

nil_behind : (vs : List (Option Value)) → vs ++ [] ≡ vs
nil_behind [] = refl
nil_behind (v ∷ vs) = ap (λ (ws : List (Option Value)). v ∷ ws) (nil_behind vs)

-- one more item
pub item_more : (name : List ℕ) (items : List PlainItem) (item : PlainItem) → facts_in (items ++ item ∷ []) name ≡ joined (facts_in items name) (said_at name item)
item_more name items item =
    same_facts (facts_in (items ++ item ∷ []) name) (joined (facts_in items name) (said_at name item)) (kind_more name items item)
    (ap mark_set (flat_map-append (marks_at name) items (item ∷ []) ∙ ap (λ (vs : List (Option Value)). flat_map (marks_at name) items ++ vs) (nil_behind (marks_at name item)))
    ∙ union_of (flat_map (marks_at name) items) (marks_at name item))

-- what a declaration says of a name is what the item says of it
pub item_said : (item : Item) (attributes : List Attribute) (way : Option Way) (range : Option Range) (declared : List (List ℕ)) (own : List Attribute) (names : List (List ℕ)) (more : PortFacts)
    → item ≡ Declare attributes way range declared → own ≡ attributes → names ≡ declared → more ≡ said own way range
    → (known : PortFacts) (name : List ℕ) → joined_among names more known name ≡ joined known (said_at name (item_view item))
item_said item attributes way range declared own names more is of names_are told known name =
    ap₂ (λ (ns : List (List ℕ)) (m : PortFacts). joined_among ns m known name) names_are (told ∙ ap (λ (as' : List Attribute). said as' way range) of)
    ∙ (declared_said way ∙ ap (λ (i : Item). joined known (said_at name (item_view i))) (sym is))
  where
    with : (w : Way) (b : Bool) → cond b (joined known (said attributes (Some w) range)) known ≡ joined known (record { kind = cond b (Some (record { way = w; range = range })) None; marks = mark_set (cond b (mark_values attributes) []) })
    with w true = refl
    with w false = sym (joined_nothing known)

    without : (b : Bool) → cond b (joined known (said attributes None range)) known ≡ joined known (record { kind = None; marks = mark_set (cond b (mark_values attributes) []) })
    without true = refl
    without false = sym (joined_nothing known)

    declared_said : (w : Option Way) → joined_among declared (said attributes w range) known name ≡ joined known (said_at name (declare attributes w range declared))
    declared_said (Some w) = with w (is_among name declared)
    declared_said None = without (is_among name declared)

-- nothing is known of any name before the first item
pub nothing_said : (names : List (List ℕ)) → replicate (length names) no_facts ≡ map (facts_in []) names
nothing_said [] = refl
nothing_said (n ∷ ns) = ap (λ (fs : List PortFacts). no_facts ∷ fs) (nothing_said ns)
