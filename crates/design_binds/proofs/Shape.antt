-- What the module of a net declares.
use Rattle.std.proofs.Common.{◌≡◌, ◌≢◌, ◌+◌, ◌==◌, ◌&&◌, ◌||◌, ◌<◌, ℕ, zero, suc, Bool, true, false, not, cond, List, [], ◌∷◌, ◌++◌, length, map, Option, Some, None, slice_get, codes, nat_eq, IsTrue, refl, sym, ap, ap₂, ◌∙◌, arith, append-nil, zero-add}
use Rattle.std.specs.Prelude.{position}
use Rattle.std.specs.List.{AllByRecursion, flat_map, filter_map, list_any, enumerate_from, starts_with, position_or_len}
use Rattle.std.specs.Option.{option_map_or}
use Rattle.std.specs.Str.{bytes_eq}
use Rattle.std.proofs.lemmas.Bool.{ne_eqb, lt-ltb, le-ltb}
use Rattle.std.proofs.lemmas.Bool.Decides.{Decides-eqb}
use Rattle.std.proofs.lemmas.Grind.{flat_map-append}
use Rattle.std.proofs.lemmas.List.{length-map}
use Rattle.std.proofs.lemmas.Option.{slice_get_within}
use Rattle.agm_net.specs.WellFormed.{is_clock_port}
use Rattle.agm_net.specs.declared.port.Port.{Port}
use Rattle.verilog_reader.specs.Plain.{PlainItem, declare, assign, instance}
use Rattle.verilog_reader.specs.declared.design.Attribute.{Attribute}
use Rattle.verilog_reader.specs.declared.design.Value.{Value}
use Rattle.top_module.specs.declared.facts.Kind.{Kind}
use Rattle.top_module.specs.Marks.{mark_values, marks_at, says}
use Rattle.top_module.specs.Ports.{kind_at}
use Rattle.module_rules.specs.Items.{is_among, Declared, declaration, declared_by, instance_of, ports_of}
use Rattle.module_outlines.specs.Outlines.{wide, own_wides}
use Rattle.net_design.specs.Design.{mark_at, port_item, wire_item, port_name}
use Rattle.design_binds.proofs.Apart.{Apart, all_both, bytes_same, bytes_differ, one_more}

-- statements: assigns, and instances of cells that are known without a library
abbrev pub IsStatement : PlainItem → Type 0
IsStatement (declare attributes way range names) = Prim.⊥
IsStatement (assign attributes left right) = Unit {0}
IsStatement (instance attributes cell name pins) = starts_with nat_eq cell (codes "AGM_") ≡ true

-- what no statement gives, statements do not give
none_given : {Y : Type 0} (f : PlainItem → List Y) → ((i : PlainItem) → IsStatement i → f i ≡ []) → (is : List PlainItem) → AllByRecursion IsStatement is → flat_map f is ≡ []
none_given f each [] h = refl
none_given f each (i ∷ is) h = ap₂ (λ xs ys. xs ++ ys) (each i h.0) (none_given f each is h.1)

abbrev pub ports_from : Option ℕ → ℕ → List Port → List PlainItem
ports_from clock k ps = map (port_item clock) (enumerate_from k ps)

abbrev pub declared_items : Option ℕ → List Port → List (List ℕ) → List PlainItem
declared_items clock ps own_names = ports_from clock 0 ps ++ map wire_item own_names

-- what the items of a module give, where statements give nothing
given : {Y : Type 0} (f : PlainItem → List Y) → ((i : PlainItem) → IsStatement i → f i ≡ []) → (clock : Option ℕ) (ps : List Port) (own_names : List (List ℕ)) (is : List PlainItem) → AllByRecursion IsStatement is
    → flat_map f (declared_items clock ps own_names ++ is) ≡ flat_map f (ports_from clock 0 ps) ++ flat_map f (map wire_item own_names)
given f each clock ps own_names is h =
    flat_map-append f (declared_items clock ps own_names) is
    ∙ (ap (λ w. flat_map f (declared_items clock ps own_names) ++ w) (none_given f each is h)
    ∙ (append-nil (flat_map f (declared_items clock ps own_names)) ∙ flat_map-append f (ports_from clock 0 ps) (map wire_item own_names)))

-- declared names

abbrev pub port_declared : Port → Declared
port_declared p = declaration (Some p.way) p.range p.name

abbrev pub all_declared : List Port → List (List ℕ) → List Declared
all_declared ps own_names = map port_declared ps ++ map (declaration None None) own_names

declares_none : (i : PlainItem) → IsStatement i → declared_by i ≡ []
declares_none (declare attributes way range names) h = absurd h
declares_none (assign attributes left right) h = refl
declares_none (instance attributes cell name pins) h = refl

ports_declared : (clock : Option ℕ) (k : ℕ) (ps : List Port) → flat_map declared_by (ports_from clock k ps) ≡ map port_declared ps
ports_declared clock k [] = refl
ports_declared clock k (p ∷ ps) = ap (λ ds. port_declared p ∷ ds) (ports_declared clock (k + 1) ps)

wires_declared : (ns : List (List ℕ)) → flat_map declared_by (map wire_item ns) ≡ map (declaration None None) ns
wires_declared [] = refl
wires_declared (n ∷ ns) = ap (λ ds. declaration None None n ∷ ds) (wires_declared ns)

pub declared_are : (clock : Option ℕ) (ps : List Port) (own_names : List (List ℕ)) (is : List PlainItem) → AllByRecursion IsStatement is → flat_map declared_by (declared_items clock ps own_names ++ is) ≡ all_declared ps own_names
declared_are clock ps own_names is h =
    given declared_by declares_none clock ps own_names is h ∙ ap₂ (λ xs ys. xs ++ ys) (ports_declared clock 0 ps) (wires_declared own_names)

-- listed ports

ports_none : (i : PlainItem) → IsStatement i → ports_of i ≡ []
ports_none (declare attributes way range names) h = absurd h
ports_none (assign attributes left right) h = refl
ports_none (instance attributes cell name pins) h = refl

ports_named : (clock : Option ℕ) (k : ℕ) (ps : List Port) → flat_map ports_of (ports_from clock k ps) ≡ map port_name ps
ports_named clock k [] = refl
ports_named clock k (p ∷ ps) = ap (λ ns. p.name ∷ ns) (ports_named clock (k + 1) ps)

wires_no_ports : (ns : List (List ℕ)) → flat_map ports_of (map wire_item ns) ≡ []
wires_no_ports [] = refl
wires_no_ports (n ∷ ns) = wires_no_ports ns

pub ports_are : (clock : Option ℕ) (ps : List Port) (own_names : List (List ℕ)) (is : List PlainItem) → AllByRecursion IsStatement is → flat_map ports_of (declared_items clock ps own_names ++ is) ≡ map port_name ps
ports_are clock ps own_names is h =
    given ports_of ports_none clock ps own_names is h
    ∙ (ap₂ (λ xs ys. xs ++ ys) (ports_named clock 0 ps) (wires_no_ports own_names) ∙ append-nil (map port_name ps))

-- instances

no_instance_ports : (clock : Option ℕ) (k : ℕ) (ps : List Port) → flat_map instance_of (ports_from clock k ps) ≡ []
no_instance_ports clock k [] = refl
no_instance_ports clock k (p ∷ ps) = no_instance_ports clock (k + 1) ps

no_instance_wires : (ns : List (List ℕ)) → flat_map instance_of (map wire_item ns) ≡ []
no_instance_wires [] = refl
no_instance_wires (n ∷ ns) = no_instance_wires ns

pub instances_are : (clock : Option ℕ) (ps : List Port) (own_names : List (List ℕ)) (is : List PlainItem) → flat_map instance_of (declared_items clock ps own_names ++ is) ≡ flat_map instance_of is
instances_are clock ps own_names is =
    flat_map-append instance_of (declared_items clock ps own_names) is
    ∙ ap (λ w. w ++ flat_map instance_of is)
    (flat_map-append instance_of (ports_from clock 0 ps) (map wire_item own_names) ∙ ap₂ (λ xs ys. xs ++ ys) (no_instance_ports clock 0 ps) (no_instance_wires own_names))

-- names with their ranges

own_none : (ports : List (List ℕ)) (i : PlainItem) → IsStatement i → own_wides ports i ≡ []
own_none ports (declare attributes way range names) h = absurd h
own_none ports (assign attributes left right) h = refl
own_none ports (instance attributes cell name pins) h = refl

ports_no_own : (ports : List (List ℕ)) (clock : Option ℕ) (k : ℕ) (ps : List Port) → AllByRecursion (λ p. is_among ports p.name ≡ true) ps → flat_map (own_wides ports) (ports_from clock k ps) ≡ []
ports_no_own ports clock k [] h = refl
ports_no_own ports clock k (p ∷ ps) h =
    ap (λ b. map (wide p.range) (cond (not b) (p.name ∷ []) []) ++ flat_map (own_wides ports) (ports_from clock (k + 1) ps)) h.0 ∙ ports_no_own ports clock (k + 1) ps h.1

wires_own : (ports ns : List (List ℕ)) → AllByRecursion (λ n. is_among ports n ≡ false) ns → flat_map (own_wides ports) (map wire_item ns) ≡ map (wide None) ns
wires_own ports [] h = refl
wires_own ports (n ∷ ns) h =
    ap (λ b. map (wide None) (cond (not b) (n ∷ []) []) ++ flat_map (own_wides ports) (map wire_item ns)) h.0 ∙ ap (λ ws. wide None n ∷ ws) (wires_own ports ns h.1)

pub own_are : (ports : List (List ℕ)) (clock : Option ℕ) (ps : List Port) (own_names : List (List ℕ)) (is : List PlainItem) → AllByRecursion IsStatement is → AllByRecursion (λ p. is_among ports p.name ≡ true) ps → AllByRecursion (λ n. is_among ports n ≡ false) own_names
    → flat_map (own_wides ports) (declared_items clock ps own_names ++ is) ≡ map (wide None) own_names
own_are ports clock ps own_names is h mine others =
    given (own_wides ports) (own_none ports) clock ps own_names is h
    ∙ ap₂ (λ xs ys. xs ++ ys) (ports_no_own ports clock 0 ps mine) (wires_own ports own_names others)

-- kinds of ports

abbrev pub kind_in : List PlainItem → List ℕ → Option Kind
kind_in items name = slice_get (filter_map (kind_at name) items) 0

abbrev pub kind_from : Port → Kind
kind_from p = record { way = p.way; range = p.range }

pub kinds_are : (clock : Option ℕ) (k : ℕ) (ps : List Port) (rest : List PlainItem) → Apart (map port_name ps) → AllByRecursion (λ p. kind_in (ports_from clock k ps ++ rest) p.name ≡ Some (kind_from p)) ps
kinds_are clock k [] rest a = tt
kinds_are clock k (p ∷ ps) rest a = (
  rw (bytes_same p.name) refl,
  all_both (λ (q : Port). p.name ≢ q.name) (λ q. kind_in (ports_from clock (k + 1) ps ++ rest) q.name ≡ Some (kind_from q)) (λ q. kind_in (ports_from clock k (p ∷ ps) ++ rest) q.name ≡ Some (kind_from q))
      (λ q ne e. rw (bytes_differ p.name q.name ne) e) ps (mapped p ps a.0) (kinds_are clock (k + 1) ps rest a.1),
)
  where
    mapped : (p : Port) (qs : List Port) → AllByRecursion (λ m. p.name ≢ m) (map port_name qs) → AllByRecursion (λ q. p.name ≢ q.name) qs
    mapped p [] h = tt
    mapped p (q ∷ qs) h = (h.0, mapped p qs h.1)

-- marks of ports

no_marks : (b : Bool) (rest : List (Option Value)) → cond b [] [] ++ rest ≡ rest
no_marks true rest = refl
no_marks false rest = refl

marks_none : (name : List ℕ) (i : PlainItem) → IsStatement i → marks_at name i ≡ []
marks_none name (declare attributes way range names) h = absurd h
marks_none name (assign attributes left right) h = refl
marks_none name (instance attributes cell own pins) h = refl

marks_of_wires : (name : List ℕ) (ns : List (List ℕ)) → flat_map (marks_at name) (map wire_item ns) ≡ []
marks_of_wires name [] = refl
marks_of_wires name (n ∷ ns) = no_marks (bytes_eq n name || false) (flat_map (marks_at name) (map wire_item ns)) ∙ marks_of_wires name ns

marks_of_others : (clock : Option ℕ) (k : ℕ) (ps : List Port) (name : List ℕ) → AllByRecursion (λ m. name ≢ m) (map port_name ps) → flat_map (marks_at name) (ports_from clock k ps) ≡ []
marks_of_others clock k [] name h = refl
marks_of_others clock k (p ∷ ps) name h =
    ap (λ b. cond (b || false) (mark_values (mark_at clock k)) [] ++ flat_map (marks_at name) (ports_from clock (k + 1) ps)) (bytes_differ p.name name (λ e. h.0 (sym e)))
    ∙ marks_of_others clock (k + 1) ps name h.1

-- each port has the marks of its number
abbrev pub Marked : Option ℕ → ℕ → (List ℕ → List (Option Value)) → List Port → Type 0
Marked clock k marks [] = Unit {0}
Marked clock k marks (p ∷ ps) = (marks p.name ≡ mark_values (mark_at clock k)) × Marked clock (k + 1) marks ps

same_marks : (clock : Option ℕ) (k : ℕ) (f g : List ℕ → List (Option Value)) (ps : List Port) → AllByRecursion (λ p. g p.name ≡ f p.name) ps → Marked clock k f ps → Marked clock k g ps
same_marks clock k f g [] e m = tt
same_marks clock k f g (p ∷ ps) e m = (e.0 ∙ m.0, same_marks clock (k + 1) f g ps e.1 m.1)

pub marked : (clock : Option ℕ) (k : ℕ) (ps : List Port) → Apart (map port_name ps) → Marked clock k (λ n. flat_map (marks_at n) (ports_from clock k ps)) ps
marked clock k [] a = tt
marked clock k (p ∷ ps) a =
    let own = mark_values (mark_at clock k) in (
      ap (λ b. cond (b || false) own [] ++ flat_map (marks_at p.name) (ports_from clock (k + 1) ps)) (bytes_same p.name)
          ∙ (ap (λ w. own ++ w) (marks_of_others clock (k + 1) ps p.name a.0) ∙ append-nil own),
      same_marks clock (k + 1) (λ n. flat_map (marks_at n) (ports_from clock (k + 1) ps)) (λ n. flat_map (marks_at n) (ports_from clock k (p ∷ ps))) ps
          (skipped p (k + 1) ps a.0) (marked clock (k + 1) ps a.1),
    )
  where
    skipped : (p : Port) (j : ℕ) (qs : List Port) → AllByRecursion (λ m. p.name ≢ m) (map port_name qs) → AllByRecursion (λ q. flat_map (marks_at q.name) (port_item clock (k, p) ∷ ports_from clock (k + 1) ps) ≡ flat_map (marks_at q.name) (ports_from clock (k + 1) ps)) qs
    skipped p j [] h = tt
    skipped p j (q ∷ qs) h = (
      ap (λ b. cond (b || false) (mark_values (mark_at clock k)) [] ++ flat_map (marks_at q.name) (ports_from clock (k + 1) ps)) (bytes_differ p.name q.name h.0),
      skipped p j qs h.1,
    )

marks_whole : (clock : Option ℕ) (ps : List Port) (own_names : List (List ℕ)) (is : List PlainItem) → AllByRecursion IsStatement is → (name : List ℕ) → flat_map (marks_at name) (declared_items clock ps own_names ++ is) ≡ flat_map (marks_at name) (ports_from clock 0 ps)
marks_whole clock ps own_names is h name =
    given (marks_at name) (marks_none name) clock ps own_names is h
    ∙ (ap (λ w. flat_map (marks_at name) (ports_from clock 0 ps) ++ w) (marks_of_wires name own_names) ∙ append-nil (flat_map (marks_at name) (ports_from clock 0 ps)))

every : {X : Type 0} (P : X → Type 0) → ((x : X) → P x) → (xs : List X) → AllByRecursion P xs
every P f [] = tt
every P f (x ∷ xs) = (f x, every P f xs)

pub marks_are : (clock : Option ℕ) (ps : List Port) (own_names : List (List ℕ)) (is : List PlainItem) → AllByRecursion IsStatement is → Apart (map port_name ps) → Marked clock 0 (λ n. flat_map (marks_at n) (declared_items clock ps own_names ++ is)) ps
marks_are clock ps own_names is h a =
    same_marks clock 0 (λ n. flat_map (marks_at n) (ports_from clock 0 ps)) (λ n. flat_map (marks_at n) (declared_items clock ps own_names ++ is)) ps
    (every (λ (p : Port). flat_map (marks_at p.name) (declared_items clock ps own_names ++ is) ≡ flat_map (marks_at p.name) (ports_from clock 0 ps)) (λ p. marks_whole clock ps own_names is h p.name) ps) (marked clock 0 ps a)

-- the clock

-- whether the port of a number is the clock
abbrev pub is_number : Option ℕ → ℕ → Bool
is_number None k = false
is_number (Some c) k = c == k

says_so : (b : Bool) → (e : Attribute) → list_any (says (codes "clock")) (mark_values (e ∷ [])) ≡ true → list_any (says (codes "clock")) (mark_values (cond b (e ∷ []) [])) ≡ b
says_so true e h = h
says_so false e h = refl

pub says_clock : (clock : Option ℕ) (k : ℕ) → list_any (says (codes "clock")) (mark_values (mark_at clock k)) ≡ is_number clock k
says_clock None k = refl
says_clock (Some c) k = says_so (c == k) _ refl

-- a test of names that passes for the clock's port alone
abbrev pub Tests : (List ℕ → Bool) → Option ℕ → ℕ → List Port → Type 0
Tests test clock k [] = Unit {0}
Tests test clock k (p ∷ ps) = (test p.name ≡ (is_clock_port p && is_number clock k)) × Tests test clock (k + 1) ps

neither : (b : Bool) → (b && false) ≡ false
neither true = refl
neither false = refl

clock_none : (test : List ℕ → Bool) (k : ℕ) (ps : List Port) → Tests test None k ps → position_or_len test (map port_name ps) ≡ length (map port_name ps)
clock_none test k [] t = refl
clock_none test k (p ∷ ps) t = rw (t.0 ∙ neither (is_clock_port p)) (one_more (position_or_len test (map port_name ps)) (length (map port_name ps)) (clock_none test (k + 1) ps t.1))

clock_here : (c k : ℕ) (p : Port) → c ≡ k → is_clock_port p ≡ true → (is_clock_port p && (c == k)) ≡ true
clock_here c k p e h = rw (h, (Decides-eqb c k).1 e) refl

clock_elsewhere : (c k : ℕ) (p : Port) → c ≢ k → (is_clock_port p && (c == k)) ≡ false
clock_elsewhere c k p ne = rw (ne_eqb c k ne) (neither (is_clock_port p))

clock_some : (test : List ℕ → Bool) (c k j : ℕ) (ps : List Port) (p : Port) → Tests test (Some c) k ps → c ≡ k + j → slice_get ps j ≡ Some p → is_clock_port p ≡ true → position_or_len test (map port_name ps) ≡ j
clock_some test c k j [] p t at here clocked = absurd (cc)
clock_some test c k zero (q ∷ ps) p t at here clocked =
    let same : q ≡ p = cc in
    let yes : test q.name ≡ true = t.0 ∙ clock_here c k q (omega arith) (ap is_clock_port same ∙ clocked) in
    rw yes
clock_some test c k (suc j) (q ∷ ps) p t at here clocked =
    let no : test q.name ≡ false = t.0 ∙ clock_elsewhere c k q (omega arith) in
    rw no (one_more (position_or_len test (map port_name ps)) j (clock_some test c (k + 1) j ps p t.1 (omega arith) here clocked))

position_at : (test : List ℕ → Bool) (xs : List (List ℕ)) (j : ℕ) → position_or_len test xs ≡ j → j < length xs → position test xs ≡ Some j
position_at test xs j e lt = rw (e, lt-ltb j (length xs) lt)

position_nowhere : (test : List ℕ → Bool) (xs : List (List ℕ)) → position_or_len test xs ≡ length xs → position test xs ≡ None
position_nowhere test xs e = rw (e, le-ltb (length xs) (length xs) (omega arith))

-- the port of a number that fits is one, and is a clock's port
record IsClockPort (ps : List Port) (c : ℕ) : Type 0 where
  port : Port
  here : slice_get ps c ≡ Some port
  clocked : is_clock_port port ≡ true

clock_port : (ps : List Port) (c : ℕ) → IsTrue (option_map_or is_clock_port (slice_get ps c) false) → IsClockPort ps c
clock_port ps c =
    elim (slice_get ps c) as (λ o. ((p : Port) → o ≡ Some p → slice_get ps c ≡ Some p) → IsTrue (option_map_or is_clock_port o false) → IsClockPort ps c)
    [ None ↦ λ f h. absurd (cc) | Some p ↦ λ f h. record { port = p; here = f p refl; clocked = h } ] (λ p e. e)

-- the first port that passes is the clock
pub clock_is : (test : List ℕ → Bool) (clock : Option ℕ) (ps : List Port) → Tests test clock 0 ps → ((c : ℕ) → clock ≡ Some c → IsTrue (option_map_or is_clock_port (slice_get ps c) false)) → position test (map port_name ps) ≡ clock
clock_is test None ps t fits = position_nowhere test (map port_name ps) (clock_none test 0 ps t)
clock_is test (Some c) ps t fits =
    let at = clock_port ps c (fits c refl) in
    let inside = slice_get_within ps c at.port at.here in
    let long : length (map port_name ps) ≡ length ps = length-map ps port_name in
    position_at test (map port_name ps) c (clock_some test c 0 c ps at.port t (sym (zero-add c)) at.here at.clocked) (omega arith)
