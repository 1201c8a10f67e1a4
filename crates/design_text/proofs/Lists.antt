-- Parts of a text that are laid out, and whose tokens spell a value, whatever may stand behind.
use Rattle.std.proofs.Common.{◌≡◌, ◌≤◌, ◌++◌, ◌||◌, ◌&&◌, ℕ, Bool, true, false, cond, length, List, [], ◌∷◌, refl, sym, subst, arith, append_assoc}
use Rattle.std.specs.List.{flat_map, AllByRecursion}
use Rattle.agm_net.specs.Writable.{IsWritable}
use Rattle.small_text.specs.First.{begins_blank}
use Rattle.small_text.specs.Layout.{is_simple_name}
use Rattle.verilog_tokens.specs.Token.{Name}
use Rattle.verilog_reader.specs.Grammar.{Spelling, Row, Next, Listed, Perhaps, IsIdent}
use Rattle.design_text.specs.Parts.{Part, word, symbol, blank, parts_text}
use Rattle.design_text.specs.Written.{name_parts, names_parts}
use Rattle.design_text.proofs.WrittenTokens.{begins_symbol, stops}
use Rattle.design_text.proofs.LaidOut.{tokens_of, IsLaid}

-- parts that may stand behind any token but `(`
abbrev pub MayFollow : List Part → Type 0
MayFollow ps = IsLaid ps × (stops (parts_text ps) ≡ true)

-- laid out, and the tokens spell a value, up to the tokens of other parts
abbrev pub Reads : {X : Type 0} → Spelling X → X → (all rest : List Part) → Type 0
Reads P x all rest = IsLaid all × P x (tokens_of all) (tokens_of rest)

-- the parts spell the value, whatever stands behind that may follow
abbrev pub Writes : {X : Type 0} → Spelling X → X → List Part → Type 0
Writes P x parts = (ps : List Part) → MayFollow ps → Reads P x (parts ++ ps) ps

-- and whatever is laid out behind
abbrev pub WritesAlone : {X : Type 0} → Spelling X → X → List Part → Type 0
WritesAlone P x parts = (ps : List Part) → IsLaid ps → Reads P x (parts ++ ps) ps

-- names

ends_name : (q : Bool) (a b : Bool) → q ≡ true → (a || b) ≡ true → (a || (q && b)) ≡ true
ends_name q a b h k = rw h k

name_case : (n : List ℕ) (ps : List Part) → IsWritable n → MayFollow ps → (q : Bool) → is_simple_name n ≡ q → Reads IsIdent n (word (Name n) ∷ (cond q [] (blank ∷ []) ++ ps)) ps
name_case n ps w h true s = ((w, ends_name (is_simple_name n) (begins_blank (parts_text ps)) (begins_symbol (parts_text ps)) s h.1, h.0), refl)
name_case n ps w h false s = ((w, refl, ((refl, tt), h.0)), refl)

pub name_again : (n : List ℕ) → IsWritable n → Writes IsIdent n (name_parts n)
name_again n w ps h = name_case n ps w h (is_simple_name n) refl

-- values, one behind the other
pub row_again : {X : Type 0} (P : Spelling X) (W : X → Type 0) (parts : X → List Part) → ((x : X) → W x → WritesAlone P x (parts x)) → (xs : List X) → AllByRecursion W xs → WritesAlone (Row P) xs (flat_map parts xs)
row_again P W parts f [] w ps h = (h, refl)
row_again P W parts f (x ∷ xs) w ps h =
    let Q : List Part → Type 0 = λ qs. Reads (Row P) (x ∷ xs) qs ps in
    let more = row_again P W parts f xs w.1 ps h in
    let first = f x w.0 (flat_map parts xs ++ ps) more.0 in
    subst Q (sym (append_assoc (parts x) (flat_map parts xs) ps)) (first.0, (tokens_of (flat_map parts xs ++ ps), first.1, more.1))

-- a value behind a comma
abbrev pub next_parts : {X : Type 0} → (X → List Part) → X → List Part
next_parts parts x = symbol 44 ∷ blank ∷ parts x

comma_follows : {X : Type 0} (parts : X → List Part) (xs : List X) (ps : List Part) → IsLaid (flat_map (next_parts parts) xs ++ ps) → stops (parts_text ps) ≡ true → MayFollow (flat_map (next_parts parts) xs ++ ps)
comma_follows parts [] ps l h = (l, h)
comma_follows parts (x ∷ xs) ps l h = (l, refl)

pub more_again : {X : Type 0} (P : Spelling X) (W : X → Type 0) (parts : X → List Part) → ((x : X) → W x → Writes P x (parts x)) → (xs : List X) → AllByRecursion W xs → Writes (Row (Next P)) xs (flat_map (next_parts parts) xs)
more_again P W parts f [] w ps h = (h.0, refl)
more_again P W parts f (x ∷ xs) w ps h =
    let Q : List Part → Type 0 = λ qs. Reads (Row (Next P)) (x ∷ xs) qs ps in
    let more = more_again P W parts f xs w.1 ps h in
    let first = f x w.0 (flat_map (next_parts parts) xs ++ ps) (comma_follows parts xs ps more.0 h.1) in
    let rest = tokens_of (flat_map (next_parts parts) xs ++ ps) in
    subst Q (sym (append_assoc (next_parts parts x) (flat_map (next_parts parts) xs) ps))
    ((refl, refl, ((refl, tt), first.0)), (rest, (tokens_of (parts x ++ (flat_map (next_parts parts) xs ++ ps)), refl, first.1), more.1))

-- one or more values with commas between them
pub listed_again : {X : Type 0} (P : Spelling X) (W : X → Type 0) (parts : X → List Part) → ((x : X) → W x → Writes P x (parts x)) → (x : X) (xs : List X) → W x → AllByRecursion W xs → Writes (Listed P) (x ∷ xs) (parts x ++ flat_map (next_parts parts) xs)
listed_again P W parts f x xs v w ps h =
    let Q : List Part → Type 0 = λ qs. Reads (Listed P) (x ∷ xs) qs ps in
    let more = more_again P W parts f xs w ps h in
    let first = f x v (flat_map (next_parts parts) xs ++ ps) (comma_follows parts xs ps more.0 h.1) in
    subst Q (sym (append_assoc (parts x) (flat_map (next_parts parts) xs) ps)) (first.0, (tokens_of (flat_map (next_parts parts) xs ++ ps), first.1, more.1))

pub names_again : (ns : List (List ℕ)) → 1 ≤ length ns → AllByRecursion IsWritable ns → Writes (Listed IsIdent) ns (names_parts ns)
names_again [] some w ps h = absurd (omega (arith, some))
names_again (n ∷ ns) some w ps h = listed_again IsIdent IsWritable name_parts name_again n ns w.0 w.1 ps h

pub maybe_names_again : (ns : List (List ℕ)) → AllByRecursion IsWritable ns → Writes (Perhaps IsIdent) ns (names_parts ns)
maybe_names_again [] w ps h = (h.0, refl)
maybe_names_again (n ∷ ns) w ps h = listed_again IsIdent IsWritable name_parts name_again n ns w.0 w.1 ps h
