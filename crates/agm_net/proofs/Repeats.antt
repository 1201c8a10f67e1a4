-- Repeated names.
use Rattle.std.proofs.Common.{◌≡◌, ◌≢◌, ℕ, ◌+◌, ◌<◌, Bool, true, not, cond, Some, List, [], ◌∷◌, ◌++◌, length, get_or, take, map, refl, ap, sym, subst, ◌∙◌, arith, IsTrue}
use Rattle.std.specs.Prelude.{slice_get, nat_eq}
use Rattle.std.specs.List.{list_any, range_with_len}
use Rattle.std.specs.Str.{bytes_eq}
use Rattle.std.specs.Cmp.Lexicographic.{bytes_decides}
use Rattle.std.proofs.lemmas.Bool.{both_ways, not-true, not_from_false, false_from_ne_true, cases_eq, eq-eqb, ne_eqb}
use Rattle.std.proofs.lemmas.List.{take_more, length-map, get_or-map, get_or-take, length-take}
use Rattle.std.proofs.lemmas.List.Folds.{list_any-from_Any, list_any_none}
use Rattle.std.proofs.lemmas.List.FromFn.{get_or-range_with_len, length-range_with_len}
use Rattle.std.proofs.lemmas.List.Sums.{AllPass-from_list_all, list_all-from_AllPass}
use Rattle.std.proofs.lemmas.Option.{get_or_from_slice_get, slice_get-get_or}
use mathlib.Core.Logic.{⊎_elim}
use Rattle.agm_net.specs.Checks.{Texts, is_new, names_differ, IsFirstRepeated}
use Rattle.agm_net.specs.WellFormed.{Differ}
use Rattle.agm_net.specs.declared.port.Port.{Port}

-- no place before k has what stands at k
abbrev pub IsNew : Texts → ℕ → Type 0
IsNew names k = (v : ℕ) → v < k → slice_get names v ≢ slice_get names k

pub new-from_test : (names : Texts) (k : ℕ) → k < length names → IsTrue (is_new names k) → IsNew names k
new-from_test names k within new v before same =
    let name = get_or names k [] in
    let at = get_or_from_slice_get names v name name (same ∙ slice_get-get_or names k [] within) in
    let shorter = length-take k names in
    both_ways (list_any (λ n. bytes_eq n name) (take k names))
    (not-true _ new)
    (list_any-from_Any (λ n. bytes_eq n name) (take k names) (v, name, omega arith, get_or-take k names v name before ∙ at, (bytes_decides name name).1 refl))

pub test-from_new : (names : Texts) (k : ℕ) → k < length names → IsNew names k → IsTrue (is_new names k)
test-from_new names k within new =
    let shorter = length-take k names in
    not_from_false _
    (list_any_none (λ n. bytes_eq n (get_or names k [])) (take k names)
    (λ v d h. false_from_ne_true _
    (λ same. new v (omega arith)
    (slice_get-get_or names v d (omega arith) ∙ ap Some (sym (get_or-take k names v d (omega arith)) ∙ (bytes_decides _ _).0 same) ∙ sym (slice_get-get_or names k [] within)))))

place-at : (n k d : ℕ) → k < n → get_or (range_with_len 0 n) k d ≡ k
place-at n k d within = get_or-range_with_len 0 n k d within ∙ omega arith

new-at : (names : Texts) → names_differ names ≡ true → (k : ℕ) → k < length names → IsTrue (is_new names k)
new-at names differ k within =
    let long = length-range_with_len 0 (length names) in
    let test = AllPass-from_list_all (is_new names) (range_with_len 0 (length names)) differ k 0 (omega arith) in
    subst (λ (i : ℕ). is_new names i ≡ true) (place-at (length names) k 0 within) test

differ-from_new : (names : Texts) → ((k : ℕ) → k < length names → IsTrue (is_new names k)) → names_differ names ≡ true
differ-from_new names new =
    let long = length-range_with_len 0 (length names) in
    list_all-from_AllPass (is_new names) (range_with_len 0 (length names))
    (λ k d h. let within : k < length names = omega arith in subst (λ (i : ℕ). is_new names i ≡ true) (sym (place-at (length names) k d within)) (new k within))

-- the test of names, and what it says
pub Differ-from_test : (names : Texts) → names_differ names ≡ true → Differ names
Differ-from_test names differ v w before within = new-from_test names w within (new-at names differ w within) v before

pub test-from_Differ : (names : Texts) → Differ names → names_differ names ≡ true
test-from_Differ names differ = differ-from_new names (λ k within. test-from_new names k within (λ v before. differ v k before within))

-- the first repeated name is past the end where no name is repeated
pub first-at_end : (names : Texts) (i : ℕ) → IsFirstRepeated names i → nat_eq i (length names) ≡ names_differ names
first-at_end names i first =
    ⊎_elim
    (λ end. eq-eqb i (length names) end ∙ sym (differ-from_new names (λ k within. first.new_before k (omega arith))))
    (λ other.
    let inside = first.within in let early : i < length names = omega arith in
    ne_eqb i (length names) other ∙ sym (false_from_ne_true _ (λ differ. both_ways (is_new names i) (first.repeated early) (new-at names differ i early))))
    (cases_eq i (length names))

abbrev port_names : List Port → Texts
port_names ports = map (λ p. p.name) ports

name-here : (ports : List Port) (i : ℕ) (p : Port) → i < length ports → p ≡ get_or ports i p → get_or (port_names ports) i [] ≡ p.name
name-here ports i p within here = get_or-map (λ p. p.name) ports i p [] within ∙ ap (λ (q : Port). q.name) (sym here)

module _ (ports : List Port) (i : ℕ) (p : Port) (within : i < length ports) (here : p ≡ get_or ports i p) (name : List ℕ) (named : name ≡ p.name) (table : Texts) (seen : table ≡ take i (port_names ports)) where
  -- the table with the name of one more port
  pub added-port : (fresh : Bool) (after : Texts) → fresh ≡ true → after ≡ cond fresh (table ++ name ∷ []) table → after ≡ take (i + 1) (port_names ports)
  added-port fresh after is_fresh added =
      let long = length-map ports (λ (p : Port). p.name) in
      let more = take_more (port_names ports) i [] (omega arith) in
      let own = name-here ports i p within here in
      added ∙ rw (is_fresh, named, seen) (rw (← own) (sym more))

  -- whether the port's name is new
  pub new-port : (fresh : Bool) → fresh ≡ not (list_any (λ n. bytes_eq n name) table) → is_new (port_names ports) i ≡ fresh
  new-port fresh told =
      let own = name-here ports i p within here in
      rw own (rw (← named, ← seen) (sym told))
