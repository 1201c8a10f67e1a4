-- The names of inputs differ, and their table has them.
use Rattle.std.proofs.Common.{◌≡◌, ◌≢◌, ℕ, zero, suc, ◌+◌, ◌<◌, ◌++◌, Bool, true, false, not, cond, IsTrue, Option, Some, None, List, [], ◌∷◌, length, get_or, take, drop, map, filter, refl, sym, ap, subst, ◌∙◌, arith}
use Rattle.std.specs.Prelude.{slice_get}
use Rattle.std.specs.List.{list_any, AllByRecursion}
use Rattle.std.specs.Option.{option_map, option_map_or}
use Rattle.std.specs.Str.{bytes_eq}
use Rattle.std.proofs.lemmas.List.{take_more, length-map, get_or-map}
use Rattle.std.proofs.lemmas.Option.{slice_get-get_or, slice_get-map}
use Rattle.agm_net.proofs.Repeats.{test-from_new}
use Rattle.agm_net.specs.Checks.{is_new}
use Rattle.agm_net.specs.Plain.{is_input, ports_but}
use Rattle.agm_net.specs.WellFormed.{Differ, is_clock_port}
use Rattle.agm_net.specs.declared.port.Port.{Port}
use Rattle.stimulus.proofs.Lists.{all_from, all_to}
use Rattle.stimulus.specs.Asked.{input_of, names_of}
use Rattle.stimulus.specs.declared.inputs.Input.{Input}

-- the table with the name of one more input
pub one_added : (inputs : List Input) (i : ℕ) (p : Input) → i < length inputs → p ≡ get_or inputs i p → Differ (names_of inputs) → (name : List ℕ) → name ≡ p.name → (table : List (List ℕ)) → table ≡ take i (names_of inputs)
    → (fresh : Bool) → fresh ≡ not (list_any (λ n. bytes_eq n name) table) → (after : List (List ℕ)) → after ≡ cond fresh (table ++ name ∷ []) table → after ≡ take (i + 1) (names_of inputs)
one_added inputs i p within here differ name named table seen fresh told after added =
    let names = names_of inputs in
    let long : length names ≡ length inputs = length-map inputs (λ (q : Input). q.name) in
    let in_names : i < length names = omega arith in
    let own : get_or names i [] ≡ p.name = get_or-map (λ (q : Input). q.name) inputs i p [] within ∙ ap (λ (q : Input). q.name) (sym here) in
    let more = take_more names i [] in_names in
    let new = test-from_new names i in_names (λ v before. differ v i before in_names) in
    let same : is_new names i ≡ fresh = rw own (rw (← named, ← seen) (sym told)) in
    let is_fresh : fresh ≡ true = sym same ∙ new in
    added ∙ rw (is_fresh, named, seen) (rw (← own) (sym more))

-- no port has the name of a later one
abbrev Apart : List Port → Type 0
Apart [] = Unit {0}
Apart (p ∷ ps) = AllByRecursion (λ q. p.name ≢ q.name) ps × Apart ps

apart_from : (ps : List Port) → Differ (map (λ p. p.name) ps) → Apart ps
apart_from [] differ = tt
apart_from (p ∷ ps) differ = (
  all_to (λ q. p.name ≢ q.name) ps (λ k d within same.
      let long : length (map (λ (q : Port). q.name) ps) ≡ length ps = length-map ps (λ (q : Port). q.name) in
      differ 0 (suc k) (omega arith) (omega arith) (ap Some same ∙ sym (slice_get-map (λ (q : Port). q.name) ps k ∙ ap (option_map (λ (q : Port). q.name)) (slice_get-get_or ps k d within)))),
  apart_from ps (λ v w lt le same. differ (suc v) (suc w) (omega arith) (omega arith) same),
)

filtered : (test : Port → Bool) (P : Port → Type 0) (ps : List Port) → AllByRecursion P ps → AllByRecursion P (filter test ps)
filtered test P [] h = tt
filtered test P (p ∷ ps) h = elim (test p) as (λ b. AllByRecursion P (cond b (p ∷ filter test ps) (filter test ps))) [ true ↦ (h.0, filtered test P ps h.1) | false ↦ filtered test P ps h.1 ]

apart_filtered : (test : Port → Bool) (ps : List Port) → Apart ps → Apart (filter test ps)
apart_filtered test [] h = tt
apart_filtered test (p ∷ ps) h = elim (test p) as (λ b. Apart (cond b (p ∷ filter test ps) (filter test ps))) [ true ↦ (filtered test (λ q. p.name ≢ q.name) ps h.0, apart_filtered test ps h.1) | false ↦ apart_filtered test ps h.1 ]

without : (P : Port → Type 0) (c : ℕ) (ps : List Port) → AllByRecursion P ps → AllByRecursion P (take c ps ++ drop (suc c) ps)
without P zero [] h = tt
without P (suc c) [] h = tt
without P zero (p ∷ ps) h = h.1
without P (suc c) (p ∷ ps) h = (h.0, without P c ps h.1)

apart_without : (c : ℕ) (ps : List Port) → Apart ps → Apart (take c ps ++ drop (suc c) ps)
apart_without zero [] h = tt
apart_without (suc c) [] h = tt
apart_without zero (p ∷ ps) h = h.1
apart_without (suc c) (p ∷ ps) h = (without (λ q. p.name ≢ q.name) c ps h.0, apart_without c ps h.1)

apart_but : (clock : Option ℕ) (ps : List Port) → Apart ps → Apart (ports_but clock ps)
apart_but None ps h = h
apart_but (Some c) ps h = let next : suc c ≡ c + 1 = omega arith in subst (λ (n : ℕ). Apart (take c ps ++ drop n ps)) next (apart_without c ps h)

differ_from : (ps : List Port) → Apart ps → Differ (names_of (map input_of ps))
differ_from [] h v w lt le same = absurd (omega arith)
differ_from (p ∷ ps) h v zero lt le same = absurd (omega arith)
differ_from (p ∷ ps) h zero (suc w) lt le same =
    let long : length (names_of (map input_of ps)) ≡ length (map input_of ps) = length-map (map input_of ps) (λ (i : Input). i.name) in
    let longer : length (map input_of ps) ≡ length ps = length-map ps input_of in
    let within : w < length ps = omega arith in
    let there : slice_get (names_of (map input_of ps)) w ≡ Some (get_or ps w p).name =
    slice_get-map (λ (i : Input). i.name) (map input_of ps) w ∙ ap (option_map (λ (i : Input). i.name)) (slice_get-map input_of ps w ∙ ap (option_map input_of) (slice_get-get_or ps w p within)) in
    all_from (λ q. p.name ≢ q.name) ps h.0 w p within (let f : Some p.name ≡ Some (get_or ps w p).name = same ∙ there in cc)
differ_from (p ∷ ps) h (suc v) (suc w) lt le same = differ_from ps h.1 v w (omega arith) (omega arith) same

-- names of ports differ, so those of inputs do
pub inputs_differ : (ports : List Port) (clock : Option ℕ) → Differ (map (λ p. p.name) ports) → Differ (names_of (map input_of (filter is_input (ports_but clock ports))))
inputs_differ ports clock differ = differ_from _ (apart_filtered is_input _ (apart_but clock ports (apart_from ports differ)))

-- and those of some of them
pub some_differ : (test : Port → Bool) (ports : List Port) (clock : Option ℕ) → Differ (map (λ p. p.name) ports) → Differ (names_of (map input_of (filter test (filter is_input (ports_but clock ports)))))
some_differ test ports clock differ = differ_from _ (apart_filtered test _ (apart_filtered is_input _ (apart_but clock ports (apart_from ports differ))))

-- a test of inputs is one of ports
pub kept_inputs : (test : Input → Bool) (ports : List Port) → filter test (map input_of ports) ≡ map input_of (filter (λ p. test (input_of p)) ports)
kept_inputs test [] = refl
kept_inputs test (p ∷ ps) = elim (test (input_of p)) as (λ b. cond b (input_of p ∷ filter test (map input_of ps)) (filter test (map input_of ps)) ≡ map input_of (cond b (p ∷ filter (λ q. test (input_of q)) ps) (filter (λ q. test (input_of q)) ps))) [ true ↦ ap (λ (is : List Input). input_of p ∷ is) (kept_inputs test ps) | false ↦ kept_inputs test ps ]

pub clock_within : (ports : List Port) (c : ℕ) → IsTrue (option_map_or is_clock_port (slice_get ports c) false) → c < length ports
clock_within [] c h = absurd (let no : false ≡ true = h in cc)
clock_within (p ∷ ps) zero h = omega arith
clock_within (p ∷ ps) (suc c) h = let rest = clock_within ps c h in omega arith
