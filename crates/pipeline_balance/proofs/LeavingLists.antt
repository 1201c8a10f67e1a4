-- Ports in their order: those that stand before the original's, the original's without its clock, and which of them are outputs.
use Rattle.std.proofs.Common.{◌≡◌, ◌<◌, ◌≤◌, ◌+◌, ◌++◌, ◌==◌, ℕ, zero, suc, true, false, not, cond, List, [], ◌∷◌, Option, Some, None, length, length-append, length-drop, flat_map, filter, take, drop, codes, get_or, slice_get, refl, sym, ap, ap₂, subst, inl, inr, ◌∙◌, arith, append-nil, ne_eqb, eq-eqb, zero-add, drop-cons, take-suc}
use Rattle.std.specs.List.{range_with_len}
use Rattle.std.proofs.lemmas.Bool.{cases_Bool}
use Rattle.std.proofs.lemmas.List.{length-take-le, get_or-take, get_or-drop}
use Rattle.std.proofs.lemmas.List.Elements.{filter-append}
use Rattle.agm_net.specs.Plain.{is_input, ports_but}
use Rattle.agm_net.specs.Role.{state_name}
use Rattle.agm_net.specs.declared.port.Port.{Port}
use Rattle.share_wiring.specs.Shape.{input_of_width, indices}
use Rattle.share_wiring.specs.declared.report.Report.{Report}
use Rattle.pipeline_balance.specs.declared.values.Value.{Value}
use Rattle.pipeline_balance.specs.Chained.{value_at}
use Rattle.pipeline_balance.specs.Entered.{first_headers}
use Rattle.pipeline_balance.specs.Leaving.{is_clock, ports_of_width}

-- ---- how many ports stand first

width_count : (name : List ℕ) (width : ℕ) → length (input_of_width name width) ≡ ports_of_width width 1
width_count name zero = refl
width_count name (suc n) = refl

states_count : (width a n : ℕ) → length (flat_map (λ i. input_of_width (state_name i) width) (range_with_len a n)) ≡ ports_of_width width n
states_count zero a zero = refl
states_count zero a (suc n) = states_count zero (a + 1) n
states_count (suc w) a zero = refl
states_count (suc w) a (suc n) = ap suc (states_count (suc w) (a + 1) n)

pub first_length : (report : Report)
    → length (first_headers report) ≡ 2 + ports_of_width report.random 1 + ports_of_width report.public_registers 1 + ports_of_width report.secret_registers (report.order + 1)
first_length report =
    let R = input_of_width (codes "agm_r") report.random in
    let P = input_of_width (codes "agm_q_p") report.public_registers in
    let S = flat_map (λ i. input_of_width (state_name i) report.secret_registers) (indices report.order) in
    let states : length S ≡ ports_of_width report.secret_registers (report.order + 1) = states_count report.secret_registers 0 (report.order + 1) in
    let first = width_count (codes "agm_r") report.random in
    let second = width_count (codes "agm_q_p") report.public_registers in
    let all = length-append R (P ++ S) in
    let rest = length-append P S in
    omega (arith, states, first, second, all, rest)

-- ---- values in the middle of a list

module _ (n : ℕ) (values : List (Value n)) (at w : ℕ) (le : at + w ≤ length values) where
  pub middle_length : length (take w (drop at values)) ≡ w
  middle_length = let rest = length-drop at values in length-take-le w (drop at values) (omega (arith, le, rest))

  pub middle_value : (j : ℕ) → j < w → value_at (take w (drop at values)) j ≡ value_at values (at + j)
  middle_value j lt = get_or-take w (drop at values) j _ lt ∙ get_or-drop at values j _

-- ---- the original's ports without its clock

-- ports, the first of which has number a, without the clock's
abbrev pub data_from : Option ℕ → ℕ → List Port → List Port
data_from clock a [] = []
data_from clock a (p ∷ ps) = cond (is_clock clock a) (data_from clock (a + 1) ps) (p ∷ data_from clock (a + 1) ps)

none_left : (a : ℕ) (ports : List Port) → data_from None a ports ≡ ports
none_left a [] = refl
none_left a (p ∷ ps) = ap (λ qs. p ∷ qs) (none_left (a + 1) ps)

all_behind : (c a : ℕ) (ports : List Port) → c < a → data_from (Some c) a ports ≡ ports
all_behind c a [] lt = refl
all_behind c a (p ∷ ps) lt =
    let apart : (c == a) ≡ false = ne_eqb c a (λ e. omega (arith, e)) in
    rw apart (ap (λ qs. p ∷ qs) (all_behind c (a + 1) ps (omega arith)))

but_one : (c a : ℕ) (ports : List Port) → data_from (Some (a + c)) a ports ≡ take c ports ++ drop (c + 1) ports
but_one zero a [] = refl
but_one (suc c) a [] = let next : suc c + 1 ≡ suc (c + 1) = omega arith in subst {A = ℕ} (λ k. ◌≡◌ {A = List Port} [] (take (suc c) [] ++ drop k [])) (sym next) refl
but_one zero a (p ∷ ps) =
    let same : (a + 0 == a) ≡ true = eq-eqb (a + 0) a (omega arith) in
    rw same (all_behind (a + 0) (a + 1) ps (omega arith))
but_one (suc c) a (p ∷ ps) =
    let apart : (a + suc c == a) ≡ false = ne_eqb (a + suc c) a (λ e. omega (arith, e)) in
    let on : (a + 1) + c ≡ a + suc c = omega arith in
    let next : suc (c + 1) ≡ suc c + 1 = omega arith in
    let rest : data_from (Some (a + suc c)) (a + 1) ps ≡ take c ps ++ drop (c + 1) ps = subst (λ k. data_from (Some k) (a + 1) ps ≡ take c ps ++ drop (c + 1) ps) on (but_one c (a + 1) ps) in
    rw apart (ap (λ qs. p ∷ qs) rest ∙ ap (λ k. p ∷ (take c ps ++ drop k (p ∷ ps))) next)

pub data_are : (clock : Option ℕ) (ports : List Port) → ports_but clock ports ≡ data_from clock 0 ports
data_are None ports = sym (none_left 0 ports)
data_are (Some c) ports = sym (subst (λ k. data_from (Some k) 0 ports ≡ take c ports ++ drop (c + 1) ports) (zero-add c) (but_one c 0 ports))

pub data_joined : (clock : Option ℕ) (a : ℕ) (xs ys : List Port) → data_from clock a (xs ++ ys) ≡ data_from clock a xs ++ data_from clock (a + length xs) ys
data_joined clock a [] ys = let none : a ≡ a + 0 = omega arith in ap (λ k. data_from clock k ys) none
data_joined clock a (x ∷ xs) ys =
    let on : (a + 1) + length xs ≡ a + suc (length xs) = omega arith in
    let rest : data_from clock (a + 1) (xs ++ ys) ≡ data_from clock (a + 1) xs ++ data_from clock (a + suc (length xs)) ys =
    data_joined clock (a + 1) xs ys ∙ ap (λ k. data_from clock (a + 1) xs ++ data_from clock k ys) on in
    elim (cases_Bool (is_clock clock a)) [ inl here ↦ rw here rest | inr other ↦ rw other (ap (λ qs. x ∷ qs) rest) ]

pub drop_past : {X : Type 0} (k : ℕ) (xs : List X) → length xs ≤ k → drop k xs ≡ []
drop_past zero [] le = refl
drop_past zero (x ∷ xs) le = absurd (omega arith)
drop_past (suc k) [] le = refl
drop_past (suc k) (x ∷ xs) le = drop_past k xs (omega arith)

-- the ports before place k + 1, and those from place k on
module _ (clock : Option ℕ) (ports : List Port) (k : ℕ) (p : Port) (lt : k < length ports) (at : p ≡ get_or ports k p) where
  front : data_from clock 0 (take (k + 1) ports) ≡ data_from clock 0 (take k ports) ++ cond (is_clock clock k) [] (p ∷ [])
  front =
      let next : k + 1 ≡ suc k = omega arith in
      let long = length-take-le k ports (omega arith) in
      let number : 0 + length (take k ports) ≡ k = omega (arith, long) in
      ap (data_from clock 0) (ap (λ n. take n ports) next ∙ (take-suc ports k p lt ∙ ap (λ q. take k ports ++ q ∷ []) (sym at)))
      ∙ (data_joined clock 0 (take k ports) (p ∷ []) ∙ ap (λ n. data_from clock 0 (take k ports) ++ data_from clock n (p ∷ [])) number)

  back : data_from clock k (drop k ports) ≡ cond (is_clock clock k) (data_from clock (k + 1) (drop (k + 1) ports)) (p ∷ data_from clock (k + 1) (drop (k + 1) ports))
  back =
      let next : suc k ≡ k + 1 = omega arith in
      ap (data_from clock k) (drop-cons ports k p lt ∙ ap₂ (λ q n. q ∷ drop n ports) (sym at) next)

  pub front_more : is_clock clock k ≡ false → data_from clock 0 (take (k + 1) ports) ≡ data_from clock 0 (take k ports) ++ p ∷ []
  front_more other = front ∙ ap (λ b. data_from clock 0 (take k ports) ++ cond b [] (p ∷ [])) other

  pub front_same : is_clock clock k ≡ true → data_from clock 0 (take (k + 1) ports) ≡ data_from clock 0 (take k ports)
  front_same here = front ∙ (ap (λ b. data_from clock 0 (take k ports) ++ cond b [] (p ∷ [])) here ∙ append-nil (data_from clock 0 (take k ports)))

  pub back_more : is_clock clock k ≡ false → data_from clock k (drop k ports) ≡ p ∷ data_from clock (k + 1) (drop (k + 1) ports)
  back_more other = back ∙ ap (λ b. cond b (data_from clock (k + 1) (drop (k + 1) ports)) (p ∷ data_from clock (k + 1) (drop (k + 1) ports))) other

  pub back_same : is_clock clock k ≡ true → data_from clock k (drop k ports) ≡ data_from clock (k + 1) (drop (k + 1) ports)
  back_same here = back ∙ ap (λ b. cond b (data_from clock (k + 1) (drop (k + 1) ports)) (p ∷ data_from clock (k + 1) (drop (k + 1) ports))) here

-- ---- outputs

abbrev pub outputs : List Port → List Port
outputs ports = filter (λ p. not (is_input p)) ports

-- where the clock's port is an input, no output is left out
pub same_outputs : (clock : Option ℕ) (a : ℕ) (ports : List Port) → ((j : ℕ) (p : Port) → slice_get ports j ≡ Some p → is_clock clock (a + j) ≡ true → is_input p ≡ true)
    → outputs (data_from clock a ports) ≡ outputs ports
same_outputs clock a [] inputs = refl
same_outputs clock a (p ∷ ps) inputs =
    let none : a + 0 ≡ a = omega arith in
    let on : (j : ℕ) → (a + 1) + j ≡ a + suc j = λ j. omega arith in
    let rest = same_outputs clock (a + 1) ps (λ j q found here. inputs (suc j) q found (sym (ap (is_clock clock) (on j)) ∙ here)) in
    elim (cases_Bool (is_clock clock a)) [
      | inl here ↦ (let is : is_input p ≡ true = inputs 0 p refl (ap (is_clock clock) none ∙ here) in rw here (rw is rest))
      | inr other ↦ rw other (ap (λ qs. cond (not (is_input p)) (p ∷ qs) qs) rest)
    ]

pub one_output : (done : List Port) (p : Port) → is_input p ≡ false → outputs (done ++ p ∷ []) ≡ outputs done ++ p ∷ []
one_output done p out = filter-append (λ q. not (is_input q)) done (p ∷ []) ∙ ap (λ b. outputs done ++ cond (not b) (p ∷ []) []) out

pub no_output : (done : List Port) (p : Port) → is_input p ≡ true → outputs (done ++ p ∷ []) ≡ outputs done
no_output done p is = filter-append (λ q. not (is_input q)) done (p ∷ []) ∙ (ap (λ b. outputs done ++ cond (not b) (p ∷ []) []) is ∙ append-nil (outputs done))
