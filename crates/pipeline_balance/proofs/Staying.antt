-- Output ports leave what the input ports hold.
use Rattle.std.proofs.Common.{◌≡◌, ◌≢◌, ◌<◌, ◌≤◌, ◌+◌, ℕ, zero, suc, Bool, true, false, not, cond, List, [], ◌∷◌, Some, map, filter, reverse, flat_map, slice_get, IsTrue, nat_eq, codes, refl, sym, ap, ap₂, ◌∙◌, arith, inl, inr}
use Rattle.std.specs.List.{AllByRecursion, starts_with}
use Rattle.std.proofs.lemmas.Bool.{cases_lt, cases_eq}
use Rattle.std.proofs.lemmas.List.{length-map}
use Rattle.std.proofs.lemmas.Option.{slice_get_within}
use Rattle.agm_net.specs.Plain.{PlainNet, is_input, data_ports}
use Rattle.agm_net.specs.Role.{share_name, state_name}
use Rattle.agm_net.specs.declared.port.Port.{Port}
use Rattle.agm_net.proofs.Lists.{all_joined, all_of_one, get_image}
use Rattle.share_wiring.specs.Recombine.{port_value, masked_value, recombined_rows, xor_rows, is_shared}
use Rattle.share_wiring.specs.Schedule.{input_values}
use Rattle.share_wiring.specs.Shape.{Header, header_of, masked_headers, indices}
use Rattle.share_wiring.specs.Built.{IsNew}
use Rattle.share_wiring.specs.declared.report.Report.{Report}
use Rattle.share_wiring.proofs.Driven.{filtered}
use Rattle.share_wiring.proofs.Lists.{all_in_range}
use Rattle.share_wiring.proofs.Names.{names_apart}
use Rattle.pipeline_balance.specs.Apart.{HasNames}
use Rattle.pipeline_balance.specs.LedOut.{output_names}
use Rattle.pipeline_balance.specs.Masked.{merged, initial_values}
use Rattle.pipeline_balance.proofs.Flags.{data_get}

-- rows that are the same up to an order recombine to the same
rows_same : (d : ℕ) (f g : ℕ → List Bool) → ((i : ℕ) → i ≤ d → f i ≡ g i) → recombined_rows d f ≡ recombined_rows d g
rows_same zero f g same = same 0 (omega arith)
rows_same (suc d) f g same = ap₂ xor_rows (rows_same d f g (λ i le. same i (omega (arith, le)))) (same (suc d) (omega arith))

-- ---- the names of output ports

all_mapped : {X Y : Type 0} (P : Y → Type 0) (f : X → Y) (xs : List X) → AllByRecursion (λ x. P (f x)) xs → AllByRecursion P (map f xs)
all_mapped P f [] h = tt
all_mapped P f (x ∷ xs) h = (h.0, all_mapped P f xs h.1)

module _ (report : Report) (P : List ℕ → Type 0) where
  header_names : (p : Port) → P p.name → ((i : ℕ) → i ≤ report.order → P (share_name i p.name)) → AllByRecursion (λ h. P h.name) (masked_headers report p)
  header_names p own share = by (is_shared report p.name)
    where
      by : (b : Bool) → AllByRecursion (λ (h : Header). P h.name) (cond b (map (λ i. record { name = share_name i p.name; way = p.way; range = p.range }) (indices report.order)) (header_of p ∷ []))
      by true = all_in_range (λ (h : Header). P h.name) (λ i. record { name = share_name i p.name; way = p.way; range = p.range }) 0 (report.order + 1) (λ i lt. share i (omega (arith, lt)))
      by false = (own, tt)

  names_all : (ports : List Port) → ((n : ℕ) (p : Port) → slice_get ports n ≡ Some p → IsTrue (not (is_input p)) → P p.name × ((i : ℕ) → i ≤ report.order → P (share_name i p.name)))
      → AllByRecursion (λ h. P h.name) (flat_map (masked_headers report) (filter (λ p. not (is_input p)) ports))
  names_all [] each = tt
  names_all (p ∷ ps) each = by (not (is_input p)) refl (names_all ps (λ n. each (suc n)))
    where
      by : (b : Bool) → not (is_input p) ≡ b → AllByRecursion (λ (h : Header). P h.name) (flat_map (masked_headers report) (filter (λ q. not (is_input q)) ps))
          → AllByRecursion (λ (h : Header). P h.name) (flat_map (masked_headers report) (cond b (p ∷ filter (λ q. not (is_input q)) ps) (filter (λ q. not (is_input q)) ps)))
      by true e rest = (let here = each 0 p refl e in
          all_joined (λ (h : Header). P h.name) (masked_headers report p) (flat_map (masked_headers report) (filter (λ q. not (is_input q)) ps)) (header_names p here.0 here.1) rest)
      by false e rest = rest

  pub outputs_all : (original : PlainNet) → ((n : ℕ) (p : Port) → slice_get original.ports n ≡ Some p → IsTrue (not (is_input p)) → P p.name × ((i : ℕ) → i ≤ report.order → P (share_name i p.name)))
      → AllByRecursion P (output_names original report)
  outputs_all original each = all_mapped P (λ (h : Header). h.name) (flat_map (masked_headers report) (filter (λ p. not (is_input p)) original.ports)) (names_all original.ports each)

-- names that begin otherwise
begins_otherwise : (name other : List ℕ) → starts_with nat_eq name (codes "agm_") ≡ false → starts_with nat_eq other (codes "agm_") ≡ true → name ≢ other
begins_otherwise name other free reserved same = (let no : false ≡ true = sym free ∙ (ap (λ x. starts_with nat_eq x (codes "agm_")) same ∙ reserved) in absurd (cc))

fifth_differs : (i : ℕ) (x name : List ℕ) (c : ℕ) → slice_get name 4 ≡ Some c → c ≢ 115 → share_name i x ≢ name
fifth_differs i x name c at other same =
    let fifth : Some 115 ≡ Some c = ap (λ y. slice_get y 4) same ∙ at in
    other (let is : 115 ≡ c = cc in sym is)

module _ (original : PlainNet) (report : Report) (names : HasNames original) where
  free_of : (n : ℕ) (p : Port) → slice_get original.ports n ≡ Some p → starts_with nat_eq p.name (codes "agm_") ≡ false
  free_of n p at = all_of_one (λ (q : Port). starts_with nat_eq q.name (codes "agm_") ≡ false) original.ports n p names.free at

  -- a name `agm_`, and then no `s`
  pub reserved_new : (name : List ℕ) (c : ℕ) → starts_with nat_eq name (codes "agm_") ≡ true → slice_get name 4 ≡ Some c → c ≢ 115 → IsNew (output_names original report) name
  reserved_new name c reserved at other =
      outputs_all report (λ old. old ≢ name) original
      (λ n p there out. (begins_otherwise p.name name (free_of n p there) reserved, λ i le. fifth_differs i p.name name c at other))

  -- ports of different ways have different names
  ways_apart : (n k : ℕ) (p q : Port) → slice_get original.ports n ≡ Some p → slice_get original.ports k ≡ Some q → IsTrue (is_input p) → IsTrue (not (is_input q)) → q.name ≢ p.name
  ways_apart n k p q at there input output same =
      let well = names.well in
      let right = well.ports_right in
      let differ = right.ports_differ in
      let ln = slice_get_within original.ports n p at in
      let lk = slice_get_within original.ports k q there in
      let len = length-map original.ports (λ (r : Port). r.name) in
      let pn = get_image (λ (r : Port). r.name) original.ports n p at in
      let qn = get_image (λ (r : Port). r.name) original.ports k q there in
      elim (cases_eq n k) [
        | inl one ↦ (
            let e : Some p ≡ Some q = sym at ∙ (ap (slice_get original.ports) one ∙ there) in
            let is : p ≡ q = cc in
            let no : false ≡ true = sym (ap not input) ∙ (ap (λ (r : Port). not (is_input r)) is ∙ output) in
            absurd (cc))
        | inr two ↦ elim (cases_lt n k) [
          | inl lt ↦ differ n k lt (omega (arith, lk, len)) (pn ∙ (ap Some (sym same) ∙ sym qn))
          | inr ge ↦ differ k n (below n k two ge) (omega (arith, ln, len)) (qn ∙ (ap Some same ∙ sym pn))
        ]
      ]
    where
      below : (n k : ℕ) → n ≢ k → k ≤ n → k < n
      below n k two ge = elim (cases_lt k n) [ inl lt ↦ lt | inr le ↦ absurd (two (omega (arith, ge, le))) ]

  module _ (small : report.order < 16) (n : ℕ) (p : Port) (at : slice_get original.ports n ≡ Some p) (input : IsTrue (is_input p)) where
    -- an input's name and those of its shares are no output's
    pub own_new : IsNew (output_names original report) p.name
    own_new =
        outputs_all report (λ old. old ≢ p.name) original
        (λ k q there out. (ways_apart n k p q at there input out, λ i le same. begins_otherwise p.name (share_name i q.name) (free_of n p at) refl (sym same)))

    pub share_new : (i : ℕ) → i ≤ report.order → IsNew (output_names original report) (share_name i p.name)
    share_new i le =
        outputs_all report (λ old. old ≢ share_name i p.name) original
        (λ k q there out. (
          begins_otherwise q.name (share_name i p.name) (free_of k q there) refl,
          λ j lj same. ways_apart n k p q at there input out (names_apart j i q.name p.name (omega (arith, lj, small)) (omega (arith, le, small)) same).1,
        ))

-- ---- values

module _ (original : PlainNet) (report : Report) (names : HasNames original) (small : report.order < 16) (old new : PlainNet)
    (keeps : (name : List ℕ) → IsNew (output_names original report) name → (bit : ℕ → Bool) → port_value new name bit ≡ port_value old name bit) (bit : ℕ → Bool) where
  input_stays : (n : ℕ) (p : Port) → slice_get original.ports n ≡ Some p → IsTrue (is_input p) → masked_value new report p.name bit ≡ masked_value old report p.name bit
  input_stays n p at input =
      ap₂ (cond (is_shared report p.name))
      (rows_same report.order (λ i. port_value new (share_name i p.name) bit) (λ i. port_value old (share_name i p.name) bit) (λ i le. keeps (share_name i p.name) (share_new original report names small n p at input i le) bit))
      (keeps p.name (own_new original report names small n p at input) bit)

  pub inputs_stay : input_values original report new bit ≡ input_values original report old bit
  inputs_stay =
      filtered (λ (p : Port). masked_value new report p.name bit) (λ p. masked_value old report p.name bit) is_input (data_ports original)
      (λ n p at input. (let there = data_get original.clock original.ports n p at in input_stays there.0 p there.1 input))

  pub initial_stay : (secrets : List Bool) → initial_values secrets report new bit ≡ initial_values secrets report old bit
  initial_stay secrets =
      ap₂ (λ ps ss. merged secrets (reverse ps) (reverse ss))
      (keeps (codes "agm_q_p") (reserved_new original report names (codes "agm_q_p") 113 refl refl (λ e. absurd (omega (arith, e)))) bit)
      (rows_same report.order (λ i. port_value new (state_name i) bit) (λ i. port_value old (state_name i) bit)
      (λ i le. keeps (state_name i) (reserved_new original report names (state_name i) 113 refl refl (λ e. absurd (omega (arith, e)))) bit))

  pub load_stays : port_value new (codes "agm_load") bit ≡ port_value old (codes "agm_load") bit
  load_stays = keeps (codes "agm_load") (reserved_new original report names (codes "agm_load") 108 refl refl (λ e. absurd (omega (arith, e)))) bit
