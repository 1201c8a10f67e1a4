-- The input ports for those of the original.
use Rattle.std.proofs.Common.{◌≡◌, ◌<◌, ◌≤◌, ◌+◌, ◌-◌, ◌==◌, ◌++◌, ℕ, zero, suc, Bool, true, false, cond, List, [], ◌∷◌, Option, None, Some, length, map, take, drop, filter, replicate, get_or, slice_get, codes, IsTrue, refl, sym, ap, ap₂, subst, inl, inr, ◌∙◌, arith, flat_map, append_assoc, append-nil, ne_eqb, eq-eqb}
use Rattle.std.specs.List.{range_with_len, starts_with}
use Rattle.std.specs.Fmt.{decimal}
use Rattle.std.specs.Prelude.{nat_eq}
use Rattle.std.proofs.lemmas.Bool.{cases_Bool, cases_eq, cond-true, cond-false}
use Rattle.std.proofs.lemmas.List.{map-append, take-append-drop, take_more}
use Rattle.std.proofs.lemmas.List.Elements.{filter-append}
use Rattle.std.proofs.lemmas.Option.{get_or_from_slice_get}
use Rattle.std.proofs.lemmas.Grind.{flat_map-append}
use Rattle.agm_net.specs.Label.{IsUserName}
use Rattle.agm_net.specs.Plain.{PlainNet, bit_names, select_name, is_in, is_input, ports_but}
use Rattle.agm_net.specs.Role.{share_name, IsOfShare}
use Rattle.agm_net.specs.Trace.{Row}
use Rattle.agm_net.specs.declared.port.Port.{Port}
use Rattle.agm_net.specs.declared.port.Range.{Range}
use Rattle.agm_net.specs.declared.port.Way.{Way}
use Rattle.agm_net.specs.declared.port.Way.TheVariants.{Input, Output}
use Rattle.agm_net.specs.Writable.{IsWritable}
use Rattle.agm_net.proofs.Lists.{all_of_one, get_image}
use Rattle.share_wiring.specs.Own.{upto}
use Rattle.share_wiring.specs.Recombine.{port_value, masked_value, recombined_rows, is_shared}
use Rattle.share_wiring.specs.Shape.{Header, header_of, masked_headers, indices}
use Rattle.share_wiring.specs.Wiring.{Wiring}
use Rattle.share_wiring.specs.declared.report.Report.{Report}
use Rattle.share_wiring.proofs.OwnWires.{get-upto, length-upto}
use Rattle.share_wiring.proofs.PortBits.{range_more}
use Rattle.share_wiring.proofs.ShapePorts.{same_width, bit_count}
use Rattle.pipeline_balance.specs.declared.values.Value.{Value}
use Rattle.pipeline_balance.specs.Apart.{HasNames}
use Rattle.pipeline_balance.specs.Ports.{input_header, row_of}
use Rattle.pipeline_balance.specs.Entering.{FitInOrder, Enters, HasPublicBits, named_headers, shared_row, is_clock_number, if_data, headers_for, kinds_for, values_for}
use Rattle.pipeline_balance.proofs.Families.{free_select}
use Rattle.pipeline_balance.proofs.Porting.{upto_same}
use Rattle.pipeline_balance.proofs.Standing.{user_name}
use Rattle.pipeline_balance.proofs.EnteringPorts.{rows_agree}
use Rattle.pipeline_balance.proofs.EnteringSteps.{fit_parts, enters_more, enters_as, entered_all}

-- ---- the ports of shares

-- a row by its numbers
pub by_range : {X : Type 0} (n : ℕ) (f : ℕ → X) → map f (range_with_len 0 n) ≡ upto n f
by_range zero f = refl
by_range (suc n) f =
    let next : suc n ≡ n + 1 = omega arith in
    let none : 0 + n ≡ n = omega arith in
    ap (λ k. map f (range_with_len 0 k)) next
    ∙ (ap (map f) (range_more 0 n)
    ∙ (map-append f (range_with_len 0 n) ((0 + n) ∷ [])
    ∙ ap₂ (λ xs k. xs ++ f k ∷ []) (by_range n f) none))

pub row_upto : (n i : ℕ) (f : ℕ → List ℕ) → i < n → row_of (upto n f) i ≡ f i
row_upto n i f lt = get-upto n i f [] lt

pub headers_upto : (n : ℕ) (range : Option Range) (f : ℕ → List ℕ) → named_headers range (upto n f) ≡ upto n (λ i. input_header range (f i))
headers_upto n range f =
    ap (λ k. upto k (λ i. input_header range (row_of (upto n f) i))) (length-upto n f)
    ∙ upto_same n (λ i. input_header range (row_of (upto n f) i)) (λ i. input_header range (f i)) (λ i lt. ap (input_header range) (row_upto n i f lt))

way_is : (way : Way) → IsTrue (is_in way) → way ≡ Input
way_is Input h = refl
way_is Output h = absurd (let no : false ≡ true = h in cc)

pub of_share : (name : List ℕ) (n : ℕ) → 0 < length name → n ≤ 16 → (i : ℕ) → i < n → IsOfShare i (row_of (upto n (λ k. share_name k name)) i)
of_share name n some small i lt = subst (IsOfShare i) (sym (row_upto n i (λ k. share_name k name) lt)) (omega (arith, lt, small), inl (name, some, refl))

-- ---- one input of the original

module _ (report : Report) (p : Port) (n : ℕ) (order : report.order + 1 ≡ n) (input : IsTrue (is_input p)) where
  abbrev share_header : ℕ → Header
  share_header i = record { name = share_name i p.name; way = p.way; range = p.range }

  abbrev names : List (List ℕ)
  names = upto n (λ i. share_name i p.name)

  pub shared_headers : is_shared report p.name ≡ true → headers_for report (p ∷ []) ≡ named_headers p.range names
  shared_headers shared =
      append-nil (masked_headers report p)
      ∙ (cond-true (is_shared report p.name) (map share_header (indices report.order)) (header_of p ∷ []) shared
      ∙ (ap (λ k. map share_header (range_with_len 0 k)) order
      ∙ (by_range n share_header
      ∙ (upto_same n share_header (λ i. input_header p.range (share_name i p.name))
      (λ i lt. ap (λ w. record { name = share_name i p.name; way = w; range = p.range }) (way_is p.way input))
      ∙ sym (headers_upto n p.range (λ i. share_name i p.name))))))

  pub own_headers : is_shared report p.name ≡ false → headers_for report (p ∷ []) ≡ input_header p.range p.name ∷ []
  own_headers public =
      append-nil (masked_headers report p)
      ∙ (cond-false (is_shared report p.name) (map share_header (indices report.order)) (header_of p ∷ []) public
      ∙ ap (λ w. record { name = p.name; way = w; range = p.range } ∷ []) (way_is p.way input))

  pub kinds_are : (kind : Bool) (k : ℕ) → is_shared report p.name ≡ kind → k ≡ length p.bits → replicate k kind ≡ kinds_for report (p ∷ [])
  kinds_are kind k is long = ap₂ (λ j b. replicate j b) long (sym is) ∙ sym (append-nil (replicate (length p.bits) (is_shared report p.name)))

  pub shared_values : is_shared report p.name ≡ true → (net : PlainNet) (bit : ℕ → Bool) → values_for report (p ∷ []) net bit ≡ shared_row n names net bit
  shared_values shared net bit =
      let one : report.order ≡ n - 1 = omega (arith, order) in
      append-nil (masked_value net report p.name bit)
      ∙ (cond-true (is_shared report p.name) (recombined_rows report.order (λ i. port_value net (share_name i p.name) bit)) (port_value net p.name bit) shared
      ∙ (ap (λ d. recombined_rows d (λ i. port_value net (share_name i p.name) bit)) one
      ∙ rows_agree (n - 1) (λ i. port_value net (share_name i p.name) bit) (λ i. port_value net (row_of names i) bit)
      (λ i le. ap (λ x. port_value net x bit) (sym (row_upto n i (λ k. share_name k p.name) (omega (arith, le, order)))))))

  pub own_values : is_shared report p.name ≡ false → (net : PlainNet) (bit : ℕ → Bool) → values_for report (p ∷ []) net bit ≡ port_value net p.name bit
  own_values public net bit =
      append-nil (masked_value net report p.name bit)
      ∙ cond-false (is_shared report p.name) (recombined_rows report.order (λ i. port_value net (share_name i p.name) bit)) (port_value net p.name bit) public

-- ---- names of the original

-- the bits of a port of the original are public
pub free_public : (name : List ℕ) → starts_with nat_eq name (codes "agm_") ≡ false → HasPublicBits name
free_public name free bit (inl own) = inr (subst IsUserName (sym own) (user_name name free))
free_public name free bit (inr (k, small, own)) = inr (subst IsUserName (sym own) (user_name (select_name name k) (free_select name (decimal k ++ 93 ∷ []) free)))

-- ---- the ports without the clock's, one by one

take_none : (c : ℕ) → take {A = Port} c [] ≡ []
take_none zero = refl
take_none (suc c) = refl

drop_none : (c : ℕ) → drop {A = Port} c [] ≡ []
drop_none zero = refl
drop_none (suc c) = refl

same_behind : (c k : ℕ) → (c == k) ≡ (suc c == suc k)
same_behind c k =
    elim (cases_eq c k) [
      | inl same ↦ eq-eqb c k same ∙ sym (eq-eqb (suc c) (suc k) (ap suc same))
      | inr other ↦ ne_eqb c k other ∙ sym (ne_eqb (suc c) (suc k) (λ e. other (omega (arith, e))))
    ]

-- a port more
abbrev if_no_clock : Option ℕ → ℕ → Port → List Port
if_no_clock clock k p = cond (is_clock_number clock k) [] (p ∷ [])

but_one : (c : ℕ) (xs : List Port) (p : Port) → take c (xs ++ p ∷ []) ++ drop (c + 1) (xs ++ p ∷ []) ≡ (take c xs ++ drop (c + 1) xs) ++ if_no_clock (Some c) (length xs) p
but_one zero [] p = refl
but_one (suc c) [] p =
    let next : suc c + 1 ≡ suc (c + 1) = omega arith in
    let left : take (suc c) (p ∷ []) ++ drop (suc c + 1) (p ∷ []) ≡ p ∷ [] =
    ap (λ k. take (suc c) (p ∷ []) ++ drop k (p ∷ [])) next ∙ ap₂ (λ xs ys. (p ∷ xs) ++ ys) (take_none c) (drop_none (c + 1)) in
    let right : take {A = Port} (suc c) [] ++ drop (suc c + 1) [] ≡ [] = drop_none (suc c + 1) in
    left ∙ (ap (λ b. cond b [] (p ∷ [])) (sym (ne_eqb (suc c) 0 (λ e. omega (arith, e)))) ∙ ap (λ xs. xs ++ if_no_clock (Some (suc c)) 0 p) (sym right))
but_one zero (x ∷ xs) p = ap (λ b. xs ++ cond b [] (p ∷ [])) (sym (ne_eqb 0 (suc (length xs)) (λ e. omega (arith, e))))
but_one (suc c) (x ∷ xs) p =
    let next : suc c + 1 ≡ suc (c + 1) = omega arith in
    ap (λ k. take (suc c) (x ∷ (xs ++ p ∷ [])) ++ drop k (x ∷ (xs ++ p ∷ []))) next
    ∙ (ap (λ ys. x ∷ ys) (but_one c xs p)
    ∙ ap₂ (λ k b. (take (suc c) (x ∷ xs) ++ drop k (x ∷ xs)) ++ cond b [] (p ∷ [])) (sym next) (same_behind c (length xs)))

but_more : (clock : Option ℕ) (xs : List Port) (p : Port) → ports_but clock (xs ++ p ∷ []) ≡ ports_but clock xs ++ if_no_clock clock (length xs) p
but_more None xs p = refl
but_more (Some c) xs p = but_one c xs p

-- the inputs among some of the first ports
abbrev pub data_inputs : Option ℕ → List Port → List Port
data_inputs clock xs = filter is_input (ports_but clock xs)

kept : (clock : Option ℕ) (k : ℕ) (p : Port) → filter is_input (if_no_clock clock k p) ≡ if_data clock k p
kept clock k p =
    elim (cases_Bool (is_clock_number clock k)) [
      | inl here ↦ (elim (cases_Bool (is_input p)) [ inl inside ↦ rw here (rw inside refl) | inr out ↦ rw here (rw out refl) ])
      | inr other ↦ (elim (cases_Bool (is_input p)) [ inl inside ↦ rw other (rw inside refl) | inr out ↦ rw other (rw out refl) ])
    ]

pub inputs_more : (clock : Option ℕ) (xs : List Port) (p : Port) → data_inputs clock (xs ++ p ∷ []) ≡ data_inputs clock xs ++ if_data clock (length xs) p
inputs_more clock xs p =
    ap (filter is_input) (but_more clock xs p)
    ∙ (filter-append is_input (ports_but clock xs) (if_no_clock clock (length xs) p)
    ∙ ap (λ ys. data_inputs clock xs ++ ys) (kept clock (length xs) p))

-- those of the first ports come first
pub inputs_first : (clock : Option ℕ) (xs ys : List Port) → (rest : List Port) × (data_inputs clock (xs ++ ys) ≡ data_inputs clock xs ++ rest)
inputs_first clock xs [] = ([], ap (data_inputs clock) (append-nil xs) ∙ sym (append-nil (data_inputs clock xs)))
inputs_first clock xs (y ∷ ys) =
    let later = inputs_first clock (xs ++ y ∷ []) ys in (
      if_data clock (length xs) y ++ later.0,
      ap (data_inputs clock) (sym (append_assoc xs (y ∷ []) ys))
          ∙ (later.1
          ∙ (ap (λ zs. zs ++ later.0) (inputs_more clock xs y)
          ∙ append_assoc (data_inputs clock xs) (if_data clock (length xs) y) later.0)),
    )

-- ---- the loop over the ports

-- the ports up to a place, and all
pub ports_front : (ports : List Port) (k : ℕ) (p : Port) → k < length ports → p ≡ get_or ports k p → take (k + 1) ports ≡ take k ports ++ p ∷ []
ports_front ports k p lt at = take_more ports k p lt ∙ ap (λ q. take k ports ++ q ∷ []) (sym at)

pub ports_all : (ports : List Port) (k : ℕ) (p : Port) → k < length ports → p ≡ get_or ports k p → ports ≡ (take k ports ++ p ∷ []) ++ drop (k + 1) ports
ports_all ports k p lt at = sym (take-append-drop (k + 1) ports) ∙ ap (λ xs. xs ++ drop (k + 1) ports) (ports_front ports k p lt at)

module _ (report : Report) (clock : Option ℕ) (xs : List Port) (p : Port) where
  abbrev next : List Port
  next = if_data clock (length xs) p

  split : {X : Type 0} (f : Port → List X) → flat_map f (data_inputs clock xs) ++ flat_map f next ≡ flat_map f (data_inputs clock (xs ++ p ∷ []))
  split f = sym (flat_map-append f (data_inputs clock xs) next) ∙ ap (flat_map f) (sym (inputs_more clock xs p))

  pub next_fits : (n : ℕ) (old now : Wiring) (ks : List Bool) (row : PlainNet → (ℕ → Bool) → Row) (vs : List (Value n)) (ys : List Port)
      → FitInOrder (map header_of old.ports) (headers_for report (data_inputs clock ((xs ++ p ∷ []) ++ ys)))
      → Enters n old now (headers_for report (data_inputs clock xs)) ks row vs → FitInOrder (map header_of now.ports) (headers_for report next)
  next_fits n old now ks row vs ys fit before =
      let first = inputs_first clock (xs ++ p ∷ []) ys in
      let here = headers_for report (data_inputs clock xs) in
      let all : headers_for report (data_inputs clock ((xs ++ p ∷ []) ++ ys)) ≡ (here ++ headers_for report next) ++ headers_for report first.0 =
      ap (headers_for report) first.1
      ∙ (flat_map-append (masked_headers report) (data_inputs clock (xs ++ p ∷ [])) first.0
      ∙ ap (λ hs. hs ++ headers_for report first.0) (sym (split (masked_headers report)))) in
      let both = fit_parts (map header_of old.ports) (here ++ headers_for report next) (headers_for report first.0) (subst (FitInOrder (map header_of old.ports)) all fit) in
      let parts = fit_parts (map header_of old.ports) here (headers_for report next) both.0 in
      subst (λ hs. FitInOrder hs (headers_for report next)) (sym (entered_all n old now here ks row vs before)) parts.1

  pub next_enters : (n : ℕ) (old now new : Wiring) (vs ws : List (Value n))
      → Enters n old now (headers_for report (data_inputs clock xs)) (kinds_for report (data_inputs clock xs)) (values_for report (data_inputs clock xs)) vs
      → Enters n now new (headers_for report next) (kinds_for report next) (values_for report next) ws
      → Enters n old new (headers_for report (data_inputs clock (xs ++ p ∷ []))) (kinds_for report (data_inputs clock (xs ++ p ∷ []))) (values_for report (data_inputs clock (xs ++ p ∷ []))) (vs ++ ws)
  next_enters n old now new vs ws before step =
      enters_as n old new _ _ _ _ (λ net bit. values_for report (data_inputs clock xs) net bit ++ values_for report next net bit) (values_for report (data_inputs clock (xs ++ p ∷ []))) (vs ++ ws) (vs ++ ws)
      (split (masked_headers report)) (split (λ q. replicate (length q.bits) (is_shared report q.name))) (λ net bit. sym (split (λ q. masked_value net report q.name bit))) refl
      (enters_more n old now new _ _ _ _ (values_for report (data_inputs clock xs)) (values_for report next) vs ws before step)

-- what is known of a port of the original
pub record PortFacts (original : PlainNet) (p : Port) : Type 0 where
  pub bits : length p.bits ≡ length (bit_names p.name p.range)
  pub free : starts_with nat_eq p.name (codes "agm_") ≡ false
  pub some : 0 < length p.name

pub port_facts : (original : PlainNet) → HasNames original → (k : ℕ) (p : Port) → slice_get original.ports k ≡ Some p → PortFacts original p
port_facts original names k p at = record {
  bits = bit_count original names.well k p at ∙ sym (same_width p.name p.range);
  free = all_of_one (λ q. starts_with nat_eq q.name (codes "agm_") ≡ false) original.ports k p names.free at;
  some = (all_of_one (λ q. IsWritable q.name) original.ports k p names.written at).0;
}

-- the flag of a port
pub flag_is : (f : Port → Bool) (ports : List Port) (flags : List Bool) (k : ℕ) (p : Port) → flags ≡ map f ports → slice_get ports k ≡ Some p → get_or flags k false ≡ f p
flag_is f ports flags k p are at = get_or_from_slice_get flags k (f p) false (ap (λ fs. slice_get fs k) are ∙ get_image f ports k p at)

-- no port has no input
pub none_first : (clock : Option ℕ) → data_inputs clock [] ≡ []
none_first None = refl
none_first (Some c) = ap₂ (λ (xs ys : List Port). filter is_input (xs ++ ys)) (take_none c) (drop_none (c + 1))
