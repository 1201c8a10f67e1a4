-- The wires that are no bits of ports, and the order in which a written module declares all wires.
use Rattle.std.proofs.Common.{◌≡◌, ◌≢◌, ◌≤◌, ◌<◌, ◌+◌, ◌==◌, ℕ, suc, Bool, true, false, cond, List, [], ◌∷◌, ◌++◌, length, map, filter, sum_by, get_or, Option, Some, None, is_none, slice_get, refl, sym, ap, subst, ◌∙◌, inl, inr, arith, eq-eqb}
use Rattle.std.specs.List.{AllByRecursion, flat_map, enumerate_from}
use Rattle.std.proofs.lemmas.Bool.{both_ways, cases_Bool, or_cases, or_left, or_right, or_parts, eqb-true}
use Rattle.std.proofs.lemmas.List.{length-map, length-append}
use Rattle.std.proofs.lemmas.List.Sums.{sum_by-cons}
use Rattle.std.proofs.lemmas.Option.{slice_get_within}
use Rattle.agm_net.specs.Plain.{PlainNet}
use Rattle.agm_net.specs.WellFormed.{WellFormed}
use Rattle.net_design.specs.declared.sites.Site.{Site}
use Rattle.net_design.specs.Sites.{sites_of, site_at}
use Rattle.net_design.specs.Design.{wire_item, own_item}
use Rattle.design_binds.proofs.Apart.{all_append, all_from}
use Rattle.design_binds.proofs.Order.{Once, has, IsOrder, once_append}
use Rattle.design_binds.proofs.Sited as sited

-- the wires that are no bits, with their names
abbrev pub is_own : List (Option Site) → ℕ × List ℕ → Bool
is_own sites w = is_none (site_at sites w.0)

abbrev pub owns : List (Option Site) → ℕ → List (List ℕ) → List (ℕ × List ℕ)
owns sites k names = filter (is_own sites) (enumerate_from k names)

-- their declarations
pub own_declarations : (sites : List (Option Site)) (xs : List (ℕ × List ℕ)) → flat_map (own_item sites) xs ≡ map wire_item (map (λ x. x.1) (filter (is_own sites) xs))
own_declarations sites [] = refl
own_declarations sites (x ∷ xs) =
    let rest = own_declarations sites xs in
    elim (is_own sites x) as (λ b. cond b (wire_item x.1 ∷ []) [] ++ flat_map (own_item sites) xs ≡ map wire_item (map (λ (y : ℕ × List ℕ). y.1) (cond b (x ∷ filter (is_own sites) xs) (filter (is_own sites) xs))))
    [ true ↦ ap (λ ds. wire_item x.1 ∷ ds) rest | false ↦ rest ]

-- what holds of all and passes stays
filter_keeps : {X : Type 0} (P : X → Type 0) (test : X → Bool) (xs : List X) → AllByRecursion P xs → AllByRecursion P (filter test xs)
filter_keeps P test [] h = tt
filter_keeps P test (x ∷ xs) h =
    let rest = filter_keeps P test xs h.1 in
    elim (test x) as (λ b. AllByRecursion P (cond b (x ∷ filter test xs) (filter test xs))) [ true ↦ (h.0, rest) | false ↦ rest ]

filter_passes : {X : Type 0} (test : X → Bool) (xs : List X) → AllByRecursion (λ x. test x ≡ true) (filter test xs)
filter_passes test [] = tt
filter_passes test (x ∷ xs) =
    let rest = filter_passes test xs in
    elim (cases_Bool (test x)) [
      | inl e ↦ subst (λ b. AllByRecursion (λ y. test y ≡ true) (cond b (x ∷ filter test xs) (filter test xs))) (sym e) (e, rest)
      | inr e ↦ subst (λ b. AllByRecursion (λ y. test y ≡ true) (cond b (x ∷ filter test xs) (filter test xs))) (sym e) rest
    ]

-- the numbers of a list with numbers, and what stands at each
numbers_from : (k : ℕ) (names : List (List ℕ)) → AllByRecursion (λ x. k ≤ x.0) (enumerate_from k names)
numbers_from k [] = tt
numbers_from k (n ∷ ns) = (omega arith, all_from (λ (x : ℕ × List ℕ). k + 1 ≤ x.0) (λ x. k ≤ x.0) (λ x le. omega arith) (enumerate_from (k + 1) ns) (numbers_from (k + 1) ns))

named_from : (whole : List (List ℕ)) (k : ℕ) (names : List (List ℕ)) → ((i : ℕ) (n : List ℕ) → slice_get names i ≡ Some n → slice_get whole (k + i) ≡ Some n)
    → AllByRecursion (λ x. slice_get whole x.0 ≡ Some x.1) (enumerate_from k names)
named_from whole k [] h = tt
named_from whole k (n ∷ ns) h = (
  subst (λ j. slice_get whole j ≡ Some n) (sited.plus_zero k) (h 0 n refl),
  named_from whole (k + 1) ns (λ i m e. let next : k + suc i ≡ (k + 1) + i = omega arith in subst (λ j. slice_get whole j ≡ Some m) next (h (suc i) m e)),
)

pub once_from : (sites : List (Option Site)) (k : ℕ) (names : List (List ℕ)) → Once (map (λ x. x.0) (owns sites k names))
once_from sites k [] = tt
once_from sites k (n ∷ ns) =
    let rest = once_from sites (k + 1) ns in
    let later = sited.mapped_all (λ w. w ≢ k) (λ (x : ℕ × List ℕ). x.0) (owns sites (k + 1) ns)
    (all_from (λ (x : ℕ × List ℕ). k + 1 ≤ x.0) (λ x. x.0 ≢ k) (λ x le e. omega arith) (owns sites (k + 1) ns) (filter_keeps (λ (x : ℕ × List ℕ). k + 1 ≤ x.0) (is_own sites) (enumerate_from (k + 1) ns) (numbers_from (k + 1) ns))) in
    elim (is_own sites (k, n)) as (λ b. Once (map (λ (x : ℕ × List ℕ). x.0) (cond b ((k, n) ∷ owns sites (k + 1) ns) (owns sites (k + 1) ns))))
    [ true ↦ (later, rest) | false ↦ rest ]

has_own : (sites : List (Option Site)) (k : ℕ) (names : List (List ℕ)) (w : ℕ) → k ≤ w → w < k + length names → is_none (site_at sites w) ≡ true → has (map (λ x. x.0) (owns sites k names)) w ≡ true
has_own sites k [] w le lt own = absurd (omega arith)
has_own sites k (n ∷ ns) w le lt own =
    elim (cases_Bool (k == w)) [
      | inl e ↦ let here : is_own sites (k, n) ≡ true = ap (λ v. is_none (site_at sites v)) (eqb-true k w e) ∙ own in
          subst (λ b. has (map (λ (x : ℕ × List ℕ). x.0) (cond b ((k, n) ∷ owns sites (k + 1) ns) (owns sites (k + 1) ns))) w ≡ true) (sym here) (or_left (k == w) (has (map (λ (x : ℕ × List ℕ). x.0) (owns sites (k + 1) ns)) w) e)
      | inr e ↦ let further : k ≢ w = (λ same. both_ways (k == w) e (eq-eqb k w same)) in
          let rest = has_own sites (k + 1) ns w (omega arith) (omega arith) own in
          elim (is_own sites (k, n)) as (λ b. has (map (λ (x : ℕ × List ℕ). x.0) (cond b ((k, n) ∷ owns sites (k + 1) ns) (owns sites (k + 1) ns))) w ≡ true)
          [ true ↦ or_right (k == w) (has (map (λ (x : ℕ × List ℕ). x.0) (owns sites (k + 1) ns)) w) rest | false ↦ rest ]
    ]

-- how many they are
one_more_own : (whole : List (Option Site)) (k : ℕ) (n : List ℕ) (ns : List (List ℕ)) (o : Option Site) → site_at whole k ≡ o → (m : ℕ) → length (owns whole (k + 1) ns) ≡ m → length (owns whole k (n ∷ ns)) ≡ sited.count_own o + m
one_more_own whole k n ns None e m rest =
    let all : length (owns whole k (n ∷ ns)) ≡ suc (length (owns whole (k + 1) ns)) = ap (λ p. length (cond (is_none p) ((k, n) ∷ owns whole (k + 1) ns) (owns whole (k + 1) ns))) e in
    let one : sited.count_own None ≡ 1 = refl in omega arith
one_more_own whole k n ns (Some s) e m rest =
    let all : length (owns whole k (n ∷ ns)) ≡ length (owns whole (k + 1) ns) = ap (λ p. length (cond (is_none p) ((k, n) ∷ owns whole (k + 1) ns) (owns whole (k + 1) ns))) e in
    let none : sited.count_own (Some s) ≡ 0 = refl in omega arith

owns_counted : (whole sites : List (Option Site)) (k : ℕ) (names : List (List ℕ)) → length names ≡ length sites → ((i : ℕ) → i < length sites → get_or whole (k + i) None ≡ get_or sites i None)
    → length (owns whole k names) ≡ sum_by sited.count_own sites
owns_counted whole [] k [] long same = refl
owns_counted whole (o ∷ os) k [] long same = absurd (omega arith)
owns_counted whole [] k (n ∷ ns) long same = absurd (omega arith)
owns_counted whole (o ∷ os) k (n ∷ ns) long same =
    let here : site_at whole k ≡ o = subst (λ j. get_or whole j None ≡ o) (sited.plus_zero k) (same 0 (omega arith)) in
    let rest : length (owns whole (k + 1) ns) ≡ sum_by sited.count_own os = owns_counted whole os (k + 1) ns (omega arith)
    (λ i lt. let next : k + suc i ≡ (k + 1) + i = omega arith in subst (λ j. get_or whole j None ≡ get_or os i None) next (same (suc i) (omega arith))) in
    let step : sum_by sited.count_own (o ∷ os) ≡ sited.count_own o + sum_by sited.count_own os = sum_by-cons sited.count_own o os in
    one_more_own whole k n ns o here (sum_by sited.count_own os) rest ∙ sym step

-- a number in either of two lists, and in none
has_front : (xs ys : List ℕ) (w : ℕ) → has xs w ≡ true → has (xs ++ ys) w ≡ true
has_front [] ys w h = absurd (both_ways false refl h)
has_front (x ∷ xs) ys w h = elim (or_cases (x == w) (has xs w) h) [ inl e ↦ or_left (x == w) (has (xs ++ ys) w) e | inr e ↦ or_right (x == w) (has (xs ++ ys) w) (has_front xs ys w e) ]

has_back : (xs ys : List ℕ) (w : ℕ) → has ys w ≡ true → has (xs ++ ys) w ≡ true
has_back [] ys w h = h
has_back (x ∷ xs) ys w h = or_right (x == w) (has (xs ++ ys) w) (has_back xs ys w h)

not_has : (xs : List ℕ) (w : ℕ) → has xs w ≡ false → AllByRecursion (λ b. b ≢ w) xs
not_has [] w h = tt
not_has (x ∷ xs) w h = let p = or_parts (x == w) (has xs w) h in ((λ e. both_ways (x == w) p.0 (eq-eqb x w e)), not_has xs w p.1)

-- the order of a net's wires: the bits of its ports, then the others
module _ (net : PlainNet) (formed : WellFormed net) where
  abbrev pub own_pairs : List (ℕ × List ℕ)
  own_pairs = owns (sites_of net) 0 net.wires

  abbrev pub own : List ℕ
  own = map (λ x. x.0) own_pairs

  abbrev pub own_names : List (List ℕ)
  own_names = map (λ x. x.1) own_pairs

  abbrev pub order : List ℕ
  order = sited.port_wires net formed ++ own

  pub own_named : AllByRecursion (λ x. slice_get net.wires x.0 ≡ Some x.1) own_pairs
  own_named =
      filter_keeps (λ (x : ℕ × List ℕ). slice_get net.wires x.0 ≡ Some x.1) (is_own (sites_of net)) (enumerate_from 0 net.wires)
      (named_from net.wires 0 net.wires (λ i n e. let zero_first : i ≡ 0 + i = omega arith in subst (λ j. slice_get net.wires j ≡ Some n) zero_first e))

  pub own_told : AllByRecursion (λ x. is_none (site_at (sites_of net) x.0) ≡ true) own_pairs
  own_told = filter_passes (is_own (sites_of net)) (enumerate_from 0 net.wires)

  pub order_long : length order ≡ length net.wires
  order_long =
      let joined = length-append (sited.port_wires net formed) own in
      let many : length own ≡ length own_pairs = length-map own_pairs (λ (x : ℕ × List ℕ). x.0) in
      let counted = owns_counted (sites_of net) (sites_of net) 0 net.wires (sym (sited.sites_long net formed)) (λ i lt. let zero_first : 0 + i ≡ i = omega arith in ap (λ j. get_or (sites_of net) j None) zero_first) in
      let rest = sited.rest_counted net formed in omega arith

  apart : AllByRecursion (λ b. AllByRecursion (λ w. w ≢ b) own) (sited.port_wires net formed)
  apart =
      all_from (λ b. is_none (site_at (sites_of net) b) ≡ false) (λ b. AllByRecursion (λ w. w ≢ b) own)
      (λ b told. sited.mapped_all (λ w. w ≢ b) (λ (x : ℕ × List ℕ). x.0) own_pairs
      (all_from (λ (x : ℕ × List ℕ). is_none (site_at (sites_of net) x.0) ≡ true) (λ x. x.0 ≢ b)
      (λ x mine e. both_ways (is_none (site_at (sites_of net) b)) told (ap (λ w. is_none (site_at (sites_of net) w)) (sym e) ∙ mine)) own_pairs own_told))
      (sited.port_wires net formed) (sited.bits_told net formed)

  pub order_below : AllByRecursion (λ w. w < length net.wires) order
  order_below =
      all_append (λ w. w < length net.wires) (sited.port_wires net formed) own (sited.ports_below net formed)
      (sited.mapped_all (λ w. w < length net.wires) (λ (x : ℕ × List ℕ). x.0) own_pairs
      (all_from (λ (x : ℕ × List ℕ). slice_get net.wires x.0 ≡ Some x.1) (λ x. x.0 < length net.wires) (λ x e. slice_get_within net.wires x.0 x.1 e) own_pairs own_named))

  -- a wire is a bit of a port, or one of the others
  has_either : (w : ℕ) → w < length net.wires → has order w ≡ true
  has_either w lt =
      elim (cases_Bool (has (sited.port_wires net formed) w)) [
        | inl e ↦ has_front (sited.port_wires net formed) own w e
        | inr e ↦ let none = sited.others_told net formed w (not_has (sited.port_wires net formed) w e) in
            has_back (sited.port_wires net formed) own w (has_own (sites_of net) 0 net.wires w (omega arith) (omega arith) (ap is_none none))
      ]

  pub is_order : IsOrder order
  is_order = record {
    once = once_append (sited.port_wires net formed) own (sited.ports_once net formed) (once_from (sites_of net) 0 net.wires) apart;
    below = all_from (λ w. w < length net.wires) (λ w. w < length order) (λ w lt. let long = order_long in omega arith) order order_below;
    all_there = (λ w lt. has_either w (let long = order_long in omega arith));
  }
