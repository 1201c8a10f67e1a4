-- The table of the wires that are bits of ports.
use Rattle.std.proofs.Common.{◌≡◌, ◌≢◌, ◌≤◌, ◌<◌, ◌+◌, ◌-◌, ◌==◌, ℕ, zero, suc, false, cond, List, [], ◌∷◌, ◌++◌, length, map, fold, replicate, count_by, sum_by, get_or, Option, Some, None, is_none, slice_get, slice_index_or, refl, sym, ap, ap₂, subst, ◌∙◌, inl, inr, arith, eq-eqb}
use Rattle.std.specs.Prelude.{nat_le}
use Rattle.std.specs.Int.{abs_diff}
use Rattle.std.specs.List.{AllByRecursion, flat_map, enumerate_from, range_with_len}
use Rattle.std.proofs.lemmas.Bool.{both_ways, cases_Bool, leb-true, leb-false}
use Rattle.std.proofs.lemmas.List.{length-map, map-append, length-set, length-replicate, get_or-set_same, get_or-set_other}
use Rattle.std.proofs.lemmas.List.Sums.{sum_by-cons, sum_by-set}
use Rattle.std.proofs.lemmas.Option.{slice_get_within}
use Rattle.std.proofs.lemmas.List.FromFn.{length-map-range_with_len, length-range_with_len}
use Rattle.agm_net.specs.Checks.{number_at}
use Rattle.agm_net.specs.Plain.{PlainNet, bit_names, range_numbers, select_name}
use Rattle.agm_net.specs.WellFormed.{WellFormed}
use Rattle.agm_net.specs.declared.port.Range.{Range}
use Rattle.agm_net.specs.declared.port.Port.{Port}
use Rattle.net_design.specs.Bits.{Bit}
use Rattle.net_design.specs.declared.sites.Site.{Site}
use Rattle.net_design.specs.Bits.{bits_of}
use Rattle.net_design.specs.Sites.{index_at, IsWithin, BitsFit, bit_site, port_sites, all_sites, put, sites_of, site_at, name_of, site_bit, bit_of}
use Rattle.design_binds.proofs.Apart.{all_by_place, all_append, all_front, all_back, all_from, all_both}
use Rattle.design_binds.proofs.Among.{count-yes, count-no}
use Rattle.design_binds.proofs.Order.{Once}

-- a range has as many numbers as it says
pub numbers_long : (msb lsb : ℕ) → length (range_numbers msb lsb) ≡ abs_diff msb lsb + 1
numbers_long msb lsb =
    elim (cases_Bool (nat_le lsb msb)) [
      | inl le ↦ let down = leb-true lsb msb le in rw (le, length-map-range_with_len) (omega arith)
      | inr gt ↦ let up = leb-false lsb msb gt in rw (gt, length-range_with_len) (omega arith)
    ]

-- as many bits as names are those of the range
within : (range : Option Range) (name : List ℕ) (i n : ℕ) → n ≡ length (bit_names name range) → i < n → IsWithin range i
within None name i n e lt = tt
within (Some r) name i n e lt =
    let long = numbers_long r.msb r.lsb in
    let same = length-map (range_numbers r.msb r.lsb) (select_name name) in omega arith

-- the bits of each port of a net are those of its range
pub bits_fit : (net : PlainNet) → WellFormed net → AllByRecursion BitsFit net.ports
bits_fit net formed =
    all_by_place BitsFit net.ports (λ k p at i lt.
    let named = ap length (formed.ports_right.bits_named k p at) in
    let bits : length (map (slice_get net.wires) p.bits) ≡ length p.bits = length-map p.bits (slice_get net.wires) in
    let names : length (map (λ name. Some name) (bit_names p.name p.range)) ≡ length (bit_names p.name p.range) = length-map (bit_names p.name p.range) (λ name. Some name) in
    within p.range p.name i (length p.bits) (sym bits ∙ (named ∙ names)) lt)

-- as many bits as names
names_long : (wires : List (List ℕ)) (bits : List ℕ) (names : List (List ℕ)) → map (slice_get wires) bits ≡ map (λ name. Some name) names → length bits ≡ length names
names_long wires bits names e = sym (length-map bits (slice_get wires)) ∙ (ap length e ∙ length-map names (λ name. Some name))

pub plus_zero : (n : ℕ) → n + 0 ≡ n
plus_zero n = omega arith

-- what a wire is stays where other wires are written
kept : (xs : List (ℕ × Site)) (t : List (Option Site)) (w : ℕ) → AllByRecursion (λ x. x.0 ≢ w) xs → site_at (fold put t xs) w ≡ site_at t w
kept [] t w h = refl
kept (x ∷ xs) t w h = kept xs (put t x) w h.1 ∙ get_or-set_other t x.0 w (Some x.1) None (λ e. h.0 (sym e))

-- the wires differ
abbrev Distinct : List (ℕ × Site) → Type 0
Distinct [] = Unit {0}
Distinct (x ∷ xs) = AllByRecursion (λ y. y.0 ≢ x.0) xs × Distinct xs

-- each wire that is written stands in the table
filled : (xs : List (ℕ × Site)) (t : List (Option Site)) → Distinct xs → AllByRecursion (λ x. x.0 < length t) xs → AllByRecursion (λ x. site_at (fold put t xs) x.0 ≡ Some x.1) xs
filled [] t d b = tt
filled (x ∷ xs) t d b =
    let long : length (put t x) ≡ length t = length-set t x.0 (Some x.1) in (
      kept xs (put t x) x.0 d.0 ∙ get_or-set_same t x.0 (Some x.1) None b.0,
      filled xs (put t x) d.1 (all_from (λ (y : ℕ × Site). y.0 < length t) (λ y. y.0 < length (put t x)) (λ y lt. omega arith) xs b.1),
    )

-- the table has as many wires that are no bits as there were, less those that are written
abbrev pub count_own : Option Site → ℕ
count_own o = cond (is_none o) 1 0

left : (xs : List (ℕ × Site)) (t : List (Option Site)) → Distinct xs → AllByRecursion (λ x. x.0 < length t) xs → AllByRecursion (λ x. site_at t x.0 ≡ None) xs
    → sum_by count_own (fold put t xs) + length xs ≡ sum_by count_own t
left [] t d b none = omega arith
left (x ∷ xs) t d b none =
    let long : length (put t x) ≡ length t = length-set t x.0 (Some x.1) in
    let still = all_both (λ (y : ℕ × Site). y.0 ≢ x.0) (λ y. site_at t y.0 ≡ None) (λ y. site_at (put t x) y.0 ≡ None)
    (λ y ne e. get_or-set_other t x.0 y.0 (Some x.1) None ne ∙ e) xs d.0 none.1 in
    let rest = left xs (put t x) d.1 (all_from (λ (y : ℕ × Site). y.0 < length t) (λ y. y.0 < length (put t x)) (λ y lt. omega arith) xs b.1) still in
    let step = sum_by-set count_own t x.0 (Some x.1) None b.0 in
    let one : count_own (get_or t x.0 None) ≡ 1 = ap count_own none.0 in
    let zero_now : count_own (Some x.1) ≡ 0 = refl in
    omega arith

-- the wires of the sites of ports are their bits
wires_of_port : (k j : ℕ) (range : Option Range) (bits : List ℕ) → map (λ x. x.0) (map (bit_site k range) (enumerate_from j bits)) ≡ bits
wires_of_port k j range [] = refl
wires_of_port k j range (b ∷ bs) = ap (λ ws. b ∷ ws) (wires_of_port k (j + 1) range bs)

wires_of : (k : ℕ) (ps : List Port) → map (λ x. x.0) (flat_map port_sites (enumerate_from k ps)) ≡ flat_map (λ p. p.bits) ps
wires_of k [] = refl
wires_of k (p ∷ ps) =
    map-append (λ (x : ℕ × Site). x.0) (port_sites (k, p)) (flat_map port_sites (enumerate_from (k + 1) ps))
    ∙ ap₂ (λ xs ys. xs ++ ys) (wires_of_port k 0 p.range p.bits) (wires_of (k + 1) ps)

-- a fact of each of a list that is mapped
pub all_mapped : {X Y : Type 0} (P : Y → Type 0) (f : X → Y) (xs : List X) → AllByRecursion P (map f xs) → AllByRecursion (λ x. P (f x)) xs
all_mapped P f [] h = tt
all_mapped P f (x ∷ xs) h = (h.0, all_mapped P f xs h.1)

pub mapped_all : {X Y : Type 0} (P : Y → Type 0) (f : X → Y) (xs : List X) → AllByRecursion (λ x. P (f x)) xs → AllByRecursion P (map f xs)
mapped_all P f [] h = tt
mapped_all P f (x ∷ xs) h = (h.0, mapped_all P f xs h.1)

-- a number that is not counted is none of them
not_there : (xs : List ℕ) (w : ℕ) → count_by (λ b. b == w) xs ≡ 0 → AllByRecursion (λ b. b ≢ w) xs
not_there [] w none = tt
not_there (x ∷ xs) w none =
    elim (cases_Bool (x == w)) [
      | inl e ↦ let step = count-yes (λ b. b == w) x xs e in absurd (omega arith)
      | inr e ↦ let step = count-no (λ b. b == w) x xs e in ((λ same. both_ways (x == w) e (eq-eqb x w same)), not_there xs w (sym step ∙ none))
    ]

fewer : (x : ℕ) (xs : List ℕ) (w : ℕ) → count_by (λ b. b == w) (x ∷ xs) ≤ 1 → count_by (λ b. b == w) xs ≤ 1
fewer x xs w h =
    elim (cases_Bool (x == w)) [
      | inl e ↦ let step = count-yes (λ b. b == w) x xs e in omega arith
      | inr e ↦ let step = count-no (λ b. b == w) x xs e in omega arith
    ]

counted_once : (xs : List ℕ) → ((w : ℕ) → count_by (λ b. b == w) xs ≤ 1) → Once xs
counted_once [] h = tt
counted_once (x ∷ xs) h =
    let step = count-yes (λ b. b == x) x xs (eq-eqb x x refl) in
    let at = h x in (not_there xs x (omega arith), counted_once xs (λ w. fewer x xs w (h w)))

-- numbers that stand once, as wires of the table
distinct_once : (xs : List (ℕ × Site)) → Once (map (λ x. x.0) xs) → Distinct xs
distinct_once [] o = tt
distinct_once (x ∷ xs) o = (all_mapped (λ w. w ≢ x.0) (λ (y : ℕ × Site). y.0) xs o.0, distinct_once xs o.1)

-- the table before anything is written
abbrev blanks : ℕ → List (Option Site)
blanks n = replicate n None

blank : (n w : ℕ) → site_at (blanks n) w ≡ None
blank zero w = refl
blank (suc n) zero = refl
blank (suc n) (suc w) = blank n w

all_blank : (n : ℕ) → sum_by count_own (blanks n) ≡ n
all_blank zero = refl
all_blank (suc n) =
    let step : sum_by count_own (blanks (suc n)) ≡ count_own None + sum_by count_own (blanks n) = sum_by-cons count_own None (blanks n) in
    let one : count_own None ≡ 1 = refl in
    let rest = all_blank n in omega arith

long_table : (xs : List (ℕ × Site)) (t : List (Option Site)) → length (fold put t xs) ≡ length t
long_table [] t = refl
long_table (x ∷ xs) t = long_table xs (put t x) ∙ length-set t x.0 (Some x.1)

-- what a port's bits are in the table
abbrev indexed : List ℕ → Option Range → ℕ → Bit
indexed name range i = record { name = name; index = index_at range i }

bits_again : (ports : List Port) (wires : List (List ℕ)) (sites : List (Option Site)) (k j : ℕ) (p : Port) (bits : List ℕ) → slice_get ports k ≡ Some p
    → AllByRecursion (λ x. site_at sites x.0 ≡ Some x.1) (map (bit_site k p.range) (enumerate_from j bits))
    → map (λ w. site_bit ports (slice_index_or wires w []) (site_at sites w)) bits ≡ map (indexed p.name p.range) (range_with_len j (length bits))
bits_again ports wires sites k j p [] at all = refl
bits_again ports wires sites k j p (b ∷ bs) at all =
    ap₂ (λ x xs. x ∷ xs)
    (ap (λ o. site_bit ports (slice_index_or wires b []) o) all.0 ∙ ap (λ (o : Option Port). let bit : Bit = record { name = name_of o; index = index_at p.range j } in bit) at)
    (bits_again ports wires sites k (j + 1) p bs at all.1)

-- the bits of a name by their places
shifted : (a j n : ℕ) → map (λ i. a + i) (range_with_len j n) ≡ range_with_len (a + j) n
shifted a j zero = refl
shifted a j (suc n) = let e : a + (j + 1) ≡ a + j + 1 = omega arith in ap (λ xs. (a + j) ∷ xs) (shifted a (j + 1) n ∙ ap (λ k. range_with_len k n) e)

map_again : {X Y Z : Type 0} (f : X → Y) (g : Y → Z) (xs : List X) → map (λ x. g (f x)) xs ≡ map g (map f xs)
map_again f g [] = refl
map_again f g (x ∷ xs) = ap (λ ys. g (f x) ∷ ys) (map_again f g xs)

range_bits : (name : List ℕ) (msb lsb : ℕ) → map (λ i. let bit : Bit = record { name = name; index = Some (number_at msb lsb i) } in bit) (range_with_len 0 (abs_diff msb lsb + 1)) ≡ map (λ k. let bit : Bit = record { name = name; index = Some k } in bit) (range_numbers msb lsb)
range_bits name msb lsb =
    elim (cases_Bool (nat_le lsb msb)) [
      | inl le ↦ let down = leb-true lsb msb le in
          let many : abs_diff msb lsb + 1 ≡ msb - lsb + 1 = omega arith in
          rw (le, many) (map_again (λ k. msb - k) (λ k. let bit : Bit = record { name = name; index = Some k } in bit) (range_with_len 0 (msb - lsb + 1)))
      | inr gt ↦ let up = leb-false lsb msb gt in
          let many : abs_diff msb lsb + 1 ≡ lsb - msb + 1 = omega arith in
          rw (gt, many) (map_again (λ k. msb + k) (λ k. let bit : Bit = record { name = name; index = Some k } in bit) (range_with_len 0 (lsb - msb + 1))
          ∙ ap (λ ks. map (λ k. let bit : Bit = record { name = name; index = Some k } in bit) ks) (shifted msb 0 (lsb - msb + 1) ∙ ap (λ a. range_with_len a (lsb - msb + 1)) (plus_zero msb)))
    ]

indexed_bits : (name : List ℕ) (range : Option Range) (n : ℕ) → n ≡ length (bit_names name range) → map (indexed name range) (range_with_len 0 n) ≡ bits_of name range
indexed_bits name None n e = ap (λ k. map (indexed name None) (range_with_len 0 k)) e
indexed_bits name (Some r) n e =
    let many : n ≡ abs_diff r.msb r.lsb + 1 = e ∙ (length-map (range_numbers r.msb r.lsb) (select_name name) ∙ numbers_long r.msb r.lsb) in
    ap (λ k. map (indexed name (Some r)) (range_with_len 0 k)) many ∙ range_bits name r.msb r.lsb

-- a fact of all sites is one of those of a port
of_port : (P : ℕ × Site → Type 0) (j i : ℕ) (ps : List Port) (p : Port) → AllByRecursion P (flat_map port_sites (enumerate_from j ps)) → slice_get ps i ≡ Some p → AllByRecursion P (port_sites (j + i, p))
of_port P j i [] p all at = absurd (cc)
of_port P j zero (q ∷ ps) p all at =
    let same : q ≡ p = cc in
    let here = all_front P (port_sites (j, q)) (flat_map port_sites (enumerate_from (j + 1) ps)) all in
    subst (λ k. AllByRecursion P (port_sites (k, p))) (sym (plus_zero j)) (subst (λ r. AllByRecursion P (port_sites (j, r))) same here)
of_port P j (suc i) (q ∷ ps) p all at =
    let next : (j + 1) + i ≡ j + suc i = omega arith in
    subst (λ k. AllByRecursion P (port_sites (k, p))) next (of_port P (j + 1) i ps p (all_back P (port_sites (j, q)) (flat_map port_sites (enumerate_from (j + 1) ps)) all) at)

-- the bits of ports have names, so they are wires
named_below : (wires : List (List ℕ)) (bits : List ℕ) (names : List (List ℕ)) → map (slice_get wires) bits ≡ map (λ name. Some name) names → AllByRecursion (λ b. b < length wires) bits
named_below wires [] names e = tt
named_below wires (b ∷ bs) [] e = absurd (cc)
named_below wires (b ∷ bs) (n ∷ ns) e =
    let here : slice_get wires b ≡ Some n = cc in
    let rest : map (slice_get wires) bs ≡ map (λ name. Some name) ns = cc in
    (slice_get_within wires b n here, named_below wires bs ns rest)

pub all_flat : {X Y : Type 0} (P : Y → Type 0) (f : X → List Y) (xs : List X) → AllByRecursion (λ x. AllByRecursion P (f x)) xs → AllByRecursion P (flat_map f xs)
all_flat P f [] h = tt
all_flat P f (x ∷ xs) h = all_append P (f x) (flat_map f xs) h.0 (all_flat P f xs h.1)

-- the table of a net
module _ (net : PlainNet) (formed : WellFormed net) where
  abbrev pub port_wires : List ℕ
  port_wires = flat_map (λ p. p.bits) net.ports

  pub ports_once : Once port_wires
  ports_once = counted_once port_wires formed.ports_right.one_port

  pub each_below : AllByRecursion (λ p. AllByRecursion (λ b. b < length net.wires) p.bits) net.ports
  each_below = all_by_place (λ p. AllByRecursion (λ b. b < length net.wires) p.bits) net.ports (λ k p at. named_below net.wires p.bits (bit_names p.name p.range) (formed.ports_right.bits_named k p at))

  pub ports_below : AllByRecursion (λ b. b < length net.wires) port_wires
  ports_below = all_flat (λ b. b < length net.wires) (λ (p : Port). p.bits) net.ports each_below

  distinct : Distinct (all_sites net.ports)
  distinct = distinct_once (all_sites net.ports) (subst Once (sym (wires_of 0 net.ports)) ports_once)

  long_blank : length (blanks (length net.wires)) ≡ length net.wires
  long_blank = length-replicate {A = Option Site} (length net.wires) None

  sites_below : AllByRecursion (λ x. x.0 < length net.wires) (all_sites net.ports)
  sites_below = all_mapped (λ w. w < length net.wires) (λ (x : ℕ × Site). x.0) (all_sites net.ports) (subst (λ ws. AllByRecursion (λ w. w < length net.wires) ws) (sym (wires_of 0 net.ports)) ports_below)

  sites_inside : AllByRecursion (λ x. x.0 < length (blanks (length net.wires))) (all_sites net.ports)
  sites_inside = subst (λ n. AllByRecursion (λ (x : ℕ × Site). x.0 < n) (all_sites net.ports)) (sym long_blank) sites_below

  written : AllByRecursion (λ x. site_at (sites_of net) x.0 ≡ Some x.1) (all_sites net.ports)
  written = filled (all_sites net.ports) (blanks (length net.wires)) distinct sites_inside

  -- the bits of each port are those of its name
  pub port_bits_are : AllByRecursion (λ p. map (bit_of net (sites_of net)) p.bits ≡ bits_of p.name p.range) net.ports
  port_bits_are =
      all_by_place (λ p. map (bit_of net (sites_of net)) p.bits ≡ bits_of p.name p.range) net.ports (λ k p at.
      let here = of_port (λ x. site_at (sites_of net) x.0 ≡ Some x.1) 0 k net.ports p written at in
      let zero_first : 0 + k ≡ k = omega arith in
      bits_again net.ports net.wires (sites_of net) k 0 p p.bits at (subst (λ j. AllByRecursion (λ x. site_at (sites_of net) x.0 ≡ Some x.1) (port_sites (j, p))) zero_first here)
      ∙ indexed_bits p.name p.range (length p.bits) (names_long net.wires p.bits (bit_names p.name p.range) (formed.ports_right.bits_named k p at)))

  -- a bit of a port is told from other wires
  pub bits_told : AllByRecursion (λ b. is_none (site_at (sites_of net) b) ≡ false) port_wires
  bits_told =
      subst (λ ws. AllByRecursion (λ b. is_none (site_at (sites_of net) b) ≡ false) ws) (wires_of 0 net.ports)
      (mapped_all (λ b. is_none (site_at (sites_of net) b) ≡ false) (λ (x : ℕ × Site). x.0) (all_sites net.ports)
      (all_from (λ (x : ℕ × Site). site_at (sites_of net) x.0 ≡ Some x.1) (λ x. is_none (site_at (sites_of net) x.0) ≡ false) (λ x e. ap is_none e) (all_sites net.ports) written))

  pub others_told : (w : ℕ) → AllByRecursion (λ b. b ≢ w) port_wires → site_at (sites_of net) w ≡ None
  others_told w other =
      kept (all_sites net.ports) (blanks (length net.wires)) w
      (all_mapped (λ b. b ≢ w) (λ (x : ℕ × Site). x.0) (all_sites net.ports) (subst (λ ws. AllByRecursion (λ b. b ≢ w) ws) (sym (wires_of 0 net.ports)) other))
      ∙ blank (length net.wires) w

  pub sites_long : length (sites_of net) ≡ length net.wires
  sites_long = long_table (all_sites net.ports) (blanks (length net.wires)) ∙ long_blank

  -- the other wires are the rest
  pub rest_counted : sum_by count_own (sites_of net) + length port_wires ≡ length net.wires
  rest_counted =
      let none_yet = all_from (λ (x : ℕ × Site). x.0 < length net.wires) (λ x. site_at (blanks (length net.wires)) x.0 ≡ None) (λ x lt. blank (length net.wires) x.0) (all_sites net.ports) sites_below in
      let less = left (all_sites net.ports) (blanks (length net.wires)) distinct sites_inside none_yet in
      let long : length (all_sites net.ports) ≡ length port_wires = sym (length-map (all_sites net.ports) (λ (x : ℕ × Site). x.0)) ∙ ap length (wires_of 0 net.ports) in
      let all = all_blank (length net.wires) in omega arith
