-- The bits that the module of a net declares are its wires in another order, and the form of each is bound to its place.
use Rattle.std.proofs.Common.{◌≡◌, ◌≢◌, ◌≤◌, ◌<◌, ◌+◌, ◌==◌, ℕ, zero, suc, true, false, not, cond, List, [], ◌∷◌, ◌++◌, length, map, Option, Some, None, is_none, slice_get, slice_index_or, refl, sym, ap, ap₂, subst, ◌∙◌, inl, inr, arith, eq-eqb}
use Rattle.std.specs.List.{AllByRecursion, flat_map, position_or_len}
use Rattle.std.specs.Str.{bytes_eq}
use Rattle.std.proofs.lemmas.Bool.{both_ways, cases_Bool, or_cases, and_parts, and_from, eqb-true, false_from_ne_true}
use Rattle.std.proofs.lemmas.Grind.{flat_map-append}
use Rattle.std.proofs.lemmas.List.{map-append, length-map}
use Rattle.std.proofs.lemmas.Option.{slice_get_within, get_or_from_slice_get}
use Rattle.agm_net.specs.Plain.{PlainNet, bit_names, range_numbers, select_name}
use Rattle.agm_net.specs.PlainForm.{IsPlain}
use Rattle.agm_net.specs.WellFormed.{WellFormed, Differ}
use Rattle.agm_net.specs.declared.port.Range.{Range}
use Rattle.agm_net.specs.declared.port.Port.{Port}
use Rattle.module_outlines.specs.Outlines.{Wide, wide, wide_name, wide_bits}
use Rattle.net_design.specs.declared.sites.Site.{Site}
use Rattle.net_design.specs.Bits.{Bit, plain_bit, select, bits_of, bit_name, same_bit, same_index, bit_form}
use Rattle.net_design.specs.Sites.{sites_of, site_at, site_bit, bit_of}
use Rattle.net_design.specs.Design.{port_name}
use Rattle.design_binds.proofs.Among.{same_names, name_itself}
use Rattle.design_binds.proofs.Among as among
use Rattle.design_binds.proofs.Apart.{Apart, all_append, all_from, all_by_place, apart_from_Differ, apart_append, Differ-from_apart}
use Rattle.design_binds.proofs.Order.{Once, has, IsOrder, place, place_in, place_inside}
use Rattle.design_binds.proofs.Renumbering.{of_one, differ_either}
use Rattle.design_binds.proofs.Sited as sited
use Rattle.design_binds.proofs.OwnWires as own
use Rattle.design_binds.proofs.Spots.{wide_scope, names_of, look_from, IsAt, AllAt, IsBound, found_at, scope_at, bound_at}

-- bits that are the same
index_found : (i j : Option ℕ) → same_index i j ≡ true → i ≡ j
index_found None None h = refl
index_found None (Some k) h = absurd (both_ways false refl h)
index_found (Some j) None h = absurd (both_ways false refl h)
index_found (Some j) (Some k) h = ap Some (eqb-true j k h)

index_same : (i : Option ℕ) → same_index i i ≡ true
index_same None = refl
index_same (Some k) = eq-eqb k k refl

bit_found : (b c : Bit) → same_bit b c ≡ true → bit_name b ≡ bit_name c
bit_found b c h =
    let p = and_parts (bytes_eq b.name c.name) _ h in
    let name = same_names b.name c.name p.0 in
    let index = index_found b.index c.index p.1 in
    ap₂ (λ n i. bit_name (record { name = n; index = i })) name index

bit_itself : (b : Bit) → same_bit b b ≡ true
bit_itself b = and_from _ _ (name_itself b.name) (index_same b.index)

-- the place of a bit is that of its wire
position_same : (b : Bit) (bit : ℕ → Bit) (w : ℕ) (xs : List ℕ) → AllByRecursion (λ v. same_bit b (bit v) ≡ (v == w)) xs → position_or_len (same_bit b) (map bit xs) ≡ position_or_len (λ v. v == w) xs
position_same b bit w [] h = refl
position_same b bit w (x ∷ xs) h =
    ap₂ (λ t k. cond (not t) (1 + k) 0) h.0 (position_same b bit w xs h.1)

-- a fact of each number is one of a number that is there
pub of_has : (P : ℕ → Type 0) (xs : List ℕ) (w : ℕ) → AllByRecursion P xs → has xs w ≡ true → P w
of_has P [] w all h = absurd (both_ways false refl h)
of_has P (x ∷ xs) w all h = elim (or_cases (x == w) (has xs w) h) [ inl e ↦ subst P (eqb-true x w e) all.0 | inr later ↦ of_has P xs w all.1 later ]

-- the names of the bits of a name
selects : (name : List ℕ) (ks : List ℕ) → map bit_name (map (λ k. select name k) ks) ≡ map (select_name name) ks
selects name [] = refl
selects name (k ∷ ks) = ap (λ ns. select_name name k ∷ ns) (selects name ks)

names_of_bits : (name : List ℕ) (range : Option Range) → map bit_name (bits_of name range) ≡ bit_names name range
names_of_bits name None = refl
names_of_bits name (Some r) = selects name (range_numbers r.msb r.lsb)

pub all_named : (ws : List Wide) → map bit_name (flat_map wide_scope ws) ≡ flat_map wide_bits ws
all_named [] = refl
all_named (w ∷ ws) = map-append bit_name (wide_scope w) (flat_map wide_scope ws) ∙ ap₂ (λ xs ys. xs ++ ys) (names_of_bits w.name w.range) (all_named ws)

-- names of bits, bit by bit
named_each : (wires : List (List ℕ)) (bit : ℕ → Bit) (bs : List ℕ) → map (slice_get wires) bs ≡ map (λ name. Some name) (map bit_name (map bit bs)) → AllByRecursion (λ b. slice_get wires b ≡ Some (bit_name (bit b))) bs
named_each wires bit [] e = tt
named_each wires bit (b ∷ bs) e =
    let here : slice_get wires b ≡ Some (bit_name (bit b)) = cc in
    let rest : map (slice_get wires) bs ≡ map (λ name. Some name) (map bit_name (map bit bs)) = cc in (here, named_each wires bit bs rest)

pub get_past : {X : Type 0} (xs : List X) (k : ℕ) → length xs ≤ k → slice_get xs k ≡ None
get_past [] k le = refl
get_past (x ∷ xs) zero le = absurd (omega arith)
get_past (x ∷ xs) (suc k) le = get_past xs k (omega arith)

-- names with numbers that differ, differ
others_apart : (wires : List (List ℕ)) (x : ℕ × List ℕ) (xs : List (ℕ × List ℕ)) → Differ wires → slice_get wires x.0 ≡ Some x.1 → AllByRecursion (λ y. y ≢ x.0) (map (λ y. y.0) xs) → AllByRecursion (λ y. slice_get wires y.0 ≡ Some y.1) xs → AllByRecursion (λ y. x.1 ≢ y.1) xs
others_apart wires x [] differ here other named = tt
others_apart wires x (y ∷ ys) differ here other named = (
  (λ e. differ_either wires x.0 y.0 differ (slice_get_within wires x.0 x.1 here) (slice_get_within wires y.0 y.1 named.0) (λ s. other.0 (sym s)) (here ∙ (ap Some e ∙ sym named.0))),
  others_apart wires x ys differ here other.1 named.1,
)

names_apart : (wires : List (List ℕ)) (xs : List (ℕ × List ℕ)) → Differ wires → Once (map (λ x. x.0) xs) → AllByRecursion (λ x. slice_get wires x.0 ≡ Some x.1) xs → Apart (map (λ x. x.1) xs)
names_apart wires [] differ once named = tt
names_apart wires (x ∷ xs) differ once named = (
  sited.mapped_all (λ m. x.1 ≢ m) (λ (y : ℕ × List ℕ). y.1) xs (others_apart wires x xs differ named.0 once.0 named.1),
  names_apart wires xs differ once.1 named.1,
)

none_of : (o : Option Site) → is_none o ≡ true → o ≡ None
none_of None h = refl
none_of (Some s) h = absurd (both_ways false refl h)

-- a declared port and a declared wire
abbrev pub port_wide : Port → Wide
port_wide p = wide p.range p.name

abbrev pub declared_wides : List Port → List (List ℕ) → List Wide
declared_wides ps own_names = map port_wide ps ++ map (wide None) own_names

port_wide_names : (ps : List Port) → map wide_name (map port_wide ps) ≡ map port_name ps
port_wide_names [] = refl
port_wide_names (p ∷ ps) = ap (λ ns. p.name ∷ ns) (port_wide_names ps)

own_wide_names : (ns : List (List ℕ)) → map wide_name (map (wide None) ns) ≡ ns
own_wide_names [] = refl
own_wide_names (n ∷ ns) = ap (λ k. n ∷ k) (own_wide_names ns)

pub wide_names : (ps : List Port) (ns : List (List ℕ)) → names_of (declared_wides ps ns) ≡ map port_name ps ++ ns
wide_names ps ns = map-append wide_name (map port_wide ps) (map (wide None) ns) ∙ ap₂ (λ xs ys. xs ++ ys) (port_wide_names ps) (own_wide_names ns)

own_scope_plain : (ns : List (List ℕ)) → flat_map wide_scope (map (wide None) ns) ≡ map plain_bit ns
own_scope_plain [] = refl
own_scope_plain (n ∷ ns) = ap (λ w. plain_bit n ∷ w) (own_scope_plain ns)

module _ (net : PlainNet) (formed : WellFormed net) (plain : IsPlain net) where
  abbrev pub bit : ℕ → Bit
  bit = bit_of net (sites_of net)

  abbrev pub order : List ℕ
  order = own.order net formed

  abbrev pub own_names : List (List ℕ)
  own_names = own.own_names net formed

  abbrev pub ports : List (List ℕ)
  ports = map port_name net.ports

  pub ports_apart : Apart ports
  ports_apart = apart_from_Differ ports formed.ports_right.ports_differ

  pub own_apart : Apart own_names
  own_apart = names_apart net.wires (own.own_pairs net formed) formed.wires_differ (own.once_from (sites_of net) 0 net.wires) (own.own_named net formed)

  -- no own wire has the name of a port
  clash : (k : ℕ) (p : Port) (x : ℕ × List ℕ) → slice_get net.ports k ≡ Some p → slice_get net.wires x.0 ≡ Some x.1 → is_none (site_at (sites_of net) x.0) ≡ true → p.name ≢ x.1
  clash k p x at named mine e =
      let there = plain.port_names_are_bits k x.0 p at (named ∙ ap Some (sym e)) in
      both_ways (is_none (site_at (sites_of net) x.0)) (of_has (λ b. is_none (site_at (sites_of net) b) ≡ false) (sited.port_wires net formed) x.0 (sited.bits_told net formed) there) mine

  both : (P Q R : ℕ × List ℕ → Type 0) (xs : List (ℕ × List ℕ)) → ((x : ℕ × List ℕ) → P x → Q x → R x) → AllByRecursion P xs → AllByRecursion Q xs → AllByRecursion R xs
  both P Q R [] f p q = tt
  both P Q R (x ∷ xs) f p q = (f x p.0 q.0, both P Q R xs f p.1 q.1)

  ports_own : AllByRecursion (λ p. AllByRecursion (λ m. p ≢ m) own_names) ports
  ports_own =
      sited.mapped_all (λ p. AllByRecursion (λ m. p ≢ m) own_names) port_name net.ports
      (all_by_place (λ (p : Port). AllByRecursion (λ m. p.name ≢ m) own_names) net.ports (λ k p at.
      sited.mapped_all (λ m. p.name ≢ m) (λ (x : ℕ × List ℕ). x.1) (own.own_pairs net formed)
      (both (λ x. slice_get net.wires x.0 ≡ Some x.1) (λ x. is_none (site_at (sites_of net) x.0) ≡ true) (λ x. p.name ≢ x.1) (own.own_pairs net formed)
      (λ x named mine. clash k p x at named mine) (own.own_named net formed) (own.own_told net formed))))

  pub names_all_apart : Apart (ports ++ own_names)
  names_all_apart = apart_append ports own_names ports_apart own_apart ports_own

  -- the bit of an own wire is its name
  own_bit : (x : ℕ × List ℕ) → slice_get net.wires x.0 ≡ Some x.1 → is_none (site_at (sites_of net) x.0) ≡ true → bit x.0 ≡ plain_bit x.1
  own_bit x named mine =
      ap (λ o. site_bit net.ports (slice_index_or net.wires x.0 []) o) (none_of (site_at (sites_of net) x.0) mine)
      ∙ ap plain_bit (get_or_from_slice_get net.wires x.0 x.1 [] named)

  pub own_bits : AllByRecursion (λ x. bit x.0 ≡ plain_bit x.1) (own.own_pairs net formed)
  own_bits = both (λ x. slice_get net.wires x.0 ≡ Some x.1) (λ x. is_none (site_at (sites_of net) x.0) ≡ true) (λ x. bit x.0 ≡ plain_bit x.1) (own.own_pairs net formed) own_bit (own.own_named net formed) (own.own_told net formed)

  own_scope : (xs : List (ℕ × List ℕ)) → AllByRecursion (λ x. bit x.0 ≡ plain_bit x.1) xs → map plain_bit (map (λ x. x.1) xs) ≡ map bit (map (λ x. x.0) xs)
  own_scope [] h = refl
  own_scope (x ∷ xs) h = ap₂ (λ b bs. b ∷ bs) (sym h.0) (own_scope xs h.1)

  port_scope : (ps : List Port) → AllByRecursion (λ p. map bit p.bits ≡ bits_of p.name p.range) ps → flat_map wide_scope (map port_wide ps) ≡ map bit (flat_map (λ p. p.bits) ps)
  port_scope [] b = refl
  port_scope (p ∷ ps) b =
      ap₂ (λ xs ys. xs ++ ys) (sym b.0) (port_scope ps b.1)
      ∙ sym (map-append bit p.bits (flat_map (λ q. q.bits) ps))

  abbrev pub wides : List Wide
  wides = declared_wides net.ports own_names

  pub scope_is : flat_map wide_scope wides ≡ map bit order
  scope_is =
      flat_map-append wide_scope (map port_wide net.ports) (map (wide None) own_names)
      ∙ (ap₂ (λ xs ys. xs ++ ys) (port_scope net.ports (sited.port_bits_are net formed)) (own_scope_plain own_names ∙ own_scope (own.own_pairs net formed) own_bits)
      ∙ sym (map-append bit (sited.port_wires net formed) (own.own net formed)))

  -- each wire has its bit's name
  port_named : AllByRecursion (λ b. slice_get net.wires b ≡ Some (bit_name (bit b))) (sited.port_wires net formed)
  port_named =
      sited.all_flat (λ b. slice_get net.wires b ≡ Some (bit_name (bit b))) (λ (p : Port). p.bits) net.ports
      (all_by_place (λ (p : Port). AllByRecursion (λ b. slice_get net.wires b ≡ Some (bit_name (bit b))) p.bits) net.ports (λ k p at.
      named_each net.wires bit p.bits (formed.ports_right.bits_named k p at
      ∙ ap (λ ns. map (λ name. Some name) ns) (sym (ap (λ bs. map bit_name bs) (of_one (λ (q : Port). map bit q.bits ≡ bits_of q.name q.range) net.ports k p (sited.port_bits_are net formed) at) ∙ names_of_bits p.name p.range)))))

  named : AllByRecursion (λ b. slice_get net.wires b ≡ Some (bit_name (bit b))) order
  named =
      all_append (λ b. slice_get net.wires b ≡ Some (bit_name (bit b))) (sited.port_wires net formed) (own.own net formed) port_named
      (sited.mapped_all (λ b. slice_get net.wires b ≡ Some (bit_name (bit b))) (λ (x : ℕ × List ℕ). x.0) (own.own_pairs net formed)
      (both (λ x. slice_get net.wires x.0 ≡ Some x.1) (λ x. bit x.0 ≡ plain_bit x.1) (λ x. slice_get net.wires x.0 ≡ Some (bit_name (bit x.0))) (own.own_pairs net formed)
      (λ x e b. e ∙ ap (λ c. Some (bit_name c)) (sym b)) (own.own_named net formed) own_bits))

  pub is_order : IsOrder order
  is_order = own.is_order net formed

  pub long : length order ≡ length net.wires
  long = own.order_long net formed

  pub name_of_wire : (w : ℕ) → w < length net.wires → slice_get net.wires w ≡ Some (bit_name (bit w))
  name_of_wire w lt = of_has (λ b. slice_get net.wires b ≡ Some (bit_name (bit b))) order w named (is_order.all_there w (let e = long in omega arith))

  -- a bit is another's only where the wires are the same
  bit_told : (w v : ℕ) → w < length net.wires → v < length net.wires → same_bit (bit w) (bit v) ≡ (v == w)
  bit_told w v in_w in_v =
      elim (cases_Bool (v == w)) [
        | inl e ↦ ap (λ u. same_bit (bit w) (bit u)) (eqb-true v w e) ∙ (bit_itself (bit w) ∙ sym e)
        | inr e ↦ false_from_ne_true (same_bit (bit w) (bit v)) (λ t.
            let other : w ≢ v = (λ s. both_ways (v == w) e (eq-eqb v w (sym s))) in
            differ_either net.wires w v formed.wires_differ in_w in_v other (name_of_wire w in_w ∙ (ap Some (bit_found (bit w) (bit v) t) ∙ sym (name_of_wire v in_v)))) ∙ sym e
      ]

  -- the bit of a wire stands at the wire's place
  place_of : (w : ℕ) → w < length net.wires → position_or_len (same_bit (bit w)) (map bit order) ≡ place order w
  place_of w lt =
      position_same (bit w) bit w order (all_from (λ v. v < length net.wires) (λ v. same_bit (bit w) (bit v) ≡ (v == w)) (λ v in_v. bit_told w v lt in_v) order (own.order_below net formed))
      ∙ sym (place_in order w (let e = long in omega arith))

  apart_wides : among.Apart (names_of wides)
  apart_wides = subst among.Apart (sym (wide_names net.ports own_names)) (among.apart_from_differ (ports ++ own_names) (Differ-from_apart (ports ++ own_names) names_all_apart))

  -- the form of each wire is bound to the wire's place
  pub bound : (w : ℕ) → w < length net.wires → IsBound (look_from 0 wides) (bit_form (bit w)) (place order w)
  bound w lt =
      let all : AllAt (IsAt (look_from 0 wides)) 0 (map bit order) = subst (AllAt (IsAt (look_from 0 wides)) 0) scope_is (scope_at wides 0 apart_wides) in
      let in_order : w < length order = let e = long in omega arith in
      let inside = place_inside order w is_order in_order in
      let at = place_of w lt in
      let many = length-map order bit in
      let below : position_or_len (same_bit (bit w)) (map bit order) < length (map bit order) = omega arith in
      let there = found_at (IsAt (look_from 0 wides)) 0 (map bit order) (bit w) all below in
      let e : 0 + position_or_len (same_bit (bit w)) (map bit order) ≡ place order w = omega arith in
      bound_at (look_from 0 wides) (bit w).name (bit w).index (place order w) (subst (λ k. IsAt (look_from 0 wides) k (bit w)) e there)
