-- The bits of ports are the first wires, in their order.
use Rattle.std.proofs.Common.{◌≡◌, ◌≢◌, ◌+◌, ◌==◌, ◌<◌, ℕ, suc, List, [], ◌∷◌, ◌++◌, length, map, Option, Some, refl, sym, ap, ap₂, ◌∙◌, subst, arith, eq-eqb, append_assoc}
use Rattle.std.specs.List.{AllByRecursion, flat_map, position_or_len, range_with_len}
use Rattle.std.proofs.lemmas.Bool.{ne_eqb}
use Rattle.std.proofs.lemmas.List.{map-append, length-map}
use Rattle.agm_net.specs.Renumbered.{renumbered_port}
use Rattle.agm_net.specs.declared.port.Port.{Port}
use Rattle.verilog_reader.specs.Plain.{PlainModule}
use Rattle.form_bits.specs.Forms.{range_width}
use Rattle.top_module.specs.declared.facts.Kind.{Kind}
use Rattle.top_module.specs.Ports.{kind_of}
use Rattle.module_outlines.specs.Outlines.{kind_range, kind_way}
use Rattle.net_binding.specs.Bound.{ports_from}
use Rattle.net_design.specs.Design.{port_name}
use Rattle.design_binds.proofs.Order.{Once, IsOrder, place, place_in}
use Rattle.design_binds.proofs.Places.{next_yes, next_no}
use Rattle.design_binds.proofs.Shape.{kind_from}

-- numbers that go up by one
abbrev pub Counting : ℕ → List ℕ → Type 0
Counting a [] = Unit {0}
Counting a (x ∷ xs) = (x ≡ a) × Counting (a + 1) xs

abbrev place_among : List ℕ → ℕ → ℕ
place_among xs w = position_or_len (λ v. v == w) xs

counting_on : (a : ℕ) (xs : List ℕ) (f g : ℕ → ℕ) → AllByRecursion (λ b. f b ≡ suc (g b)) xs → Counting a (map g xs) → Counting (a + 1) (map f xs)
counting_on a [] f g e h = tt
counting_on a (x ∷ xs) f g e h =
    let head : f x ≡ a + 1 = let here = e.0 in let there = h.0 in omega arith in
    (head, counting_on (a + 1) xs f g e.1 h.1)

all_further : (b : ℕ) (bs xs : List ℕ) → AllByRecursion (λ y. y ≢ b) xs → AllByRecursion (λ c. place_among (b ∷ bs) c ≡ suc (place_among bs c)) xs
all_further b bs [] h = tt
all_further b bs (x ∷ xs) h = (next_no (λ v. v == x) b bs (ne_eqb b x (λ e. h.0 (sym e))), all_further b bs xs h.1)

counted : (bs : List ℕ) → Once bs → Counting 0 (map (place_among bs) bs)
counted [] d = tt
counted (b ∷ bs) d =
    (next_yes (λ v. v == b) b bs (eq-eqb b b refl), counting_on 0 bs (place_among (b ∷ bs)) (place_among bs) (all_further b bs bs d.0) (counted bs d.1))

same_places : (whole xs : List ℕ) → AllByRecursion (λ w. w < length whole) xs → map (place whole) xs ≡ map (place_among whole) xs
same_places whole [] h = refl
same_places whole (x ∷ xs) h = ap₂ (λ y ys. y ∷ ys) (place_in whole x h.0) (same_places whole xs h.1)

-- the places of an order are its numbers from 0 on
pub places_counted : (xs : List ℕ) → IsOrder xs → Counting 0 (map (place xs) xs)
places_counted xs o = subst (Counting 0) (sym (same_places xs xs o.below)) (counted xs o.once)

counting_front : (a : ℕ) (xs ys : List ℕ) → Counting a (xs ++ ys) → Counting a xs
counting_front a [] ys h = tt
counting_front a (x ∷ xs) ys h = (h.0, counting_front (a + 1) xs ys h.1)

counting_back : (a : ℕ) (xs ys : List ℕ) → Counting a (xs ++ ys) → Counting (a + length xs) ys
counting_back a [] ys h = let e : a ≡ a + 0 = omega arith in subst (λ k. Counting k ys) e h
counting_back a (x ∷ xs) ys h = let e : (a + 1) + length xs ≡ a + suc (length xs) = omega arith in subst (λ k. Counting k ys) e (counting_back (a + 1) xs ys h.1)

counting_is : (a : ℕ) (xs : List ℕ) → Counting a xs → xs ≡ range_with_len a (length xs)
counting_is a [] h = refl
counting_is a (x ∷ xs) h = ap₂ (λ y ys. y ∷ ys) h.0 (counting_is (a + 1) xs h.1)

one_port : (there : ℕ → ℕ) (first : ℕ) (p : Port) (o : Option Kind) → o ≡ Some (kind_from p) → map there p.bits ≡ range_with_len first (range_width p.range)
    → (let q : Port = record { name = p.name; way = kind_way o; range = kind_range o; bits = range_with_len first (range_width (kind_range o)) } in q) ≡ renumbered_port there p
one_port there first p o e bits =
    ap (λ k. let q : Port = record { name = p.name; way = kind_way k; range = kind_range k; bits = range_with_len first (range_width (kind_range k)) } in q) e
    ∙ ap (λ bs. let q : Port = record { name = p.name; way = p.way; range = p.range; bits = bs } in q) (sym bits)

module _ (m : PlainModule) (there : ℕ → ℕ) where
  pub ports_placed : (first : ℕ) (ps : List Port) (rest : List ℕ) → AllByRecursion (λ p. kind_of m p.name ≡ Some (kind_from p)) ps → AllByRecursion (λ p. length p.bits ≡ range_width p.range) ps
      → Counting first (map there (flat_map (λ p. p.bits) ps ++ rest)) → ports_from m first (map port_name ps) ≡ map (renumbered_port there) ps
  ports_placed first [] rest k l h = refl
  ports_placed first (p ∷ ps) rest k l h =
      let more = flat_map (λ (q : Port). q.bits) ps in
      let spread : map there ((p.bits ++ more) ++ rest) ≡ map there p.bits ++ map there (more ++ rest) = ap (map there) (append_assoc p.bits more rest) ∙ map-append there p.bits (more ++ rest) in
      let all : Counting first (map there p.bits ++ map there (more ++ rest)) = subst (Counting first) spread h in
      let long : length (map there p.bits) ≡ range_width p.range = length-map p.bits there ∙ l.0 in
      let bits : map there p.bits ≡ range_with_len first (range_width p.range) =
      counting_is first (map there p.bits) (counting_front first (map there p.bits) (map there (more ++ rest)) all) ∙ ap (range_with_len first) long in
      let behind : Counting (first + range_width p.range) (map there (more ++ rest)) =
      subst (λ n. Counting (first + n) (map there (more ++ rest))) long (counting_back first (map there p.bits) (map there (more ++ rest)) all) in
      let next : range_width (kind_range (kind_of m p.name)) ≡ range_width p.range = ap (λ o. range_width (kind_range o)) k.0 in
      ap₂ (λ q qs. q ∷ qs) (one_port there first p (kind_of m p.name) k.0 bits)
      (ap (λ n. ports_from m (first + n) (map port_name ps)) next ∙ ports_placed (first + range_width p.range) ps rest k.1 l.1 behind)
