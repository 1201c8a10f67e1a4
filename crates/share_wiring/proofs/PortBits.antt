-- The bits of ports: they are wires, and each is a bit of one port.
use Rattle.std.proofs.Common.{◌≡◌, ◌≢◌, ◌<◌, ◌≤◌, ◌+◌, ◌==◌, ◌++◌, ℕ, zero, suc, Bool, cond, List, [], ◌∷◌, Some, codes, length, take, drop, map, filter, flat_map, count_by, get_or, slice_get, refl, sym, ap, inl, inr, ◌∙◌, arith, eq-eqb}
use Rattle.std.specs.List.{AllByRecursion, range_with_len}
use Rattle.std.specs.Str.{bytes_eq}
use Rattle.std.proofs.Math.Seq.{drop-cons}
use Rattle.std.proofs.lemmas.List.{take-append-drop, length-map}
use Rattle.std.proofs.lemmas.List.Sums.{sum_by-append}
use Rattle.std.proofs.lemmas.Bool.{cases_Bool, cases_eq}
use Rattle.std.proofs.lemmas.Option.{slice_get_within}
use Rattle.agm_net.specs.Plain.{bit_names}
use Rattle.agm_net.specs.declared.port.Port.{Port}
use Rattle.agm_net.proofs.Lists.{all_joined, count_more, count_yes}
use Rattle.share_wiring.specs.Wiring.{Wiring, names}
use Rattle.share_wiring.specs.Adds.{random_bits}
use Rattle.share_wiring.specs.Built.{HasItsBits, uses, IsBuilt}
use Rattle.share_wiring.specs.declared.gate.Wire.{Wire}

-- one number more
pub range_more : (a n : ℕ) → range_with_len a (n + 1) ≡ range_with_len a n ++ (a + n) ∷ []
range_more a zero = let at : a ≡ a + 0 = omega arith in ap (λ k. k ∷ []) at
range_more a (suc n) =
    let rest = range_more (a + 1) n in
    let two : suc n + 1 ≡ suc (n + 1) = omega arith in
    let at : (a + 1) + n ≡ a + suc n = omega arith in
    ap (λ k. range_with_len a k) two ∙ (ap (λ xs. a ∷ xs) rest ∙ ap (λ k. a ∷ (range_with_len (a + 1) n ++ k ∷ [])) at)

-- bits that have names are wires
found_below : (ns : List (List ℕ)) (bits : List ℕ) (found : List (List ℕ)) → map (slice_get ns) bits ≡ map (λ name. Some name) found → AllByRecursion (λ b. b < length ns) bits
found_below ns [] found e = tt
found_below ns (b ∷ bs) [] e = absurd (cc)
found_below ns (b ∷ bs) (n ∷ found) e =
    let head : slice_get ns b ≡ Some n = cc in
    let tail : map (slice_get ns) bs ≡ map (λ name. Some name) found = cc in
    (slice_get_within ns b n head, found_below ns bs found tail)

-- so are those of ports that pass a test
pub below : (ns : List (List ℕ)) (test : Port → Bool) (ports : List Port) → AllByRecursion (HasItsBits ns) ports → AllByRecursion (λ b. b < length ns) (flat_map (λ p. p.bits) (filter test ports))
below ns test [] h = tt
below ns test (p ∷ ps) h =
    elim (cases_Bool (test p)) [
      | inl kept ↦ rw kept (all_joined (λ b. b < length ns) p.bits (flat_map (λ q. q.bits) (filter test ps)) (found_below ns p.bits (bit_names p.name p.range) h.0) (below ns test ps h.1))
      | inr left ↦ rw left (below ns test ps h.1)
    ]

pub below_all : (ns : List (List ℕ)) (ports : List Port) → AllByRecursion (HasItsBits ns) ports → AllByRecursion (λ b. b < length ns) (flat_map (λ p. p.bits) ports)
below_all ns [] h = tt
below_all ns (p ∷ ps) h = all_joined (λ b. b < length ns) p.bits (flat_map (λ q. q.bits) ps) (found_below ns p.bits (bit_names p.name p.range) h.0) (below_all ns ps h.1)

-- what holds of each holds at each place
pub at_place : (P : ℕ → Type 0) (xs : List ℕ) (k : ℕ) → AllByRecursion P xs → k < length xs → P (get_or xs k 0)
at_place P [] k h lt = absurd (omega arith)
at_place P (x ∷ xs) zero h lt = h.0
at_place P (x ∷ xs) (suc k) h lt = at_place P xs k h.1 (omega arith)

-- a wire is a bit of some ports no more often than of all
pub fewer_uses : (test : Port → Bool) (ports : List Port) (w : ℕ) → uses (filter test ports) w ≤ uses ports w
fewer_uses test [] w = omega arith
fewer_uses test (p ∷ ps) w =
    let is : ℕ → ℕ = λ b. cond (b == w) 1 0 in
    let all = sum_by-append is p.bits (flat_map (λ q. q.bits) ps) in
    let rest = fewer_uses test ps w in
    elim (cases_Bool (test p)) [
      | inl kept ↦ rw kept (let some = sum_by-append is p.bits (flat_map (λ q. q.bits) (filter test ps)) in omega (arith, all, some, rest))
      | inr left ↦ rw left (omega (arith, all, rest))
    ]

-- what is not counted is not there
pub none_there : (xs : List ℕ) (w : ℕ) → count_by (λ b. b == w) xs ≡ 0 → AllByRecursion (λ b. b ≢ w) xs
none_there [] w e = tt
none_there (x ∷ xs) w e =
    elim (cases_eq x w) [
      | inl same ↦ absurd (let one = count_yes (λ b. b == w) x xs (eq-eqb x w same) in omega (arith, one, e))
      | inr other ↦ (other, none_there xs w (let more = count_more (λ b. b == w) x xs in omega (arith, more, e)))
    ]

-- an item that is counted once is not among those before it
pub new_at : (xs : List ℕ) (k : ℕ) → k < length xs → count_by (λ b. b == get_or xs k 0) xs ≤ 1 → AllByRecursion (λ b. b ≢ get_or xs k 0) (take k xs)
new_at xs k lt once =
    let w = get_or xs k 0 in
    let test : ℕ → Bool = λ b. b == w in
    let parts : take k xs ++ (w ∷ drop (suc k) xs) ≡ xs = ap (λ ys. take k xs ++ ys) (sym (drop-cons xs k 0 lt)) ∙ take-append-drop k xs in
    let split = sum_by-append (λ b. cond (b == w) 1 0) (take k xs) (w ∷ drop (suc k) xs) in
    let one = count_yes test w (drop (suc k) xs) (eq-eqb w w refl) in
    let all = ap (count_by test) parts in
    none_there (take k xs) w (omega (arith, split, one, all, once))

module _ (net : Wiring) (built : IsBuilt net) (lt : net.given < length (random_bits net.ports)) where
  pub random_within : get_or (random_bits net.ports) net.given 0 < length net.wires
  random_within =
      let len = length-map net.wires (λ (x : Wire). x.name) in
      let under = at_place (λ b. b < length (names net.wires)) (random_bits net.ports) net.given (below (names net.wires) (λ p. bytes_eq p.name (codes "agm_r")) net.ports built.bits_named) lt in
      omega (arith, len, under)

  pub random_new : AllByRecursion (λ b. b ≢ get_or (random_bits net.ports) net.given 0) (take net.given (random_bits net.ports))
  random_new =
      let w = get_or (random_bits net.ports) net.given 0 in
      let some = fewer_uses (λ p. bytes_eq p.name (codes "agm_r")) net.ports w in
      let one = built.one_port w in
      new_at (random_bits net.ports) net.given lt (omega (arith, some, one))
