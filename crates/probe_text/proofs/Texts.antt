-- Texts with one item more, and the wires of cones.
use Rattle.std.proofs.Common.{◌≡◌, ◌<◌, ◌≤◌, ◌+◌, ◌-◌, ◌==◌, ◌||◌, ◌++◌, ◌∷◌, ℕ, zero, suc, Bool, false, List, [], All, length, map, take, reverse, get_or, slice_get, Some, refl, sym, ap, ◌∙◌, arith}
use Rattle.std.specs.List.{AllByRecursion, range_with_len, list_any}
use Rattle.std.proofs.lemmas.List.{append_assoc, map-append, take_more, length-reverse, get_or-reverse}
use Rattle.std.proofs.lemmas.List.Elements.{All-nil, All-cons}
use Rattle.std.proofs.lemmas.Option.{get_or_from_slice_get}
use Rattle.agm_net.specs.Plain.{PlainNet}
use Rattle.agm_net.specs.Loop.{reads}
use Rattle.agm_net.specs.Run.{driver}
use Rattle.probe_cones.proofs.Ascending.{all_filtered}
use Rattle.probe_cones.specs.declared.probe.Probe.{Probe}
use Rattle.probe_cones.specs.Cone.{cone, is_source, wire_numbers, within}

-- a text of mapped items, with one item more
pub mapped_more : {X : Type 0} (f : X → ℕ) (old now new : List ℕ) (xs more : List X) (x : X)
    → more ≡ xs ++ x ∷ [] → now ≡ old ++ map f xs → new ≡ now ++ f x ∷ [] → new ≡ old ++ map f more
mapped_more f old now new xs more x is before pushed =
    pushed
    ∙ ap (λ t. t ++ f x ∷ []) before
    ∙ append_assoc old (map f xs) (f x ∷ [])
    ∙ ap (λ t. old ++ t) (sym (map-append f xs (x ∷ [])))
    ∙ ap (λ ys. old ++ map f ys) (sym is)

-- a row from its end, with one bit more
pub turned_more : (row : List Bool) (k : ℕ) (bit : Bool) (now new : List Bool) → k < length row → slice_get row (length row - 1 - k) ≡ Some bit
    → now ≡ take k (reverse row) → new ≡ now ++ bit ∷ [] → new ≡ take (k + 1) (reverse row)
turned_more row k bit now new lt at before pushed =
    let long : k < length (reverse row) = rw (length-reverse row) lt in
    let there : get_or (reverse row) k false ≡ bit = get_or-reverse row k false lt ∙ get_or_from_slice_get row (length row - 1 - k) bit false at in
    pushed
    ∙ ap (λ t. t ++ bit ∷ []) before
    ∙ ap (λ b. take k (reverse row) ++ b ∷ []) (sym there)
    ∙ sym (take_more (reverse row) k false long)

module _ (net : PlainNet) where
  numbers_inside : (a m : ℕ) → a + m ≤ length net.wires → AllByRecursion (λ v. v < length net.wires) (range_with_len a m)
  numbers_inside a zero fits = tt
  numbers_inside a (suc m) fits = (omega arith, numbers_inside (a + 1) m (omega arith))

  all_numbers : AllByRecursion (λ v. v < length net.wires) (wire_numbers net)
  all_numbers = numbers_inside 0 (length net.wires) (omega arith)

  steps_inside : (w n : ℕ) → AllByRecursion (λ v. v < length net.wires) (within net w n)
  steps_inside w zero = all_filtered (λ v. v < length net.wires) (λ v. w == v) (wire_numbers net) all_numbers
  steps_inside w (suc n) = all_filtered (λ v. v < length net.wires) (λ v. list_any (λ u. (u == v) || reads net u v) (within net w n)) (wire_numbers net) all_numbers

all_from : (P : ℕ → Type 0) (xs : List ℕ) → AllByRecursion P xs → All P xs
all_from P [] h = All-nil P
all_from P (x ∷ xs) h = All-cons P x xs h.0 (all_from P xs h.1)

pub cone_inside : (net : PlainNet) (w : ℕ) → All (λ v. v < length net.wires) (cone net w)
cone_inside net w =
    all_from (λ v. v < length net.wires) (cone net w)
    (all_filtered (λ v. v < length net.wires) (λ v. is_source (driver net v)) (within net w (length net.wires)) (steps_inside net w (length net.wires)))

pub cones_mapped : (net : PlainNet) (ps : List Probe) → map (cone net) (map (λ (p : Probe). p.wire) ps) ≡ map (λ (p : Probe). cone net p.wire) ps
cones_mapped net [] = refl
cones_mapped net (p ∷ ps) = ap (λ cs. cone net p.wire ∷ cs) (cones_mapped net ps)

-- rows of one length, each from its end
pub turned_long : (width n : ℕ) (rows : List (List Bool)) → All (λ row. length row ≡ width) rows → All (λ row. length row ≡ width) (map reverse (take n rows))
turned_long width zero rows all = All-nil (λ row. length row ≡ width)
turned_long width (suc n) [] all = All-nil (λ row. length row ≡ width)
turned_long width (suc n) (row ∷ rows) all =
    All-cons (λ (r : List Bool). length r ≡ width) (reverse row) (map reverse (take n rows))
    (length-reverse row ∙ all 0 row (omega arith))
    (turned_long width n rows (λ k d lt. all (suc k) d (omega (arith, lt))))
