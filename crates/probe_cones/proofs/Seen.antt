-- What is seen in the table of a run is what is seen of the run.
use Rattle.std.proofs.Common.{◌≡◌, ◌<◌, ◌++◌, ◌∷◌, [], ℕ, zero, suc, List, length, map, refl, ap, ap₂, ◌∙◌, arith}
use Rattle.std.specs.List.{All, AllByRecursion, flat_map, range_with_len}
use Rattle.std.proofs.lemmas.List.FromFn.{get_or-map-range_with_len}
use Rattle.agm_net.specs.Plain.{PlainNet}
use Rattle.agm_net.specs.Run.{bit_in, driver, run_of}
use Rattle.agm_net.specs.Trace.{Row, row_at}
use Rattle.logic_graph.specs.Settled.{bit_of}
use Rattle.probe_cones.specs.Cone.{cone, is_source, observed, output_bits_of, wire_numbers, within}
use Rattle.probe_cones.specs.Observing.{index_bits, probe_bits, probed, seen_in, wires_in}
use Rattle.probe_cones.specs.declared.probe.Probe.{Probe}
use Rattle.probe_cones.proofs.Ascending.{all_filtered}
use Rattle.probe_cones.proofs.Steps.{range_below}

flat_mapped : {X Y Z : Type 0} (f : Y → List Z) (g : X → Y) (xs : List X) → flat_map f (map g xs) ≡ flat_map (λ x. f (g x)) xs
flat_mapped f g [] = refl
flat_mapped f g (x ∷ xs) = ap (λ ys. f (g x) ++ ys) (flat_mapped f g xs)

flat_map_same : {X Y : Type 0} (f g : X → List Y) (xs : List X) → ((x : X) → f x ≡ g x) → flat_map f xs ≡ flat_map g xs
flat_map_same f g [] same = refl
flat_map_same f g (x ∷ xs) same = ap₂ (λ a b. a ++ b) (same x) (flat_map_same f g xs same)

map_on : {X Y : Type 0} (P : X → Type 0) (f g : X → Y) → ((x : X) → P x → f x ≡ g x) → (xs : List X) → AllByRecursion P xs → map f xs ≡ map g xs
map_on P f g same [] all = refl
map_on P f g same (x ∷ xs) all = ap₂ (λ y ys. y ∷ ys) (same x all.0) (map_on P f g same xs all.1)

pub probed_is : (net : PlainNet) (table : List Row) (ps : List Probe) → probed table (map (cone net) (map (λ (p : Probe). p.wire) ps)) ps ≡ flat_map (probe_bits net table) ps
probed_is net table [] = refl
probed_is net table (p ∷ ps) = ap (λ ys. probe_bits net table p ++ ys) (probed_is net table ps)

module _ (net : PlainNet) (power : Row) (tape : List Row) where
  cone_inside : (w : ℕ) → AllByRecursion (λ v. v < length net.wires) (cone net w)
  cone_inside w = all_filtered (λ v. v < length net.wires) (λ v. is_source (driver net v)) (within net w (length net.wires)) (some_within (length net.wires))
    where
      numbers : AllByRecursion (λ v. v < length net.wires) (wire_numbers net)
      numbers = range_below 0 (length net.wires) (length net.wires) (omega arith)

      some_within : (n : ℕ) → AllByRecursion (λ v. v < length net.wires) (within net w n)
      some_within zero = all_filtered (λ v. v < length net.wires) _ (wire_numbers net) numbers
      some_within (suc n) = all_filtered (λ v. v < length net.wires) _ (wire_numbers net) numbers

  cone_seen : (t w : ℕ) → map (bit_of (wires_in net power tape t)) (cone net w) ≡ map (bit_in net power tape t) (cone net w)
  cone_seen t w = map_on (λ v. v < length net.wires) (bit_of (wires_in net power tape t)) (bit_in net power tape t)
      (λ v lt. get_or-map-range_with_len (bit_in net power tape t) 0 (length net.wires) v v _ lt (omega arith)) (cone net w) (cone_inside w)

  probes_seen : (ps : List Probe) → All (λ p. p.cycle < length tape) ps → flat_map (probe_bits net (run_of net power tape)) ps ≡ flat_map (λ (p : Probe). map (bit_in net power tape p.cycle) (cone net p.wire)) ps
  probes_seen [] all = refl
  probes_seen (p ∷ ps) all =
      let row : row_at (run_of net power tape) p.cycle ≡ wires_in net power tape p.cycle = get_or-map-range_with_len (wires_in net power tape) 0 (length tape) p.cycle p.cycle [] (all 0 p (omega arith)) (omega arith) in
      ap₂ (λ a b. a ++ b) (ap (λ r. map (bit_of r) (cone net p.wire)) row ∙ cone_seen p.cycle p.wire) (probes_seen ps (λ k d lt. all (suc k) d (omega (arith, lt))))

  cycle_seen : (outs : List ℕ) (t : ℕ) → seen_in (map (cone net) outs) (wires_in net power tape t) ≡ flat_map (λ w. map (bit_in net power tape t) (cone net w)) outs
  cycle_seen outs t = flat_mapped (λ c. map (bit_of (wires_in net power tape t)) c) (cone net) outs ∙ flat_map_same _ _ outs (cone_seen t)

  index_seen : (i : ℕ) → index_bits net (run_of net power tape) i ≡ flat_map (λ t. flat_map (λ w. map (bit_in net power tape t) (cone net w)) (output_bits_of net i)) (range_with_len 0 (length tape))
  index_seen i =
      flat_mapped (seen_in (map (cone net) (output_bits_of net i))) (wires_in net power tape) (range_with_len 0 (length tape))
      ∙ flat_map_same _ _ (range_with_len 0 (length tape)) (cycle_seen (output_bits_of net i))

  pub all_seen : (ps : List Probe) (A : List ℕ) → All (λ p. p.cycle < length tape) ps
      → flat_map (probe_bits net (run_of net power tape)) ps ++ flat_map (index_bits net (run_of net power tape)) A ≡ observed net ps A (length tape) (bit_in net power tape)
  all_seen ps A all = ap₂ (λ a b. a ++ b) (probes_seen ps all) (flat_map_same _ _ A index_seen)
