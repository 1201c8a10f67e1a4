-- The row that is made in a cycle is that of the twin.
use Rattle.std.proofs.Common.{◌≡◌, ◌<◌, ◌≤◌, ◌+◌, ◌-◌, ◌==◌, ◌&&◌, ◌||◌, ℕ, zero, suc, Bool, true, false, cond, drop, List, [], ◌∷◌, Some, length, map, nat_eq, slice_get, slice_index_or, refl, sym, ap, ap₂, ◌∙◌, subst, arith, inl, inr, true≢false, eq-eqb}
use Rattle.std.proofs.lemmas.Bool.{cases_lt}
use Rattle.std.proofs.lemmas.List.FromFn.{get_or-map-range_with_len}
use Rattle.std.specs.List.{list_any, range_with_len}
use Rattle.agm_net.specs.Formula.{xor}
use Rattle.agm_net.specs.Label.{IsPart, part}
use Rattle.agm_net.specs.Network.{Hpc2, random_bits_of}
use Rattle.agm_net.specs.Plain.{PlainNet}
use Rattle.agm_net.specs.Trace.{Row, bit_at}
use Rattle.agm_net.specs.WellFormed.{WellFormed}
use Rattle.agm_net.specs.declared.label.Label.{Label}
use Rattle.agm_net.specs.declared.label.PartKind.{PartKind}
use Rattle.agm_net.specs.declared.label.PartKind.TheVariants.{A as KA, B as KB}
use Rattle.probe_cones.specs.Inputs.{bit_with, first_bit, random_width}
use Rattle.probe_cones.specs.declared.probe.Probe.{Probe}
use Rattle.twin_tape.specs.Changes.{change_of, changed_row, half_by, half_of, is_crossed, stage_at}
use Rattle.twin_tape.specs.Pairs.{pair_for, side_for}
use Rattle.twin_tape.specs.Permitted.{AreLabels, half_change, has, known, sights, taken}
use Rattle.twin_tape.specs.Plans.{IsPlan, mark_of}
use Rattle.twin_tape.specs.Security.{AreProbes}
use Rattle.twin_tape.specs.Tapes.{IsTape}
use Rattle.twin_tape.specs.Twin as by_label
use Rattle.twin_tape.specs.Twin.{AreFactors, IsTwin, crossing_seen, is_crossing, pair_change}
use Rattle.twin_tape.specs.declared.pairs.Pair.{Pair}
use Rattle.twin_tape.specs.declared.plan.Plan.{Plan}
use Rattle.twin_tape.specs.declared.sight.Sight.{Sight}
use Rattle.twin_tape.proofs.Network.{HasPart}
use Rattle.twin_tape.proofs.Pairing.{In, IsBit, bit_is, own}
use Rattle.twin_tape.proofs.TwinIs as twin_is
use Rattle.twin_tape.proofs.TwinMap.{same_rows, wide_at}

half_same : (n n' l l' c c' a a' b b' o o' : Bool) → n ≡ n' → l ≡ l' → c ≡ c' → (l' ≡ false → a ≡ a') → b ≡ b' → o ≡ o' → half_by n l c a (xor b o) ≡ half_change n' l' c' a' b' o'
half_same n n' l true c c' a a' b b' o o' e1 e2 e3 e4 e5 e6 =
    ap₂ (λ n l. half_by n l c a (xor b o)) e1 e2 ∙ last_half n' ∙ ap₂ (λ c d. half_by n' true c a' d) e3 (ap₂ xor e5 e6)
  where
    last_half : (m : Bool) → half_by m true c a (xor b o) ≡ half_by m true c a' (xor b o)
    last_half true = refl
    last_half false = refl
half_same n n' l false c c' a a' b b' o o' e1 e2 e3 e4 e5 e6 =
    ap₂ (λ n l. half_by n l c a (xor b o)) e1 e2 ∙ ap₂ (λ c a. half_by n' false c a (xor b o)) e3 (e4 refl) ∙ ap (half_by n' false c' a') (ap₂ xor e5 e6)

-- a bit of a row that is changed
changed_at : (plan : Plan) (table : List Row) (other : Row) (t : ℕ) (f : ℕ → Pair) (bits : List ℕ) (random : Row) (n w : ℕ) → slice_get bits n ≡ Some w
    → slice_index_or (changed_row plan table other t (map f bits) random) n false ≡ xor (slice_index_or random n false) (change_of plan table other t (f w))
changed_at plan table other t f [] random n w get = absurd (let no = get in cc)
changed_at plan table other t f (v ∷ bits) random zero w get =
    let same : v ≡ w = cc in ap (λ u. xor (first_bit random) (change_of plan table other t (f u))) same
changed_at plan table other t f (v ∷ bits) [] (suc n) w get = changed_at plan table other t f bits [] n w get
changed_at plan table other t f (v ∷ bits) (r ∷ random) (suc n) w get = changed_at plan table other t f bits random n w get

changed_long : (plan : Plan) (table : List Row) (other : Row) (t : ℕ) (f : ℕ → Pair) (bits : List ℕ) (random : Row) → length (changed_row plan table other t (map f bits) random) ≡ length bits
changed_long plan table other t f [] random = refl
changed_long plan table other t f (v ∷ bits) random = ap suc (changed_long plan table other t f bits (drop 1 random))

-- probes by their labels cross as they do by their wires
any_marks : (label : ℕ → Label) (t g h o : ℕ) (ps : List Probe) → list_any (is_crossed t g h o) (map (mark_of label) ps) ≡ list_any (λ p. (p.cycle == t) && is_crossing g h o (label p.wire)) ps
any_marks label t g h o [] = refl
any_marks label t g h o (p ∷ ps) = ap (λ b. ((p.cycle == t) && is_crossing g h o (label p.wire)) || b) (any_marks label t g h o ps)

module _ (net : PlainNet) (d : ℕ) (well : WellFormed net) (hpc2 : Hpc2 net d) (label : ℕ → Label) (labels : AreLabels net d label) (T : ℕ) (probes : List Probe) (A : List ℕ)
    (power : Row) (first second random twin : List Row) (is : IsTwin net d label probes A T power first second random twin)
    (plan : Plan) (plan_is : IsPlan label probes A T plan) (table : List Row) (other : Row) (t : ℕ) (below : t < T)
    (here : (v : ℕ) → v < length net.wires → bit_at table t v ≡ bit_with net power first random t v)
    (behind : (v : ℕ) → suc t < T → v < length net.wires → bit_at table (t + 1) v ≡ bit_with net power first random (suc t) v)
    (beside : (g h : ℕ) → In net d well hpc2 label labels g → h ≤ d → slice_index_or other ((own net d well hpc2 label labels).part g KB h 0) false ≡ bit_with net power second twin t ((own net d well hpc2 label labels).part g KB h 0)) where
  abbrev ss : List Sight
  ss = sights label probes

  -- the stages of a plan
  stage_is : (k : ℕ) → k < T + 1 → stage_at plan.stages k ≡ taken ss A T k
  stage_is k lt = ap (λ ls. stage_at ls k) plan_is.stages ∙ get_or-map-range_with_len (taken ss A T) 0 (T + 1) k k [] lt (omega arith)

  now_is : stage_at plan.stages (plan.cycles - t) ≡ known ss A T (suc t)
  now_is = ap (λ n. stage_at plan.stages (n - t)) plan_is.cycles ∙ (stage_is (T - t) (omega (arith, below)) ∙ ap (taken ss A T) (omega arith))

  next_is : stage_at plan.stages (plan.cycles - t - 1) ≡ known ss A T (suc (suc t))
  next_is = ap (λ n. stage_at plan.stages (n - t - 1)) plan_is.cycles ∙ (stage_is (T - t - 1) (omega (arith, below)) ∙ ap (taken ss A T) (omega (arith, below)))

  abbrev x : ℕ → ℕ → Bool
  x = bit_with net power first random

  abbrev y : ℕ → ℕ → Bool
  y = bit_with net power second twin

  module _ (g : ℕ) (there : In net d well hpc2 label labels g) where
    abbrev a : ℕ → ℕ
    a h = (own net d well hpc2 label labels).part g KA h 0

    abbrev b : ℕ → ℕ
    b h = (own net d well hpc2 label labels).part g KB h 0

    half_is : (h o : ℕ) → h ≤ d → o ≤ d → half_of plan table other t g (side_for net.wires g h) (side_for net.wires g o)
        ≡ by_label.half_of label probes A T (λ h. x (suc t) (a h)) (λ h. x t (b h)) (λ h. y t (b h)) t g h o
    half_is h o le_h le_o =
        let more : t + 1 ≡ suc t = omega arith in
        half_same (has (stage_at plan.stages (plan.cycles - t - 1)) h) (has (known ss A T (suc (suc t))) h) (nat_eq (t + 1) plan.cycles) (nat_eq (suc t) T)
        (list_any (is_crossed (t + 1) g h o) plan.marks) (crossing_seen label probes A T g h o (suc t)) (bit_at table (t + 1) (a h)) (x (suc t) (a h))
        (bit_at table t (b o)) (x t (b o)) (slice_index_or other (b o) false) (y t (b o))
        (ap (λ K. has K h) next_is)
        (ap₂ nat_eq more plan_is.cycles)
        (ap₂ (λ k ms. list_any (is_crossed k g h o) ms) more plan_is.marks ∙ any_marks label (suc t) g h o probes)
        (λ off. behind (a h) (not_last off) (there KA h 0 (le_h, refl)).0)
        (here (b o) (there KB o 0 (le_o, refl)).0)
        (beside g o there le_o)
      where
        not_last : nat_eq (suc t) T ≡ false → suc t < T
        not_last off = elim (cases_lt (suc t) T) [ inl lt ↦ lt | inr le ↦ absurd (true≢false (sym (eq-eqb (suc t) T (omega (arith, le, below))) ∙ off)) ]

    change_is : (i j : ℕ) → i ≤ d → j ≤ d → change_of plan table other t (record { gadget = g; low = side_for net.wires g i; high = side_for net.wires g j })
        ≡ pair_change label probes A T (λ h. x (suc t) (a h)) (λ h. x t (b h)) (λ h. y t (b h)) t g i j
    change_is i j le_i le_j =
        ap₂ (λ u v. cond (has (stage_at plan.stages (plan.cycles - t)) i) (cond (has (stage_at plan.stages (plan.cycles - t)) j) false u) (cond (has (stage_at plan.stages (plan.cycles - t)) j) v false))
        (half_is i j le_i le_j) (half_is j i le_j le_i)
        ∙ ap (λ K. cond (has K i) (cond (has K j) false (by_label.half_of label probes A T (λ h. x (suc t) (a h)) (λ h. x t (b h)) (λ h. y t (b h)) t g i j))
        (cond (has K j) (by_label.half_of label probes A T (λ h. x (suc t) (a h)) (λ h. x t (b h)) (λ h. y t (b h)) t g j i) false)) now_is

  bit_made : (n w : ℕ) → slice_get (random_bits_of net) n ≡ Some w → xor (bit_at random t n) (change_of plan table other t (pair_for net.wires (label w))) ≡ bit_at twin t n
  bit_made n w get =
      let bit = bit_is net d well hpc2 label labels n w get in
      let g = bit.gadget in
      let factors : AreFactors net d g (a g bit.there) (b g bit.there) = λ h le. (part_is g bit.there KA h (le, refl), part_is g bit.there KB h (le, refl)) in
      ap (λ l. xor (bit_at random t n) (change_of plan table other t (pair_for net.wires l))) bit.label_is
      ∙ (ap (xor (bit_at random t n)) (change_is g bit.there bit.low bit.high bit.low_fits bit.high_fits)
      ∙ sym (is t n w g bit.low bit.high (a g bit.there) (b g bit.there) below get bit.has factors))
    where
      part_is : (g : ℕ) (there : In net d well hpc2 label labels g) (k : PartKind) (h : ℕ) → (fits : HasPart d k h 0) → IsPart net d ((own net d well hpc2 label labels).part g k h 0) (part g k h 0)
      part_is g there k h fits = twin_is.part_at net d well hpc2 label labels 0 [] [] (λ n p h. absurd (omega (arith, h))) g there k h 0 fits

  -- the whole row
  pub row_made : IsTape (random_width net) T twin → changed_row plan table other t (map (λ w. pair_for net.wires (label w)) (random_bits_of net)) (slice_index_or random t []) ≡ slice_index_or twin t []
  row_made tape =
      let f : ℕ → Pair = λ w. pair_for net.wires (label w) in
      let long : length (changed_row plan table other t (map f (random_bits_of net)) (slice_index_or random t [])) ≡ random_width net =
      changed_long plan table other t f (random_bits_of net) (slice_index_or random t []) ∙ twin_is.bits_long net d well hpc2 label labels 0 [] [] (λ n p h. absurd (omega (arith, h))) in
      same_rows (changed_row plan table other t (map f (random_bits_of net)) (slice_index_or random t [])) (slice_index_or twin t []) (long ∙ sym (wide_at (random_width net) T twin t tape below))
      (λ n lt.
      let small : n < random_width net = subst (λ k. n < k) long lt in
      let w = twin_is.wire_at net d well hpc2 label labels 0 [] [] (λ n p h. absurd (omega (arith, h))) n in
      let get = twin_is.bit_wire net d well hpc2 label labels 0 [] [] (λ n p h. absurd (omega (arith, h))) n small in
      changed_at plan table other t f (random_bits_of net) (slice_index_or random t []) n w get ∙ bit_made n w get)
