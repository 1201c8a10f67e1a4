-- The rows that are made are the first of the twin.
use Rattle.std.proofs.Common.{◌≡◌, ◌<◌, ◌≤◌, ◌+◌, ◌++◌, ◌∷◌, [], ℕ, zero, suc, Bool, List, length, map, take, get_or, refl, sym, ap, ap₂, ◌∙◌, subst, arith}
use Rattle.std.specs.List.{range_with_len}
use Rattle.std.proofs.lemmas.List.{take_more}
use Rattle.std.proofs.lemmas.List.FromFn.{length-map-range_with_len}
use Rattle.agm_net.specs.Network.{Hpc2, random_bits_of}
use Rattle.agm_net.specs.Plain.{PlainNet, data_ports}
use Rattle.agm_net.specs.Run.{run_of}
use Rattle.agm_net.specs.Trace.{Row, row_at}
use Rattle.agm_net.specs.WellFormed.{WellFormed}
use Rattle.agm_net.specs.declared.label.Label.{Label}
use Rattle.cycle_sim.specs.HasRun.{HasRun}
use Rattle.cycle_sim.specs.declared.sim.Sim.{Sim}
use Rattle.probe_cones.specs.Inputs.{random_width, with_random}
use Rattle.probe_cones.specs.Observing.{flags_of, joined_by, joined_rows, wires_in}
use Rattle.probe_cones.specs.declared.probe.Probes.{Probes}
use Rattle.twin_tape.specs.Pairs.{pair_for}
use Rattle.twin_tape.specs.Permitted.{AreLabels, sights, taken}
use Rattle.twin_tape.specs.Plans.{IsPlan}
use Rattle.twin_tape.specs.Twinned.{IsTwinOf, Moves}
use Rattle.twin_tape.specs.declared.pairs.Pair.{Pair}
use Rattle.twin_tape.specs.declared.plan.Plan.{Plan}
use Rattle.twin_tape.proofs.Counting.{length-IsTape}
use Rattle.twin_tape.proofs.Rowing.{row_made}
use Rattle.twin_tape.proofs.Running.{beside, fits, rows_more, table_bits, tape_now}

-- an item of a list by its number
pub item_is : {X : Type 0} (xs ys : List X) (k : ℕ) (x e : X) → xs ≡ ys → k < length ys → x ≡ get_or xs k x → x ≡ get_or ys k e
item_is {X = X} xs ys k x e same lt is = is ∙ (ap (λ zs. get_or zs k x) same ∙ go ys k lt)
  where
    go : (zs : List X) (n : ℕ) → n < length zs → get_or zs n x ≡ get_or zs n e
    go [] n h = absurd (omega (arith, h))
    go (z ∷ zs) zero h = refl
    go (z ∷ zs) (suc n) h = go zs n (omega (arith, h))

pub stages_long : (label : ℕ → Label) (probes : Probes) (T : ℕ) (plan : Plan) → IsPlan label probes.probes probes.indices T plan → length plan.stages ≡ plan.cycles + 1
stages_long label probes T plan is =
    ap (λ ls. length ls) is.stages ∙ (length-map-range_with_len (taken (sights label probes.probes) probes.indices T) 0 (T + 1) ∙ ap (λ n. n + 1) (sym is.cycles))

-- one row more
pub one_more : (net : PlainNet) (d : ℕ) (well : WellFormed net) (hpc2 : Hpc2 net d) (label : ℕ → Label) (labels : AreLabels net d label) (probes : Probes) (power : Row) → length power ≡ length net.registers
    → (first second random twin : List Row) (T : ℕ) → length first ≡ T → length second ≡ T → length random ≡ T → IsTwinOf net d label probes T power first second random twin
    → (plan : Plan) → IsPlan label probes.probes probes.indices T plan → (pairs : List Pair) → pairs ≡ map (λ w. pair_for net.wires (label w)) (random_bits_of net)
    → (table : List Row) → table ≡ run_of net power (with_random net first random) → (t : ℕ) → t < T → (old new : Sim) (row : Row)
    → Moves net (flags_of (data_ports net)) plan pairs table t (row_at second t) (row_at random t) old new row
    → (rows after : List Row) → after ≡ rows ++ row ∷ []
    → (rows ≡ take t twin) × HasRun net power (joined_rows (flags_of (data_ports net)) second twin t) old
    → (after ≡ take (t + 1) twin) × HasRun net power (joined_rows (flags_of (data_ports net)) second twin (t + 1)) new
one_more net d well hpc2 label labels probes power powered first second random twin T first_long second_long random_long is plan plan_is pairs pairs_are table table_is t below old new row moves rows after grown so_far =
    let F : List Bool = flags_of (data_ports net) in
    let twin_long : length twin ≡ T = length-IsTape (random_width net) T twin is.0 in
    let before : List Row = joined_rows F second twin t in
    let moved = moves power before so_far.1 (fits net d well hpc2 label labels power powered F refl second random twin T t below second_long twin_long) in
    let other : Row = wires_in net power (tape_now net d well hpc2 label labels power powered F refl second random twin T t below second_long twin_long) (length before) in
    let made : row ≡ row_at twin t =
    moved.0 ∙ (ap (λ ps. Rattle.twin_tape.specs.Changes.changed_row plan table other t ps (row_at random t)) pairs_are
    ∙ row_made net d well hpc2 label labels T probes.probes probes.indices power first second random twin is.1 plan plan_is table other t below
    (λ v inside. table_bits net well hpc2.no_loop power first random table T first_long random_long table_is t v below inside)
    (λ v more inside. let e : t + 1 ≡ suc t = omega arith in
    ap (λ k. Rattle.agm_net.specs.Trace.bit_at table k v) e ∙ table_bits net well hpc2.no_loop power first random table T first_long random_long table_is (suc t) v more inside)
    (λ g h there le. beside net d well hpc2 label labels power powered F refl second random twin T t below second_long twin_long g h there le)
    is.0) in (
      grown ∙ (ap₂ (λ xs x. xs ++ x ∷ []) so_far.0 made ∙ sym (take_one_more twin t (omega (arith, below, twin_long)))),
      subst (λ tape. HasRun net power tape new) (ap (λ x. before ++ joined_by F (row_at second t) x ∷ []) made ∙ sym (rows_more F second twin t)) moved.1,
    )
  where
    take_one_more : (xs : List Row) (k : ℕ) → k < length xs → take (k + 1) xs ≡ take k xs ++ row_at xs k ∷ []
    take_one_more xs k lt = take_more xs k [] lt
