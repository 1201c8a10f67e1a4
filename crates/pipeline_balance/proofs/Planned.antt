-- What a plan says of nodes is what a layout wants.
use Rattle.std.proofs.Common.{◌≡◌, ◌<◌, ◌≤◌, ◌-◌, ◌&&◌, ◌||◌, max, min, nat_lt, nat_le, ℕ, zero, suc, Bool, true, false, cond, List, [], ◌∷◌, length, sum_by, count_by, slice_get, get_or, Some, IsTrue, refl, sym, ap, ap₂, subst, ◌∙◌, arith, inl, inr}
use Rattle.std.proofs.lemmas.Bool.{cases_Bool, and_parts, ltb-true, leb-true, leb-false}
use Rattle.std.proofs.Math.Seq.{take-length}
use Rattle.std.proofs.lemmas.List.Sums.{sum_by-cons}
use Rattle.std.proofs.lemmas.Option.{slice_get-get_or}
use Rattle.agm_net.proofs.Lists.{count_yes, count_no}
use Rattle.logic_graph.specs.Nodes.{xan_reads_before}
use Rattle.logic_graph.specs.Settled.{bit_of}
use Rattle.logic_graph.specs.declared.nodes.XanNode.{XanNode}
use Rattle.logic_graph.specs.declared.nodes.XanNode.TheVariants.{Zero, One, Input, Q, Not, Xor, And}
use Rattle.logic_graph.specs.declared.graphs.Xan.{Xan}
use Rattle.secrecy_spread.specs.declared.secrets.Secrets.{Secrets}
use Rattle.secrecy_spread.specs.Costs.{is_gadget}
use Rattle.secrecy_spread.specs.Levels.{gadget_level, xan_level, depth_of}
use Rattle.secrecy_spread.specs.NodeSecrets.{xan_secret}
use Rattle.level_plan.specs.Passes.{has_source}
use Rattle.level_plan.specs.PlanOf.{PlanOf, level_at, is_late_first}
use Rattle.level_plan.specs.declared.plans.Plan.{Plan}
use Rattle.pipeline_balance.specs.Chained.{node_kind, gadgets_in, gadgets_before}
use Rattle.pipeline_balance.specs.Piped.{node_at}
use Rattle.pipeline_balance.specs.Ready.{IsLaidOut}
use Rattle.pipeline_balance.specs.Reaching.{flag_at, FitsLevels, AreReached}
use Rattle.pipeline_balance.specs.declared.chains.Layout.{Layout}
use Rattle.pipeline_balance.proofs.Laying.{laid_out, reach_depth}

pub kind_is : (inputs registers : List Bool) (at : ℕ → Bool) (n : XanNode) → xan_secret inputs registers at n ≡ node_kind (flag_at inputs) (flag_at registers) at n
kind_is inputs registers at Zero = refl
kind_is inputs registers at One = refl
kind_is inputs registers at (Input i) = refl
kind_is inputs registers at (Q r) = refl
kind_is inputs registers at (Not a) = refl
kind_is inputs registers at (Xor a b) = refl
kind_is inputs registers at (And a b) = refl

-- a gadget stands one level above its late operand and two above its early one
gadget_fits : (la lb l : ℕ) (late : Bool) → l ≡ gadget_level (max la lb) (min la lb) → late ≡ nat_le lb la → (a b : ℕ) (level : ℕ → ℕ) → level a ≡ la → level b ≡ lb
    → (2 ≤ l) × (level (cond late a b) ≤ l - 1) × (level (cond late b a) ≤ l - 2)
gadget_fits la lb l true is late a b level ea eb = (let le = leb-true lb la (sym late) in (omega (arith, is), omega (arith, is, le, ea), omega (arith, is, le, eb)))
gadget_fits la lb l false is late a b level ea eb = (let lt = leb-false lb la (sym late) in (omega (arith, is), omega (arith, is, lt, eb), omega (arith, is, lt, ea)))

pub level_fits : (secret : ℕ → Bool) (level : ℕ → ℕ) (late : Bool) (k : ℕ) (n : XanNode) → level k ≡ xan_level secret level n → late ≡ is_late_first secret level n → FitsLevels secret level late k n
level_fits secret level late k Zero is choice = tt
level_fits secret level late k One is choice = tt
level_fits secret level late k (Input i) is choice = is
level_fits secret level late k (Q r) is choice = is
level_fits secret level late k (Not a) is choice = is
level_fits secret level late k (Xor a b) is choice = (omega (arith, is), omega (arith, is))
level_fits secret level late k (And a b) is choice = by (secret a && secret b) is choice
  where
    by : (s : Bool) → level k ≡ cond s (gadget_level (max (level a) (level b)) (min (level a) (level b))) (max (level a) (level b)) → late ≡ (s && nat_le (level b) (level a))
        → cond s ((2 ≤ level k) × (level (cond late a b) ≤ level k - 1) × (level (cond late b a) ≤ level k - 2)) ((level a ≤ level k) × (level b ≤ level k))
    by true e c = gadget_fits (level a) (level b) (level k) late e c a b level refl refl
    by false e c = (omega (arith, e), omega (arith, e))

-- ---- public nodes have level 0

module _ (nodes : List XanNode) (in_order : (k : ℕ) (n : XanNode) → slice_get nodes k ≡ Some n → IsTrue (xan_reads_before k n)) (inputs registers : List Bool) (secret : ℕ → Bool) (level : ℕ → ℕ)
    (secrets : (k : ℕ) (n : XanNode) → slice_get nodes k ≡ Some n → secret k ≡ xan_secret inputs registers secret n)
    (levels : (k : ℕ) (n : XanNode) → slice_get nodes k ≡ Some n → level k ≡ xan_level secret level n) where
  none_of : (x y : Bool) → (x || y) ≡ false → (x ≡ false) × (y ≡ false)
  none_of false y h = (refl, h)
  none_of true y h = absurd (let no : true ≡ false = h in cc)

  node_low : (k : ℕ) (n : XanNode) → ((j : ℕ) → j < k → secret j ≡ false → level j ≡ 0) → IsTrue (xan_reads_before k n) → xan_secret inputs registers secret n ≡ false → xan_level secret level n ≡ 0
  node_low k Zero before reads public = refl
  node_low k One before reads public = refl
  node_low k (Input i) before reads public = refl
  node_low k (Q r) before reads public = refl
  node_low k (Not a) before reads public = before a (ltb-true a k reads) public
  node_low k (Xor a b) before reads public =
      let lt = and_parts (nat_lt a k) (nat_lt b k) reads in
      let none = none_of (secret a) (secret b) public in
      let la = before a (ltb-true a k lt.0) none.0 in
      let lb = before b (ltb-true b k lt.1) none.1 in
      omega (arith, la, lb)
  node_low k (And a b) before reads public =
      let lt = and_parts (nat_lt a k) (nat_lt b k) reads in
      let none = none_of (secret a) (secret b) public in
      let la = before a (ltb-true a k lt.0) none.0 in
      let lb = before b (ltb-true b k lt.1) none.1 in
      let flat : max (level a) (level b) ≡ 0 = omega (arith, la, lb) in
      ap (λ s. cond (s && secret b) (gadget_level (max (level a) (level b)) (min (level a) (level b))) (max (level a) (level b))) none.0 ∙ flat

  low_below : (m k : ℕ) → k < m → k < length nodes → secret k ≡ false → level k ≡ 0
  low_below zero k lt within public = absurd (omega (arith, lt))
  low_below (suc m) k lt within public =
      let n = get_or nodes k Zero in
      let at = slice_get-get_or nodes k Zero within in
      levels k n at ∙ node_low k n (λ j lj. low_below m j (omega (arith, lt, lj)) (omega (arith, lj, within))) (in_order k n at) (sym (secrets k n at) ∙ public)

  pub public_low : (k : ℕ) → k < length nodes → secret k ≡ false → level k ≡ 0
  public_low k within = low_below (suc k) k (omega arith) within

  greatest_le : (sinks : List ℕ) (j : ℕ) → j < length sinks → cond (secret (get_or sinks j 0)) (level (get_or sinks j 0)) 0 ≤ depth_of secret level sinks
  greatest_le [] j lt = absurd (omega (arith, lt))
  greatest_le (s ∷ ss) zero lt = omega arith
  greatest_le (s ∷ ss) (suc j) lt = (let more = greatest_le ss j (omega (arith, lt)) in omega (arith, more))

  -- so no sink stands behind the depth
  pub sink_low : (sinks : List ℕ) (j : ℕ) → j < length sinks → get_or sinks j 0 < length nodes → level (get_or sinks j 0) ≤ depth_of secret level sinks
  sink_low sinks j lt within =
      let s = get_or sinks j 0 in
      let le = greatest_le sinks j lt in
      elim (cases_Bool (secret s)) [
        | inl kept ↦ subst (λ b. cond b (level s) 0 ≤ depth_of secret level sinks) kept le
        | inr public ↦ (let low = public_low s within public in omega (arith, low))
      ]

-- ---- gadgets

gadgets_are : (secret : ℕ → Bool) (n : XanNode) → gadgets_in secret n ≡ cond (is_gadget secret n) 1 0
gadgets_are secret Zero = refl
gadgets_are secret One = refl
gadgets_are secret (Input i) = refl
gadgets_are secret (Q r) = refl
gadgets_are secret (Not a) = refl
gadgets_are secret (Xor a b) = refl
gadgets_are secret (And a b) = refl

counted : (secret : ℕ → Bool) (ns : List XanNode) → sum_by (gadgets_in secret) ns ≡ count_by (is_gadget secret) ns
counted secret [] = refl
counted secret (n ∷ ns) =
    let rest = counted secret ns in
    let one = sum_by-cons (gadgets_in secret) n ns in
    let here = gadgets_are secret n in
    elim (cases_Bool (is_gadget secret n)) [
      | inl is ↦ (let it : gadgets_in secret n ≡ 1 = here ∙ ap (λ b. cond b 1 0) is in let c = count_yes (is_gadget secret) n ns is in omega (arith, one, rest, it, c))
      | inr other ↦ (let it : gadgets_in secret n ≡ 0 = here ∙ ap (λ b. cond b 1 0) other in let c = count_no (is_gadget secret) n ns other in omega (arith, one, rest, it, c))
    ]

pub all_gadgets : (secret : ℕ → Bool) (ns : List XanNode) → gadgets_before secret ns (length ns) ≡ count_by (is_gadget secret) ns
all_gadgets secret ns = ap (sum_by (gadgets_in secret)) (take-length ns) ∙ counted secret ns

-- ---- the whole

-- a plan with its last levels is laid out
pub laid_plan : (xan : Xan) (s : Secrets) (plan : Plan) (lasts : List ℕ) → PlanOf xan s plan → ((k : ℕ) (n : XanNode) → slice_get xan.nodes k ≡ Some n → IsTrue (has_source (length s.inputs) (length s.registers) n))
    → length lasts ≡ length xan.nodes → AreReached xan.nodes xan.sinks plan.secret plan.levels plan.late_first plan.depth (node_at lasts)
    → IsLaidOut xan s plan (record { secret = plan.secret; levels = plan.levels; lasts = lasts; late_first = plan.late_first })
laid_plan xan s plan lasts is sources long reached =
    let layout : Layout = record { secret = plan.secret; levels = plan.levels; lasts = lasts; late_first = plan.late_first } in
    record {
      laid = laid_out xan.nodes xan.sinks layout plan.depth reached s.inputs s.registers is.one_flag_each is.one_level_each long is.one_choice_each
          (λ k n at. is.secret k n at ∙ kind_is s.inputs s.registers (bit_of plan.secret) n)
          sources
          (λ k n at. level_fits (bit_of plan.secret) (level_at plan.levels) (bit_of plan.late_first k) k n (is.levels k n at) (is.late k n at));
      depth = reach_depth xan.nodes xan.sinks layout plan.depth reached (λ j lt. (
          let within = xan.sinks_fit j 0 lt in (
            within,
            subst (λ d. level_at plan.levels (node_at xan.sinks j) ≤ d) (sym is.depth)
                (sink_low xan.nodes xan.in_order s.inputs s.registers (bit_of plan.secret) (level_at plan.levels) is.secret is.levels xan.sinks j lt within),
          )));
      secret = refl;
      gadgets = all_gadgets (bit_of plan.secret) xan.nodes ∙ sym is.gadgets;
    }

-- the same of copies
pub laid_copy : (xan : Xan) (s : Secrets) (plan : Plan) (secret secret' late late' : List Bool) (levels levels' lasts lasts' : List ℕ) → PlanOf xan s plan
    → ((k : ℕ) (n : XanNode) → slice_get xan.nodes k ≡ Some n → IsTrue (has_source (length s.inputs) (length s.registers) n))
    → secret ≡ plan.secret → levels ≡ plan.levels → late ≡ plan.late_first → secret' ≡ secret → levels' ≡ levels → late' ≡ late → lasts' ≡ lasts
    → length lasts ≡ length xan.nodes → AreReached xan.nodes xan.sinks secret levels late plan.depth (node_at lasts)
    → IsLaidOut xan s plan (record { secret = secret'; levels = levels'; lasts = lasts'; late_first = late' })
laid_copy xan s plan secret secret' late late' levels levels' lasts lasts' is sources a b c a' b' c' d' long reached =
    let at : AreReached xan.nodes xan.sinks plan.secret plan.levels plan.late_first plan.depth (node_at lasts) =
    subst (λ x. AreReached xan.nodes xan.sinks x plan.levels plan.late_first plan.depth (node_at lasts)) a
    (subst (λ x. AreReached xan.nodes xan.sinks secret x plan.late_first plan.depth (node_at lasts)) b
    (subst (λ x. AreReached xan.nodes xan.sinks secret levels x plan.depth (node_at lasts)) c reached)) in
    let same : ◌≡◌ {A = Layout} (record { secret = plan.secret; levels = plan.levels; lasts = lasts; late_first = plan.late_first }) (record { secret = secret'; levels = levels'; lasts = lasts'; late_first = late' }) =
    sym (ap₂ (λ x y. record { secret = x; levels = y; lasts = lasts'; late_first = late' }) (a' ∙ a) (b' ∙ b) ∙ ap₂ (λ x y. record { secret = plan.secret; levels = plan.levels; lasts = x; late_first = y }) d' (c' ∙ c)) in
    subst (IsLaidOut xan s plan) same (laid_plan xan s plan lasts is sources long at)
