-- A plan whose nodes are carried as far as they are read is a layout.
use Rattle.std.proofs.Common.{◌≡◌, ◌<◌, ◌≤◌, ◌-◌, ◌&&◌, ℕ, Bool, true, false, cond, List, [], ◌∷◌, length, slice_get, Some, IsTrue}
use Rattle.std.specs.List.{AllByRecursion}
use Rattle.logic_graph.specs.declared.nodes.XanNode.{XanNode}
use Rattle.logic_graph.specs.declared.nodes.XanNode.TheVariants.{Zero, One, Input, Q, Not, Xor, And}
use Rattle.pipeline_balance.specs.declared.chains.Layout.{Layout}
use Rattle.pipeline_balance.specs.Piped.{node_at, ReachDepth}
use Rattle.level_plan.specs.Passes.{has_source}
use Rattle.pipeline_balance.specs.Chained.{Within, IsPlanned, node_kind, secret_at, first_at, last_at, late_at, IsLayout}
use Rattle.pipeline_balance.specs.Reaching.{flag_at, reads_of, FitsLevels, AreReached}

node_planned : (secret : ℕ → Bool) (level last : ℕ → ℕ) (late : Bool) (k : ℕ) (n : XanNode) → FitsLevels secret level late k n
    → AllByRecursion (λ (r : ℕ × ℕ). r.1 ≤ last r.0) (reads_of secret late (level k) n) → IsPlanned secret level last late k n
node_planned secret level last late k Zero fits reads = tt
node_planned secret level last late k One fits reads = tt
node_planned secret level last late k (Input i) fits reads = fits
node_planned secret level last late k (Q r) fits reads = fits
node_planned secret level last late k (Not a) fits reads = fits
node_planned secret level last late k (Xor a b) fits reads = ((fits.0, reads.0), (fits.1, reads.1.0))
node_planned secret level last late k (And a b) fits reads = both (secret a && secret b) fits reads
  where
    both : (s : Bool) → cond s ((2 ≤ level k) × (level (cond late a b) ≤ level k - 1) × (level (cond late b a) ≤ level k - 2)) ((level a ≤ level k) × (level b ≤ level k))
        → AllByRecursion (λ (r : ℕ × ℕ). r.1 ≤ last r.0) (cond s ((cond late a b, level k - 1) ∷ (cond late b a, level k - 2) ∷ []) ((a, level k) ∷ (b, level k) ∷ []))
        → cond s ((2 ≤ level k) × Within level last (cond late a b) (level k - 1) × Within level last (cond late b a) (level k - 2)) (Within level last a (level k) × Within level last b (level k))
    both true f r = (f.0, (f.1, r.0), (f.2, r.1.0))
    both false f r = ((f.0, r.0), (f.1, r.1.0))

module _ (nodes : List XanNode) (sinks : List ℕ) (layout : Layout) (depth : ℕ) (reached : AreReached nodes sinks layout.secret layout.levels layout.late_first depth (last_at layout)) where
  pub laid_out : (inputs registers : List Bool) → length layout.secret ≡ length nodes → length layout.levels ≡ length nodes → length layout.lasts ≡ length nodes → length layout.late_first ≡ length nodes
      → ((k : ℕ) (n : XanNode) → slice_get nodes k ≡ Some n → secret_at layout k ≡ node_kind (flag_at inputs) (flag_at registers) (secret_at layout) n)
      → ((k : ℕ) (n : XanNode) → slice_get nodes k ≡ Some n → IsTrue (has_source (length inputs) (length registers) n))
      → ((k : ℕ) (n : XanNode) → slice_get nodes k ≡ Some n → FitsLevels (secret_at layout) (first_at layout) (late_at layout k) k n) → IsLayout nodes inputs registers layout
  laid_out inputs registers a b c d kinds sourced fits = record {
    one_secret_each = a;
    one_level_each = b;
    one_last_each = c;
    one_choice_each = d;
    kinds = kinds;
    sourced = sourced;
    planned = λ k n at. node_planned (secret_at layout) (first_at layout) (last_at layout) (late_at layout k) k n (fits k n at) (reached.reads k n at);
    in_order = λ k lt. reached.begins k;
  }

  -- sinks that are nodes, at levels up to the depth, are carried to it
  pub reach_depth : ((j : ℕ) → j < length sinks → (node_at sinks j < length nodes) × (first_at layout (node_at sinks j) ≤ depth)) → ReachDepth nodes layout depth sinks
  reach_depth known j lt = (let at = known j lt in (at.0, at.1, reached.ends j lt))
