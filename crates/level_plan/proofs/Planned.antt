-- What the passes give is the plan.
use Rattle.std.proofs.Common.{◌≡◌, ◌≤◌, ℕ, zero, suc, Bool, List, [], ◌∷◌, length, map, count_by, slice_get, get_or, Some, IsTrue, All, sym, ap, ◌∙◌, subst, arith}
use Rattle.std.proofs.lemmas.List.{length-map}
use Rattle.std.proofs.lemmas.Option.{slice_get-get_or}
use Rattle.logic_graph.specs.declared.nodes.XanNode.{XanNode}
use Rattle.logic_graph.specs.declared.graphs.Xan.{Xan}
use Rattle.logic_graph.specs.Nodes.{xan_reads_before}
use Rattle.logic_graph.specs.Settled.{bit_of}
use Rattle.secrecy_spread.specs.declared.secrets.Secrets.{Secrets}
use Rattle.secrecy_spread.specs.Levels.{depth_of}
use Rattle.secrecy_spread.specs.Costs.{is_gadget}
use Rattle.level_plan.specs.declared.plans.Plan.{Plan}
use Rattle.level_plan.specs.PlanOf.{PlanOf, level_at, is_late_first}
use Rattle.level_plan.specs.Passes.{AreFlags, AreLevels}
use Rattle.level_plan.proofs.Passed.{reads_later}
use Rattle.level_plan.proofs.Least.{depth_least}

image_bit : {X : Type 0} (f : X → Bool) (xs : List X) (i : ℕ) (x : X) → slice_get xs i ≡ Some x → bit_of (map f xs) i ≡ f x
image_bit f [] i x h = absurd (cc)
image_bit f (y ∷ ys) zero x h = let e : y ≡ x = cc in ap f e
image_bit f (y ∷ ys) (suc i) x h = image_bit f ys i x h

-- nodes have their operands among all nodes
pub all_read : (nodes slice : List XanNode) (n : ℕ) → slice ≡ nodes → n ≡ length nodes → ((k : ℕ) (m : XanNode) → slice_get nodes k ≡ Some m → IsTrue (xan_reads_before k m)) → All (λ m. IsTrue (xan_reads_before n m)) slice
all_read nodes slice n is long order k d lt =
    let at : slice_get nodes k ≡ Some (get_or slice k d) = sym (ap (λ ns. slice_get ns k) is) ∙ slice_get-get_or slice k d lt in
    let many = ap length is in
    reads_later k n (get_or slice k d) (omega arith) (order k (get_or slice k d) at)

pub flags_at : (nodes ns : List XanNode) (inputs is registers rs flags : List Bool) → ns ≡ nodes → is ≡ inputs → rs ≡ registers → AreFlags ns is rs flags → AreFlags nodes inputs registers flags
flags_at nodes ns inputs is registers rs flags a b c h = subst (λ x. AreFlags x inputs registers flags) a (subst (λ x. AreFlags ns x registers flags) b (subst (λ x. AreFlags ns is x flags) c h))

pub levels_at : (nodes ns : List XanNode) (secret ss : List Bool) (levels : List ℕ) → ns ≡ nodes → ss ≡ secret → AreLevels ns ss levels → AreLevels nodes secret levels
levels_at nodes ns secret ss levels a b h = subst (λ x. AreLevels x secret levels) a (subst (λ x. AreLevels ns x levels) b h)

pub planned : (xan : Xan) (s : Secrets) (plan : Plan) → AreFlags xan.nodes s.inputs s.registers plan.secret → AreLevels xan.nodes plan.secret plan.levels
    → plan.late_first ≡ map (is_late_first (bit_of plan.secret) (level_at plan.levels)) xan.nodes → plan.gadgets ≡ count_by (is_gadget (bit_of plan.secret)) xan.nodes
    → plan.depth ≡ depth_of (bit_of plan.secret) (level_at plan.levels) xan.sinks → PlanOf xan s plan
planned xan s plan flags levels late gadgets depth = record {
  one_flag_each = flags.one_each;
  secret = flags.tells;
  one_level_each = levels.one_each;
  levels = levels.tells;
  one_choice_each = ap length late ∙ length-map xan.nodes (is_late_first (bit_of plan.secret) (level_at plan.levels));
  late = λ k n at. ap (λ row. bit_of row k) late ∙ image_bit (is_late_first (bit_of plan.secret) (level_at plan.levels)) xan.nodes k n at;
  gadgets = gadgets;
  depth = depth;
  least = λ first level chosen. (
      let le = depth_least xan.nodes xan.sinks (bit_of plan.secret) first (level_at plan.levels) level xan.in_order xan.sinks_fit levels.tells chosen in
      subst (λ d. d ≤ depth_of (bit_of plan.secret) level xan.sinks) (sym depth) le);
}
