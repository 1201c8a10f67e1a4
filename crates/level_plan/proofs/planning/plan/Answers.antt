use Rattle.std.proofs.Common.{◌≡◌, ℕ, Bool, List, length, map, count_by, ap, ◌∙◌, subst}
use Rattle.logic_graph.specs.declared.nodes.XanNode.{XanNode}
use Rattle.logic_graph.specs.Settled.{bit_of}
use Rattle.secrecy_spread.specs.Levels.{depth_of}
use Rattle.secrecy_spread.specs.Costs.{is_gadget}
use Rattle.level_plan.specs.PlanOf.{level_at, is_late_first}
use Rattle.level_plan.proofs.Planned.{all_read, flags_at, levels_at, planned}
use Rattle.level_plan.proofs.planning.plan.Goals as goal

pub late_operands-requires-clause-in_order : goal.late_operands-requires-clause-in_order
late_operands-requires-clause-in_order c =
    all_read c.args.xan.now.nodes c.as_slice-nodes.result.now (length c.as_slice-5.result.now) c.as_slice-nodes.ensures (ap length c.as_slice-5.ensures ∙ (c.in_ok-levels.ensures.one_each ∙ ap length c.as_slice-nodes.ensures)) c.args.xan.now.in_order

pub gadgets-gadgets-requires : goal.gadgets-gadgets-requires
gadgets-gadgets-requires c =
    all_read c.args.xan.now.nodes c.as_slice-nodes.result.now (length c.as_slice-6.result.now) c.as_slice-nodes.ensures (ap length c.as_slice-6.ensures ∙ (c.in_ok-secret.ensures.one_each ∙ ap length c.as_slice-nodes.ensures)) c.args.xan.now.in_order

late_at : (nodes ns : List XanNode) (secret ss : List Bool) (levels ls : List ℕ) (late : List Bool) → ns ≡ nodes → ss ≡ secret → ls ≡ levels → late ≡ map (is_late_first (bit_of ss) (level_at ls)) ns → late ≡ map (is_late_first (bit_of secret) (level_at levels)) nodes
late_at nodes ns secret ss levels ls late a b c h =
    subst (λ x. late ≡ map (is_late_first (bit_of secret) (level_at levels)) x) a (subst (λ x. late ≡ map (is_late_first (bit_of x) (level_at levels)) ns) b (subst (λ x. late ≡ map (is_late_first (bit_of ss) (level_at x)) ns) c h))

count_at : (nodes ns : List XanNode) (secret ss : List Bool) (n : ℕ) → ns ≡ nodes → ss ≡ secret → n ≡ count_by (is_gadget (bit_of ss)) ns → n ≡ count_by (is_gadget (bit_of secret)) nodes
count_at nodes ns secret ss n a b h = subst (λ x. n ≡ count_by (is_gadget (bit_of secret)) x) a (subst (λ x. n ≡ count_by (is_gadget (bit_of x)) ns) b h)

depth_at : (sinks ks : List ℕ) (secret ss : List Bool) (levels ls : List ℕ) (n : ℕ) → ks ≡ sinks → ss ≡ secret → ls ≡ levels → n ≡ depth_of (bit_of ss) (level_at ls) ks → n ≡ depth_of (bit_of secret) (level_at levels) sinks
depth_at sinks ks secret ss levels ls n a b c h =
    subst (λ x. n ≡ depth_of (bit_of secret) (level_at levels) x) a (subst (λ x. n ≡ depth_of (bit_of x) (level_at levels) ks) b (subst (λ x. n ≡ depth_of (bit_of ss) (level_at x) ks) c h))

pub returns : goal.returns
returns c =
    let xan = c.args.xan.now in
    let s = c.args.secrets.now in
    let secret = c.in_ok-secret.secret in
    let levels = c.in_ok-levels.levels in
    let ns = c.as_slice-nodes.ensures in
    planned xan s (record { secret = secret; levels = levels; late_first = c.in_ok-late_first.late_first; gadgets = c.gadgets-gadgets.result; depth = c.depth-depth.result })
    (flags_at xan.nodes c.as_slice-nodes.result.now s.inputs c.as_slice.result.now s.registers c.as_slice-2.result.now secret ns c.as_slice.ensures c.as_slice-2.ensures c.in_ok-secret.ensures)
    (levels_at xan.nodes c.as_slice-nodes.result.now secret c.as_slice-3.result.now levels ns c.as_slice-3.ensures c.in_ok-levels.ensures)
    (late_at xan.nodes c.as_slice-nodes.result.now secret c.as_slice-4.result.now levels c.as_slice-5.result.now c.in_ok-late_first.late_first ns c.as_slice-4.ensures c.as_slice-5.ensures c.in_ok-late_first.ensures)
    (count_at xan.nodes c.as_slice-nodes.result.now secret c.as_slice-6.result.now c.gadgets-gadgets.result ns c.as_slice-6.ensures c.gadgets-gadgets.ensures)
    (depth_at xan.sinks c.as_slice-7.result.now secret c.as_slice-8.result.now levels c.as_slice-9.result.now c.depth-depth.result c.as_slice-7.ensures c.as_slice-8.ensures c.as_slice-9.ensures c.depth-depth.ensures)
