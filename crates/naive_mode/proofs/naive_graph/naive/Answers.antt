use Rattle.std.proofs.Common.{◌≡◌, ◌<◌, ◌∙◌, ℕ, List, Bool, length, map, refl, sym, ap, subst, All}
use Rattle.logic_graph.specs.declared.nodes.Node.{Node}
use Rattle.naive_mode.specs.declared.rows.Layout.{Layout}
use Rattle.naive_mode.specs.Rows.{AreLive, IsLaidOut, place_at}
use Rattle.naive_mode.proofs.MadeGraph.{in_order, sinks_fit, made}
use Rattle.naive_mode.proofs.naive_graph.naive.Goals as goal

lives_at : (nodes ns : List Node) (sinks ss : List ℕ) (flags : List Bool) → ns ≡ nodes → ss ≡ sinks → AreLive ns ss flags → AreLive nodes sinks flags
lives_at nodes ns sinks ss flags a b h = subst (λ x. AreLive x sinks flags) a (subst (λ x. AreLive ns x flags) b h)

out_at : (nodes ns : List Node) (flags fs : List Bool) (layout : Layout) → ns ≡ nodes → fs ≡ flags → IsLaidOut ns fs layout → IsLaidOut nodes flags layout
out_at nodes ns flags fs layout a b h = subst (λ x. IsLaidOut x flags layout) a (subst (λ x. IsLaidOut ns x layout) b h)

sinks_at : (sinks ss places ps them : List ℕ) → ss ≡ sinks → ps ≡ places → them ≡ map (place_at ps) ss → them ≡ map (place_at places) sinks
sinks_at sinks ss places ps them a b h = h ∙ (ap (λ x. map (place_at x) ss) b ∙ ap (map (place_at places)) a)

pub invariant_of-result : goal.invariant_of-result
invariant_of-result c =
    let graph = c.args.graph.now in
    let flags = c.in_ok-live.live in
    let layout = c.in_ok-nodes.field-0 in
    let lives = lives_at graph.nodes c.as_slice-nodes.result.now graph.sinks c.as_slice-sinks.result.now flags c.as_slice-nodes.ensures c.as_slice-sinks.ensures c.in_ok-live.ensures in
    let out = out_at graph.nodes c.as_slice-nodes.result.now flags c.as_slice.result.now layout c.as_slice-nodes.ensures c.as_slice.ensures c.in_ok-nodes.ensures in
    let sinks = sinks_at graph.sinks c.as_slice-sinks.result.now layout.places c.as_slice-2.result.now c.in_ok-sinks.sinks c.as_slice-sinks.ensures c.as_slice-2.ensures c.in_ok-sinks.ensures in
    record {
      in_order = in_order graph flags layout lives out;
      sinks_fit = subst (λ x. All (λ k. k < length layout.nodes) x) (sym sinks) (sinks_fit graph flags layout lives out);
    }

pub returns : goal.returns
returns c =
    let graph = c.args.graph.now in
    let flags = c.in_ok-live.live in
    let layout = c.in_ok-nodes.field-0 in
    let lives = lives_at graph.nodes c.as_slice-nodes.result.now graph.sinks c.as_slice-sinks.result.now flags c.as_slice-nodes.ensures c.as_slice-sinks.ensures c.in_ok-live.ensures in
    let out = out_at graph.nodes c.as_slice-nodes.result.now flags c.as_slice.result.now layout c.as_slice-nodes.ensures c.as_slice.ensures c.in_ok-nodes.ensures in
    let sinks = sinks_at graph.sinks c.as_slice-sinks.result.now layout.places c.as_slice-2.result.now c.in_ok-sinks.sinks c.as_slice-sinks.ensures c.as_slice-2.ensures c.in_ok-sinks.ensures in
    made graph flags layout lives out c.args.secrets.now c.requires _ refl sinks
