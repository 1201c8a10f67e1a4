use Rattle.std.proofs.Common.{◌≡◌, ◌<◌, [], length, get_or, arith, sym, ap, ◌∙◌, subst, below_more, eq-eqb, refl, IsTrue, ◌==◌}
use Rattle.std.proofs.lemmas.Option.{slice_get-get_or, get_or_from_slice_get, slice_get_within}
use Rattle.std.proofs.lemmas.Bool.{eqb-true}
use Rattle.std.specs.List.{AllByRecursion}
use Rattle.logic_graph.specs.Settled.{bit_of}
use Rattle.agm_net.proofs.Lists.{any_at, place_of_any}
use Rattle.secrecy_spread.specs.Reach.{state, State, noted, is_among, IsSpreading}
use Rattle.secrecy_spread.proofs.Reaching.{noted_spreads, noted_grows, noted_marks}
use Rattle.secrecy_spread.proofs.reach.started.Goals as goal

pub loop-vertex-preserved : goal.loop-vertex-preserved
loop-vertex-preserved c =
    let starts = c.args.starts.now in
    let j = c.loop-vertex.vertex-index in
    let inv = c.loop-vertex.invariant in
    let v = get_or starts j 0 in
    let lt : j < length starts = c.loop-vertex-test.true in
    let long = inv.as_many in
    let small = c.requires j 0 lt in
    let fits : v < length c.loop-vertex.spreading.marked.items = omega arith in
    let is = c.in_ok-mark.ensures in
    let s = state c.loop-vertex.spreading in
    let t = state c.mark.new.self in
    let grows = noted_grows s v fits in
    let among : IsTrue (is_among starts v) = any_at (λ u. u == v) starts j v (slice_get-get_or starts j 0 lt) (eq-eqb v v refl) in
    record {
      as_many = ap (λ (u : State). length u.marked) is ∙ grows.as_many ∙ long;
      within = (
          let was : AllByRecursion (λ w. w < length s.marked) s.waiting = subst (λ n. AllByRecursion (λ w. w < n) s.waiting) (sym long) inv.within in
          let now = grows.within was in
          subst (λ (u : State). AllByRecursion (λ w. w < c.args.n) u.waiting) (sym is) (subst (λ n. AllByRecursion (λ w. w < n) (noted s v).waiting) (grows.as_many ∙ long) now));
      kept = below_more (λ k. IsTrue (bit_of t.marked (get_or starts k 0))) j
          (λ k h. ap (λ (u : State). bit_of u.marked (get_or starts k 0)) is ∙ grows.kept (get_or starts k 0) (inv.kept k h))
          (ap (λ (u : State). bit_of u.marked v) is ∙ noted_marks s v fits);
      spreads = λ edges. subst (λ u. IsSpreading edges starts u 0 0) (sym is) (noted_spreads edges starts s 0 0 v fits ([], tt, among) (inv.spreads edges));
    }

pub returns : goal.returns
returns c =
    let starts = c.args.starts.now in
    let inv = c.loop-vertex.invariant in
    record {
      as_many = inv.as_many;
      within = inv.within;
      kept = λ w h. (
          let found = place_of_any (λ u. u == w) starts h in
          let same : found.1 ≡ w = eqb-true found.1 w found.3 in
          let at : get_or starts found.0 0 ≡ found.1 = get_or_from_slice_get starts found.0 found.1 0 found.2 in
          let lt = slice_get_within starts found.0 found.1 found.2 in
          let done = c.loop-vertex-test.false in
          sym (ap (bit_of c.loop-vertex.spreading.marked.items) (at ∙ same)) ∙ inv.kept found.0 (omega arith));
      spreads = inv.spreads;
    }
