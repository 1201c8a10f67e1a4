use Rattle.std.proofs.Common.{◌≡◌, ◌+◌, ◌-◌, ◌++◌, ◌∷◌, [], ℕ, suc, map, refl, sym, ap, ap₂, ◌∙◌, arith}
use Rattle.std.proofs.lemmas.List.FromFn.{map-range_with_len_more}
use Rattle.std.specs.List.{range_with_len}
use Rattle.twin_tape.specs.Permitted.{grown, taken}
use Rattle.twin_tape.proofs.plan.stages_of.Goals as goal

pub loop-earlier-init : goal.loop-earlier-init
loop-earlier-init c =
    let known = c.in_ok-known.ensures c.args.cycles in
    record {
      known = known;
      stages = c.in_ok-push.ensures.ok ∙ ap₂ (λ xs k. xs ++ k ∷ []) c.new-stages.ensures (c.in_ok-from_slice.ensures ∙ (c.as_slice.ensures.value ∙ known));
    }

pub loop-earlier-preserved : goal.loop-earlier-preserved
loop-earlier-preserved c =
    let ss = c.args.sights.now in
    let A = c.args.indices.now in
    let T = c.args.cycles in
    let k = c.loop-earlier.earlier in
    let more : suc k ≡ k + 1 = omega arith in
    let known : c.grow.new.indices.items ≡ taken ss A T (k + 1) = c.in_ok-grow.ensures ∙ (ap (grown ss (T - k)) c.loop-earlier.invariant.known ∙ ap (taken ss A T) more) in
    record {
      known = known;
      stages = c.in_ok-push-2.ensures.ok
          ∙ (ap₂ (λ xs x. xs ++ x ∷ []) c.loop-earlier.invariant.stages (c.in_ok-from_slice-2.ensures ∙ (c.as_slice-in-loop-earlier.ensures.value ∙ known))
          ∙ sym (map-range_with_len_more (taken ss A T) 0 (k + 1) (k + 1) (omega arith)));
    }
