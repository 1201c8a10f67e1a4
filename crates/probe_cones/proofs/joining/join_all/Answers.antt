use Rattle.std.proofs.Common.{◌++◌, ◌∷◌, [], ap₂, sym, ◌∙◌, arith, subst, ◌<◌}
use Rattle.std.proofs.lemmas.List.{get_or_read}
use Rattle.std.proofs.lemmas.List.FromFn.{map-range_with_len_more}
use Rattle.agm_net.specs.Trace.{row_at}
use Rattle.probe_cones.specs.Observing.{joined_by}
use Rattle.probe_cones.proofs.joining.join_all.Goals as goal

pub loop-t-preserved : goal.loop-t-preserved
loop-t-preserved c =
    let t = c.loop-t.t in
    let flags = c.args.flags.now in
    let inputs = c.args.inputs.now in
    let random = c.args.random.now in
    let lt = c.loop-t-test.true in
    c.in_ok-push.ensures.ok
    ∙ (ap₂ (λ rows row. rows ++ row ∷ []) c.loop-t.invariant
    (c.in_ok-join.ensures ∙ ap₂ (joined_by flags) (get_or_read inputs t c.index-inputs-t.result lt c.index-inputs-t.is [])
    (get_or_read random t c.index-random-t.result (subst (λ n. t < n) c.requires lt) c.index-random-t.is []))
    ∙ sym (map-range_with_len_more (λ u. joined_by flags (row_at inputs u) (row_at random u)) 0 t t (omega arith)))
