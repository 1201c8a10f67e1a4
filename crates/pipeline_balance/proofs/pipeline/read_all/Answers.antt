use Rattle.std.proofs.Common.{◌≡◌, ◌++◌, ◌∷◌, [], length, length-append, sym, ap, subst, inl, inr, ◌∙◌, arith}
use Rattle.std.proofs.lemmas.Bool.{cases_lt}
use Rattle.pipeline_balance.specs.Chained.{value_at, at_level}
use Rattle.pipeline_balance.specs.Piped.{node_at}
use Rattle.pipeline_balance.proofs.Chaining.{value_front, value_last}
use Rattle.pipeline_balance.proofs.pipeline.read_all.Goals as goal

pub loop-j-preserved : goal.loop-j-preserved
loop-j-preserved g c =
    let xs = c.loop-j.values in
    let z = c.read-value.result in
    let is = c.in_ok-push.ensures.ok in
    let count = c.loop-j.invariant.0 in
    let len = ap length is ∙ length-append xs (z ∷ []) in (
      omega (arith, len, count),
      λ i lt. elim (cases_lt i c.loop-j.j) [
        | inl old ↦ ap (λ vs. value_at vs i) is ∙ (value_front xs z i (omega (arith, old, count)) ∙ c.loop-j.invariant.1 i old)
        | inr new ↦ (let here : i ≡ c.loop-j.j = omega (arith, lt, new) in
            subst (λ k. value_at c.push.new.self k ≡ at_level c.args.table.now (node_at c.args.nodes.now k) c.args.level) (sym here)
            (ap (λ vs. value_at vs c.loop-j.j) is ∙ (ap (value_at (xs ++ z ∷ [])) (sym count) ∙ (value_last xs z ∙ c.read-value.ensures))))
      ],
    )

pub returns-clause-one_each : goal.returns-clause-one_each
returns-clause-one_each g c =
    let no = c.loop-j-test.false in
    let le = c.loop-j.auto.j-end in
    let count = c.loop-j.invariant.0 in
    omega (arith, no, le, count)

pub returns-clause-read : goal.returns-clause-read
returns-clause-read g c j lt =
    let no = c.loop-j-test.false in
    let le = c.loop-j.auto.j-end in
    c.loop-j.invariant.1 j (omega (arith, no, le, lt))
