use Rattle.std.proofs.Common.{◌≡◌, ◌<◌, ◌≤◌, ◌+◌, ℕ, IfOk, Result, Ok, Err, sym, ap, ap₂, ◌∙◌, subst, filter}
use Rattle.std.specs.List.{All, range_with_len}
use Rattle.twin_tape.specs.Allowed.{allowed, label_at, stage_of}
use Rattle.twin_tape.specs.Permitted.{has, known, sights}
use Rattle.twin_tape.proofs.Stages.{stages_of, stages_within}
use Rattle.twin_tape.proofs.indices.allowed.Goals as goal

pub permitted_of-requires : goal.permitted_of-requires
permitted_of-requires c =
    stages_of (label_at c.args.labels.now) c.args.probes.now.probes _ _ c.requires.cycles
    (c.as_slice-2.ensures ∙ (c.in_ok-sights.ensures ∙ ap (sights (label_at c.args.labels.now)) c.as_slice.ensures))

on_ok : {X E : Type 0} (r : Result X E) (P Q : X → Type 0) → ((x : X) → P x → Q x) → IfOk r P → IfOk r Q
on_ok (Ok x) P Q f h = f x h
on_ok (Err e) P Q f h = tt

pub returns : goal.returns
returns c =
    let label = label_at c.args.labels.now in
    let ps = c.args.probes.now.probes in
    let A = c.args.probes.now.indices in
    let order = c.args.order in
    let ss = c.as_slice-2.result.now in
    let same : ss ≡ sights label ps = c.as_slice-2.ensures ∙ (c.in_ok-sights.ensures ∙ ap (sights label) c.as_slice.ensures) in
    on_ok c.ascending.result _ (λ is. (T : ℕ) → All (λ p. p.cycle < T) ps → is ≡ allowed order label ps A T)
    (λ is e T all. (
    let within : All (λ s. stage_of s ≤ T) ss = subst (λ ts. All (λ s. stage_of s ≤ T) ts) (sym same) (stages_within label ps T all) in
    let listed = c.in_ok-permitted.ensures T within in
    e ∙ ap (λ K. filter (has K) (range_with_len 0 (order + 1))) (c.as_slice-4.ensures.value ∙ (listed ∙ ap₂ (λ ts B. known ts B T 0) same c.as_slice-3.ensures))))
    c.ascending.ensures
