use Rattle.std.proofs.Common.{◌≡◌, ◌<◌, ◌≤◌, ◌+◌, ◌*◌, ◌-◌, ◌/◌, ◌^◌, ◌∙◌, ◌&&◌, length, sym, subst, subst₂, ap₂, arith}
use Rattle.share_wiring.specs.Adds.{random_bits}
use Rattle.hpc2_gadget.proofs.Sizes.{array_fits}
use Rattle.pipeline_balance.proofs.Making.{behind, so, still}
use Rattle.pipeline_balance.proofs.Adding.{value_still}
use Rattle.pipeline_balance.proofs.Sizes.{value_fits}
use Rattle.pipeline_balance.proofs.values.gadget.Goals as goal

pub secret_of-requires-2 : goal.secret_of-requires-2
secret_of-requires-2 g c =
    let n = g.row.S in
    let two = c.requires.size.0 in
    (value_fits n c.requires.size.1, (array_fits n c.requires.size.1, ((omega arith, c.requires.size.1), value_still n _ _ c.args.early.now c.in_ok-x.ensures.extends c.requires.right)))

pub multiply-requires : goal.multiply-requires
multiply-requires g c =
    let n = g.row.S in
    let late = c.in_ok-x.ensures in
    let early = c.in_ok-y.ensures in
    let given_late = late.given in
    let given_early = early.given in
    let begun_late = late.begun in
    let begun_early = early.begun in
    let given : c.args.builder.now.given ≡ c.secret_of-2.new.builder.given = omega arith in
    let begun : c.args.builder.now.gadgets ≡ c.secret_of-2.new.builder.gadgets = omega arith in
    let random = subst₂ (λ given ports. given + n * (n - 1) / 2 ≤ length (random_bits ports)) given (sym (early.ports ∙ late.ports)) c.requires.random in
    let gadgets = subst (λ k. k < 2 ^ 32) begun c.requires.gadgets in
    (array_fits n c.requires.size.1, (still n _ _ c.in_ok-x.x.shares early.extends late.shares, (early.shares, (c.requires.size, (random, gadgets)))))

pub returns-clause-made : goal.returns-clause-made
returns-clause-made g c =
    let n = g.row.S in
    let d = c.in_ok-answer.ensures in
    so n _ _ _ _ _ _ _
    (λ cycles bits f t lt. f.1.1 t lt ∙ ap₂ (λ a b. a && b) (f.0 (t + 1) (omega arith)) (f.1.0 t (omega arith)))
    (behind n n _ _ _ _ _ _ _ _ _ c.in_ok-x.ensures (behind n n _ _ _ _ _ _ _ _ _ c.in_ok-y.ensures
    (record { extends = d.extends; ports = d.ports; begun = d.gadgets; given = d.given; sound = λ h. record { cells = d.cells h.cells; network = d.network h.network }; shares = d.shares; value = d.product })))
