use Rattle.std.proofs.Common.{◌≡◌, [], length, take, ◌∙◌, ap, subst, arith}
use Rattle.std.proofs.Math.Seq.{take-length}
use Rattle.std.proofs.lemmas.List.{take_more}
use Rattle.pipeline_balance.specs.declared.values.Value.TheVariants.{Public}
use Rattle.pipeline_balance.specs.Valued.{is_secret}
use Rattle.pipeline_balance.specs.Chained.{value_at}
use Rattle.pipeline_balance.specs.Registered.{AreRegisters}
use Rattle.pipeline_balance.proofs.Sizes.{value_fits}
use Rattle.pipeline_balance.proofs.Registering.{holding_begins, holding_more}
use Rattle.pipeline_balance.proofs.registers.hold_registers.Goals as goal

pub held_like-requires : goal.held_like-requires
held_like-requires g c = (value_fits g.row.S c.requires.size.1, c.requires.size)

pub loop-k-init : goal.loop-k-init
loop-k-init g c = holding_begins g.row.S c.args.builder.now c.args.likes.now c.new-held.result c.new-held.ensures

pub loop-k-preserved : goal.loop-k-preserved
loop-k-preserved g c =
    let n = g.row.S in
    let like = value_at c.args.likes.now c.loop-k.k in
    holding_more n c.args.builder.now c.loop-k.builder c.held_like.new.builder c.args.likes.now c.loop-k.k c.loop-k.held c.in_ok-next.next c.loop-k.invariant
    c.in_ok-next.ensures.made c.in_ok-next.ensures.held c.in_ok-next.ensures.fresh c.push.new.self like c.in_ok-push.ensures.ok
    (take_more c.args.likes.now c.loop-k.k (Public (record { shares = [] })) c.loop-k-test.true)
    (c.in_ok-next.ensures.kind ∙ ap is_secret c.source_value-like.ensures)

pub returns-clause-registers : goal.returns-clause-registers
returns-clause-registers g c =
    let n = g.row.S in
    let no = c.loop-k-test.false in
    let le = c.loop-k.auto.k-end in
    let whole : c.loop-k.k ≡ length c.args.likes.now = omega (arith, no, le) in
    subst (λ xs. AreRegisters n c.loop-k.builder xs c.loop-k.held) (ap (λ k. take k c.args.likes.now) whole ∙ take-length c.args.likes.now) c.loop-k.invariant.registers
