use Rattle.std.proofs.Common.{sym, ◌∙◌, arith}
use Rattle.pipeline_balance.specs.Chained.{value_at}
use Rattle.pipeline_balance.proofs.Sizes.{value_fits}
use Rattle.pipeline_balance.proofs.Registering.{value_goes, same_kind, closed_begins, closed_read}
use Rattle.pipeline_balance.proofs.registers.close_registers.Goals as goal

pub close_register-requires : goal.close_register-requires
close_register-requires g c =
    let n = g.row.S in
    let k = c.loop-k.k in
    let lt = c.loop-k-test.true in
    let each = c.requires.each in
    let goes = c.loop-k.invariant.goes in
    rw (c.source_value-first.ensures, c.source_value-register.ensures, c.source_value-next.ensures) (
      value_fits n c.requires.size.1,
      (
        goes.publics c.args.load c.requires.load,
        (
          value_goes n _ _ _ (value_at c.args.firsts.now k) goes (c.requires.firsts k (omega (arith, lt, each))),
          (
            c.loop-k.invariant.open_ones k (omega arith) lt,
            (
              value_goes n _ _ _ (value_at c.args.nexts.now k) goes (c.requires.nexts k (omega (arith, lt, each))),
              (
                (λ public. (sym (same_kind n _ c.args.firsts.now c.args.registers.now k c.requires.registers) ∙ public, c.requires.public k lt public)),
                c.requires.size,
              ),
            ),
          ),
        ),
      ),
    )

pub loop-k-init : goal.loop-k-init
loop-k-init g c = closed_begins g.row.S c.args.builder.now c.args.builder.now c.args.load c.args.firsts.now c.args.registers.now c.args.nexts.now c.requires.held

pub loop-k-preserved : goal.loop-k-preserved
loop-k-preserved g c =
    closed_read g.row.S c.args.builder.now c.loop-k.builder c.args.load c.args.firsts.now c.args.registers.now c.args.nexts.now c.close_register.new.builder c.loop-k.k
    c.source_value-first.result c.source_value-register.result c.source_value-next.result c.source_value-first.ensures c.source_value-register.ensures c.source_value-next.ensures
    c.requires.registers c.loop-k-test.true c.loop-k.invariant c.in_ok-close_register.ensures.goes c.in_ok-close_register.ensures.others
