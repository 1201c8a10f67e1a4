use Rattle.std.proofs.Common.{◌≡◌, ◌-◌, ◌+◌, suc, sym, ap, ◌∙◌, arith}
use Rattle.std.proofs.lemmas.Result.{err_from_is_err_and}
use Rattle.liberty_text.specs.Tokens.{tokens_of}
use Rattle.liberty_statements.specs.Reading.{behind, body_at}
use Rattle.liberty_statements.proofs.Many.{fails_moved}
use Rattle.liberty_statements.proofs.Steps.{body_none}
use Rattle.liberty_statements.proofs.Closes.{closes, closes_first}
use Rattle.liberty_statements.proofs.Heads.{head_less}
use Rattle.liberty_statements.proofs.Skips.{skip_over, skip_open, skip_deep, skip_fails, skip_last, skip_one}
use Rattle.liberty_statements.proofs.group.skip_group.Goals as goal

pub returns-then-depth-eq0 : goal.returns-then-depth-eq0
returns-then-depth-eq0 c = ap behind (body_none c.args.depth (tokens_of c.args.text.now) (omega arith))

pub loop-rest-init : goal.loop-rest-init
loop-rest-init c = (closes_first c.args.depth (c.args.depth - 1) (tokens_of c.args.text.now) (omega arith), omega arith)

pub returns-then-free-depth : goal.returns-then-free-depth
returns-then-free-depth c =
    sym c.loop-rest.invariant.0
    ∙ skip_last (c.args.depth - c.loop-rest.free) c.loop-rest.free (tokens_of c.loop-rest.rest.now) (tokens_of c.in_ok-behind.behind.now) (omega arith) c.in_ok-behind.ensures

pub loop-rest-preserved-then-begins : goal.loop-rest-preserved-then-begins
loop-rest-preserved-then-begins c =
    let next : c.loop-rest.free + 1 ≡ suc c.loop-rest.free = omega arith in (
      ap (λ i. closes (c.args.depth - (c.loop-rest.free + 1)) i (tokens_of c.ended-rest.result.now)) next
          ∙ (ap (closes (c.args.depth - (c.loop-rest.free + 1)) (suc c.loop-rest.free)) c.ended-rest.ensures
          ∙ (skip_one (c.args.depth - c.loop-rest.free) (c.args.depth - c.loop-rest.free - 2) c.loop-rest.free (c.args.depth - (c.loop-rest.free + 1)) (tokens_of c.loop-rest.rest.now) (tokens_of c.in_ok-behind.behind.now) (omega arith) (omega arith) c.in_ok-behind.ensures
          ∙ c.loop-rest.invariant.0)),
      omega arith,
    )

pub returns-in_err-is_group : goal.returns-in_err-is_group
returns-in_err-is_group c =
    let p = err_from_is_err_and c.from_residual-in_err-is_group.result c.from_residual-in_err-is_group.ensures.1 in
    rw (p.1, p.2) (fails_moved c.in_err-is_group.field-0.0 (closes (c.args.depth - c.loop-rest.free) c.loop-rest.free (tokens_of c.loop-rest.rest.now)) (behind (body_at c.args.depth (tokens_of c.args.text.now))) c.loop-rest.invariant.0
    (skip_fails c.in_err-is_group.field-0.0 (c.args.depth - c.loop-rest.free) (c.args.depth - c.loop-rest.free - 1) c.loop-rest.free (tokens_of c.loop-rest.rest.now) (omega arith) (sym c.begins.ensures ∙ c.if-begins.false) c.in_err-is_group.ensures))

pub returns-then-free-eq0 : goal.returns-then-free-eq0
returns-then-free-eq0 c =
    sym c.loop-rest.invariant.0
    ∙ skip_deep (c.args.depth - c.loop-rest.free) (c.args.depth - c.loop-rest.free - 1) c.loop-rest.free (tokens_of c.loop-rest.rest.now) (tokens_of c.in_ok-is_group.behind.now) c.in_ok-is_group.is_group (omega arith) (omega arith) (sym c.begins.ensures ∙ c.if-begins.false) c.in_ok-is_group.ensures c.if-is_group.true

pub loop-rest-smaller-else-free-eq0 : goal.loop-rest-smaller-else-free-eq0
loop-rest-smaller-else-free-eq0 c = head_less (tokens_of c.loop-rest.rest.now) (c.in_ok-is_group.is_group, tokens_of c.in_ok-is_group.behind.now) c.in_ok-is_group.ensures

pub loop-rest-preserved-else-free-eq0 : goal.loop-rest-preserved-else-free-eq0
loop-rest-preserved-else-free-eq0 c = (
  skip_open (c.args.depth - c.loop-rest.free) (c.args.depth - c.loop-rest.free - 1) c.loop-rest.free (c.loop-rest.free - 1) (c.args.depth - (c.loop-rest.free - 1)) (tokens_of c.loop-rest.rest.now) (tokens_of c.in_ok-is_group.behind.now) c.in_ok-is_group.is_group (omega arith) (omega arith) (omega arith) (sym c.begins.ensures ∙ c.if-begins.false) c.in_ok-is_group.ensures c.if-is_group.true
      ∙ c.loop-rest.invariant.0,
  omega arith,
)

pub loop-rest-smaller : goal.loop-rest-smaller
loop-rest-smaller c = head_less (tokens_of c.loop-rest.rest.now) (c.in_ok-is_group.is_group, tokens_of c.in_ok-is_group.behind.now) c.in_ok-is_group.ensures

pub loop-rest-preserved : goal.loop-rest-preserved
loop-rest-preserved c = (
  skip_over (c.args.depth - c.loop-rest.free) (c.args.depth - c.loop-rest.free - 1) c.loop-rest.free (tokens_of c.loop-rest.rest.now) (tokens_of c.in_ok-is_group.behind.now) c.in_ok-is_group.is_group (omega arith) (sym c.begins.ensures ∙ c.if-begins.false) c.in_ok-is_group.ensures c.if-is_group.false
      ∙ c.loop-rest.invariant.0,
  omega arith,
)
