use Rattle.std.proofs.Common.{sym, ap, ◌∙◌, not}
use Rattle.std.proofs.lemmas.Result.{err_from_is_err_and}
use Rattle.liberty_text.specs.Tokens.{tokens_of}
use Rattle.liberty_statements.specs.Reading.{behind, until, next_arg_at, next_args_at}
use Rattle.liberty_statements.proofs.Less.{next_arg_less}
use Rattle.liberty_statements.proofs.Many.{over_go, over_off, over_fails, over_less, fails_moved}
use Rattle.liberty_statements.proofs.NextArg.{next_behind, next_fails}
use Rattle.liberty_statements.proofs.args.skip_more.Goals as goal

pub returns-in_err-rest : goal.returns-in_err-rest
returns-in_err-rest c =
    let p = err_from_is_err_and c.from_residual.result c.from_residual.ensures.1 in
    rw (p.1, p.2) (fails_moved c.in_err-rest.field-0.0 (behind (next_args_at (tokens_of c.loop-rest.rest.now))) (behind (next_args_at (tokens_of c.args.text.now))) c.loop-rest.invariant
    (over_fails c.in_err-rest.field-0.0 (until 41) next_arg_at next_arg_less (tokens_of c.loop-rest.rest.now) (ap not (sym c.begins.ensures ∙ c.loop-rest-test.true))
    (next_fails c.in_err-rest.field-0.0 (tokens_of c.loop-rest.rest.now) (tokens_of c.behind_comma.result.now) c.behind_comma.ensures c.in_err-rest.ensures)))

pub loop-rest-smaller : goal.loop-rest-smaller
loop-rest-smaller c =
    over_less next_arg_at next_arg_less (tokens_of c.loop-rest.rest.now) (tokens_of c.in_ok-rest.rest.now)
    (next_behind (tokens_of c.loop-rest.rest.now) (tokens_of c.behind_comma.result.now) (tokens_of c.in_ok-rest.rest.now) c.behind_comma.ensures c.in_ok-rest.ensures)

pub loop-rest-preserved : goal.loop-rest-preserved
loop-rest-preserved c =
    over_go (until 41) next_arg_at next_arg_less (tokens_of c.loop-rest.rest.now) (tokens_of c.in_ok-rest.rest.now) (ap not (sym c.begins.ensures ∙ c.loop-rest-test.true))
    (next_behind (tokens_of c.loop-rest.rest.now) (tokens_of c.behind_comma.result.now) (tokens_of c.in_ok-rest.rest.now) c.behind_comma.ensures c.in_ok-rest.ensures)
    ∙ c.loop-rest.invariant

pub returns : goal.returns
returns c = sym c.loop-rest.invariant ∙ over_off (until 41) next_arg_at next_arg_less (tokens_of c.loop-rest.rest.now) (ap not (sym c.begins.ensures ∙ c.loop-rest-test.false))
