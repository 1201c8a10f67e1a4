use Rattle.std.proofs.Common.{sym, ap, ◌∙◌, not}
use Rattle.std.proofs.lemmas.Result.{err_from_is_err_and}
use Rattle.liberty_text.specs.Tokens.{tokens_of}
use Rattle.liberty_statements.specs.Reading.{behind, until, piece_at, next_pieces_at}
use Rattle.liberty_statements.proofs.Less.{piece_less}
use Rattle.liberty_statements.proofs.Many.{over_go, over_off, over_fails, over_less, fails_moved}
use Rattle.liberty_statements.proofs.values.skip_more.Goals as goal

pub returns-in_err-left : goal.returns-in_err-left
returns-in_err-left c =
    let p = err_from_is_err_and c.from_residual.result c.from_residual.ensures.1 in
    rw (p.1, p.2) (fails_moved c.in_err-left.field-0.0 (behind (next_pieces_at (tokens_of c.loop-left.left.now))) (behind (next_pieces_at (tokens_of c.args.rest.now))) c.loop-left.invariant
    (over_fails c.in_err-left.field-0.0 (until 59) piece_at piece_less (tokens_of c.loop-left.left.now) (ap not (sym c.begins.ensures ∙ c.loop-left-test.true)) c.in_err-left.ensures))

pub loop-left-smaller : goal.loop-left-smaller
loop-left-smaller c = over_less piece_at piece_less (tokens_of c.loop-left.left.now) (tokens_of c.in_ok-left.left.now) c.in_ok-left.ensures

pub loop-left-preserved : goal.loop-left-preserved
loop-left-preserved c =
    over_go (until 59) piece_at piece_less (tokens_of c.loop-left.left.now) (tokens_of c.in_ok-left.left.now) (ap not (sym c.begins.ensures ∙ c.loop-left-test.true)) c.in_ok-left.ensures ∙ c.loop-left.invariant

pub returns : goal.returns
returns c = sym c.loop-left.invariant ∙ over_off (until 59) piece_at piece_less (tokens_of c.loop-left.left.now) (ap not (sym c.begins.ensures ∙ c.loop-left-test.false))
