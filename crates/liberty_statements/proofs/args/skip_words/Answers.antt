use Rattle.std.proofs.Common.{sym, ap, ◌∙◌}
use Rattle.std.proofs.lemmas.Result.{err_from_is_err_and}
use Rattle.liberty_text.specs.Tokens.{tokens_of}
use Rattle.liberty_statements.specs.Reading.{behind, begins, colon_word_at, words_at}
use Rattle.liberty_statements.proofs.Less.{colon_word_less}
use Rattle.liberty_statements.proofs.Many.{over_go, over_off, over_fails, fails_behind, fails_moved}
use Rattle.liberty_statements.proofs.args.skip_words.Goals as goal

pub returns-in_err-behind : goal.returns-in_err-behind
returns-in_err-behind c =
    let p = err_from_is_err_and c.from_residual.result c.from_residual.ensures.1 in
    rw (p.1, p.2) (fails_moved c.in_err-behind.field-0.0 (behind (words_at (tokens_of c.loop-rest.rest.now))) (behind (words_at (tokens_of c.args.text.now))) c.loop-rest.invariant
    (over_fails c.in_err-behind.field-0.0 (begins 58) colon_word_at colon_word_less (tokens_of c.loop-rest.rest.now) (sym c.begins.ensures ∙ c.loop-rest-test.true) (fails_behind c.in_err-behind.field-0.0 (colon_word_at (tokens_of c.loop-rest.rest.now)) c.in_err-behind.ensures)))

pub loop-rest-smaller : goal.loop-rest-smaller
loop-rest-smaller c = colon_word_less (tokens_of c.loop-rest.rest.now) _ c.in_ok-behind.ensures

pub loop-rest-preserved : goal.loop-rest-preserved
loop-rest-preserved c =
    over_go (begins 58) colon_word_at colon_word_less (tokens_of c.loop-rest.rest.now) (tokens_of c.in_ok-behind.behind.now) (sym c.begins.ensures ∙ c.loop-rest-test.true) (ap behind c.in_ok-behind.ensures) ∙ c.loop-rest.invariant

pub returns : goal.returns
returns c = sym c.loop-rest.invariant ∙ over_off (begins 58) colon_word_at colon_word_less (tokens_of c.loop-rest.rest.now) (sym c.begins.ensures ∙ c.loop-rest-test.false)
