use Rattle.std.proofs.Common.{◌≡◌, ◌++◌, ◌∷◌, [], ℕ, List, sym, ap, ◌∙◌, append_assoc, append-nil}
use Rattle.std.proofs.lemmas.Result.{err_from_is_err_and}
use Rattle.liberty_text.specs.Tokens.{tokens_of}
use Rattle.liberty_statements.specs.Grammar.{colon_words}
use Rattle.liberty_statements.specs.Reading.{as_value, begins, colon_word_at, words_at}
use Rattle.liberty_statements.proofs.Less.{colon_word_less}
use Rattle.liberty_statements.proofs.Many.{keep_go, keep_off, keep_fails, fails_moved, hit}
use Rattle.liberty_statements.proofs.args.more_words.Goals as goal

joined_more : (name word more joined : List ℕ) → joined ≡ (name ++ 58 ∷ []) ++ word → joined ++ more ≡ name ++ 58 ∷ (word ++ more)
joined_more name word more joined e =
    ap (λ (w : List ℕ). w ++ more) e ∙ (append_assoc (name ++ 58 ∷ []) word more ∙ append_assoc name (58 ∷ []) (word ++ more))

pub returns-in_err-word : goal.returns-in_err-word
returns-in_err-word c =
    let p = err_from_is_err_and c.from_residual.result c.from_residual.ensures.1 in
    rw (p.1, p.2) (fails_moved c.in_err-word.field-0.0 (as_value (λ ws. c.loop-rest.joined ++ colon_words ws) (words_at (tokens_of c.loop-rest.rest.now))) (as_value (λ ws. c.args.name ++ colon_words ws) (words_at (tokens_of c.args.text.now))) c.loop-rest.invariant
    (keep_fails c.in_err-word.field-0.0 (begins 58) colon_word_at colon_word_less (λ ws. c.loop-rest.joined ++ colon_words ws) (tokens_of c.loop-rest.rest.now) (sym c.begins.ensures ∙ c.loop-rest-test.true) c.in_err-word.ensures))

pub loop-rest-smaller : goal.loop-rest-smaller
loop-rest-smaller c = colon_word_less (tokens_of c.loop-rest.rest.now) _ c.in_ok-word.ensures

pub loop-rest-preserved : goal.loop-rest-preserved
loop-rest-preserved c =
    let new : c.extend.new.self ≡ (c.loop-rest.joined ++ 58 ∷ []) ++ c.in_ok-word.word.now = cc (c.in_ok-extend.ensures.ok, c.in_ok-push.ensures.ok) in
    keep_go (begins 58) colon_word_at colon_word_less (λ ws. c.loop-rest.joined ++ colon_words ws) (λ ws. c.extend.new.self ++ colon_words ws) (tokens_of c.loop-rest.rest.now) (c.in_ok-word.word.now, tokens_of c.in_ok-word.behind.now) (sym c.begins.ensures ∙ c.loop-rest-test.true) c.in_ok-word.ensures
    (λ ws. joined_more c.loop-rest.joined c.in_ok-word.word.now (colon_words ws) c.extend.new.self new)
    ∙ c.loop-rest.invariant

pub returns : goal.returns
returns c =
    sym c.loop-rest.invariant
    ∙ (keep_off (begins 58) colon_word_at colon_word_less (λ ws. c.loop-rest.joined ++ colon_words ws) (tokens_of c.loop-rest.rest.now) (sym c.begins.ensures ∙ c.loop-rest-test.false)
    ∙ ap (λ (w : List ℕ). hit w (tokens_of c.loop-rest.rest.now)) (append-nil c.loop-rest.joined))
