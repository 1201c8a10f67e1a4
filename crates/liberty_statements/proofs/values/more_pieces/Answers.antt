use Rattle.std.proofs.Common.{◌≡◌, ◌++◌, ◌∷◌, [], ℕ, List, not, sym, ap, ◌∙◌, append_assoc, append-nil}
use Rattle.std.proofs.lemmas.Result.{err_from_is_err_and}
use Rattle.liberty_text.specs.Tokens.{tokens_of}
use Rattle.liberty_statements.specs.Grammar.{piece_text, spaced}
use Rattle.liberty_statements.specs.Reading.{as_value, until, piece_at, next_pieces_at}
use Rattle.liberty_statements.proofs.Less.{piece_less}
use Rattle.liberty_statements.proofs.Many.{as_some, keep_go, keep_off, keep_fails, fails_moved, fails_of_as, hit}
use Rattle.liberty_statements.proofs.values.more_pieces.Goals as goal

spaced_more : (text pushed longer piece more : List ℕ) → pushed ≡ text ++ 32 ∷ [] → pushed ++ piece ≡ longer → longer ++ more ≡ text ++ 32 ∷ (piece ++ more)
spaced_more text pushed longer piece more e h =
    ap (λ (w : List ℕ). w ++ more) (sym h ∙ ap (λ (w : List ℕ). w ++ piece) e)
    ∙ (append_assoc (text ++ 32 ∷ []) piece more ∙ append_assoc text (32 ∷ []) (piece ++ more))

pub returns-in_err-longer : goal.returns-in_err-longer
returns-in_err-longer c =
    let p = err_from_is_err_and c.from_residual-in_err-longer.result c.from_residual-in_err-longer.ensures.1 in
    rw (p.1, p.2) (fails_moved c.in_err-longer.field-0.0 (as_value (λ ps. c.loop-text.text ++ spaced ps) (next_pieces_at (tokens_of c.loop-text.left.now))) (as_value (λ ps. c.args.first ++ spaced ps) (next_pieces_at (tokens_of c.args.rest.now))) c.loop-text.invariant
    (keep_fails c.in_err-longer.field-0.0 (until 59) piece_at piece_less (λ ps. c.loop-text.text ++ spaced ps) (tokens_of c.loop-text.left.now) (ap not (sym c.begins.ensures ∙ c.loop-text-test.true))
    (fails_of_as c.in_err-longer.field-0.0 (λ p. c.push.new.self ++ piece_text p) (piece_at (tokens_of c.loop-text.left.now)) c.in_err-longer.ensures)))

pub loop-text-preserved : goal.loop-text-preserved
loop-text-preserved c =
    let a = as_some (λ p. c.push.new.self ++ piece_text p) (piece_at (tokens_of c.loop-text.left.now)) (c.in_ok-longer.longer, tokens_of c.in_ok-longer.behind.now) c.in_ok-longer.ensures in
    keep_go (until 59) piece_at piece_less (λ ps. c.loop-text.text ++ spaced ps) (λ ps. c.in_ok-longer.longer ++ spaced ps) (tokens_of c.loop-text.left.now) (a.0.0, tokens_of c.in_ok-longer.behind.now) (ap not (sym c.begins.ensures ∙ c.loop-text-test.true))
    (a.1 ∙ ap (λ r. hit a.0.0 r) a.3)
    (λ ps. spaced_more c.loop-text.text c.push.new.self c.in_ok-longer.longer (piece_text a.0.0) (spaced ps) c.in_ok-push.ensures.ok a.2)
    ∙ c.loop-text.invariant

pub returns : goal.returns
returns c =
    sym c.loop-text.invariant
    ∙ (keep_off (until 59) piece_at piece_less (λ ps. c.loop-text.text ++ spaced ps) (tokens_of c.loop-text.left.now) (ap not (sym c.begins.ensures ∙ c.loop-text-test.false))
    ∙ ap (λ (w : List ℕ). hit w (tokens_of c.loop-text.left.now)) (append-nil c.loop-text.text))
