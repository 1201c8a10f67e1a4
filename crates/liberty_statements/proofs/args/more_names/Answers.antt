use Rattle.std.proofs.Common.{◌≡◌, ◌++◌, ◌∷◌, [], ℕ, Bool, List, map, not, sym, ap, ◌∙◌, append_assoc, append-nil}
use Rattle.std.proofs.lemmas.Result.{err_from_is_err_and}
use Rattle.liberty_text.specs.Tokens.{tokens_of}
use Rattle.liberty_statements.specs.Grammar.{Arg, arg_name, second_name}
use Rattle.liberty_statements.specs.Reading.{as_value, begins, until, next_arg_at, next_args_at}
use Rattle.liberty_statements.proofs.Less.{next_arg_less}
use Rattle.liberty_statements.proofs.Many.{keep_go, keep_off, keep_fails, fails_moved, hit}
use Rattle.liberty_statements.proofs.NextArg.{next_named, named_fails}
use Rattle.liberty_statements.proofs.args.more_names.Goals as goal

names_more : (names new : List (List ℕ)) (name : List ℕ) (c : Bool) (a : Arg) (xs : List (Bool × Arg)) → new ≡ names ++ name ∷ [] → arg_name a ≡ name → new ++ map second_name xs ≡ names ++ map second_name ((c, a) ∷ xs)
names_more names new name c a xs e h =
    ap (λ (w : List (List ℕ)). w ++ map second_name xs) e
    ∙ (append_assoc names (name ∷ []) (map second_name xs) ∙ ap (λ (n : List ℕ). names ++ n ∷ map second_name xs) (sym h))

pub returns-in_err-name : goal.returns-in_err-name
returns-in_err-name c =
    let p = err_from_is_err_and c.from_residual.result c.from_residual.ensures.1 in
    rw (p.1, p.2) (fails_moved c.in_err-name.field-0.0 (as_value (λ xs. c.loop-alloc.names ++ map second_name xs) (next_args_at (tokens_of c.loop-alloc.rest.now))) (as_value (λ xs. c.args.first ++ map second_name xs) (next_args_at (tokens_of c.args.text.now))) c.loop-alloc.invariant
    (keep_fails c.in_err-name.field-0.0 (until 41) next_arg_at next_arg_less (λ xs. c.loop-alloc.names ++ map second_name xs) (tokens_of c.loop-alloc.rest.now) (ap not (sym c.begins.ensures ∙ c.loop-alloc-test.true))
    (named_fails c.in_err-name.field-0.0 (tokens_of c.loop-alloc.rest.now) (tokens_of c.behind_comma.result.now) c.behind_comma.ensures c.in_err-name.ensures)))

pub loop-alloc-smaller : goal.loop-alloc-smaller
loop-alloc-smaller c =
    let a = next_named (tokens_of c.loop-alloc.rest.now) (tokens_of c.behind_comma.result.now) (tokens_of c.in_ok-name.behind.now) c.in_ok-name.name c.behind_comma.ensures c.in_ok-name.ensures in
    next_arg_less (tokens_of c.loop-alloc.rest.now) _ a.1

pub loop-alloc-preserved : goal.loop-alloc-preserved
loop-alloc-preserved c =
    let a = next_named (tokens_of c.loop-alloc.rest.now) (tokens_of c.behind_comma.result.now) (tokens_of c.in_ok-name.behind.now) c.in_ok-name.name c.behind_comma.ensures c.in_ok-name.ensures in
    keep_go (until 41) next_arg_at next_arg_less (λ xs. c.loop-alloc.names ++ map second_name xs) (λ xs. c.push.new.self ++ map second_name xs) (tokens_of c.loop-alloc.rest.now) ((begins 44 (tokens_of c.loop-alloc.rest.now), a.0), tokens_of c.in_ok-name.behind.now) (ap not (sym c.begins.ensures ∙ c.loop-alloc-test.true)) a.1
    (λ xs. names_more c.loop-alloc.names c.push.new.self c.in_ok-name.name (begins 44 (tokens_of c.loop-alloc.rest.now)) a.0 xs c.in_ok-push.ensures.ok a.2)
    ∙ c.loop-alloc.invariant

pub returns : goal.returns
returns c =
    sym c.loop-alloc.invariant
    ∙ (keep_off (until 41) next_arg_at next_arg_less (λ xs. c.loop-alloc.names ++ map second_name xs) (tokens_of c.loop-alloc.rest.now) (ap not (sym c.begins.ensures ∙ c.loop-alloc-test.false))
    ∙ ap (λ (w : List (List ℕ)). hit w (tokens_of c.loop-alloc.rest.now)) (append-nil c.loop-alloc.names))
