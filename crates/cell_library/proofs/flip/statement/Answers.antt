use Rattle.std.proofs.Common.{refl}
use Rattle.std.proofs.lemmas.Result.{err_from_is_err_and}
use Rattle.liberty_text.specs.Tokens.{tokens_of}
use Rattle.cell_library.specs.Steps.{flip_more}
use Rattle.cell_library.specs.View as view
use Rattle.cell_library.proofs.Opens.{open_kept, open_fails, simple_kept, start_kept_fails}
use Rattle.cell_library.proofs.flip.statement.Goals as goal

pub returns-in_err-name : goal.returns-in_err-name
returns-in_err-name c =
    let p = err_from_is_err_and c.from_residual.result c.from_residual.ensures.1 in
    rw (p.1, p.2) (start_kept_fails c.in_err-name.field-0.0 (flip_more (view.flip_body c.args.body)) c.args.depth (tokens_of c.args.text.now) c.in_err-name.ensures)

pub returns-in_err-rest : goal.returns-in_err-rest
returns-in_err-rest c =
    let p = err_from_is_err_and c.from_residual-in_err-rest.result c.from_residual-in_err-rest.ensures.1 in
    rw (p.1, p.2) (open_fails c.in_err-rest.field-0.0 (flip_more (view.flip_body c.args.body)) c.args.depth (tokens_of c.args.text.now) (tokens_of c.in_ok-name.rest.now) c.in_ok-name.name.now c.in_ok-name.is_open c.in_ok-name.ensures c.if-is_open.true c.in_err-rest.ensures)

pub returns-then-is_open : goal.returns-then-is_open
returns-then-is_open c =
    open_kept (flip_more (view.flip_body c.args.body)) (view.flip_body c.args.body) c.args.depth (tokens_of c.args.text.now) (tokens_of c.in_ok-name.rest.now) (tokens_of c.in_ok-rest.rest.now) c.in_ok-name.name.now c.in_ok-name.is_open (λ xs ss e. refl) (λ xs e. refl) c.in_ok-name.ensures c.if-is_open.true c.in_ok-rest.ensures

pub returns : goal.returns
returns c =
    rw (simple_kept (flip_more (view.flip_body c.args.body)) c.args.depth (tokens_of c.args.text.now) (tokens_of c.in_ok-name.rest.now) c.in_ok-name.name.now c.in_ok-name.is_open c.in_ok-name.ensures c.if-is_open.false) c.attribute.ensures
