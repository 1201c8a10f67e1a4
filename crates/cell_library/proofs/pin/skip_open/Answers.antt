use Rattle.std.proofs.Common.{sym, ◌∙◌, refl}
use Rattle.std.proofs.lemmas.Result.{err_from_is_err_and}
use Rattle.liberty_text.specs.Tokens.{tokens_of}
use Rattle.cell_library.proofs.Opens.{over_args_fail, over_group, over_group_fails, over_complex}
use Rattle.cell_library.proofs.pin.skip_open.Goals as goal

pub returns-in_err-rest : goal.returns-in_err-rest
returns-in_err-rest c =
    let p = err_from_is_err_and c.from_residual.result c.from_residual.ensures.1 in
    rw (p.1, p.2) (over_args_fail c.in_err-rest.field-0.0 c.args.depth (tokens_of c.args.text.now) c.in_err-rest.ensures)

pub returns-in_err-behind : goal.returns-in_err-behind
returns-in_err-behind c =
    let p = err_from_is_err_and c.from_residual-in_err-behind.result c.from_residual-in_err-behind.ensures.1 in
    rw (p.1, p.2) (over_group_fails c.in_err-behind.field-0.0 c.args.depth (tokens_of c.args.text.now) (tokens_of c.in_ok-rest.rest.now) (tokens_of c.in_ok-inner.inner.now) c.in_ok-rest.ensures (sym c.begins.ensures ∙ c.if-begins.true) c.in_ok-inner.ensures c.in_err-behind.ensures)

pub returns-in_ok-behind : goal.returns-in_ok-behind
returns-in_ok-behind c =
    over_group c.args.depth (tokens_of c.args.text.now) (tokens_of c.in_ok-rest.rest.now) (tokens_of c.in_ok-inner.inner.now) (tokens_of c.in_ok-behind.behind.now) c.in_ok-rest.ensures (sym c.begins.ensures ∙ c.if-begins.true) c.in_ok-inner.ensures c.in_ok-behind.ensures
    ∙ rw c.ended.ensures refl

pub returns-else-begins : goal.returns-else-begins
returns-else-begins c =
    over_complex c.args.depth (tokens_of c.args.text.now) (tokens_of c.in_ok-rest.rest.now) c.in_ok-rest.ensures (sym c.begins.ensures ∙ c.if-begins.false)
    ∙ rw c.ended-else-begins.ensures refl
