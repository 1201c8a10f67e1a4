use Rattle.std.proofs.Common.{codes, refl, sym, ◌∙◌}
use Rattle.std.proofs.lemmas.Result.{err_from_is_err_and}
use Rattle.liberty_text.specs.Tokens.{tokens_of}
use Rattle.cell_library.specs.Steps.{cell_more}
use Rattle.cell_library.specs.View as view
use Rattle.cell_library.proofs.Opens.{start_kept_fails, value_kept, value_fails}
use Rattle.cell_library.proofs.Groups.{statement_open, statement_named}
use Rattle.cell_library.proofs.cell.statement.Goals as goal

pub returns-in_err-name : goal.returns-in_err-name
returns-in_err-name c =
    let p = err_from_is_err_and c.from_residual.result c.from_residual.ensures.1 in
    rw (p.1, p.2) (start_kept_fails c.in_err-name.field-0.0 (cell_more (view.raw_cell c.args.cell)) c.args.depth (tokens_of c.args.text.now) c.in_err-name.ensures)

pub returns-in_err-rest : goal.returns-in_err-rest
returns-in_err-rest c =
    let p = err_from_is_err_and c.from_residual-in_err-rest.result c.from_residual-in_err-rest.ensures.1 in
    rw (p.1, p.2) (value_fails c.in_err-rest.field-0.0 (cell_more (view.raw_cell c.args.cell)) c.args.depth (tokens_of c.args.text.now) (tokens_of c.in_ok-name.rest.now) c.in_ok-name.name.now c.in_ok-name.is_open c.in_ok-name.ensures c.if-not-is_open.true c.in_err-rest.ensures)

pub returns-in_ok-rest : goal.returns-in_ok-rest
returns-in_ok-rest c =
    value_kept (cell_more (view.raw_cell c.args.cell)) (view.raw_cell c.args.cell) c.args.depth (tokens_of c.args.text.now) (tokens_of c.in_ok-name.rest.now) (tokens_of c.in_ok-rest.rest.now) c.in_ok-name.name.now c.in_ok-name.is_open (λ v. refl) c.in_ok-name.ensures c.if-not-is_open.true c.in_ok-rest.ensures

pub returns-then-is_pin : goal.returns-then-is_pin
returns-then-is_pin c =
    rw (statement_named c.args.depth (tokens_of c.args.text.now) (tokens_of c.in_ok-name.rest.now) c.in_ok-name.name.now (codes "pin") c.in_ok-name.is_open c.in_ok-name.ensures c.if-not-is_open.false (sym c.is_pin.ensures ∙ c.if-is_pin.true)) c.pin_group.ensures

pub returns-then-is_flip : goal.returns-then-is_flip
returns-then-is_flip c =
    rw (statement_named c.args.depth (tokens_of c.args.text.now) (tokens_of c.in_ok-name.rest.now) c.in_ok-name.name.now (codes "ff") c.in_ok-name.is_open c.in_ok-name.ensures c.if-not-is_open.false (sym c.is_flip.ensures ∙ c.if-is_flip.true)) c.flip_group.ensures

pub returns-else-is_flip : goal.returns-else-is_flip
returns-else-is_flip c = rw (statement_open c.args.depth (tokens_of c.args.text.now) (tokens_of c.in_ok-name.rest.now) c.in_ok-name.name.now c.in_ok-name.is_open c.in_ok-name.ensures c.if-not-is_open.false) c.other_group.ensures
