use Rattle.std.proofs.Common.{map, refl, sym, ◌∙◌}
use Rattle.std.proofs.lemmas.Result.{err_from_is_err_and}
use Rattle.liberty_text.specs.Tokens.{tokens_of}
use Rattle.cell_library.specs.Spelled.{cell_of}
use Rattle.cell_library.specs.Steps.{cells_more}
use Rattle.cell_library.proofs.Groups.{over_args_kept, over_complex_kept, over_group_fails_kept, over_group_kept}
use Rattle.cell_library.proofs.LibrarySteps.{other_kept}
use Rattle.cell_library.proofs.read.other_group.Goals as goal

pub returns-in_err-rest : goal.returns-in_err-rest
returns-in_err-rest c =
    let p = err_from_is_err_and c.from_residual.result c.from_residual.ensures.1 in
    rw (p.1, p.2) (over_args_kept c.in_err-rest.field-0.0 (cells_more (map cell_of c.args.cells)) c.args.depth c.args.name.now (tokens_of c.args.text.now) c.in_err-rest.ensures)

pub returns-then-not-begins : goal.returns-then-not-begins
returns-then-not-begins c =
    over_complex_kept (cells_more (map cell_of c.args.cells)) (map cell_of c.args.cells) c.args.depth c.args.name.now (tokens_of c.args.text.now) (tokens_of c.in_ok-rest.rest.now) c.in_ok-rest.ensures (sym c.begins.ensures ∙ c.if-not-begins.true) (λ xs e. refl)
    ∙ rw c.ended.ensures refl

pub returns-in_err-behind : goal.returns-in_err-behind
returns-in_err-behind c =
    let p = err_from_is_err_and c.from_residual-in_err-behind.result c.from_residual-in_err-behind.ensures.1 in
    rw (p.1, p.2) (over_group_fails_kept c.in_err-behind.field-0.0 (cells_more (map cell_of c.args.cells)) c.args.depth c.args.name.now (tokens_of c.args.text.now) (tokens_of c.in_ok-rest.rest.now) (tokens_of c.in_ok-inner.inner.now) c.in_ok-rest.ensures c.in_ok-inner.ensures c.in_err-behind.ensures)

pub returns : goal.returns
returns c =
    over_group_kept (cells_more (map cell_of c.args.cells)) (map cell_of c.args.cells) c.args.depth c.args.name.now (tokens_of c.args.text.now) (tokens_of c.in_ok-rest.rest.now) (tokens_of c.in_ok-inner.inner.now) (tokens_of c.in_ok-behind.behind.now) c.in_ok-rest.ensures c.in_ok-inner.ensures c.in_ok-behind.ensures
    (λ xs ss e. other_kept (map cell_of c.args.cells) c.args.name.now xs ss e c.requires)
    ∙ rw c.ended-2.ensures refl
