use Rattle.std.proofs.Common.{◌-◌, map, codes, refl, sym, ◌∙◌, arith}
use Rattle.std.proofs.lemmas.Result.{err_from_is_err_and}
use Rattle.liberty_text.specs.Tokens.{tokens_of}
use Rattle.cell_library.specs.Texts.{flip_texts}
use Rattle.cell_library.specs.Steps.{cell_more}
use Rattle.cell_library.specs.View as view
use Rattle.cell_library.proofs.Groups.{kept_args_fail, kept_complex, kept_deep, kept_body_fails, kept_group}
use Rattle.cell_library.proofs.Lists.{map_pushed}
use Rattle.cell_library.proofs.CellSteps.{flip_kept}
use Rattle.cell_library.proofs.cell.flip_group.Goals as goal

pub returns-in_err-names : goal.returns-in_err-names
returns-in_err-names c =
    let p = err_from_is_err_and c.from_residual.result c.from_residual.ensures.1 in
    rw (p.1, p.2) (kept_args_fail c.in_err-names.field-0.0 (cell_more (view.raw_cell c.args.cell)) c.args.depth (codes "ff") (tokens_of c.args.text.now) c.in_err-names.ensures)

pub returns-then-not-begins : goal.returns-then-not-begins
returns-then-not-begins c =
    kept_complex (cell_more (view.raw_cell c.args.cell)) (view.raw_cell c.args.cell) c.args.depth (codes "ff") (tokens_of c.args.text.now) (tokens_of c.in_ok-names.rest.now) c.in_ok-names.names c.in_ok-names.ensures (sym c.begins.ensures ∙ c.if-not-begins.true) (λ xs e. refl)
    ∙ rw c.ended.ensures refl

pub returns-then-depth-eq0 : goal.returns-then-depth-eq0
returns-then-depth-eq0 c = kept_deep (cell_more (view.raw_cell c.args.cell)) c.args.depth (codes "ff") (tokens_of c.args.text.now) (tokens_of c.in_ok-names.rest.now) c.in_ok-names.names c.in_ok-names.ensures (sym c.begins.ensures ∙ c.if-not-begins.false) (omega arith)

pub returns-in_err-body : goal.returns-in_err-body
returns-in_err-body c =
    let p = err_from_is_err_and c.from_residual-in_err-body.result c.from_residual-in_err-body.ensures.1 in
    rw (p.1, p.2) (kept_body_fails c.in_err-body.field-0.0 (cell_more (view.raw_cell c.args.cell)) flip_texts c.args.depth (c.args.depth - 1) (codes "ff") (tokens_of c.args.text.now) (tokens_of c.in_ok-names.rest.now) (tokens_of c.in_ok-inner.inner.now) c.in_ok-names.names c.in_ok-names.ensures c.in_ok-inner.ensures (omega arith) c.in_err-body.ensures)

pub returns : goal.returns
returns c =
    kept_group (cell_more (view.raw_cell c.args.cell)) flip_texts _ (view.flip_body c.in_ok-body.body) c.args.depth (c.args.depth - 1) (codes "ff") (tokens_of c.args.text.now) (tokens_of c.in_ok-names.rest.now) (tokens_of c.in_ok-inner.inner.now) (tokens_of c.in_ok-body.behind.now) c.in_ok-names.names c.in_ok-names.ensures c.in_ok-inner.ensures (omega arith) c.in_ok-body.ensures
    (λ xs ss e n b. flip_kept (view.raw_cell c.args.cell) xs ss e c.in_ok-names.names (view.flip_body c.in_ok-body.body) (map view.raw_flip c.push.new.self) n b (map_pushed view.raw_flip c.args.cell.flips c.push.new.self c.in_ok-flip.flip _ c.in_ok-push.ensures.ok c.in_ok-flip.ensures))
    ∙ rw c.ended-2.ensures refl
