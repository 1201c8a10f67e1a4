use Rattle.std.proofs.Common.{◌≡◌, ◌++◌, ℕ, List, Option, Some, None, position, slice_get, ap, sym, ◌∙◌}
use Rattle.std.specs.Str.{bytes_eq}
use Rattle.cell_library.specs.declared.types.Cell.{Cell}
use Rattle.cell_faces.proofs.find.find_cell.Goals as goal
use Rattle.cell_faces.proofs.Finds.{face_is, no_face, find_is, number_is, number_none, found_is}

pub returns-in-Some-face_at : goal.returns-in-Some-face_at
returns-in-Some-face_at c =
    let cells : List Cell = c.args.known.now ++ c.args.library.now in
    let place : Some c.in-Some.number ≡ position (λ n. bytes_eq n c.args.name.now) c.args.cells.now.names =
    c.in-Some.ensures ∙ ap (λ m. position (λ n. bytes_eq n m) c.args.cells.now.names) c.as_slice.ensures in
    let cell : Some c.in-Some-cell_at.cell.now ≡ slice_get cells c.in-Some.number = c.in-Some-cell_at.ensures in
    let face : Some c.in-Some-face_at.face.now ≡ slice_get c.args.cells.now.faces c.in-Some.number = c.in-Some-face_at.ensures ∙ ap (λ xs. slice_get xs c.in-Some.number) c.as_slice-in-Some-cell_at.ensures in
    found_is cells c.args.name.now c.in-Some-cell_at.cell.now c.in-Some-face_at.face.now
    (find_is cells c.args.cells.now c.args.name.now _ c.requires place ∙ number_is cells c.in-Some.number c.in-Some-cell_at.cell.now (sym cell))
    (face_is cells c.args.cells.now c.in-Some.number c.in-Some-cell_at.cell.now c.in-Some-face_at.face.now c.requires cell face)

pub returns-in-None-face_at : goal.returns-in-None-face_at
returns-in-None-face_at c =
    let cells : List Cell = c.args.known.now ++ c.args.library.now in
    let cell : Some c.in-Some-cell_at.cell.now ≡ slice_get cells c.in-Some.number = c.in-Some-cell_at.ensures in
    let face : None ≡ slice_get c.args.cells.now.faces c.in-Some.number = c.in-None-face_at.ensures ∙ ap (λ xs. slice_get xs c.in-Some.number) c.as_slice-in-Some-cell_at.ensures in
    absurd (no_face cells c.args.cells.now c.in-Some.number c.in-Some-cell_at.cell.now c.requires cell face)

pub returns-in-None-cell_at : goal.returns-in-None-cell_at
returns-in-None-cell_at c =
    let cells : List Cell = c.args.known.now ++ c.args.library.now in
    let place : Some c.in-Some.number ≡ position (λ n. bytes_eq n c.args.name.now) c.args.cells.now.names =
    c.in-Some.ensures ∙ ap (λ m. position (λ n. bytes_eq n m) c.args.cells.now.names) c.as_slice.ensures in
    let cell : None ≡ slice_get cells c.in-Some.number = c.in-None-cell_at.ensures in
    find_is cells c.args.cells.now c.args.name.now _ c.requires place ∙ number_none cells c.in-Some.number (sym cell)

pub returns-in-None : goal.returns-in-None
returns-in-None c =
    let cells : List Cell = c.args.known.now ++ c.args.library.now in
    let place : None ≡ position (λ n. bytes_eq n c.args.name.now) c.args.cells.now.names =
    c.in-None.ensures ∙ ap (λ m. position (λ n. bytes_eq n m) c.args.cells.now.names) c.as_slice.ensures in
    find_is cells c.args.cells.now c.args.name.now _ c.requires place
