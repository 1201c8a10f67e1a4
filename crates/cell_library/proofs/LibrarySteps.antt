-- One more group of a library.
use Rattle.std.proofs.Common.{◌≡◌, ◌++◌, ◌∷◌, [], Bool, true, false, cond, List, map, codes, refl, sym, ap, ◌∙◌, append-nil, append_assoc}
use Rattle.std.specs.Str.{bytes_eq}
use Rattle.liberty_statements.specs.Grammar.{Args, Statements, group, complex, simple, none, first, names_of}
use Rattle.liberty_statements.specs.Reading.{Read, as_value}
use Rattle.liberty_statements.proofs.Many.{as_same}
use Rattle.cell_library.specs.Texts.{Text, cell_texts, cells_by, cells_of}
use Rattle.cell_library.specs.Read.{ReadCell, read_cell}
use Rattle.cell_library.specs.Judged.{PlainCell, judged}
use Rattle.cell_library.specs.Steps.{fold_all, cells_more, cells_named, cells_in, judged_cell}
use Rattle.cell_library.proofs.Lists.{map_append}

pub cell_kept : (cells : List PlainCell) (xs : Args) (ss : Statements) (e : Bool) (names : List Text) (c : ReadCell) (more : List PlainCell) → names_of xs ≡ names → read_cell (cell_texts ss) ≡ c → more ≡ cells_named cells names c → cells_more cells (group (codes "cell") xs ss e) ≡ more
cell_kept cells xs ss e names c more n b h =
    ap (λ (ns : List Text). cells_named cells ns (read_cell (cell_texts ss))) n ∙ (ap (cells_named cells names) b ∙ sym h)

pub other_kept : (cells : List PlainCell) (n : Text) (xs : Args) (ss : Statements) (e : Bool) → bytes_eq n (codes "cell") ≡ false → cells_more cells (group n xs ss e) ≡ cells
other_kept cells n xs ss e h = ap (λ b. cond b (cells_named cells (names_of xs) (read_cell (cell_texts ss))) cells) h

named_case : (cells : List PlainCell) (names : List Text) (inner : Statements) (later : List PlainCell) → cells_named cells names (read_cell (cell_texts inner)) ++ later ≡ cells ++ (map judged_cell (cells_by names inner) ++ later)
named_case cells [] inner later = refl
named_case cells (n ∷ ns) inner later = append_assoc cells (judged n (read_cell (cell_texts inner)) ∷ []) later

group_case : (cells : List PlainCell) (n : Text) (xs : Args) (inner : Statements) (e : Bool) (ss : Statements) → ((d : List PlainCell) → fold_all cells_more d ss ≡ d ++ cells_in ss) → (b : Bool) → bytes_eq n (codes "cell") ≡ b → fold_all cells_more cells (first (group n xs inner e) ss) ≡ cells ++ cells_in (first (group n xs inner e) ss)
group_case cells n xs inner e ss again true h =
    rw h (again (cells_named cells (names_of xs) (read_cell (cell_texts inner)))
    ∙ (named_case cells (names_of xs) inner (cells_in ss) ∙ ap (λ (ps : List PlainCell). cells ++ ps) (sym (map_append judged_cell (cells_by (names_of xs) inner) (cells_of ss)))))
group_case cells n xs inner e ss again false h = rw h (again cells)

cells_fold : (cells : List PlainCell) (ss : Statements) → fold_all cells_more cells ss ≡ cells ++ cells_in ss
cells_fold cells none = sym (append-nil cells)
cells_fold cells (first (simple n v) ss) = cells_fold cells ss
cells_fold cells (first (complex n xs e) ss) = cells_fold cells ss
cells_fold cells (first (group n xs inner e) ss) = group_case cells n xs inner e ss (λ d. cells_fold d ss) (bytes_eq n (codes "cell")) refl

pub library_whole : (o : Read Statements) → as_value cells_in o ≡ as_value (fold_all cells_more []) o
library_whole o = as_same cells_in (fold_all cells_more []) o (λ ss. sym (cells_fold [] ss))
