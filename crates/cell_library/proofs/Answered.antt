-- From the cells of a text to the answer.
use Rattle.std.proofs.Common.{◌≡◌, ℕ, List, [], Some, None, Result, Ok, Err, map, sym, ap, ◌∙◌, subst}
use Rattle.liberty_text.specs.Tokens.{tokens_of}
use Rattle.cell_library.specs.Answers.{IfNamed, Reads}
use Rattle.cell_library.specs.Found.{raw_name}
use Rattle.cell_library.specs.Spelled.{Spelled, cell_of, cell_name, first_fault}
use Rattle.cell_library.specs.Steps.{library_at}
use Rattle.cell_library.specs.declared.types.Cell.{Cell}
use Rattle.cell_library.specs.declared.library.Library.{Library}
use Rattle.cell_library.specs.declared.read.LibraryFault.{LibraryFault}
use Rattle.cell_library.specs.declared.read.LibraryFault.TheVariants as faults
use Rattle.cell_library.proofs.Lists.{map_map}
use Rattle.cell_library.proofs.WholeText.{read_is_spelled}

names_are : (cells : List Cell) → map cell_name (map cell_of cells) ≡ map raw_name cells
names_are cells = map_map cell_name cell_of cells

-- what is said of the names of cells that are read is said of the text
pub named_reads : (bytes : List ℕ) (cells : List Cell) (r : Result Library LibraryFault) → library_at (tokens_of bytes) ≡ Some (map cell_of cells) → IfNamed (map raw_name cells) cells r → Reads bytes r
named_reads bytes cells (Ok l) h n =
    let P : List Cell → Type 0 = λ cs. Spelled bytes (map cell_of cs) in
    let Q : List Cell → Type 0 = λ cs. first_fault [] (map cell_name (map cell_of cs)) ≡ None in
    (subst P (sym n.0) (read_is_spelled bytes (map cell_of cells) h), subst Q (sym n.0) (ap (first_fault []) (names_are cells) ∙ n.1))
named_reads bytes cells (Err (faults.Cell name cause)) h n =
    (map cell_of cells, read_is_spelled bytes (map cell_of cells) h, ap (first_fault []) (names_are cells) ∙ n)
named_reads bytes cells (Err (faults.Syntax at)) h n = absurd n
named_reads bytes cells (Err faults.Memory) h n = tt
