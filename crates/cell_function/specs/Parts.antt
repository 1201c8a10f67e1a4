-- All parts of a text, as a function, and the first of them.
use Rattle.std.specs.Prelude.{◌≢◌, ℕ, Bool, true, false, cond, List, [], ◌∷◌, Option, Some, None, take, drop}
use Rattle.std.specs.List.{AllByRecursion}
use Rattle.liberty_text.specs.Bytes.{is_blank}
use Rattle.liberty_text.specs.First.{run}
use Rattle.liberty_text.specs.Row.{row}
use Rattle.cell_function.specs.Cuts as cuts
use Rattle.cell_function.specs.Cuts.{is_first, is_name, is_sign}
use Rattle.cell_function.specs.declared.part.Part.{Part}
use Rattle.cell_function.specs.declared.part.Part.TheVariants.{Name, Sign}

-- what stands behind one byte of white space
abbrev pub gap_at : List ℕ → Option (List ℕ)
gap_at [] = None
gap_at (b ∷ bs) = cond (is_blank b) (Some bs) None

abbrev pub part_at : List ℕ → Option (cuts.Part × List ℕ)
part_at [] = None
part_at (b ∷ bs) =
    cond (is_sign b) (Some (cuts.sign b, bs))
    (cond (is_first b) (Some (cuts.name (take (run is_name (b ∷ bs)) (b ∷ bs)), drop (run is_name (b ∷ bs)) (b ∷ bs))) None)

-- the parts up to the first piece that is none, and that piece
unfoldable pub parts_of : List ℕ → List cuts.Part
parts_of bytes = row cuts.wrong gap_at part_at bytes

abbrev pub part_of : Part → cuts.Part
part_of (Name n) = cuts.name n.now
part_of (Sign s) = cuts.sign s

-- the first part and those behind it
abbrev pub front_of : List cuts.Part → Option (cuts.Part × List cuts.Part)
front_of [] = None
front_of (cuts.name n ∷ ps) = Some (cuts.name n, ps)
front_of (cuts.sign s ∷ ps) = Some (cuts.sign s, ps)
front_of (cuts.wrong ∷ ps) = None

abbrev pub is_nil : List cuts.Part → Bool
is_nil [] = true
is_nil (p ∷ ps) = false

-- no part is a piece that is none
abbrev pub IsWhole : List cuts.Part → Type 0
IsWhole ps = AllByRecursion (λ p. p ≢ cuts.wrong) ps
