-- What a Liberty text spells.
use Rattle.std.specs.Prelude.{◌≡◌, ◌≤◌, ℕ, Bool, cond, List, [], ◌∷◌, ◌++◌, Option, Some, None, map, codes, nat_eq}
use Rattle.std.specs.List.{starts_with}
use Rattle.agm_net.specs.Formula.{formula_of}
use Rattle.liberty_text.specs.Cuts.{Cuts}
use Rattle.liberty_statements.specs.Grammar.{Args, Statements, group, statement_tokens, depth_of}
use Rattle.cell_library.specs.Texts.{Text, NamedCell, cells_of}
use Rattle.cell_library.specs.Read.{ReadCell, CellReads, Pairwise}
use Rattle.cell_library.specs.Judged.{PlainPin, PlainState, PlainCell, judged, is_among}
use Rattle.cell_library.specs.declared.types.Pin.{Pin}
use Rattle.cell_library.specs.declared.types.State.{State}
use Rattle.cell_library.specs.declared.types.Cell.{Cell}
use Rattle.cell_library.specs.declared.types.CellCause.{CellCause}
use Rattle.cell_library.specs.declared.types.CellCause.TheVariants.{Duplicate, Reserved}

abbrev pub function_in : Option Rattle.agm_net.specs.declared.expr.Expr.Expr → Option Rattle.agm_net.specs.Formula.Formula
function_in None = None
function_in (Some e) = Some (formula_of e)

-- the plain view of cells
abbrev pub pin_of : Pin → PlainPin
pin_of p = record { name = p.name; way = p.way; function = function_in p.function }

abbrev pub state_of : Option State → Option PlainState
state_of None = None
state_of (Some s) = Some (record { name = s.name; clock = s.clock; next = formula_of s.next })

abbrev pub cell_of : Cell → PlainCell
cell_of c = record { name = c.name; pins = map pin_of c.pins; state = state_of c.state; barred = c.barred }

-- a cell's texts mean a cell
pub record Means (t : NamedCell) (c : PlainCell) : Type 0 where
  pub cell : ReadCell
  pub reads : CellReads t.texts cell
  pub is_judged : c ≡ judged t.name cell

-- the most groups that nest, the library among them
abbrev pub most_groups : ℕ
most_groups = 100

-- Bytes spell a library of cells: they are cut into the tokens of one group `library`, in which at most 100 groups nest, and the `cell` groups directly in it mean the cells.
pub record Spelled (bytes : List ℕ) (cells : List PlainCell) : Type 0 where
  pub args : Args
  pub inner : Statements
  pub has_end : Bool
  pub cut : Cuts bytes (statement_tokens (group (codes "library") args inner has_end) [])
  pub nests : depth_of (group (codes "library") args inner has_end) ≤ most_groups
  pub mean : Pairwise Means (cells_of inner) cells

-- whether a name is one of the cells that are known without a library
abbrev pub is_reserved : Text → Bool
is_reserved name = starts_with nat_eq name (codes "AGM_")

-- what is wrong with a cell's name behind the names of earlier cells
abbrev pub name_fault : List Text → Text → Option CellCause
name_fault earlier name = cond (is_among earlier name) (Some Duplicate) (cond (is_reserved name) (Some Reserved) None)

abbrev pub fault_or : Option CellCause → Text → Option (Text × CellCause) → Option (Text × CellCause)
fault_or (Some cause) name later = Some (name, cause)
fault_or None name later = later

-- the first cell whose name is wrong
abbrev pub first_fault : List Text → List Text → Option (Text × CellCause)
first_fault earlier [] = None
first_fault earlier (name ∷ names) = fault_or (name_fault earlier name) name (first_fault (earlier ++ name ∷ []) names)

abbrev pub cell_name : PlainCell → Text
cell_name c = c.name
