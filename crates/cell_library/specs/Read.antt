-- Cells with their functions read.
use Rattle.std.specs.Prelude.{◌≡◌, ◌≤◌, ◌<◌, ◌⊎◌, Bool, cond, List, [], ◌∷◌, Option, Some, None, map, length, nat_le, codes}
use Rattle.std.specs.Str.{bytes_eq}
use Rattle.agm_net.specs.declared.port.Way.{Way}
use Rattle.agm_net.specs.declared.port.Way.TheVariants.{Input, Output}
use Rattle.cell_function.specs.Grammar.{Spelled}
use Rattle.cell_function.specs.Reading.{function_of}
use Rattle.cell_function.specs.Tree.{Tree}
use Rattle.cell_library.specs.Texts.{Text, Kinds, NamedPin, NamedFlip, CellTexts}

-- input and output are the directions that are understood
abbrev pub way_of : Text → Option Way
way_of text = cond (bytes_eq text (codes "input")) (Some Input) (cond (bytes_eq text (codes "output")) (Some Output) None)

abbrev pub way_in : Option Text → Option Way
way_in None = None
way_in (Some text) = way_of text

-- what a function text of at most 1,024 bytes spells, None where it is longer or spells nothing
abbrev pub Says : Text → Option Tree → Type 0
Says text None = (1024 < length text) ⊎ ((f : Tree) → Spelled text f → ⊥)
Says text (Some f) = (length text ≤ 1024) × Spelled text f

-- the same of a text that may not be there
abbrev pub SaysIfThere : Option Text → Option (Option Tree) → Type 0
SaysIfThere None None = Unit {0}
SaysIfThere (Some text) (Some o) = Says text o
SaysIfThere None (Some o) = ⊥
SaysIfThere (Some text) None = ⊥

-- it, as a function
abbrev pub said : Text → Option Tree
said text = cond (nat_le (length text) 1024) (function_of text) None

abbrev pub said_in : Option Text → Option (Option Tree)
said_in None = None
said_in (Some text) = Some (said text)

-- a pin with its function read
pub record ReadPin : Type 0 where
  pub name : Text
  pub way : Option Way
  pub is_three_state : Bool
  pub function : Option (Option Tree)

abbrev pub PinReads : NamedPin → ReadPin → Type 0
PinReads p q = (q.name ≡ p.name) × (q.way ≡ way_in p.texts.direction) × (q.is_three_state ≡ p.texts.is_three_state) × SaysIfThere p.texts.function q.function

abbrev pub read_pin : NamedPin → ReadPin
read_pin p = record { name = p.name; way = way_in p.texts.direction; is_three_state = p.texts.is_three_state; function = said_in p.texts.function }

-- a flip-flop with its next state read
pub record ReadFlip : Type 0 where
  pub names : List Text
  pub clocked_on : Option Text
  pub next : Option (Option Tree)
  pub is_async : Bool
  pub has_second_clock : Bool

abbrev pub FlipReads : NamedFlip → ReadFlip → Type 0
FlipReads p q = (q.names ≡ p.names) × (q.clocked_on ≡ p.texts.clocked_on) × SaysIfThere p.texts.next_state q.next × (q.is_async ≡ p.texts.is_async) × (q.has_second_clock ≡ p.texts.has_second_clock)

abbrev pub read_flip : NamedFlip → ReadFlip
read_flip p = record { names = p.names; clocked_on = p.texts.clocked_on; next = said_in p.texts.next_state; is_async = p.texts.is_async; has_second_clock = p.texts.has_second_clock }

-- each item of a list with the item at its place in another
abbrev pub Pairwise : {A B : Type 0} → (A → B → Type 0) → List A → List B → Type 0
Pairwise P [] [] = Unit {0}
Pairwise P [] (y ∷ ys) = ⊥
Pairwise P (x ∷ xs) [] = ⊥
Pairwise P (x ∷ xs) (y ∷ ys) = P x y × Pairwise P xs ys

pub record ReadCell : Type 0 where
  pub kinds : Kinds
  pub flips : List ReadFlip
  pub pins : List ReadPin

-- the functions of a cell are read from its texts
abbrev pub CellReads : CellTexts → ReadCell → Type 0
CellReads t c = (c.kinds ≡ t.kinds) × Pairwise FlipReads t.flips c.flips × Pairwise PinReads t.pins c.pins

abbrev pub read_cell : CellTexts → ReadCell
read_cell t = record { kinds = t.kinds; flips = map read_flip t.flips; pins = map read_pin t.pins }
