-- What is kept of a group while its statements are read one behind the other.
use Rattle.std.specs.Prelude.{◌||◌, ◌&&◌, ℕ, false, not, cond, List, [], ◌∷◌, ◌++◌, Option, Some, None, map, codes}
use Rattle.std.specs.Option.{is_some}
use Rattle.std.specs.Str.{bytes_eq}
use Rattle.liberty_text.specs.Cuts as cuts
use Rattle.liberty_text.specs.Cuts.{Token}
use Rattle.liberty_statements.specs.Reading.{◌>>=◌, behind, as_value, symbol_at, args_end_at, paren_at, statements_at, body_at, ended}
use Rattle.liberty_text.specs.Tokens.{is_nil}
use Rattle.liberty_statements.specs.Grammar.{Statement, group, complex, simple, Statements, none, first, names_of, text_of}
use Rattle.cell_library.specs.Texts.{Text, PinTexts, named_pin, pin_texts, FlipTexts, flip_texts, Kinds, cell_texts, NamedCell, cells_of}
use Rattle.cell_library.specs.Read.{ReadPin, ReadCell, read_pin, read_flip, read_cell}
use Rattle.cell_library.specs.Judged.{PlainCell, judged}

-- a fold over statements
abbrev pub fold_all : {A : Type 0} → (A → Statement → A) → A → Statements → A
fold_all more a none = a
fold_all more a (first s ss) = fold_all more (more a s) ss

-- a pin
abbrev pub no_pin : PinTexts
no_pin = record { direction = None; function = None; is_three_state = false }

abbrev pub pin_attribute : PinTexts → Text → Text → PinTexts
pin_attribute p n text =
    cond (bytes_eq n (codes "direction") && not (is_some p.direction)) (record p { direction = Some text })
    (cond (bytes_eq n (codes "function") && not (is_some p.function)) (record p { function = Some text })
    (record p { is_three_state = p.is_three_state || bytes_eq n (codes "three_state") }))

abbrev pub pin_more : PinTexts → Statement → PinTexts
pin_more p (simple n v) = pin_attribute p n (text_of v)
pin_more p (complex n xs e) = p
pin_more p (group n xs inner e) = p

-- a flip-flop
abbrev pub no_flip : FlipTexts
no_flip = record { clocked_on = None; next_state = None; is_async = false; has_second_clock = false }

abbrev pub flip_attribute : FlipTexts → Text → Text → FlipTexts
flip_attribute f n text =
    cond (bytes_eq n (codes "clocked_on") && not (is_some f.clocked_on)) (record f { clocked_on = Some text })
    (cond (bytes_eq n (codes "next_state") && not (is_some f.next_state)) (record f { next_state = Some text })
    (record f { is_async = f.is_async || (bytes_eq n (codes "clear") || bytes_eq n (codes "preset")); has_second_clock = f.has_second_clock || bytes_eq n (codes "clocked_on_also") }))

abbrev pub flip_more : FlipTexts → Statement → FlipTexts
flip_more f (simple n v) = flip_attribute f n (text_of v)
flip_more f (complex n xs e) = f
flip_more f (group n xs inner e) = f

-- a cell
abbrev pub no_kinds : Kinds
no_kinds = record { has_bus = false; has_latch = false; has_table = false; has_bank = false }

abbrev pub no_cell : ReadCell
no_cell = record { kinds = no_kinds; flips = []; pins = [] }

abbrev pub kinds_more : Kinds → Text → Kinds
kinds_more k n = record {
  has_bus = k.has_bus || (bytes_eq n (codes "bus") || bytes_eq n (codes "bundle"));
  has_latch = k.has_latch || (bytes_eq n (codes "latch") || bytes_eq n (codes "latch_bank"));
  has_table = k.has_table || bytes_eq n (codes "statetable");
  has_bank = k.has_bank || bytes_eq n (codes "ff_bank");
}

abbrev pub read_named : PinTexts → Text → ReadPin
read_named texts name = read_pin (named_pin texts name)

abbrev pub cell_group : ReadCell → Text → List Text → Statements → ReadCell
cell_group c n names inner =
    cond (bytes_eq n (codes "pin")) (record c { pins = c.pins ++ map (read_named (pin_texts inner)) names })
    (cond (bytes_eq n (codes "ff")) (record c { flips = c.flips ++ read_flip (record { names = names; texts = flip_texts inner }) ∷ [] })
    (record c { kinds = kinds_more c.kinds n }))

abbrev pub cell_more : ReadCell → Statement → ReadCell
cell_more c (simple n v) = c
cell_more c (complex n xs e) = c
cell_more c (group n xs inner e) = cell_group c n (names_of xs) inner

-- a library: its cells as they are judged
abbrev pub cells_named : List PlainCell → List Text → ReadCell → List PlainCell
cells_named cells [] c = cells
cells_named cells (name ∷ names) c = cells ++ judged name c ∷ []

abbrev pub cells_more : List PlainCell → Statement → List PlainCell
cells_more cells (simple n v) = cells
cells_more cells (complex n xs e) = cells
cells_more cells (group n xs inner e) = cond (bytes_eq n (codes "cell")) (cells_named cells (names_of xs) (read_cell (cell_texts inner))) cells

-- the cells that the tokens of a library have
abbrev pub judged_cell : NamedCell → PlainCell
judged_cell c = judged c.name (read_cell c.texts)

abbrev pub cells_in : Statements → List PlainCell
cells_in ss = map judged_cell (cells_of ss)

-- what stands behind the word `library` and `(`
abbrev pub keyword_at : List Token → Option (List Token)
keyword_at (cuts.word w ∷ ts) = cond (bytes_eq w (codes "library")) (symbol_at 40 ts) None
keyword_at [] = None
keyword_at (cuts.text w ∷ ts) = None
keyword_at (cuts.symbol w ∷ ts) = None
keyword_at (cuts.wrong ∷ ts) = None

-- what stands behind `library ( args ) {`
unfoldable pub head_at : List Token → Option (List Token)
head_at ts = do
  a ← keyword_at ts
  b ← behind (args_end_at a)
  symbol_at 123 b

abbrev pub if_ended : List PlainCell → List Token → Option (List PlainCell)
if_ended cells ts = cond (is_nil (ended ts)) (Some cells) None

unfoldable pub library_at : List Token → Option (List PlainCell)
library_at ts = do
  inner ← head_at ts
  cells ← as_value cells_in (statements_at (body_at 99) inner)
  if_ended cells.0 cells.1

-- what stands behind a group or a complex attribute of any name, from behind its `(` on
abbrev pub over_open : ℕ → List Token → Option (List Token)
over_open depth ts = behind (paren_at (body_at depth) [] ts)
