-- The plain views of what is kept of a group.
use Rattle.std.specs.Prelude.{Option, Some, None, map}
use Rattle.cell_function.specs.Tree.{Tree, tree_of}
use Rattle.cell_library.specs.Texts as texts
use Rattle.cell_library.specs.Read as read
use Rattle.cell_library.specs.declared.raw.PinBody.{PinBody}
use Rattle.cell_library.specs.declared.raw.FlipBody.{FlipBody}
use Rattle.cell_library.specs.declared.raw.Said.{Said}
use Rattle.cell_library.specs.declared.raw.Said.TheVariants.{Nothing, Function}
use Rattle.cell_library.specs.declared.raw.RawPin.{RawPin}
use Rattle.cell_library.specs.declared.raw.RawFlip.{RawFlip}
use Rattle.cell_library.specs.declared.raw.Kinds.{Kinds}
use Rattle.cell_library.specs.declared.raw.RawCell.{RawCell}

abbrev pub pin_body : PinBody → texts.PinTexts
pin_body p = record { direction = p.direction; function = p.function; is_three_state = p.is_three_state }

abbrev pub flip_body : FlipBody → texts.FlipTexts
flip_body f = record { clocked_on = f.clocked_on; next_state = f.next_state; is_async = f.is_async; has_second_clock = f.has_second_clock }

abbrev pub said_of : Said → Option Tree
said_of Nothing = None
said_of (Function f) = Some (tree_of f)

abbrev pub said_in : Option Said → Option (Option Tree)
said_in None = None
said_in (Some s) = Some (said_of s)

abbrev pub raw_pin : RawPin → read.ReadPin
raw_pin p = record { name = p.name; way = p.way; is_three_state = p.is_three_state; function = said_in p.function }

abbrev pub raw_flip : RawFlip → read.ReadFlip
raw_flip f = record { names = f.names; clocked_on = f.clocked_on; next = said_in f.next; is_async = f.is_async; has_second_clock = f.has_second_clock }

abbrev pub kinds : Kinds → texts.Kinds
kinds k = record { has_bus = k.has_bus; has_latch = k.has_latch; has_table = k.has_table; has_bank = k.has_bank }

abbrev pub raw_cell : RawCell → read.ReadCell
raw_cell c = record { kinds = kinds c.kinds; flips = map raw_flip c.flips; pins = map raw_pin c.pins }
