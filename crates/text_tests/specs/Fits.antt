-- Tests of a module's parts, by which it can be written as a small text.
use Rattle.std.specs.Prelude.{◌==◌, ℕ, Bool, true, false, not, ◌&&◌, length, nat_le, Option, Some, None}
use Rattle.std.specs.List.{list_all}
use Rattle.agm_net.specs.Checks.{is_writable, range_fits}
use Rattle.agm_net.specs.declared.mark.Mark.{Mark}
use Rattle.agm_net.specs.declared.mark.Mark.TheVariants as kind
use Rattle.small_text.specs.declared.small.Bit.{Bit}
use Rattle.small_text.specs.declared.small.Source.{Source}
use Rattle.small_text.specs.declared.small.Source.TheVariants as source
use Rattle.small_text.specs.declared.small.Declaration.{Declaration}
use Rattle.small_text.specs.declared.small.Declaration.TheVariants.{Port, Wires}
use Rattle.small_text.specs.declared.small.Item.{Item}
use Rattle.small_text.specs.declared.small.Item.TheVariants.{Assign, Not, Xor, And, Register}
use Rattle.small_text.specs.declared.small.Small.{Small}

abbrev pub index_fits : Option ℕ → Bool
index_fits None = true
index_fits (Some k) = nat_le k 65535

abbrev pub bit_fits : Bit → Bool
bit_fits b = is_writable b.name && index_fits b.index

abbrev pub source_fits : Source → Bool
source_fits (source.Bit b) = bit_fits b
source_fits (source.Constant v) = true

abbrev pub mark_fits : Mark → Bool
mark_fits kind.Public = false
mark_fits _ = true

abbrev pub declaration_fits : Declaration → Bool
declaration_fits (Port mark way range name) = mark_fits mark && (range_fits range && is_writable name)
declaration_fits (Wires names) = not (length names == 0) && list_all is_writable names

-- three bits at pins
abbrev pub pins_fit : Bit → Bit → Bit → Bool
pins_fit a b c = bit_fits a && (bit_fits b && bit_fits c)

abbrev pub item_fits : Item → Bool
item_fits (Assign target from) = bit_fits target && source_fits from
item_fits (Not name a y) = is_writable name && (bit_fits a && bit_fits y)
item_fits (Xor name a b y) = is_writable name && pins_fit a b y
item_fits (And name a b y) = is_writable name && pins_fit a b y
item_fits (Register name c d q) = is_writable name && pins_fit c d q

-- whether the module is within the limits of the small form, and its names can be written
abbrev pub small_fits : Small → Bool
small_fits s =
    (is_writable s.name && not (length s.ports == 0))
    && (list_all is_writable s.ports && (list_all declaration_fits s.declarations && list_all item_fits s.items))
