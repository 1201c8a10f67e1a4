-- What each reader goes on with behind its parts: x_1 behind the first, and so on.
use Rattle.std.proofs.Common.{ℕ, true, map, List, [], ◌∷◌, Option, Some, None, codes}
use Rattle.agm_net.specs.declared.port.Way.{Way}
use Rattle.agm_net.specs.declared.port.Range.{Range}
use Rattle.verilog_tokens.specs.Token.{Token}
use Rattle.verilog_reader.specs.declared.design.Attribute.{Attribute}
use Rattle.verilog_reader.specs.declared.design.Value.{Value}
use Rattle.verilog_reader.specs.declared.port.PortKind.{PortKind}
use Rattle.verilog_reader.specs.declared.port.PortEntry.{PortEntry}
use Rattle.verilog_reader.specs.Plain.{PlainForm, bit, part, join, repeat, forms_of, PlainConnection, PlainItem, declare, assign, instance, PlainModule}
use Rattle.verilog_reader.specs.Grammar.{port_item, port_items, entry_name}
use Rattle.verilog_reader.specs.Reading.{Read, ◌>>=◌, is_more, symbol_at, key_at, close_at, ident_at, number_at, with_front, single, many_at, more_at, listed_at, set_at, attribute_at, optional_range_at, behind_wire, port_way_at, bit_or_part_at, select_at, form_at, content_at, pins_at, bare_at, items_at, entry_at, Ports, ports_at, module_at}

abbrev pub some_value_1 : Value × List Token → Option (Option Value × List Token)
some_value_1 v = Some (Some v.0, v.1)

abbrev pub attribute_2 : List ℕ × List Token → Option Value × List Token → Option (Attribute × List Token)
attribute_2 name v = Some (record { name = name.0; value = v.0 }, v.1)

abbrev pub attribute_1 : List ℕ × List Token → Option (Attribute × List Token)
attribute_1 name = set_at name.1 >>= attribute_2 name

abbrev pub block_3 : List Token → List Attribute × List Token → List Token → Option (List Attribute × List Token)
block_3 a attributes rest = Some (attributes.0, rest)

abbrev pub block_2 : List Token → List Attribute × List Token → Option (List Attribute × List Token)
block_2 a attributes = close_at attributes.1 >>= block_3 a attributes

abbrev pub block_1 : List Token → Option (List Attribute × List Token)
block_1 a = listed_at attribute_at a >>= block_2 a

abbrev pub range_4 : ℕ × List Token → List Token → ℕ × List Token → List Token → Option (Option Range × List Token)
range_4 msb a lsb rest = Some (Some (record { msb = msb.0; lsb = lsb.0 }), rest)

abbrev pub range_3 : ℕ × List Token → List Token → ℕ × List Token → Option (Option Range × List Token)
range_3 msb a lsb = symbol_at 93 lsb.1 >>= range_4 msb a lsb

abbrev pub range_2 : ℕ × List Token → List Token → Option (Option Range × List Token)
range_2 msb a = number_at 0 a >>= range_3 msb a

abbrev pub range_1 : ℕ × List Token → Option (Option Range × List Token)
range_1 msb = symbol_at 58 msb.1 >>= range_2 msb

abbrev pub port_way_1 : Way × List Token → Option (Way × List Token)
port_way_1 w = Some (w.0, behind_wire w.1)

abbrev pub some_way_1 : Way × List Token → Option (Option Way × List Token)
some_way_1 w = Some (Some w.0, w.1)

abbrev pub bit_1 : List ℕ → ℕ → List Token → Option (PlainForm × List Token)
bit_1 name k rest = Some (bit name k, rest)

abbrev pub part_2 : List ℕ → ℕ → ℕ × List Token → List Token → Option (PlainForm × List Token)
part_2 name h l rest = Some (part name h l.0, rest)

abbrev pub part_1 : List ℕ → ℕ → ℕ × List Token → Option (PlainForm × List Token)
part_1 name h l = symbol_at 93 l.1 >>= part_2 name h l

abbrev pub index_1 : List ℕ → ℕ × List Token → Option (PlainForm × List Token)
index_1 name k = bit_or_part_at name k.0 k.1

abbrev pub name_1 : List ℕ × List Token → Option (PlainForm × List Token)
name_1 n = select_at n.0 n.1

abbrev pub join_2 : (List Token → Read PlainForm) → List PlainForm × List Token → List Token → Option (PlainForm × List Token)
join_2 p forms rest = Some (join (forms_of forms.0), rest)

abbrev pub join_1 : (List Token → Read PlainForm) → List PlainForm × List Token → Option (PlainForm × List Token)
join_1 p forms = symbol_at 125 forms.1 >>= join_2 p forms

abbrev pub repeat_5 : (List Token → Read PlainForm) → ℕ × List Token → List Token → PlainForm × List Token → List Token → List Token → Option (PlainForm × List Token)
repeat_5 p k a f b rest = Some (repeat k.0 f.0, rest)

abbrev pub repeat_4 : (List Token → Read PlainForm) → ℕ × List Token → List Token → PlainForm × List Token → List Token → Option (PlainForm × List Token)
repeat_4 p k a f b = symbol_at 125 b >>= repeat_5 p k a f b

abbrev pub repeat_3 : (List Token → Read PlainForm) → ℕ × List Token → List Token → PlainForm × List Token → Option (PlainForm × List Token)
repeat_3 p k a f = symbol_at 125 f.1 >>= repeat_4 p k a f

abbrev pub repeat_2 : (List Token → Read PlainForm) → ℕ × List Token → List Token → Option (PlainForm × List Token)
repeat_2 p k a = p a >>= repeat_3 p k a

abbrev pub repeat_1 : (List Token → Read PlainForm) → ℕ × List Token → Option (PlainForm × List Token)
repeat_1 p k = symbol_at 123 k.1 >>= repeat_2 p k

abbrev pub some_form_1 : PlainForm × List Token → Option (Option PlainForm × List Token)
some_form_1 f = Some (Some f.0, f.1)

abbrev pub pin_5 : List Token → List ℕ × List Token → List Token → Option PlainForm × List Token → List Token → Option (PlainConnection × List Token)
pin_5 a n b form rest = Some (record { pin = n.0; form = form.0 }, rest)

abbrev pub pin_4 : List Token → List ℕ × List Token → List Token → Option PlainForm × List Token → Option (PlainConnection × List Token)
pin_4 a n b form = symbol_at 41 form.1 >>= pin_5 a n b form

abbrev pub pin_3 : List Token → List ℕ × List Token → List Token → Option (PlainConnection × List Token)
pin_3 a n b = content_at b >>= pin_4 a n b

abbrev pub pin_2 : List Token → List ℕ × List Token → Option (PlainConnection × List Token)
pin_2 a n = symbol_at 40 n.1 >>= pin_3 a n

abbrev pub pin_1 : List Token → Option (PlainConnection × List Token)
pin_1 a = ident_at a >>= pin_2 a

abbrev pub declare_4 : List Attribute → Option Way × List Token → Option Range × List Token → List (List ℕ) × List Token → List Token → Option (PlainItem × List Token)
declare_4 attributes way range names rest = Some (declare attributes way.0 range.0 names.0, rest)

abbrev pub declare_3 : List Attribute → Option Way × List Token → Option Range × List Token → List (List ℕ) × List Token → Option (PlainItem × List Token)
declare_3 attributes way range names = symbol_at 59 names.1 >>= declare_4 attributes way range names

abbrev pub declare_2 : List Attribute → Option Way × List Token → Option Range × List Token → Option (PlainItem × List Token)
declare_2 attributes way range = listed_at ident_at range.1 >>= declare_3 attributes way range

abbrev pub declare_1 : List Attribute → Option Way × List Token → Option (PlainItem × List Token)
declare_1 attributes way = optional_range_at way.1 >>= declare_2 attributes way

abbrev pub assign_4 : List Attribute → PlainForm × List Token → List Token → PlainForm × List Token → List Token → Option (PlainItem × List Token)
assign_4 attributes left a right rest = Some (assign attributes left.0 right.0, rest)

abbrev pub assign_3 : List Attribute → PlainForm × List Token → List Token → PlainForm × List Token → Option (PlainItem × List Token)
assign_3 attributes left a right = symbol_at 59 right.1 >>= assign_4 attributes left a right

abbrev pub assign_2 : List Attribute → PlainForm × List Token → List Token → Option (PlainItem × List Token)
assign_2 attributes left a = form_at true 100 a >>= assign_3 attributes left a

abbrev pub assign_1 : List Attribute → PlainForm × List Token → Option (PlainItem × List Token)
assign_1 attributes left = symbol_at 61 left.1 >>= assign_2 attributes left

abbrev pub instance_6 : List Attribute → List ℕ × List Token → List ℕ × List Token → List Token → List PlainConnection × List Token → List Token → List Token → Option (PlainItem × List Token)
instance_6 attributes cell n a pins b rest = Some (instance attributes cell.0 n.0 pins.0, rest)

abbrev pub instance_5 : List Attribute → List ℕ × List Token → List ℕ × List Token → List Token → List PlainConnection × List Token → List Token → Option (PlainItem × List Token)
instance_5 attributes cell n a pins b = symbol_at 59 b >>= instance_6 attributes cell n a pins b

abbrev pub instance_4 : List Attribute → List ℕ × List Token → List ℕ × List Token → List Token → List PlainConnection × List Token → Option (PlainItem × List Token)
instance_4 attributes cell n a pins = symbol_at 41 pins.1 >>= instance_5 attributes cell n a pins

abbrev pub instance_3 : List Attribute → List ℕ × List Token → List ℕ × List Token → List Token → Option (PlainItem × List Token)
instance_3 attributes cell n a = pins_at a >>= instance_4 attributes cell n a

abbrev pub instance_2 : List Attribute → List ℕ × List Token → List ℕ × List Token → Option (PlainItem × List Token)
instance_2 attributes cell n = symbol_at 40 n.1 >>= instance_3 attributes cell n

abbrev pub instance_1 : List Attribute → List ℕ × List Token → Option (PlainItem × List Token)
instance_1 attributes cell = ident_at cell.1 >>= instance_2 attributes cell

abbrev pub item_1 : List Attribute × List Token → Option (PlainItem × List Token)
item_1 a = bare_at a.0 a.1

abbrev pub port_kind_3 : List Attribute × List Token → Way × List Token → Option Range × List Token → Option (PortKind × List Token)
port_kind_3 attributes way range = Some (record { attributes = attributes.0; way = way.0; range = range.0 }, range.1)

abbrev pub port_kind_2 : List Attribute × List Token → Way × List Token → Option (PortKind × List Token)
port_kind_2 attributes way = optional_range_at way.1 >>= port_kind_3 attributes way

abbrev pub port_kind_1 : List Attribute × List Token → Option (PortKind × List Token)
port_kind_1 attributes = port_way_at attributes.1 >>= port_kind_2 attributes

abbrev pub kind_entry_2 : PortKind × List Token → List ℕ × List Token → Option (PortEntry × List Token)
kind_entry_2 kind n = Some (record { kind = Some kind.0; name = n.0 }, n.1)

abbrev pub kind_entry_1 : PortKind × List Token → Option (PortEntry × List Token)
kind_entry_1 kind = ident_at kind.1 >>= kind_entry_2 kind

abbrev pub name_entry_1 : List ℕ × List Token → Option (PortEntry × List Token)
name_entry_1 n = Some (record { kind = None; name = n.0 }, n.1)

abbrev pub ansi_3 : PortKind × List Token → List ℕ × List Token → List PortEntry × List Token → Option (Ports × List Token)
ansi_3 kind n more = Some ((n.0 ∷ map entry_name more.0, port_item kind.0 n.0 ∷ port_items kind.0 more.0), more.1)

abbrev pub ansi_2 : PortKind × List Token → List ℕ × List Token → Option (Ports × List Token)
ansi_2 kind n = more_at entry_at n.1 >>= ansi_3 kind n

abbrev pub ansi_1 : PortKind × List Token → Option (Ports × List Token)
ansi_1 kind = ident_at kind.1 >>= ansi_2 kind

abbrev pub plain_ports_1 : List (List ℕ) × List Token → Option (Ports × List Token)
plain_ports_1 names = Some ((names.0, []), names.1)

abbrev pub parenthesis_2 : Ports × List Token → List Token → Option (Ports × List Token)
parenthesis_2 ports rest = Some (ports.0, rest)

abbrev pub parenthesis_1 : Ports × List Token → Option (Ports × List Token)
parenthesis_1 ports = symbol_at 41 ports.1 >>= parenthesis_2 ports

abbrev pub module_7 : List Attribute × List Token → List Token → List ℕ × List Token → Ports × List Token → List Token → List PlainItem × List Token → List Token → Option (PlainModule × List Token)
module_7 attributes a n ports b items rest = Some (record { name = n.0; attributes = attributes.0; ports = ports.0.0; items = items.0 }, rest)

abbrev pub module_6 : List Attribute × List Token → List Token → List ℕ × List Token → Ports × List Token → List Token → List PlainItem × List Token → Option (PlainModule × List Token)
module_6 attributes a n ports b items = key_at (codes "endmodule") items.1 >>= module_7 attributes a n ports b items

abbrev pub module_5 : List Attribute × List Token → List Token → List ℕ × List Token → Ports × List Token → List Token → Option (PlainModule × List Token)
module_5 attributes a n ports b = with_front ports.0.1 (items_at b) >>= module_6 attributes a n ports b

abbrev pub module_4 : List Attribute × List Token → List Token → List ℕ × List Token → Ports × List Token → Option (PlainModule × List Token)
module_4 attributes a n ports = symbol_at 59 ports.1 >>= module_5 attributes a n ports

abbrev pub module_3 : List Attribute × List Token → List Token → List ℕ × List Token → Option (PlainModule × List Token)
module_3 attributes a n = ports_at n.1 >>= module_4 attributes a n

abbrev pub module_2 : List Attribute × List Token → List Token → Option (PlainModule × List Token)
module_2 attributes a = ident_at a >>= module_3 attributes a

abbrev pub module_1 : List Attribute × List Token → Option (PlainModule × List Token)
module_1 attributes = key_at (codes "module") attributes.1 >>= module_2 attributes

abbrev pub modules_1 : PlainModule × List Token → Option (List PlainModule × List Token)
modules_1 m = with_front (single m.0) (many_at single is_more module_at m.1)
