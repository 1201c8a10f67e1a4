-- The plain view of a design.
use Rattle.std.specs.Prelude.{ℕ, List, map}
use Rattle.std.specs.Option.{option_map}
use Rattle.verilog_reader.specs.Plain.{PlainForm, whole, bit, part, constant, join, repeat, forms_of, PlainConnection, PlainItem, declare, assign, instance, PlainModule, PlainDesign}
use Rattle.verilog_reader.specs.declared.design.Form.{Form, fold-Form}
use Rattle.verilog_reader.specs.declared.design.Form.TheOpen.{Form-F}
use Rattle.verilog_reader.specs.declared.design.Connection.{Connection}
use Rattle.verilog_reader.specs.declared.design.Item.{Item}
use Rattle.verilog_reader.specs.declared.design.Item.TheVariants.{Declare, Assign, Instance}
use Rattle.verilog_reader.specs.declared.design.Module.{Module}
use Rattle.verilog_reader.specs.declared.design.Design.{Design}
use Rattle.verilog_reader.specs.declared.port.Ports.{Ports}

-- one level, with each form inside already seen as its plain form
abbrev pub form_step : Form-F PlainForm → PlainForm
form_step (Form-F.Whole n) = whole n
form_step (Form-F.Bit n k) = bit n k
form_step (Form-F.Part n h l) = part n h l
form_step (Form-F.Constant bits) = constant bits
form_step (Form-F.Join fs) = join (forms_of fs)
form_step (Form-F.Repeat k f) = repeat k f.value

abbrev pub form_view : Form → PlainForm
form_view = fold-Form PlainForm form_step

abbrev pub pin_view : Connection → PlainConnection
pin_view c = record { pin = c.pin; form = option_map form_view c.form }

abbrev pub item_view : Item → PlainItem
item_view (Declare attributes way range names) = declare attributes way range names
item_view (Assign attributes left right) = assign attributes (form_view left) (form_view right)
item_view (Instance attributes cell name pins) = instance attributes cell name (map pin_view pins)

abbrev pub module_view : Module → PlainModule
module_view m = record { name = m.name; attributes = m.attributes; ports = m.ports; items = map item_view m.items }

abbrev pub design_view : Design → PlainDesign
design_view d = map module_view d.modules

abbrev pub ports_view : Ports → List (List ℕ) × List PlainItem
ports_view p = (p.names, map item_view p.items)
