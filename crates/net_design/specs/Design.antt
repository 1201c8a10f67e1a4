-- The design of a net: one module, for people to read.
use Rattle.std.specs.Prelude.{◌==◌, ◌++◌, ◌∷◌, ℕ, true, false, cond, max, List, [], length, map, fold, replicate, Option, Some, None, is_none, codes, nat_eq}
use Rattle.std.specs.List.{enumerate_from, flat_map, starts_with}
use Rattle.std.specs.Fmt.{decimal}
use Rattle.agm_net.specs.Formula.{Formula, f_zero, f_one, f_wire, f_not, f_and, f_or, f_xor, f_mux}
use Rattle.agm_net.specs.Plain.{Line, Stored, PlainNet}
use Rattle.agm_net.specs.declared.port.Port.{Port}
use Rattle.verilog_reader.specs.Plain.{PlainForm, constant, PlainConnection, PlainItem, declare, assign, instance, PlainModule}
use Rattle.verilog_reader.specs.declared.design.Attribute.{Attribute}
use Rattle.verilog_reader.specs.declared.design.Value.TheVariants.{Text}
use Rattle.net_design.specs.declared.sites.Site.{Site}
use Rattle.net_design.specs.declared.cells.Cell.{Cell}
use Rattle.net_design.specs.declared.cells.Cell.TheVariants as cell
use Rattle.net_design.specs.declared.cells.Next.{Next}
use Rattle.net_design.specs.declared.cells.Next.TheVariants as next
use Rattle.net_design.specs.Bits.{bit_form}
use Rattle.net_design.specs.Sites.{sites_of, site_at, bit_of}

-- declarations

-- the mark of the port of a number: the clock's where it is the clock
abbrev pub clock_attribute : Attribute
clock_attribute = record { name = codes "AGEMA"; value = Some (Text (codes "clock")) }

abbrev pub mark_at : Option ℕ → ℕ → List Attribute
mark_at None k = []
mark_at (Some c) k = cond (c == k) (clock_attribute ∷ []) []

-- the declaration of a port, from its number and the port
abbrev pub port_item : Option ℕ → ℕ × Port → PlainItem
port_item clock p = declare (mark_at clock p.0) (Some p.1.way) p.1.range (p.1.name ∷ [])

abbrev pub wire_item : List ℕ → PlainItem
wire_item name = declare [] None None (name ∷ [])

-- that of a wire that is no bit of a port, from its number and its name
abbrev pub own_item : List (Option Site) → ℕ × List ℕ → List PlainItem
own_item sites w = cond (is_none (site_at sites w.0)) (wire_item w.1 ∷ []) []

-- instances

-- the length of the longest name that begins as those of instances do, 0 where none does
abbrev pub longer : ℕ → List ℕ → ℕ
longer most name = cond (starts_with nat_eq name (codes "agm_u")) (max most (length name)) most

abbrev pub port_name : Port → List ℕ
port_name p = p.name

abbrev pub margin_of : PlainNet → ℕ
margin_of net = fold longer (fold longer 0 net.wires) (map port_name net.ports)

-- The name of the instance of a number: `agm_u`, as many `_` as the longest name has bytes that begins so, and the number.
abbrev pub instance_name : (margin k : ℕ) → List ℕ
instance_name margin k = codes "agm_u" ++ (replicate margin 95 ++ decimal k)

abbrev pub pin : List ℕ → PlainForm → PlainConnection
pin name f = record { pin = name; form = Some f }

-- equations and registers

-- the cell of a formula
abbrev pub cell_of : Formula → Cell
cell_of f_zero = cell.Constant false
cell_of f_one = cell.Constant true
cell_of (f_wire a) = cell.Wire a
cell_of (f_not (f_wire a)) = cell.Not a
cell_of (f_and (f_wire a) (f_wire b)) = cell.And a b
cell_of (f_or (f_wire a) (f_wire b)) = cell.Or a b
cell_of (f_xor (f_wire a) (f_wire b)) = cell.Xor a b
cell_of (f_mux (f_wire s) (f_wire a) (f_wire b)) = cell.Mux s a b
cell_of _ = cell.Other

abbrev pub two_inputs : (word name : List ℕ) → (a b y : PlainForm) → PlainItem
two_inputs word name a b y = instance [] word name (pin (codes "A") a ∷ pin (codes "B") b ∷ pin (codes "Y") y ∷ [])

-- The assign or the instance that has wire w as its output, for the equation of a number. A formula of more than one operator has none.
abbrev pub cell_item : (form : ℕ → PlainForm) → (margin k w : ℕ) → Cell → PlainItem
cell_item form margin k w (cell.Constant v) = assign [] (form w) (constant (v ∷ []))
cell_item form margin k w (cell.Wire a) = assign [] (form w) (form a)
cell_item form margin k w (cell.Not a) = instance [] (codes "AGM_NOT") (instance_name margin k) (pin (codes "A") (form a) ∷ pin (codes "Y") (form w) ∷ [])
cell_item form margin k w (cell.And a b) = two_inputs (codes "AGM_AND2") (instance_name margin k) (form a) (form b) (form w)
cell_item form margin k w (cell.Or a b) = two_inputs (codes "AGM_OR2") (instance_name margin k) (form a) (form b) (form w)
cell_item form margin k w (cell.Xor a b) = two_inputs (codes "AGM_XOR2") (instance_name margin k) (form a) (form b) (form w)
cell_item form margin k w (cell.Mux s a b) =
    instance [] (codes "AGM_MUX2") (instance_name margin k)
    (pin (codes "A") (form a) ∷ pin (codes "B") (form b) ∷ pin (codes "S") (form s) ∷ pin (codes "Y") (form w) ∷ [])
cell_item form margin k w cell.Other = assign [] (form w) (constant (false ∷ []))

-- what a register stores: a wire, or a wire where another is 1
abbrev pub next_of : Formula → Next
next_of (f_wire d) = next.Wire d
next_of (f_mux (f_wire e) x (f_wire d)) = next.Enabled e d
next_of _ = next.Other

abbrev pub next_item : (form : ℕ → PlainForm) → (margin k c q : ℕ) → Next → PlainItem
next_item form margin k c q (next.Wire d) =
    instance [] (codes "AGM_DFF") (instance_name margin k) (pin (codes "C") (form c) ∷ pin (codes "D") (form d) ∷ pin (codes "Q") (form q) ∷ [])
next_item form margin k c q (next.Enabled e d) =
    instance [] (codes "AGM_DFFE") (instance_name margin k)
    (pin (codes "C") (form c) ∷ pin (codes "D") (form d) ∷ pin (codes "E") (form e) ∷ pin (codes "Q") (form q) ∷ [])
next_item form margin k c q next.Other = assign [] (form q) (constant (false ∷ []))

-- from the number of an item, and the equation or the register
abbrev pub line_item : (form : ℕ → PlainForm) → (margin : ℕ) → ℕ × Line → PlainItem
line_item form margin l = cell_item form margin l.0 l.1.0 (cell_of l.1.1)

abbrev pub register_item : (form : ℕ → PlainForm) → (margin : ℕ) → ℕ × Stored → PlainItem
register_item form margin r = next_item form margin r.0 r.1.clock r.1.q (next_of r.1.next)

-- the form of a wire: a bit of a port, or the wire's name
abbrev pub form_of : PlainNet → List (Option Site) → ℕ → PlainForm
form_of net sites w = bit_form (bit_of net sites w)

-- the ports in their order, then the wires that are no bits of ports
abbrev pub declarations : PlainNet → List (Option Site) → List PlainItem
declarations net sites =
    map (port_item net.clock) (enumerate_from 0 net.ports) ++ flat_map (own_item sites) (enumerate_from 0 net.wires)

-- the equations in their order, then the registers
abbrev pub statements : PlainNet → List (Option Site) → (margin : ℕ) → List PlainItem
statements net sites margin =
    map (line_item (form_of net sites) margin) (enumerate_from 0 net.lines)
    ++ map (register_item (form_of net sites) margin) (enumerate_from (length net.lines) net.registers)

-- The module of a net, which is called `agm_top`. The clock's port alone is marked.
abbrev pub module_of : PlainNet → PlainModule
module_of net = record {
  name = codes "agm_top";
  attributes = [];
  ports = map port_name net.ports;
  items = declarations net (sites_of net) ++ statements net (sites_of net) (margin_of net);
}
