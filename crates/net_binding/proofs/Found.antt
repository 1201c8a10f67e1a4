-- Items as they stand in memory.
use Rattle.std.proofs.Common.{◌≡◌, ◌++◌, ℕ, List, ◌∷◌, Option, Some, None, Result, map, position, slice_get, subst, refl, ap, sym, ◌∙◌}
use Rattle.std.specs.List.{flat_map}
use Rattle.std.specs.Str.{bytes_eq}
use Rattle.cell_library.specs.declared.types.Cell.{Cell}
use Rattle.cell_faces.specs.Cells.{find_cell}
use Rattle.verilog_reader.specs.Plain.{PlainConnection, PlainItem, instance}
use Rattle.verilog_reader.specs.View.{pin_view, item_view, module_view}
use Rattle.verilog_reader.specs.declared.design.Attribute.{Attribute}
use Rattle.verilog_reader.specs.declared.design.Connection.{Connection}
use Rattle.verilog_reader.specs.declared.design.Item.{Item}
use Rattle.verilog_reader.specs.declared.design.Item.TheVariants.{Instance}
use Rattle.verilog_reader.specs.declared.design.Module.{Module}
use Rattle.form_bits.specs.Forms.{Text, Look, look_in}
use Rattle.module_outlines.specs.View.{Outlines}
use Rattle.module_outlines.specs.Outlines.{module_names}
use Rattle.module_outlines.specs.declared.outline.Outline.{Outline}
use Rattle.bound_items.specs.Items.{out_lines}
use Rattle.bound_items.specs.State.{State, Gives}
use Rattle.bound_items.specs.declared.netlist.Netlist.{Netlist}
use Rattle.bound_items.specs.declared.fault.BindFault.{BindFault}
use Rattle.net_binding.specs.Walk.{Parts, module_name, module_number, cell_found}
use Rattle.net_binding.specs.Ready.{plain_parts}
use Rattle.net_binding.specs.Rest.{item_module, plain_events, pins_of, behind, behind_in, behind_item}
use Rattle.net_binding.specs.declared.frame.Frame.{Frame}
use Rattle.net_binding.proofs.Given.{look_is, some_map}

pub plain_given : (P : Parts) (prefix : Text) (look : Look) (base n : ℕ) (s : State) (r : Result Netlist BindFault) (i : Item) (a : List Attribute) (cell name site : Text) (pins given : List Connection)
    → i ≡ Instance a cell name pins → site ≡ prefix ++ name → given ≡ pins
    → Gives s (cell_found site cell look base n (map pin_view given) (find_cell P.cells cell)) r
    → Gives s (plain_events P prefix look base n (item_view i)) r
plain_given P prefix look base n s r i a cell name site pins given e f g h =
    subst (λ x. Gives s (plain_events P prefix look base n (item_view x)) r) (sym e)
    (subst (λ x. Gives s (cell_found x cell look base n (map pin_view pins) (find_cell P.cells cell)) r) f
    (subst (λ xs. Gives s (cell_found site cell look base n (map pin_view xs) (find_cell P.cells cell)) r) g h))

pub number_given : (modules : List Module) (numbers : List Text) (cell text : Text) (o : Option ℕ) → numbers ≡ map module_name (map module_view modules) → text ≡ cell → o ≡ position (λ n. bytes_eq n text) numbers
    → module_number (map module_view modules) cell ≡ o
number_given modules numbers cell text o e f g =
    ap (λ ns. position (λ n. bytes_eq n cell) ns) (sym e) ∙ (ap (λ t. position (λ n. bytes_eq n t) numbers) (sym f) ∙ sym g)

pub item_none : (P : Parts) (i : Item) (a : List Attribute) (cell name : Text) (pins : List Connection) → i ≡ Instance a cell name pins → module_number P.modules cell ≡ None → item_module P (item_view i) ≡ None
item_none P i a cell name pins e f = ap (λ x. item_module P (item_view x)) e ∙ f

pub item_is : (items : List Item) (k : ℕ) (i : Item) (a : List Attribute) (cell name : Text) (pins given : List Connection) → slice_get items k ≡ Some i → i ≡ Instance a cell name pins → given ≡ pins
    → slice_get (map item_view items) k ≡ Some (instance a cell name (map pin_view given))
item_is items k i a cell name pins given e f g =
    some_map item_view items k i e ∙ (ap (λ x. Some (item_view x)) f ∙ ap (λ xs. Some (instance a cell name (map pin_view xs))) (sym g))

pub behind_given : (modules : List Module) (cells : List Cell) (inside own : Module) (o : Outline) (i : Item) (f g : Frame) (pins : List PlainConnection)
    → slice_get modules f.number ≡ Some inside → slice_get modules g.number ≡ Some own → Outlines (module_view own) o → slice_get own.items g.item ≡ Some i → pins ≡ pins_of (item_view i)
    → flat_map (out_lines (module_view inside) f.base (look_in o.names.names o.names.spots) g.base) pins ≡ behind (plain_parts modules cells) f g
behind_given modules cells inside own o i f g pins e h k j p =
    let P : Parts = plain_parts modules cells in
    let is : behind P f g ≡ flat_map (out_lines (module_view inside) f.base (module_names (module_view own)) g.base) (pins_of (item_view i)) =
    ap (λ x. behind_in f g x (slice_get P.modules g.number)) (some_map module_view modules f.number inside e)
    ∙ (ap (λ x. behind_in f g (Some (module_view inside)) x) (some_map module_view modules g.number own h)
    ∙ ap (λ x. behind_item f g (module_view inside) (module_view own) x) (some_map item_view own.items g.item i j)) in
    ap (λ look. flat_map (out_lines (module_view inside) f.base look g.base) pins) (look_is (module_view own) o k)
    ∙ (ap (λ xs. flat_map (out_lines (module_view inside) f.base (module_names (module_view own)) g.base) xs) p ∙ sym is)
