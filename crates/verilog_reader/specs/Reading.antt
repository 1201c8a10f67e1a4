-- Reading tokens from left to right: what stands in front of a list of tokens, with the tokens behind it.
use Rattle.std.specs.Prelude.{◌≡◌, ◌==◌, ◌&&◌, ◌^◌, ℕ, zero, suc, Bool, true, false, cond, not, nat_le, nat_lt, List, [], ◌∷◌, ◌++◌, length, map, drop, Option, Some, None, Result, Ok, Err, codes}
use Rattle.std.specs.Str.{bytes_eq}
use Rattle.agm_net.specs.declared.port.Way.{Way}
use Rattle.agm_net.specs.declared.port.Way.TheVariants.{Input, Output}
use Rattle.agm_net.specs.declared.port.Range.{Range}
use Rattle.verilog_tokens.specs.Token.{Token, Name, Key, Number, Constant, Text, Symbol, Open, Close, Stray}
use Rattle.verilog_reader.specs.Grammar.{entry_name, port_item, port_items}
use Rattle.verilog_reader.specs.Plain.{PlainForm, whole, bit, part, constant, join, repeat, forms_of, PlainConnection, PlainItem, declare, assign, instance, PlainModule, PlainDesign}
use Rattle.verilog_reader.specs.declared.design.Attribute.{Attribute}
use Rattle.verilog_reader.specs.declared.design.Value.{Value}
use Rattle.verilog_reader.specs.declared.design.Value.TheVariants as value
use Rattle.verilog_reader.specs.declared.port.PortKind.{PortKind}
use Rattle.verilog_reader.specs.declared.port.PortEntry.{PortEntry}
use Rattle.verilog_reader.specs.declared.stop.Stop.{Stop}
use Rattle.verilog_reader.specs.declared.stop.Stop.TheVariants as stops

-- a value and the tokens behind it, None where no such value stands in front
abbrev pub Read : Type 0 → Type 0
Read X = Option (X × List Token)

infixl 10 ◌>>=◌
abbrev pub ◌>>=◌ : {A B : Type 0} → Option A → (A → Option B) → Option B
None >>= f = None
(Some x) >>= f = f x

-- A function stops where reading gives nothing, unless memory ran out.
abbrev pub Fails : {Y : Type 0} → Stop → Option Y → Type 0
Fails stops.Memory read = Unit {0}
Fails (stops.Wrong left) read = read ≡ None

-- what a function returned is what reading gives
abbrev pub Gives : {X Y : Type 0} → (X → Y) → Result X Stop → Option Y → Type 0
Gives view (Ok x) read = read ≡ Some (view x)
Gives view (Err e) read = Fails e read

abbrev pub Leads : {X Y : Type 0} → (X → Y) → Option X → Option Y → Type 0
Leads view (Some x) read = read ≡ Some (view x)
Leads view None read = read ≡ None

-- whether a symbol stands in front
abbrev pub begins : ℕ → List Token → Bool
begins s (Symbol c ∷ ts) = c == s
begins s _ = false

-- whether a key stands in front
abbrev pub begins_key : List ℕ → List Token → Bool
begins_key word (Key k ∷ ts) = bytes_eq k word
begins_key word _ = false

abbrev pub begins_name : List Token → Bool
begins_name (Name n ∷ ts) = true
begins_name _ = false

abbrev pub begins_number : List Token → Bool
begins_number (Number n ∷ ts) = true
begins_number _ = false

abbrev pub begins_open : List Token → Bool
begins_open (Open ∷ ts) = true
begins_open _ = false

abbrev pub is_more : List Token → Bool
is_more [] = false
is_more (t ∷ ts) = true

abbrev pub symbol_at : ℕ → List Token → Option (List Token)
symbol_at s ts = cond (begins s ts) (Some (drop 1 ts)) None

abbrev pub key_at : List ℕ → List Token → Option (List Token)
key_at word ts = cond (begins_key word ts) (Some (drop 1 ts)) None

abbrev pub open_at : List Token → Option (List Token)
open_at (Open ∷ ts) = Some ts
open_at _ = None

abbrev pub close_at : List Token → Option (List Token)
close_at (Close ∷ ts) = Some ts
close_at _ = None

abbrev pub ident_at : List Token → Read (List ℕ)
ident_at (Name n ∷ ts) = Some (n, ts)
ident_at _ = None

abbrev pub with_rest : {X : Type 0} → Option X → List Token → Read X
with_rest o ts = o >>= (λ x. Some (x, ts))

-- a number from a least one on, which ranges, selects and counts may have
abbrev pub limited : ℕ → ℕ → Option ℕ
limited least n = cond (nat_le least n && nat_le n 65535) (Some n) None

abbrev pub number_at : ℕ → List Token → Read ℕ
number_at least (Number n ∷ ts) = with_rest (limited least n) ts
number_at least _ = None

-- a list behind a value
abbrev pub with_front : {X : Type 0} → List X → Read (List X) → Read (List X)
with_front front r = r >>= (λ xs. Some (front ++ xs.0, xs.1))

abbrev pub single : {X : Type 0} → X → List X
single x = x ∷ []

-- lists, one behind the other, while a test of the tokens holds, in at most so many steps
unfoldable pub many_in : {X Y : Type 0} → (X → List Y) → (List Token → Bool) → (List Token → Read X) → ℕ → List Token → Read (List Y)
many_in f on p zero ts = Some ([], ts)
many_in f on p (suc k) ts = cond (on ts) (p ts >>= (λ x. with_front (f x.0) (many_in f on p k x.1))) (Some ([], ts))

abbrev pub many_at : {X Y : Type 0} → (X → List Y) → (List Token → Bool) → (List Token → Read X) → List Token → Read (List Y)
many_at f on p ts = many_in f on p (length ts) ts

-- "," x
unfoldable pub next_at : {X : Type 0} → (List Token → Read X) → List Token → Read X
next_at p ts = symbol_at 44 ts >>= p

abbrev pub more_at : {X : Type 0} → (List Token → Read X) → List Token → Read (List X)
more_at p ts = many_at single (begins 44) (next_at p) ts

-- x { "," x }
unfoldable pub listed_at : {X : Type 0} → (List Token → Read X) → List Token → Read (List X)
listed_at p ts = p ts >>= (λ x. with_front (single x.0) (more_at p x.1))

-- the value of an attribute
abbrev pub value_at : List Token → Read Value
value_at (Text text ∷ ts) = Some (value.Text text, ts)
value_at (Number n ∷ ts) = cond (nat_lt n (2 ^ 128)) (Some (value.Number n, ts)) None
value_at (Constant bits ∷ ts) = Some (value.Bits bits, ts)
value_at _ = None

unfoldable pub some_value_at : List Token → Read (Option Value)
some_value_at ts = value_at ts >>= (λ v. Some (Some v.0, v.1))

abbrev pub set_at : List Token → Read (Option Value)
set_at ts = cond (begins 61 ts) (some_value_at (drop 1 ts)) (Some (None, ts))

unfoldable pub attribute_at : List Token → Read Attribute
attribute_at ts = do
  name ← ident_at ts
  v ← set_at name.1
  Some (record { name = name.0; value = v.0 }, v.1)

-- "(*" attribute { "," attribute } "*)"
unfoldable pub block_at : List Token → Read (List Attribute)
block_at ts = do
  a ← open_at ts
  attributes ← listed_at attribute_at a
  rest ← close_at attributes.1
  Some (attributes.0, rest)

abbrev pub itself : {X : Type 0} → X → X
itself x = x

abbrev pub attributes_at : List Token → Read (List Attribute)
attributes_at ts = many_at itself begins_open block_at ts

-- number ":" number "]", behind "["
unfoldable pub range_at : List Token → Read (Option Range)
range_at ts = do
  msb ← number_at 0 ts
  a ← symbol_at 58 msb.1
  lsb ← number_at 0 a
  rest ← symbol_at 93 lsb.1
  Some (Some (record { msb = msb.0; lsb = lsb.0 }), rest)

abbrev pub optional_range_at : List Token → Read (Option Range)
optional_range_at ts = cond (begins 91 ts) (range_at (drop 1 ts)) (Some (None, ts))

abbrev pub way_of : List ℕ → Option Way
way_of word = cond (bytes_eq word (codes "input")) (Some Input) (cond (bytes_eq word (codes "output")) (Some Output) None)

abbrev pub way_at : List Token → Read Way
way_at (Key word ∷ ts) = with_rest (way_of word) ts
way_at _ = None

-- the tokens behind "wire", where it stands in front
abbrev pub behind_wire : List Token → List Token
behind_wire ts = cond (begins_key (codes "wire") ts) (drop 1 ts) ts

-- way [ "wire" ]
unfoldable pub port_way_at : List Token → Read Way
port_way_at ts = way_at ts >>= (λ w. Some (w.0, behind_wire w.1))

unfoldable pub some_way_at : List Token → Read (Option Way)
some_way_at ts = port_way_at ts >>= (λ w. Some (Some w.0, w.1))

-- way [ "wire" ], or "wire"
abbrev pub any_way_at : List Token → Read (Option Way)
any_way_at ts = cond (begins_key (codes "wire") ts) (Some (None, drop 1 ts)) (some_way_at ts)

-- a select behind a name
unfoldable pub bit_at : List ℕ → ℕ → List Token → Read PlainForm
bit_at name k ts = symbol_at 93 ts >>= (λ rest. Some (bit name k, rest))

unfoldable pub part_at : List ℕ → ℕ → List Token → Read PlainForm
part_at name h ts = do
  l ← number_at 0 ts
  rest ← symbol_at 93 l.1
  Some (part name h l.0, rest)

abbrev pub bit_or_part_at : List ℕ → ℕ → List Token → Read PlainForm
bit_or_part_at name k ts = cond (begins 58 ts) (part_at name k (drop 1 ts)) (bit_at name k ts)

unfoldable pub index_at : List ℕ → List Token → Read PlainForm
index_at name ts = number_at 0 ts >>= (λ k. bit_or_part_at name k.0 k.1)

abbrev pub select_at : List ℕ → List Token → Read PlainForm
select_at name ts = cond (begins 91 ts) (index_at name (drop 1 ts)) (Some (whole name, ts))

unfoldable pub name_at : List Token → Read PlainForm
name_at ts = ident_at ts >>= (λ name. select_at name.0 name.1)

abbrev pub constant_or_name_at : List Token → Read PlainForm
constant_or_name_at (Constant bits ∷ ts) = Some (constant bits, ts)
constant_or_name_at ts = name_at ts

-- a name, or a constant where values may stand
abbrev pub leaf_at : (values : Bool) → List Token → Read PlainForm
leaf_at values ts = cond values (constant_or_name_at ts) (name_at ts)

-- form { "," form } "}"
unfoldable pub join_at : (List Token → Read PlainForm) → List Token → Read PlainForm
join_at p ts = do
  forms ← listed_at p ts
  rest ← symbol_at 125 forms.1
  Some (join (forms_of forms.0), rest)

-- number "{" form "}" "}"
unfoldable pub repeat_at : (List Token → Read PlainForm) → List Token → Read PlainForm
repeat_at p ts = do
  k ← number_at 1 ts
  a ← symbol_at 123 k.1
  f ← p a
  b ← symbol_at 125 f.1
  rest ← symbol_at 125 b
  Some (repeat k.0 f.0, rest)

-- a concatenation, or a replication where values may stand, behind "{"
abbrev pub braces_at : (values : Bool) → (List Token → Read PlainForm) → List Token → Read PlainForm
braces_at values p ts = cond (values && begins_number ts) (repeat_at p ts) (join_at p ts)

-- a form in which braces nest at most so deep
abbrev pub form_at : (values : Bool) → ℕ → List Token → Read PlainForm
form_at values zero ts = leaf_at values ts
form_at values (suc n) ts = cond (begins 123 ts) (braces_at values (form_at values n) (drop 1 ts)) (leaf_at values ts)

unfoldable pub some_form_at : List Token → Read (Option PlainForm)
some_form_at ts = form_at true 100 ts >>= (λ f. Some (Some f.0, f.1))

abbrev pub content_at : List Token → Read (Option PlainForm)
content_at ts = cond (begins 41 ts) (Some (None, ts)) (some_form_at ts)

-- "." ident "(" [ form ] ")"
unfoldable pub pin_at : List Token → Read PlainConnection
pin_at ts = do
  a ← symbol_at 46 ts
  pin ← ident_at a
  b ← symbol_at 40 pin.1
  form ← content_at b
  rest ← symbol_at 41 form.1
  Some (record { pin = pin.0; form = form.0 }, rest)

-- none before ")"
abbrev pub pins_at : List Token → Read (List PlainConnection)
pins_at ts = cond (begins 41 ts) (Some ([], ts)) (listed_at pin_at ts)

unfoldable pub declare_at : List Attribute → List Token → Read PlainItem
declare_at attributes ts = do
  way ← any_way_at ts
  range ← optional_range_at way.1
  names ← listed_at ident_at range.1
  rest ← symbol_at 59 names.1
  Some (declare attributes way.0 range.0 names.0, rest)

-- behind "assign"
unfoldable pub assign_at : List Attribute → List Token → Read PlainItem
assign_at attributes ts = do
  left ← form_at false 100 ts
  a ← symbol_at 61 left.1
  right ← form_at true 100 a
  rest ← symbol_at 59 right.1
  Some (assign attributes left.0 right.0, rest)

unfoldable pub instance_at : List Attribute → List Token → Read PlainItem
instance_at attributes ts = do
  cell ← ident_at ts
  name ← ident_at cell.1
  a ← symbol_at 40 name.1
  pins ← pins_at a
  b ← symbol_at 41 pins.1
  rest ← symbol_at 59 b
  Some (instance attributes cell.0 name.0 pins.0, rest)

abbrev pub bare_at : List Attribute → List Token → Read PlainItem
bare_at attributes ts =
    cond (begins_name ts) (instance_at attributes ts)
    (cond (begins_key (codes "assign") ts) (assign_at attributes (drop 1 ts)) (declare_at attributes ts))

unfoldable pub item_at : List Token → Read PlainItem
item_at ts = attributes_at ts >>= (λ a. bare_at a.0 a.1)

-- whether the tokens go on with an item, as they do until "endmodule"
abbrev pub goes_on : List Token → Bool
goes_on (Key word ∷ ts) = not (bytes_eq word (codes "endmodule"))
goes_on (Stray ∷ ts) = false
goes_on (t ∷ ts) = true
goes_on [] = false

abbrev pub items_at : List Token → Read (List PlainItem)
items_at ts = many_at single goes_on item_at ts

-- attributes way [ "wire" ] [ range ]
unfoldable pub port_kind_at : List Token → Read PortKind
port_kind_at ts = do
  attributes ← attributes_at ts
  way ← port_way_at attributes.1
  range ← optional_range_at way.1
  Some (record { attributes = attributes.0; way = way.0; range = range.0 }, range.1)

unfoldable pub kind_entry_at : List Token → Read PortEntry
kind_entry_at ts = do
  kind ← port_kind_at ts
  name ← ident_at kind.1
  Some (record { kind = Some kind.0; name = name.0 }, name.1)

unfoldable pub name_entry_at : List Token → Read PortEntry
name_entry_at ts = ident_at ts >>= (λ name. Some (record { kind = None; name = name.0 }, name.1))

abbrev pub entry_at : List Token → Read PortEntry
entry_at ts = cond (begins_name ts) (name_entry_at ts) (kind_entry_at ts)

-- names of ports, and declarations
abbrev pub Ports : Type 0
Ports = List (List ℕ) × List PlainItem

unfoldable pub ansi_at : List Token → Read Ports
ansi_at ts = do
  kind ← port_kind_at ts
  name ← ident_at kind.1
  more ← more_at entry_at name.1
  Some ((name.0 ∷ map entry_name more.0, port_item kind.0 name.0 ∷ port_items kind.0 more.0), more.1)

unfoldable pub plain_ports_at : List Token → Read Ports
plain_ports_at ts = listed_at ident_at ts >>= (λ names. Some ((names.0, []), names.1))

abbrev pub inside_at : List Token → Read Ports
inside_at ts =
    cond (begins 41 ts) (Some (([], []), ts))
    (cond (begins_name ts) (plain_ports_at ts) (ansi_at ts))

-- ports ")", behind "("
unfoldable pub parenthesis_at : List Token → Read Ports
parenthesis_at ts = do
  ports ← inside_at ts
  rest ← symbol_at 41 ports.1
  Some (ports.0, rest)

abbrev pub ports_at : List Token → Read Ports
ports_at ts = cond (begins 40 ts) (parenthesis_at (drop 1 ts)) (Some (([], []), ts))

unfoldable pub module_at : List Token → Read PlainModule
module_at ts = do
  attributes ← attributes_at ts
  a ← key_at (codes "module") attributes.1
  name ← ident_at a
  ports ← ports_at name.1
  b ← symbol_at 59 ports.1
  items ← with_front ports.0.1 (items_at b)
  rest ← key_at (codes "endmodule") items.1
  Some (record { name = name.0; attributes = attributes.0; ports = ports.0.0; items = items.0 }, rest)

-- nothing stands behind
abbrev pub ended : {X : Type 0} → X × List Token → Option X
ended x = cond (is_more x.1) None (Some x.0)

unfoldable pub modules_at : List Token → Read PlainDesign
modules_at ts = module_at ts >>= (λ m. with_front (single m.0) (many_at single is_more module_at m.1))

-- the design that the tokens spell
unfoldable pub design_at : List Token → Option PlainDesign
design_at ts = modules_at ts >>= ended
