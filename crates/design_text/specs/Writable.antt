-- Which designs can be written: what the grammar of structural Verilog asks of names, numbers, strings and lists.
use Rattle.std.specs.Prelude.{◌≤◌, ◌<◌, ◌^◌, ℕ, List, [], ◌∷◌, length, Option, Some, None}
use Rattle.std.specs.List.{AllByRecursion}
use Rattle.agm_net.specs.Writable.{IsWritable}
use Rattle.agm_net.specs.PlainForm.{RangeFits}
use Rattle.verilog_tokens.specs.Cuts.{IsString}
use Rattle.verilog_reader.specs.Plain.{PlainForm, whole, bit, part, constant, join, repeat, PlainForms, no_forms, a_form, depth_of, PlainConnection, PlainItem, declare, assign, instance, PlainModule, PlainDesign}
use Rattle.verilog_reader.specs.Grammar.{IsTarget}
use Rattle.verilog_reader.specs.declared.design.Attribute.{Attribute}
use Rattle.verilog_reader.specs.declared.design.Value.{Value}
use Rattle.verilog_reader.specs.declared.design.Value.TheVariants as value

-- a constant has 1 to 65,535 bits
abbrev pub HasSize : {X : Type 0} → List X → Type 0
HasSize bits = (1 ≤ length bits) × (length bits ≤ 65535)

abbrev mutual
  pub IsWritableForm : PlainForm → Type 0
  IsWritableForm (whole n) = IsWritable n
  IsWritableForm (bit n k) = IsWritable n × (k ≤ 65535)
  IsWritableForm (part n h l) = IsWritable n × (h ≤ 65535) × (l ≤ 65535)
  IsWritableForm (constant bits) = HasSize bits
  IsWritableForm (join fs) = AreWritableForms fs
  IsWritableForm (repeat k f) = (1 ≤ k) × (k ≤ 65535) × IsWritableForm f

  -- one or more
  pub AreWritableForms : PlainForms → Type 0
  AreWritableForms no_forms = Prim.⊥
  AreWritableForms (a_form f fs) = IsWritableForm f × AreMoreWritable fs

  pub AreMoreWritable : PlainForms → Type 0
  AreMoreWritable no_forms = Unit {0}
  AreMoreWritable (a_form f fs) = IsWritableForm f × AreMoreWritable fs

-- within the limit of nesting
abbrev pub IsWritableSource : PlainForm → Type 0
IsWritableSource f = IsWritableForm f × (depth_of f ≤ 100)

abbrev pub IsWritableContent : Option PlainForm → Type 0
IsWritableContent None = Unit {0}
IsWritableContent (Some f) = IsWritableSource f

abbrev pub IsWritablePin : PlainConnection → Type 0
IsWritablePin c = IsWritable c.pin × IsWritableContent c.form

abbrev pub IsWritableValue : Value → Type 0
IsWritableValue (value.Text text) = IsString text
IsWritableValue (value.Number n) = n < 2 ^ 128
IsWritableValue (value.Bits bits) = HasSize bits

abbrev pub IsWritableSet : Option Value → Type 0
IsWritableSet None = Unit {0}
IsWritableSet (Some v) = IsWritableValue v

abbrev pub IsWritableAttribute : Attribute → Type 0
IsWritableAttribute a = IsWritable a.name × IsWritableSet a.value

abbrev pub AreWritableAttributes : List Attribute → Type 0
AreWritableAttributes attributes = AllByRecursion IsWritableAttribute attributes

-- a declaration has a name, and the left side of an assign is a target
abbrev pub IsWritableItem : PlainItem → Type 0
IsWritableItem (declare attributes way range names) =
    AreWritableAttributes attributes × RangeFits range × (1 ≤ length names) × AllByRecursion IsWritable names
IsWritableItem (assign attributes left right) =
    AreWritableAttributes attributes × (IsWritableSource left × IsTarget left) × IsWritableSource right
IsWritableItem (instance attributes cell name pins) =
    AreWritableAttributes attributes × IsWritable cell × IsWritable name × AllByRecursion IsWritablePin pins

pub record IsWritableModule (m : PlainModule) : Type 0 where
  pub attributes : AreWritableAttributes m.attributes
  pub name : IsWritable m.name
  pub ports : AllByRecursion IsWritable m.ports
  pub items : AllByRecursion IsWritableItem m.items

-- a design has a module
abbrev pub IsWritableDesign : PlainDesign → Type 0
IsWritableDesign d = (1 ≤ length d) × AllByRecursion IsWritableModule d
