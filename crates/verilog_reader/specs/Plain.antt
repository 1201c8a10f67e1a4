-- Designs apart from where their parts lie in memory.
use Rattle.std.specs.Prelude.{ℕ, Bool, ◌+◌, max, List, [], ◌∷◌, Option}
use Rattle.agm_net.specs.declared.port.Way.{Way}
use Rattle.agm_net.specs.declared.port.Range.{Range}
use Rattle.verilog_reader.specs.declared.design.Attribute.{Attribute}

mutual
  pub data PlainForm : Type 0 where
    whole : List ℕ → PlainForm
    bit : List ℕ → ℕ → PlainForm
    part : List ℕ → ℕ → ℕ → PlainForm
    constant : List Bool → PlainForm
    join : PlainForms → PlainForm
    repeat : ℕ → PlainForm → PlainForm

  pub data PlainForms : Type 0 where
    no_forms : PlainForms
    a_form : PlainForm → PlainForms → PlainForms

abbrev pub forms_of : List PlainForm → PlainForms
forms_of [] = no_forms
forms_of (f ∷ fs) = a_form f (forms_of fs)

-- how many concatenations and replications enclose a name or constant at most
abbrev mutual
  pub depth_of : PlainForm → ℕ
  depth_of (whole n) = 0
  depth_of (bit n k) = 0
  depth_of (part n h l) = 0
  depth_of (constant bits) = 0
  depth_of (join fs) = depth_of_all fs + 1
  depth_of (repeat k f) = depth_of f + 1

  pub depth_of_all : PlainForms → ℕ
  depth_of_all no_forms = 0
  depth_of_all (a_form f fs) = max (depth_of f) (depth_of_all fs)

pub record PlainConnection : Type 0 where
  pub pin : List ℕ
  pub form : Option PlainForm

pub data PlainItem : Type 0 where
  declare : List Attribute → Option Way → Option Range → (names : List (List ℕ)) → PlainItem
  assign : List Attribute → (left right : PlainForm) → PlainItem
  instance : List Attribute → (cell name : List ℕ) → (pins : List PlainConnection) → PlainItem

pub record PlainModule : Type 0 where
  pub name : List ℕ
  pub attributes : List Attribute
  pub ports : List (List ℕ)
  pub items : List PlainItem

-- a design: its modules in text order
abbrev pub PlainDesign : Type 0
PlainDesign = List PlainModule
