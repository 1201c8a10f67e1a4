-- What gives a part its bit, as the audit reads it.
use Rattle.std.specs.Prelude.{◌≡◌, ℕ, List, Option, Some, None, IsTrue}
use Rattle.agm_net.specs.Formula.{Formula, f_zero, f_one, f_wire, f_not, f_and, f_or, f_xor, f_mux, formula_of}
use Rattle.agm_net.specs.Network.{Recipe, the_clock, a_share, a_random_bit, inverse, product, sum, stored}
use Rattle.hpc2_audit.specs.Standing.{said_at, serves}
use Rattle.hpc2_audit.specs.declared.drivers.Driven.{Driven}
use Rattle.hpc2_audit.specs.declared.drivers.Driven.TheVariants.{Bit, Clocked, Line, Flop}
use Rattle.hpc2_audit.specs.declared.forms.Form.{Form}
use Rattle.hpc2_audit.specs.declared.forms.Form.TheVariants.{Other, Copied, Inverted, Both, Differ, Kept}
use Rattle.hpc2_audit.specs.declared.recipes.Making.{Making}
use Rattle.hpc2_audit.specs.declared.recipes.Making.TheVariants.{OfTheClock, OfAShare, OfARandomBit, OfInverse, OfProduct, OfSum, OfStored}
use Rattle.hpc2_audit.specs.declared.spelled.Spelled.{Spelled}
use Rattle.hpc2_audit.specs.declared.spelled.Spelled.TheVariants.{OfClock, OfRandom, OfPart}

-- a recipe as data of the program
abbrev pub recipe_of : Making → Recipe
recipe_of OfTheClock = the_clock
recipe_of (OfAShare i) = a_share i
recipe_of OfARandomBit = a_random_bit
recipe_of (OfInverse p) = inverse p
recipe_of (OfProduct p q) = product p q
recipe_of (OfSum p q) = sum p q
recipe_of (OfStored p) = stored p

-- the wire that a formula is
abbrev pub wire_in : Formula → Option ℕ
wire_in f_zero = None
wire_in f_one = None
wire_in (f_wire v) = Some v
wire_in (f_not x) = None
wire_in (f_and x y) = None
wire_in (f_or x y) = None
wire_in (f_xor x y) = None
wire_in (f_mux s x y) = None

abbrev pub over_one : (ℕ → Form) → Option ℕ → Form
over_one makes None = Other
over_one makes (Some v) = makes v

abbrev pub over_two : (ℕ → ℕ → Form) → Option ℕ → Option ℕ → Form
over_two makes None v = Other
over_two makes (Some u) None = Other
over_two makes (Some u) (Some v) = makes u v

-- the form of an equation: a wire, or an operator over wires
abbrev pub form : Formula → Form
form f_zero = Other
form f_one = Other
form (f_wire v) = Copied v
form (f_not x) = over_one Inverted (wire_in x)
form (f_and x y) = over_two Both (wire_in x) (wire_in y)
form (f_or x y) = Other
form (f_xor x y) = over_two Differ (wire_in x) (wire_in y)
form (f_mux s x y) = Other

abbrev pub form_of : Driven → Form
form_of Bit = Other
form_of Clocked = Other
form_of (Line e) = form (formula_of e.now)
form_of (Flop r) = over_one Kept (wire_in (formula_of r.now.next))

-- a form is what a recipe asks for, by what the names of the wires say that it reads
abbrev pub FormIs : List Spelled → Form → Making → Type 0
FormIs said (Copied v) OfTheClock = said_at said v ≡ OfClock
FormIs said (Copied v) (OfAShare i) = IsTrue (serves (Some i) (said_at said v))
FormIs said (Copied v) OfARandomBit = said_at said v ≡ OfRandom
FormIs said (Inverted v) (OfInverse p) = said_at said v ≡ OfPart p
FormIs said (Both u v) (OfProduct p q) = (said_at said u ≡ OfPart p) × (said_at said v ≡ OfPart q)
FormIs said (Differ u v) (OfSum p q) = (said_at said u ≡ OfPart p) × (said_at said v ≡ OfPart q)
FormIs said (Kept v) (OfStored p) = said_at said v ≡ OfPart p
FormIs said _ _ = Prim.⊥
