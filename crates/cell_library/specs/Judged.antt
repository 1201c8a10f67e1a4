-- What a cell means: the first cause that bars it, or its pins and its state.
use Rattle.std.specs.Prelude.{◌||◌, ◌&&◌, ◌==◌, ℕ, Bool, true, false, not, cond, List, [], ◌∷◌, ◌++◌, Option, Some, None, map, length, position, slice_get}
use Rattle.std.specs.List.{list_any}
use Rattle.std.specs.Option.{is_some}
use Rattle.std.specs.Str.{bytes_eq}
use Rattle.agm_net.specs.Formula.{Formula, f_zero, f_one, f_wire, f_not, f_and, f_or, f_xor}
use Rattle.agm_net.specs.declared.port.Way.{Way}
use Rattle.agm_net.specs.declared.port.Way.TheVariants.{Input, Output}
use Rattle.cell_function.specs.Tree.{Tree, t_constant, t_pin, t_not, t_and, t_or, t_xor}
use Rattle.cell_library.specs.Texts.{Text}
use Rattle.cell_library.specs.Read.{ReadPin, ReadFlip, ReadCell}
use Rattle.cell_library.specs.declared.types.Bar.{Bar}
use Rattle.cell_library.specs.declared.types.Bar.TheVariants.{Bus, Latch, StateTable, Bank, TwoStates, DoublePin, Direction, ThreeState, AsyncControl, ClockShape, NoFunction, FunctionText, UnknownName}

-- a cell apart from where its functions lie in memory
pub record PlainPin : Type 0 where
  pub name : Text
  pub way : Way
  pub function : Option Formula

pub record PlainState : Type 0 where
  pub name : Text
  pub clock : ℕ
  pub next : Formula

pub record PlainCell : Type 0 where
  pub name : Text
  pub pins : List PlainPin
  pub state : Option PlainState
  pub barred : Option Bar

-- names
abbrev pub is_among : List Text → Text → Bool
is_among names name = list_any (λ n. bytes_eq n name) names

-- whether no name is among the earlier ones or stands before itself
abbrev pub all_new : (earlier names : List Text) → Bool
all_new earlier [] = true
all_new earlier (n ∷ ns) = not (is_among earlier n) && all_new (earlier ++ n ∷ []) ns

abbrev pub pin_name : ReadPin → Text
pin_name p = p.name

abbrev pub is_in : Option Way → Bool
is_in (Some Input) = true
is_in (Some Output) = false
is_in None = false

abbrev pub is_out : Option Way → Bool
is_out (Some Output) = true
is_out (Some Input) = false
is_out None = false

-- where the pin of a name stands among the pins, if it is an input pin
abbrev pub input_at : Option ReadPin → ℕ → Option ℕ
input_at None k = None
input_at (Some p) k = cond (is_in p.way) (Some k) None

abbrev pub input_found : List ReadPin → Option ℕ → Option ℕ
input_found pins None = None
input_found pins (Some k) = input_at (slice_get pins k) k

abbrev pub input_number : List ReadPin → Text → Option ℕ
input_number pins name = input_found pins (position (λ n. bytes_eq n name) (map pin_name pins))

-- The state where a name is the first of the state's two names, its inverse where it is the second. The state is the wire behind the pins.
abbrev pub second_formula : ℕ → List Text → Text → Option Formula
second_formula wire [] name = None
second_formula wire (b ∷ more) name = cond (bytes_eq b name) (Some (f_not (f_wire wire))) None

abbrev pub state_formula : ℕ → List Text → Text → Option Formula
state_formula wire [] name = None
state_formula wire (a ∷ more) name = cond (bytes_eq a name) (Some (f_wire wire)) (second_formula wire more name)

abbrev pub states_of : List ReadFlip → List Text
states_of [] = []
states_of (f ∷ fs) = f.names

abbrev pub or_else : {X : Type 0} → Option X → Option X → Option X
or_else (Some x) y = Some x
or_else None y = y

abbrev pub wire_in : Option ℕ → Option Formula
wire_in None = None
wire_in (Some k) = Some (f_wire k)

-- what a name stands for in a function of a cell with these pins and names of a state: an input pin before the state
abbrev pub meaning_in : List ReadPin → List Text → Text → Option Formula
meaning_in pins states name = or_else (wire_in (input_number pins name)) (state_formula (length pins) states name)

abbrev pub meaning : ReadCell → Text → Option Formula
meaning c name = meaning_in c.pins (states_of c.flips) name

-- whether each name of a function stands for something
abbrev pub is_known : (Text → Option Formula) → Tree → Bool
is_known look (t_constant v) = true
is_known look (t_pin n) = is_some (look n)
is_known look (t_not x) = is_known look x
is_known look (t_and x y) = is_known look x && is_known look y
is_known look (t_or x y) = is_known look x && is_known look y
is_known look (t_xor x y) = is_known look x && is_known look y

-- the function over the wires; where each name is known the 0 of an unknown one is not used
abbrev pub or_zero : Option Formula → Formula
or_zero None = f_zero
or_zero (Some f) = f

abbrev pub formula : (Text → Option Formula) → Tree → Formula
formula look (t_constant true) = f_one
formula look (t_constant false) = f_zero
formula look (t_pin n) = or_zero (look n)
formula look (t_not x) = f_not (formula look x)
formula look (t_and x y) = f_and (formula look x) (formula look y)
formula look (t_or x y) = f_or (formula look x) (formula look y)
formula look (t_xor x y) = f_xor (formula look x) (formula look y)

-- whether a function text that is there is not read, or names something unknown
abbrev pub is_unread : Option (Option Tree) → Bool
is_unread None = false
is_unread (Some None) = true
is_unread (Some (Some t)) = false

abbrev pub is_unknown : (Text → Option Formula) → Option (Option Tree) → Bool
is_unknown look None = false
is_unknown look (Some None) = false
is_unknown look (Some (Some t)) = not (is_known look t)

abbrev pub has_two_names : ReadFlip → Bool
has_two_names f = length f.names == 2

abbrev pub is_alone : List ReadFlip → Bool
is_alone [] = true
is_alone (f ∷ []) = has_two_names f
is_alone (f ∷ g ∷ more) = false

abbrev pub has_clock : List ReadPin → Option Text → Bool
has_clock pins None = false
has_clock pins (Some name) = is_some (input_number pins name)

abbrev pub is_clocked : List ReadPin → ReadFlip → Bool
is_clocked pins f = not f.has_second_clock && has_clock pins f.clocked_on

-- the causes in their order, each with whether it holds: those of the groups, a pin that is there twice, those of pins and flip-flops, and a name that stands for nothing
abbrev pub group_causes : ReadCell → List (Bool × Bar)
group_causes c =
    (c.kinds.has_bus, Bus)
    ∷ (c.kinds.has_latch, Latch)
    ∷ (c.kinds.has_table, StateTable)
    ∷ (c.kinds.has_bank, Bank)
    ∷ (not (is_alone c.flips), TwoStates)
    ∷ []

abbrev pub pin_causes : List ReadPin → List ReadFlip → List (Bool × Bar)
pin_causes pins flips =
    (list_any (λ p. not (is_some p.way)) pins, Direction)
    ∷ (list_any (λ p. p.is_three_state) pins, ThreeState)
    ∷ (list_any (λ f. f.is_async) flips, AsyncControl)
    ∷ (list_any (λ f. not (is_clocked pins f)) flips, ClockShape)
    ∷ (list_any (λ p. is_out p.way && not (is_some p.function)) pins || list_any (λ f. not (is_some f.next)) flips, NoFunction)
    ∷ (list_any (λ p. is_unread p.function) pins || list_any (λ f. is_unread f.next) flips, FunctionText)
    ∷ []

abbrev pub has_unknown : (Text → Option Formula) → List ReadPin → List ReadFlip → Bool
has_unknown look pins flips = list_any (λ p. is_unknown look p.function) pins || list_any (λ f. is_unknown look f.next) flips

abbrev pub causes : ReadCell → List (Bool × Bar)
causes c = group_causes c ++ (not (all_new [] (map pin_name c.pins)), DoublePin) ∷ (pin_causes c.pins c.flips ++ (has_unknown (meaning c) c.pins c.flips, UnknownName) ∷ [])

-- the first that holds
abbrev pub first_cause : List (Bool × Bar) → Option Bar
first_cause [] = None
first_cause (c ∷ cs) = cond c.0 (Some c.1) (first_cause cs)

-- A cell that is not barred. Each of its pins has a way, and its clock and next state are there, so the values that stand in for missing ones are not used.
abbrev pub plain_function : (Text → Option Formula) → Option (Option Tree) → Option Formula
plain_function look None = None
plain_function look (Some None) = None
plain_function look (Some (Some t)) = Some (formula look t)

abbrev pub way_or_input : Option Way → Way
way_or_input None = Input
way_or_input (Some w) = w

abbrev pub plain_pin : (Text → Option Formula) → ReadPin → PlainPin
plain_pin look p = record { name = p.name; way = way_or_input p.way; function = plain_function look p.function }

abbrev pub number_or_zero : Option ℕ → ℕ
number_or_zero None = 0
number_or_zero (Some k) = k

abbrev pub clock_number : List ReadPin → Option Text → ℕ
clock_number pins None = 0
clock_number pins (Some name) = number_or_zero (input_number pins name)

abbrev pub first_name : List Text → Text
first_name [] = []
first_name (n ∷ ns) = n

abbrev pub plain_state : (Text → Option Formula) → List ReadPin → List ReadFlip → Option PlainState
plain_state look pins [] = None
plain_state look pins (f ∷ fs) = Some (record { name = first_name f.names; clock = clock_number pins f.clocked_on; next = or_zero (plain_function look f.next) })

abbrev pub barred_cell : Text → Bar → PlainCell
barred_cell name bar = record { name = name; pins = []; state = None; barred = Some bar }

abbrev pub good_cell : Text → (Text → Option Formula) → List ReadPin → List ReadFlip → PlainCell
good_cell name look pins flips = record { name = name; pins = map (plain_pin look) pins; state = plain_state look pins flips; barred = None }

abbrev pub by_cause : Text → ReadCell → Option Bar → PlainCell
by_cause name c (Some bar) = barred_cell name bar
by_cause name c None = good_cell name (meaning c) c.pins c.flips

-- the cell where no other cause holds, by whether a name stands for nothing
abbrev pub known_cell : Text → (Text → Option Formula) → List ReadPin → List ReadFlip → Bool → PlainCell
known_cell name look pins flips unknown = cond unknown (barred_cell name UnknownName) (good_cell name look pins flips)

-- the cell that a name and what is read for it make
abbrev pub judged : Text → ReadCell → PlainCell
judged name c = by_cause name c (first_cause (causes c))
