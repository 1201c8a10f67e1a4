-- What names stand for, as the reader finds it.
use Rattle.std.specs.Prelude.{◌||◌, ◌&&◌, ℕ, Bool, not, List, [], ◌∷◌, Option, map}
use Rattle.std.specs.List.{list_any}
use Rattle.std.specs.Option.{is_some}
use Rattle.agm_net.specs.Formula.{Formula, f_wire, f_not}
use Rattle.cell_library.specs.Texts.{Text}
use Rattle.cell_library.specs.Judged.{pin_name, meaning_in, is_out, is_clocked, is_unread, is_unknown}
use Rattle.cell_library.specs.Read.{ReadPin, ReadFlip}
use Rattle.cell_library.specs.declared.types.Bar.{Bar}
use Rattle.cell_library.specs.declared.types.Bar.TheVariants.{Direction, ThreeState, AsyncControl, ClockShape, NoFunction, FunctionText}
use Rattle.cell_library.specs.View.{raw_pin, raw_flip}
use Rattle.cell_library.specs.declared.raw.RawPin.{RawPin}
use Rattle.cell_library.specs.declared.raw.RawFlip.{RawFlip}
use Rattle.cell_library.specs.declared.scope.Known.{Known}
use Rattle.cell_library.specs.declared.scope.Known.TheVariants.{Input, State, Inverse}

abbrev pub names_in : List RawPin → List Text
names_in pins = map pin_name (map raw_pin pins)

-- the state is the wire of this number
abbrev pub known_of : ℕ → Known → Formula
known_of wire (Input k) = f_wire k
known_of wire State = f_wire wire
known_of wire Inverse = f_not (f_wire wire)

abbrev pub look_in : List RawPin → List Text → Text → Option Formula
look_in pins states name = meaning_in (map raw_pin pins) states name

-- tests of pins and flip-flops as they are kept
abbrev pub any_pin : (ReadPin → Bool) → List RawPin → Bool
any_pin test pins = list_any (λ p. test (raw_pin p)) pins

abbrev pub any_flip : (ReadFlip → Bool) → List RawFlip → Bool
any_flip test flips = list_any (λ f. test (raw_flip f)) flips

abbrev pub raw_causes : List RawPin → List RawFlip → List (Bool × Bar)
raw_causes pins flips =
    (any_pin (λ p. not (is_some p.way)) pins, Direction)
    ∷ (any_pin (λ p. p.is_three_state) pins, ThreeState)
    ∷ (any_flip (λ f. f.is_async) flips, AsyncControl)
    ∷ (any_flip (λ f. not (is_clocked (map raw_pin pins) f)) flips, ClockShape)
    ∷ (any_pin (λ p. is_out p.way && not (is_some p.function)) pins || any_flip (λ f. not (is_some f.next)) flips, NoFunction)
    ∷ (any_pin (λ p. is_unread p.function) pins || any_flip (λ f. is_unread f.next) flips, FunctionText)
    ∷ []

abbrev pub raw_unknown : (Text → Option Formula) → List RawPin → List RawFlip → Bool
raw_unknown look pins flips = any_pin (λ p. is_unknown look p.function) pins || any_flip (λ f. is_unknown look f.next) flips
