-- Wires that the small form can state.
use Rattle.std.specs.Prelude.{List}
use Rattle.std.specs.List.{AllByRecursion}
use Rattle.agm_net.specs.Small.{IsCell}
use Rattle.share_wiring.specs.Gates.{gate_formula}
use Rattle.share_wiring.specs.Wiring.{Wiring}
use Rattle.share_wiring.specs.declared.gate.Source.{Source}
use Rattle.share_wiring.specs.declared.gate.Source.TheVariants.{Input, Equation, Register, Held}
use Rattle.share_wiring.specs.declared.gate.Wire.{Wire}

-- an input port's bit, a register, or an equation that an assign or a cell of the small form states
abbrev pub IsCellSource : Source → Type 0
IsCellSource Input = Unit {0}
IsCellSource (Equation gate) = IsCell (gate_formula gate)
IsCellSource (Register next clock) = Unit {0}
IsCellSource Held = Unit {0}

-- each wire has such a source
abbrev pub AreCells : List Wire → Type 0
AreCells wires = AllByRecursion (λ wire. IsCellSource wire.source) wires

-- where all earlier wires have such a source, all wires have
abbrev pub AddsCells : Wiring → Wiring → Type 0
AddsCells old new = AreCells old.wires → AreCells new.wires
