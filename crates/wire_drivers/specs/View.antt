-- The plain views of lines and flops.
use Rattle.std.specs.Prelude.{List, map, ℕ}
use Rattle.agm_net.specs.Formula.{formula_of}
use Rattle.agm_net.specs.declared.port.Port.{Port}
use Rattle.wire_drivers.specs.Wiring.{PlainLine, PlainFlop, Wiring}
use Rattle.wire_drivers.specs.declared.types.Line.{Line}
use Rattle.wire_drivers.specs.declared.types.Flop.{Flop}

abbrev pub line_view : Line → PlainLine
line_view l = (l.target, formula_of l.expr)

abbrev pub flop_view : Flop → PlainFlop
flop_view f = record { q = f.q; next = formula_of f.next; clock = f.clock }

abbrev pub wiring : List Port → List (List ℕ) → List Line → List Flop → Wiring
wiring ports wires lines flops = record { ports = ports; wires = wires; lines = map line_view lines; flops = map flop_view flops }
