-- The plain view of what is declared so far.
use Rattle.module_rules.specs.Rules as rules
use Rattle.module_rules.specs.declared.scope.Scope.{Scope}

abbrev pub scope_view : Scope → rules.Scope
scope_view s = record { ports = s.ports; port_ranges = s.port_ranges; wires = s.wires; wire_ranges = s.wire_ranges }
