-- What the checks of a port compute.
use Rattle.std.specs.Prelude.{ℕ, Bool, ◌&&◌, ◌||◌, if◌then◌else◌, List}
use Rattle.agm_net.specs.declared.port.Port.{Port}
use Rattle.agm_net.specs.declared.mark.Mark.{Mark}
use Rattle.agm_net.specs.declared.mark.Mark.TheVariants as mark
use Rattle.top_module.specs.declared.facts.MarkSet.{MarkSet}
use Rattle.annotations.specs.Rules.{Rule, rules_of, clock_rules_of}

-- all rules of a port, or those of clocks alone
abbrev pub asked : Bool → ℕ × Port → List Rule
asked whole e = if whole then rules_of e else clock_rules_of e

-- whether two known marks are in a set
abbrev pub two_of : MarkSet → Bool
two_of m = (m.secure && m.public) || ((m.secure && m.clock) || (m.public && m.clock))

abbrev pub mark_in : MarkSet → Mark
mark_in m = if m.secure then mark.Secure else (if m.public then mark.Public else (if m.clock then mark.Clock else mark.Unmarked))
