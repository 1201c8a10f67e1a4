-- Secret wires.
use Rattle.std.specs.Prelude.{◌==◌, ℕ, Bool, true, false, ◌&&◌, ◌||◌, List, IsTrue}
use Rattle.std.specs.List.{list_any, zip}
use Rattle.agm_net.specs.Formula.{Formula, stands}
use Rattle.agm_net.specs.Plain.{PlainNet, is_input}
use Rattle.agm_net.specs.Loop.{reads, IsChain, last_of}
use Rattle.agm_net.specs.declared.mark.Mark.{Mark}
use Rattle.agm_net.specs.declared.mark.Mark.TheVariants.{Secure}

abbrev pub is_secure : Mark → Bool
is_secure Secure = true
is_secure _ = false

-- whether a wire is a bit of an input port that is marked secure; the marks are in port order, one for each port
abbrev pub is_secure_bit : PlainNet → List Mark → ℕ → Bool
is_secure_bit net marks w = list_any (λ p. is_input p.0 && (is_secure p.1 && list_any (λ b. b == w) p.0.bits)) (zip net.ports marks)

-- whether wire w reads wire v, or is the output of a register that stores it
abbrev pub depends : PlainNet → ℕ → ℕ → Bool
depends net w v = reads net w v || list_any (λ r. (r.q == w) && stands v r.next) net.registers

-- A wire is secret when a list of wires leads to it from a bit of a secure input port, each step read by an equation or stored
-- by a register. The list stands here from the wire back to that bit.
abbrev pub IsSecret : PlainNet → List Mark → ℕ → Type 0
IsSecret net marks w = (ws : List ℕ) × IsChain (depends net) w ws × IsTrue (is_secure_bit net marks (last_of w ws))

-- A formula is secret when a secret wire stands in it.
abbrev pub IsSecretFormula : PlainNet → List Mark → Formula → Type 0
IsSecretFormula net marks f = (w : ℕ) × IsTrue (stands w f) × IsSecret net marks w
