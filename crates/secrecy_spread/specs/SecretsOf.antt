-- What is secret in a net.
use Rattle.std.specs.Prelude.{◌≡◌, ◌⊎◌, ◌↔◌, ℕ, Bool, List, length, map, Some, slice_get, IsTrue}
use Rattle.std.specs.List.{Any}
use Rattle.agm_net.specs.Plain.{PlainNet, input_bits}
use Rattle.agm_net.specs.Secret.{IsSecret}
use Rattle.agm_net.specs.declared.mark.Mark.{Mark}
use Rattle.agm_net.specs.declared.mark.Mark.TheVariants.{Secure}
use Rattle.agm_net.specs.declared.port.Way.TheVariants.{Output}
use Rattle.agm_net.specs.declared.port.Port.{Port}
use Rattle.logic_graph.specs.declared.graphs.Graph.{Graph}
use Rattle.logic_graph.specs.Settled.{bit_of}
use Rattle.secrecy_spread.specs.NodeSecrets.{Fits}
use Rattle.secrecy_spread.specs.declared.secrets.Secrets.{Secrets}

-- one flag for each of some wires, which says whether the wire is secret
pub record TellsWires (net : PlainNet) (marks : List Mark) (wires : List ℕ) (flags : List Bool) : Type 0 where
  pub one_each : length flags ≡ length wires
  pub tells : (i w : ℕ) → slice_get wires i ≡ Some w → IsTrue (bit_of flags i) ↔ IsSecret net marks w

-- a port is shared that is marked secure, or is an output with a secret bit
abbrev pub IsSharedPort : PlainNet → List Mark → Port → Mark → Type 0
IsSharedPort net marks p m = (m ≡ Secure) ⊎ ((p.way ≡ Output) × Any (IsSecret net marks) p.bits)

-- The secrets of a net and of its graph: of input bits, of registers' outputs, of each wire at its node, of all nodes by those of the
-- sources, and of ports.
pub record SecretsOf (net : PlainNet) (graph : Graph) (marks : List Mark) (s : Secrets) : Type 0 where
  pub inputs : TellsWires net marks (input_bits net) s.inputs
  pub registers : TellsWires net marks (map (λ r. r.q) net.registers) s.registers
  pub wires : (w k : ℕ) → slice_get graph.of_wire w ≡ Some k → IsTrue (bit_of s.nodes k) ↔ IsSecret net marks w
  pub fits : Fits graph s
  pub one_port_each : length s.ports ≡ length net.ports
  pub ports : (n : ℕ) (p : Port) (m : Mark) → slice_get net.ports n ≡ Some p → slice_get marks n ≡ Some m → IsTrue (bit_of s.ports n) ↔ IsSharedPort net marks p m
