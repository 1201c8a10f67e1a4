-- Secrets, by the flags of wires.
use Rattle.std.specs.Prelude.{◌≡◌, Bool, List, map}
use Rattle.std.specs.List.{zip}
use Rattle.agm_net.specs.Plain.{PlainNet, input_bits}
use Rattle.agm_net.specs.declared.mark.Mark.{Mark}
use Rattle.logic_graph.specs.declared.graphs.Graph.{Graph}
use Rattle.secrecy_spread.specs.NodeSecrets.{Fits}
use Rattle.secrecy_spread.specs.Wires.{flags_of, is_shared}
use Rattle.secrecy_spread.specs.declared.secrets.Secrets.{Secrets}

pub record IsFound (net : PlainNet) (graph : Graph) (marks : List Mark) (secret : List Bool) (s : Secrets) : Type 0 where
  pub inputs : s.inputs ≡ flags_of secret (input_bits net)
  pub registers : s.registers ≡ flags_of secret (map (λ r. r.q) net.registers)
  pub fits : Fits graph s
  pub ports : s.ports ≡ map (λ e. is_shared secret e.0 e.1) (zip net.ports marks)
