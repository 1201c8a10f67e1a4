-- What is written for a net.
use Rattle.std.specs.Prelude.{◌≡◌, ◌∷◌, ℕ, List, [], Ok}
use Rattle.agm_net.specs.Plain.{PlainNet}
use Rattle.agm_net.specs.Renumbered.{Renumbered}
use Rattle.net_binding.specs.Bound.{bound}
use Rattle.net_design.specs.Design.{module_of}
use Rattle.verilog_reader.specs.Grammar.{Spelled}

-- The bytes spell the design of the net, which binds without a library to the net with its wires in another order.
pub record IsTextOf (bytes : List ℕ) (net : PlainNet) : Type 0 where
  pub spelled : Spelled bytes (module_of net ∷ [])
  pub other : PlainNet
  pub binds : bound [] (module_of net ∷ []) ≡ Ok other
  pub same : Renumbered net other
