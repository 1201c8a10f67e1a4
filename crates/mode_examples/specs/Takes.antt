-- What netlists take in the modes.
use Rattle.std.specs.Prelude.{ℕ, List}
use Rattle.agm_net.specs.Plain.{PlainNet}
use Rattle.agm_net.specs.declared.mark.Mark.{Mark}
use Rattle.logic_graph.specs.GraphOf.{IsGraphOf}
use Rattle.logic_graph.specs.declared.graphs.Graph.{Graph}
use Rattle.secrecy_spread.specs.Aig.{AigGadgets, AigDepth}
use Rattle.secrecy_spread.specs.Bdd.{BddGadgets, BddDepth}
use Rattle.secrecy_spread.specs.Naive.{NaiveGadgets, NaiveDepth}
use Rattle.secrecy_spread.specs.SecretsOf.{SecretsOf}
use Rattle.secrecy_spread.specs.declared.secrets.Secrets.{Secrets}

-- the gadgets and the depth of a mode for a net with its marks, read on a graph of the net
pub record Costs (Gadgets Depth : Graph → Secrets → ℕ → Type 0) (net : PlainNet) (marks : List Mark) (gadgets depth : ℕ) : Type 0 where
  pub graph : Graph
  pub secrets : Secrets
  pub is_graph : IsGraphOf net graph
  pub are_secrets : SecretsOf net graph marks secrets
  pub gadgets_are : Gadgets graph secrets gadgets
  pub depth_is : Depth graph secrets depth

-- so many gadgets, and such a depth
pub record Cost : Type 0 where
  pub gadgets : ℕ
  pub depth : ℕ

abbrev pub takes : (gadgets depth : ℕ) → Cost
takes gadgets depth = record { gadgets = gadgets; depth = depth }

-- the costs in each mode
abbrev pub Takes : PlainNet → List Mark → (naive aig bdd : Cost) → Type 0
Takes net marks naive aig bdd =
    Costs NaiveGadgets NaiveDepth net marks naive.gadgets naive.depth
    × Costs AigGadgets AigDepth net marks aig.gadgets aig.depth
    × Costs BddGadgets BddDepth net marks bdd.gadgets bdd.depth
