-- What a simulator shows, and what a stream adds to a text.
use Rattle.std.specs.Prelude.{◌≡◌, ◌++◌, ◌∷◌, ℕ, List, [], length}
use Rattle.agm_net.specs.Plain.{PlainNet}
use Rattle.agm_net.specs.Trace.{Row, row_at, IsTrace}
use Rattle.cycle_sim.specs.HasRun.{HasRun}
use Rattle.cycle_sim.specs.declared.sim.Sim.{Sim}
use Rattle.stimulus.specs.declared.stimuli.Stream.{Stream}
use Rattle.sim_text.specs.Text.{stream_text}

-- The row of the last cycle that a simulator has run.
pub record IsLastRow (net : PlainNet) (sim : Sim) (row : Row) : Type 0 where
  pub power : Row
  pub before : List Row
  pub last : Row
  pub table : List Row
  pub ran : HasRun net power (before ++ last ∷ []) sim
  pub trace : IsTrace net power (before ++ last ∷ []) table
  pub row_is : row ≡ row_at table (length before)

-- A text has become longer by the lines of a stream.
pub record AddsStream (net : PlainNet) (number : ℕ) (stream : Stream) (old new : List ℕ) : Type 0 where
  pub table : List Row
  pub trace : IsTrace net stream.initial stream.steps table
  pub text_is : new ≡ old ++ stream_text net (number, table)
