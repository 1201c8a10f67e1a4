-- A net with one inversion more.
use Rattle.std.specs.Prelude.{◌≡◌, ◌<◌, ◌≤◌, ◌==◌, ℕ, Bool, false, List, Some, cond, map, length, slice_get, IsTrue}
use Rattle.std.specs.List.{AllByRecursion, list_any}
use Rattle.agm_net.specs.Formula.{f_not, stands}
use Rattle.agm_net.specs.Plain.{Line, PlainNet}
use Rattle.agm_net.specs.Role.{share_name}
use Rattle.agm_net.specs.Trace.{Row, IsTrace}
use Rattle.agm_net.specs.declared.mark.Mark.{Mark}
use Rattle.agm_net.specs.declared.port.Port.{Port}
use Rattle.agm_net.specs.declared.port.Way.TheVariants.{Output}
use Rattle.share_wiring.specs.Recombine.{is_shared}
use Rattle.share_wiring.specs.Same.{TellsSecrets}
use Rattle.share_wiring.specs.Schedule.{Stream, stream_at, Drives}
use Rattle.share_wiring.specs.declared.report.Report.{Report}

-- an equation, inverted where it is one for wire u
abbrev pub inverted_line : ℕ → Line → Line
inverted_line u l = (l.0, cond (l.0 == u) (f_not l.1) l.1)

-- the net in which wire u has the inverse of what its equation says; all else is as it was
abbrev pub inverted_at : ℕ → PlainNet → PlainNet
inverted_at u net = record {
  ports = net.ports;
  wires = net.wires;
  lines = map (inverted_line u) net.lines;
  registers = net.registers;
  clock = net.clock;
}

-- no equation and no register reads wire u
abbrev pub IsUnread : PlainNet → ℕ → Type 0
IsUnread net u = AllByRecursion (λ l. stands u l.1 ≡ false) net.lines × AllByRecursion (λ r. stands u r.next ≡ false) net.registers

-- Wire u is a bit of port q of a masked net, the m-th, which has share i of output port p of the original, the n-th.
pub record IsShareOf (original : PlainNet) (report : Report) (net : PlainNet) (n i m u : ℕ) (p q : Port) : Type 0 where
  pub at : slice_get original.ports n ≡ Some p
  pub way : p.way ≡ Output
  pub shared : IsTrue (is_shared report p.name)
  pub index : i ≤ report.order
  pub there : slice_get net.ports m ≡ Some q
  pub named : q.name ≡ share_name i p.name
  pub own : IsTrue (list_any (λ b. b == u) q.bits)

-- Some stimulus drives a masked net in a trace, and the original has a trace for one of its streams.
pub record IsDriven (original : PlainNet) (marks : List Mark) (report : Report) (net : PlainNet) : Type 0 where
  pub power : Row
  pub tape : List Row
  pub table : List Row
  pub secrets : List Bool
  pub streams : List Stream
  pub steps : ℕ
  pub stream : ℕ
  pub step : ℕ
  pub first : List Row
  pub trace : IsTrace net power tape table
  pub tells : TellsSecrets original marks secrets
  pub drives : Drives original secrets report net streams steps table
  pub within : (stream < length streams) × (step < steps)
  pub runs : IsTrace original (stream_at streams stream).initial (stream_at streams stream).steps first
