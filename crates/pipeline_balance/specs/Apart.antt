-- Ports that can stand beside each other in a masked net.
use Rattle.std.specs.Prelude.{◌≡◌, ◌≢◌, ◌≤◌, ◌<◌, false, List, [], ◌∷◌, codes, nat_eq}
use Rattle.std.specs.List.{AllByRecursion, starts_with}
use Rattle.agm_net.specs.Plain.{PlainNet}
use Rattle.agm_net.specs.WellFormed.{WellFormed}
use Rattle.agm_net.specs.Writable.{IsWritable}
use Rattle.share_wiring.specs.Built.{IsNew, IsPortName, IsSmallRange}
use Rattle.share_wiring.specs.Shape.{Header}
use Rattle.share_wiring.specs.declared.report.Report.{Report}
use Rattle.pipeline_balance.specs.Ports.{header_bits}

-- Two ports with different names, none of whose bits have the same.
pub record Apart (g h : Header) : Type 0 where
  pub names : g.name ≢ h.name
  pub bits : AllByRecursion (IsNew (header_bits g)) (header_bits h)

-- any two of these
abbrev pub AreApart : List Header → Type 0
AreApart [] = Unit {0}
AreApart (h ∷ hs) = AllByRecursion (Apart h) hs × AreApart hs

-- a port that a masked net may have, beside the clock
pub record IsHeader (h : Header) : Type 0 where
  pub written : IsWritable h.name
  pub port_name : IsPortName h.name
  pub small : IsSmallRange h.range

-- What an original's ports must be: no name begins with `agm_`, names can be written, and the numbers of ranges are small.
pub record HasNames (original : PlainNet) : Type 0 where
  pub well : WellFormed original
  pub free : AllByRecursion (λ p. starts_with nat_eq p.name (codes "agm_") ≡ false) original.ports
  pub written : AllByRecursion (λ p. IsWritable p.name) original.ports
  pub small : AllByRecursion (λ p. IsSmallRange p.range) original.ports

-- The counts of a report are within the limits of a port's range, and there are two to sixteen shares.
pub record FitsLimits (report : Report) : Type 0 where
  pub order : (1 ≤ report.order) × (report.order < 16)
  pub random : report.random ≤ 65536
  pub publics : report.public_registers ≤ 65536
  pub secrets : report.secret_registers ≤ 65536
